mod Examples
pub mod GivenReads
pub mod LoadTexts
pub mod CheckedTrees
pub mod Accepting
pub mod NamedTasks
pub mod FileNames
pub mod RefusalLines
mod Traced
pub mod Reports
pub mod Exits
pub mod LastReads
pub mod Migrating
pub mod Audited
pub mod Stated
pub mod Causes
pub mod OneVerdict
pub mod Refusing
pub mod Complete
