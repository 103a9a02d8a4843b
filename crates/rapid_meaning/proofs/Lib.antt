pub mod Trees
pub mod Asked
pub mod SmallTasks
mod Interrupted
pub mod Forms
pub mod Begins
pub mod Fuel
pub mod Growth
pub mod Composing
pub mod Follows
pub mod Wholes
pub mod ConstantsAgree
mod ConstantArrays
pub mod Setpoints
pub mod Moves
pub mod TaskSets
pub mod Asking
mod Texts
mod Homes
mod MoveEnds
mod EmptyParts
mod ConstantsFail
pub mod Turns
pub mod Room
pub mod Tidy
pub mod Kept
pub mod Counts
mod Next
mod OwnLooks
