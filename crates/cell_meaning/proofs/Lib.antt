pub mod Lists
pub mod FilterCuts
pub mod MoreEvents
pub mod Asked
pub mod OneAnswer
pub mod Positions
pub mod TaskKept
pub mod InterruptsKept
pub mod ZonesKept
pub mod ValuesKept
pub mod FitAnswers
pub mod OutputLists
pub mod MoreChanges
pub mod PartChanges
pub mod MoreFirings
pub mod BoardsTell
pub mod ByTurns
pub mod Orders
pub mod Ending
pub mod Fates
pub mod Same
pub mod Stalls
pub mod InputScript
pub mod ExampleCell
mod Examples
mod InterruptExamples
mod MeetingExamples
mod ZoneExamples
mod OutputExamples
mod WaitExamples
mod MoveExamples
pub mod Since
mod MeetingsTold
pub mod Numbered
pub mod ZonesTold
pub mod Ties
pub mod Follow
mod InterruptsTold
mod InterruptsStay
mod SignalsKept
mod WrittenStay
mod LastOfRound
mod OrderExamples
