pub mod AfterWord
pub mod AnswersAgain
pub mod Characters
mod EventExamples
pub mod EventsAgain
mod Examples
pub mod HistoryLines
pub mod InnerBytes
pub mod LinesIn
pub mod ManyThings
pub mod NameBytes
pub mod NamesApart
pub mod NextLines
mod NumberWords
pub mod NumbersAgain
pub mod NumsAgain
pub mod OneHistory
pub mod OneLine
pub mod PathsAgain
pub mod Positions
pub mod QuotesAgain
pub mod RequestsAgain
pub mod ShapesAgain
pub mod Stops
pub mod ValuesAgain
