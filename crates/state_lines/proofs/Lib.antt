pub mod PrintingState
mod PrintingTrace
