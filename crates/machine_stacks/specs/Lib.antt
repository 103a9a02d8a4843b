pub mod Cuts
pub mod Forms
pub mod FrameStack
pub mod Kept
pub mod OperandStack
pub mod Starts
pub mod Words
