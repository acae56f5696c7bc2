pub mod ReaderState
pub mod Calls
pub mod Repeats
pub mod Prelude
pub mod Frames
pub mod Runs
pub mod Steps
pub mod FrameRuns
