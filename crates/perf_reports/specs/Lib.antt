pub mod Counting
pub mod FramePrinting
pub mod Printing
pub mod SampleLines
pub mod TaskLines
