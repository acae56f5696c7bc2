pub mod Contained
pub mod Examples
