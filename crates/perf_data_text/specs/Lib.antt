pub mod EventText
pub mod OwnNames
pub mod DumpText
pub mod HeaderText
pub mod Shown
