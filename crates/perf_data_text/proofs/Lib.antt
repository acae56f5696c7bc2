pub mod InTurn
pub mod ByTime
pub mod Naming
