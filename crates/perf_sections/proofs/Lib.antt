pub mod InTurn
pub mod Sweeping
pub mod Words
pub mod Zipped
pub mod Tables
pub mod Rising
pub mod NamePlacing
