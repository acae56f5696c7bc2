mod Hex
pub mod Written
