pub mod Text
pub mod Outcomes
pub mod Prelude
