pub mod Appended
mod Digits
