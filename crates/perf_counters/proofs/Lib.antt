pub mod Blocks
pub mod Flags
pub mod Nth
pub mod Readings
mod Worked
