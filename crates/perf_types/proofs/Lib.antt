pub mod AtOnce
pub mod Entries
pub mod Flags
mod Places
mod Poked
mod Worked
