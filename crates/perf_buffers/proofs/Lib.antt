pub mod Takes
pub mod Options
pub mod Chunks
pub mod Shown
pub mod Assembled
