pub mod Bits
pub mod Sets
pub mod Named
pub mod Branch
pub mod DataSource
pub mod SetBits
pub mod Alike
