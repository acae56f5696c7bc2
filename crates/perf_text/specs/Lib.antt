pub mod Args
pub mod Numbers
pub mod Orders
pub mod Strips
pub mod Usage
