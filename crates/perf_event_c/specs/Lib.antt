pub mod Ends
pub mod Files
pub mod FileFeatures
