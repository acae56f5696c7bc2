pub mod Mark
pub mod Sampling
pub mod Span
