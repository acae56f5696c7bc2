pub mod Trees
pub mod Recording
