pub mod Fields
pub mod SampleText
pub mod Text
pub mod Outcomes
pub mod FileText
pub mod FileLines
