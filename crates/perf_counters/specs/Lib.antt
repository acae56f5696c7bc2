pub mod EntryCalls
pub mod GroupEntry
pub mod GroupIter
pub mod ReadFormat
pub mod ReadGroup
pub mod ReadValue
pub mod Prelude
