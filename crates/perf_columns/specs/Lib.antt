pub mod Columns
pub mod Threads
pub mod Files
pub mod RecordText
