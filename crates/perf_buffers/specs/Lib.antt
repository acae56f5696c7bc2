pub mod Buffer
pub mod Taking
pub mod Cursor
pub mod Room
pub mod Cutting
pub mod Pieces
pub mod FrameBytes
pub mod Prelude
