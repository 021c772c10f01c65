pub mod Codes
pub mod FrameRows
pub mod Rows
