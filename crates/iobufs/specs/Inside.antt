-- How private fields are read: no contract of a public call names these.
pub mod Ends
pub mod Gaps
pub mod Kept
pub mod PartOrder
pub mod PartShape
pub mod PartSums
pub mod Pieces
pub mod Pushes
pub mod RowValues
pub mod Several
