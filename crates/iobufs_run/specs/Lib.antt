pub mod Causes
pub mod Choices
pub mod Refusals
pub mod Run
pub mod Slots
