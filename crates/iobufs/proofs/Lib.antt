pub mod Building
pub mod CallerFacts
pub mod Collected
pub mod Joined
pub mod Parts
pub mod Text
pub mod TraitLaws
