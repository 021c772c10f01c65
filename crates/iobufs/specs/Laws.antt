-- The laws that the traits require, as their impls cite them.
pub mod Building
pub mod Draining
pub mod Filling
pub mod Reading
