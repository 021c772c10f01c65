-- The contents of a builder, and the chunks that it finishes to.
pub mod AddLaws
pub mod BuildLaws
pub mod FinishLaws
pub mod GapLaws
pub use AddLaws.*
pub use BuildLaws.*
pub use FinishLaws.*
pub use GapLaws.*
