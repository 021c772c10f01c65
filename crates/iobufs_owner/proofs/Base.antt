-- Lemmas that many proofs cite, and with them what is cited of std and `specs/`.
pub mod Known
pub mod Words
pub mod Counts
pub mod Kept
pub mod Frames
pub mod StaysSound
pub mod Edits
pub mod Holders
pub mod Logs
pub mod Lent
pub mod Shown
pub mod Sizes
pub mod Fields
unfoldable pub use Known.*
pub use Words.*
pub use Counts.*
pub use Kept.*
pub use Frames.*
pub use StaysSound.*
pub use Edits.*
pub use Holders.*
pub use Logs.*
pub use Lent.*
pub use Shown.*
pub use Sizes.*
pub use Fields.*
