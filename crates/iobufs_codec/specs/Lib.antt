pub mod Form
pub mod Forms
pub mod Kinds
pub mod Listed
pub mod Signed
