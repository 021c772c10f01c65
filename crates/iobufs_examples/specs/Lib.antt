pub mod InOrder
pub mod Web
