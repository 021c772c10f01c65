pub mod BlockLaws
mod Examples
pub mod FrameFacts
pub mod FrameLaws
pub mod HeadLaws
pub mod LayoutFacts
pub mod PrefixFacts
pub mod PrefixLaws
pub mod StreamLaws
pub mod UnsentLaws
