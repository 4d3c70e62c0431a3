pub mod WorldView
pub mod DomainStep
pub mod WorldStep
pub mod ExactWord
pub mod Growing
pub mod Examples
