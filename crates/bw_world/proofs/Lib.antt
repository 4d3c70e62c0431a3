pub mod Counted
pub mod Held
pub mod Mapped
pub mod DomainLaw
pub mod Moved
pub mod WorldLaw
pub mod Stepping
