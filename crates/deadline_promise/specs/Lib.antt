pub mod Reach
pub mod KeptBudget
pub mod Promise
pub mod Demand
pub mod Answer
pub mod Examples
pub mod private
