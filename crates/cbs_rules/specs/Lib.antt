pub mod Budget
pub mod Serving
pub mod Examples
