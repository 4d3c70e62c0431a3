pub mod Ratio
pub mod ParamsView
pub mod Accepted
pub mod RefusalName
pub mod Examples
