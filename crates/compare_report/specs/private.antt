pub mod SoFar
pub mod Fitting
pub mod Met
