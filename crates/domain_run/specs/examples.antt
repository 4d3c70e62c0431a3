pub mod Calling
pub mod Admissions
pub mod Runs
pub mod Happenings
