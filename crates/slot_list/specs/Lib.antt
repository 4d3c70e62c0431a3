pub mod Lending
pub mod private
