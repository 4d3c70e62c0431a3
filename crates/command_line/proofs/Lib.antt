pub mod Made
pub mod Passed
pub mod RunTexts
pub mod Asked
pub mod Numbers
pub mod Printing
pub mod ImportTexts
