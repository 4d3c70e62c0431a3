pub mod Marks
pub mod Before
pub mod Shapes
