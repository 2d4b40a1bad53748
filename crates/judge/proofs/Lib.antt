pub mod Counted
pub mod Joins
pub mod Cells
pub mod Loops
pub mod Examples
