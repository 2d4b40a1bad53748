pub mod Fronts
pub mod Sent
pub mod Widths
