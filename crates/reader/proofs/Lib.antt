pub mod Told
pub mod Whole
