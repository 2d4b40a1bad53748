pub mod Entries
pub mod Shown
pub mod Names
