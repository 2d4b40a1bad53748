pub mod Sent
pub mod Shown
pub mod Counted
