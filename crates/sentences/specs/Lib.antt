pub mod Counted
pub mod Held
pub mod Judged
pub mod Shown
pub mod Windows
