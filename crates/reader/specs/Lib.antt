pub mod Answers
pub mod Heads
pub mod Steps
pub mod Told
