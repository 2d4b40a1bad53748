pub mod Weighing
pub mod Join
pub mod Examples
