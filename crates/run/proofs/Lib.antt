pub mod Places
pub mod Made
pub mod Fleets
