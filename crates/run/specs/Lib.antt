pub mod Inside
pub mod Checks
pub mod Layout
pub mod Listed
pub mod Mileposts
pub mod Tables
pub mod Fleets
