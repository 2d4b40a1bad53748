pub mod Carets
pub mod Excerpts
pub mod Lines
