pub mod Flags
pub mod Words
pub mod FlagsLemmas
pub mod WordsLemmas
