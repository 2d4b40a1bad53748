pub mod Printed
pub mod PrintedLemmas
pub mod Sinks
