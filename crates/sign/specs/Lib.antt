pub mod View
pub mod Table
pub mod Shown
pub mod Sets
