pub mod Slots
pub mod Covering
