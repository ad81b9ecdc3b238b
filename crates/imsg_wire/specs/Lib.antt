pub mod Frame
pub mod Holding
