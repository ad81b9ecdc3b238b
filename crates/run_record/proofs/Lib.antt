mod Generations
mod Refused
mod Rows
pub mod Nobody
