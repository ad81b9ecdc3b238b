pub mod Coming
mod Fronts
pub mod Lines
mod Shrinks
mod Takes
