mod Nesting
mod Parents
pub mod Placing
pub mod Walk
