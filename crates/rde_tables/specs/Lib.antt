pub mod Uses
pub mod Routes
pub mod Wants
