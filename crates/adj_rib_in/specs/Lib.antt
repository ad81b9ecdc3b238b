pub mod Row
pub mod Held
pub mod Listed
pub mod Uses
