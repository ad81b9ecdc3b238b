pub mod Climbing
mod Finishing
pub mod Lines
mod Meeting
mod Numbering
mod Rules
