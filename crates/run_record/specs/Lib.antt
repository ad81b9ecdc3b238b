pub mod Run
pub mod Sessions
pub mod Worlds
pub mod Coupling
pub mod Limits
pub mod Answers
pub mod Taken
