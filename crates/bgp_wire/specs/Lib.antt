pub mod Message
pub mod Entries
pub mod Open
pub mod Hearing
pub mod Written
