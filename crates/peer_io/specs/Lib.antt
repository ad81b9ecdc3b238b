pub mod Queue
pub mod Sending
pub mod Reading
