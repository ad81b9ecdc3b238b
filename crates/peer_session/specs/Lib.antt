pub mod Neighbour
pub mod Frames
pub mod Hearing
pub mod Steps
pub mod Calls
pub mod Reported
