pub mod Moved
mod Replaced
mod Chosen
mod Taken
mod Beside
