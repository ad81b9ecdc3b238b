mod Kept
mod Puts
mod Keeps
mod Uses
mod Settling
mod Messages
mod Sessions
mod Nth
