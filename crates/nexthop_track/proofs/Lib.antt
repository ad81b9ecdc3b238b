mod Coverings
mod Blocks
mod Routes
mod Steps
mod Tracked
