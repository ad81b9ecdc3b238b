mod Kept
mod Wanted
