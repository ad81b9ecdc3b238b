mod Joining
mod Runs
mod NameBytes
mod FirstLines
mod Replacing
mod ReadingLines
mod Asking
