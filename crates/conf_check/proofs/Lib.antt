mod DoubleNames
mod Folds
mod Orders
mod Places
mod Search
mod Sorted
mod Whole
