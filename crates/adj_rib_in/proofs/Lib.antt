mod Rows
mod Order
mod Routes
mod Held
mod Dropped
mod Listed
mod Lists
mod Uses
