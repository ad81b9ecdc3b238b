mod Order
mod Steps
mod Lists
pub mod Agreement
