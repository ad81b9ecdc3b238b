mod Fields
mod Offers
mod Judging
mod Bytes
mod Cutting
mod ReadBack
pub mod Stream
