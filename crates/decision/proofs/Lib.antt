pub mod Lists
mod Flags
mod Champions
mod Orders
mod LowerMeds
pub mod Eligible
pub mod SameMembers
