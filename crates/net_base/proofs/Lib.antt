pub mod Bits
pub mod Lacks
mod Groups
pub mod Equal
pub mod AddrText
pub mod Numbers
pub mod PrefixText
pub mod Covering
pub mod Order
mod FirstFrom
pub mod PrefixSets
pub mod Lists
mod Written
