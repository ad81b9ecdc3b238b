mod AddressSizes
mod EntrySizes
mod ItemSizes
mod ListSizes
mod NeighbourSizes
mod RuleSizes
mod SetSizes
pub mod TextSizes
