mod Cutting
mod Fields
mod Firsts
mod Faults
mod Kept
mod Lengths
pub mod Appends
mod ItemsBack
pub mod PrefixesBack
mod Rows
mod Gaps
mod Gathered
mod Ascended
mod ValuesBack
mod FieldBack
mod Sending
pub mod FieldSays
pub mod Shorts
mod FieldSplits
pub mod Bytes
pub mod CutItems
mod PathsRead
mod Ascends
mod Ordered
mod ValuesRead
mod UnknownRead
mod PartialRead
pub mod ReadValid
pub mod Frames
mod Noting
mod Joined
