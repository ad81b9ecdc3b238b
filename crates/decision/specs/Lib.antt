pub mod Best
pub mod Points
pub mod Meds
pub mod Members
