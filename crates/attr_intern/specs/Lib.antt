pub mod Hashed
pub mod Table
pub mod Kept
