pub mod Index
pub mod Table
pub mod Walk
