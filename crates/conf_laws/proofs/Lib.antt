pub mod Short
pub mod ReadBack
