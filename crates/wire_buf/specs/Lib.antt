pub mod Field
pub mod Written
