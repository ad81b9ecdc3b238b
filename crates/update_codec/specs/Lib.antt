pub mod Update
pub mod Written
pub mod Held
pub mod Valid
pub mod Families
