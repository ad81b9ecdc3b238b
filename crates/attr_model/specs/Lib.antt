pub mod Path
pub mod Routes
pub mod Valid
pub mod Numbered
