pub mod Rows
pub mod TableMemory
pub mod Phases
pub mod Table
pub mod Calls
pub mod Tables
pub mod Units
pub mod Agreement
