pub mod View
pub mod Import
