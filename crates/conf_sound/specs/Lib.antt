pub mod InForm
pub mod InRoom
pub mod Numbers
