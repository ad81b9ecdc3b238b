pub mod Cursor
pub mod Marks
