pub mod Cursor
pub mod Grammar
pub mod Held
pub mod Lines
pub mod Transcripts
