pub mod EventText
pub mod RowText
