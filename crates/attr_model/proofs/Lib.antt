mod Prepending
pub mod PrependedValid
pub mod LargeOrder
pub mod SameAttrs
