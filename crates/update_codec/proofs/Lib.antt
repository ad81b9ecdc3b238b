mod Bytes
mod ReadBack
pub mod Plain
mod Stream
mod ReadValid
mod HeldEach
mod HeldValid
mod FamiliesRead
mod Going
mod LastWord
mod TypesAscend
