pub mod World
pub mod Import
pub mod Export
pub mod Tables
pub mod Loc
pub mod Networks
pub mod Same
pub mod Sent
