pub mod SameSets
pub mod Tables
