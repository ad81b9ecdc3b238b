pub mod State
pub mod Units
pub mod Ready
pub mod Staged
pub mod Given
pub mod Rows
