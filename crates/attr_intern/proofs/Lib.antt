mod Equal
mod KeptSteps
pub mod Uses
pub mod References
