mod LastNumber
mod FrontNumbers
mod BySets
mod Placed
mod PartialBits
pub mod ItemsValid
mod VerdictValid
mod HopFamily
mod Linking
mod Skipping
mod Meets
mod SettledNames
