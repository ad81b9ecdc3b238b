pub mod Generations
pub mod Standing
pub mod Routers
