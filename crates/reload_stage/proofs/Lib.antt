mod Parts
mod Completing
