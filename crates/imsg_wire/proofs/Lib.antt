mod Fronts
mod Stream
mod Links
