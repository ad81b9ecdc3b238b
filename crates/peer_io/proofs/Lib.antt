mod Marks
mod Connections
mod Fronts
