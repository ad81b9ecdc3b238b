mod Slots
mod Fronts
