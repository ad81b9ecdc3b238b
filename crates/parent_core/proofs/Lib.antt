mod Taking
mod Following
mod Settling
mod Answering
mod Sums
mod Costs
mod Bounding
