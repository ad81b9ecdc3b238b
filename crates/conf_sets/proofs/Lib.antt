mod Ranges
mod Numbers
