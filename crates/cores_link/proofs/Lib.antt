mod Shows
mod Settles
