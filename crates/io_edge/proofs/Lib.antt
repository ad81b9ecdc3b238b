mod Front
mod LineLists
mod LinesAhead
mod Moves
mod Steps
