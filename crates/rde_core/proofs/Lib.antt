mod Ready
mod Rows
