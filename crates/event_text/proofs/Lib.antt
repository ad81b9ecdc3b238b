mod Splits
mod Below
mod Behind
mod Transcripts
