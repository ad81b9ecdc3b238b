mod Held
mod Answers
mod Verdicts
mod EachSession
mod Alone
