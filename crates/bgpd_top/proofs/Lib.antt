mod Asking
mod Causes
mod Checked
mod Coming
mod FrontOfText
mod Replaying
mod ServingLemmas
