pub mod Steps
pub mod Words
pub mod Verbs
pub mod Digits
pub mod Lines
pub mod Told
