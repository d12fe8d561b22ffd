pub mod Proofreading
pub mod Steps
