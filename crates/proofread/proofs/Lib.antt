pub mod Loops
pub mod Through
