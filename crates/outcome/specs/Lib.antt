pub mod Writes
pub mod Kept
pub mod Working
pub mod Held
pub mod Numbers
pub mod Outcome
pub mod Rules
pub mod Laws
