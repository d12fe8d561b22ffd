pub mod Accepted
pub mod First
