pub mod Verdict
pub mod Records
pub mod Tree
pub mod Encoding
pub mod Typing
pub mod Decoding
