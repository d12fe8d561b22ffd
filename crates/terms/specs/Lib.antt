pub mod Refusals
pub mod Codes
pub mod Inputs
pub mod Kinds
pub mod Nodes
pub mod Answers
