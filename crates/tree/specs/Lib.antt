pub mod Reading
pub mod Paths
pub mod Readers
