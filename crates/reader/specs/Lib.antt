pub mod Reasons
pub mod Sessions
pub mod Printed
