pub mod Shared
pub mod Agree
pub mod Laws
pub mod Arrays
pub mod Masks
pub mod Steps
pub mod Again
pub mod Numbers
