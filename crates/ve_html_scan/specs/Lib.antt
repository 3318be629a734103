pub mod Parts
pub mod Shown
pub mod Scanned
pub mod Names
