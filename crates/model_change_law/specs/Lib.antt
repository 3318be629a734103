pub mod Retained
pub mod Inserted
pub mod Told
