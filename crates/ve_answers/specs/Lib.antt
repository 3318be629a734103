pub mod Replies
pub mod Asked
pub mod Words
pub mod Faults
