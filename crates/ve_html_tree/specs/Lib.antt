pub mod Seen
pub mod Building
pub mod Nodes
pub mod Opened
pub mod Taken
