pub mod Readable
pub mod KeptBack
pub mod KeptBytes
