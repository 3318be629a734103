pub mod Generated
pub mod Ahead
pub mod Laws
