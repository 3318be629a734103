pub mod Laws
pub mod LengthRow
pub mod Starts
