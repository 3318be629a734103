pub mod Classes
pub mod Nearest
pub mod States
pub mod Unmatched
pub mod Docs
pub mod Lent
