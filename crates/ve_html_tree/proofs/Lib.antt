pub mod Making
pub mod Shown
pub mod Runs
pub mod Links
pub mod Opening
