pub mod Run
pub mod Status
pub mod Asked
pub mod Soak
pub mod Ended
pub mod Laws
pub use Rattle.model_script.specs.Lines
pub use Rattle.model_script.specs.Output
