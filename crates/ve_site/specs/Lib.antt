pub use Rattle.model_site.specs.Site
pub use Rattle.model_site.specs.Replica
pub use Rattle.model_site.specs.Entries
pub use Rattle.model_site.specs.Joined
pub use Rattle.model_site.specs.Take
pub use Rattle.model_site.specs.Untold
pub use Rattle.model_site.specs.Session
pub use Rattle.model_site_law.specs.Sound
pub use Rattle.model_site_law.specs.Holds
pub use Rattle.model_site_law.specs.SelectionLaws
pub use Rattle.ve_editor.specs.Edited
pub use Rattle.ve_editor.specs.Counted as EditorCounted
pub use Rattle.ve_editor.specs.Refusal as EditRefusal
pub use Rattle.ve_history.specs.Stacks
pub use Rattle.ve_server.specs.Fed
pub mod Ground
pub mod Numbered
pub mod Settled
pub mod Attempted
pub mod Refusal
pub mod Taking
pub mod Dropped
pub mod Underway
pub mod Patches
pub mod Ends
pub mod Laws
