pub use Rattle.model_site.specs.Session
pub use Rattle.model_site.specs.Site
pub use Rattle.model_site.specs.Refused
pub use Rattle.model_site_law.specs.Protocol
pub use Rattle.model_site_law.specs.Sound
pub use Rattle.model_site_law.specs.SelectionLaws
pub use Rattle.ve_editor.specs.Edited
pub use Rattle.model_site.specs.Live
pub use Rattle.ve_peer_undo.specs.Counting
pub use Rattle.ve_peer_undo.specs.Refusal as RevokeRefusal
pub use Rattle.model_site.specs.Made
pub use Rattle.ve_site.specs.Refusal as SiteRefusal
pub use Rattle.ve_site.specs.Taking
pub use Rattle.ve_site.specs.Ends
pub mod Shared
pub mod Senders
pub mod IsShared
pub mod Turns
pub mod FirstBack
pub mod Laws
