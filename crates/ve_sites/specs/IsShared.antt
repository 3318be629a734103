-- The invariant of a session's fields.
use Rattle.std.specs.Prelude.{◌≡◌, ℕ, suc, List, [], ◌∷◌, All, length}
use Rattle.ve_base.specs.declared.value.Value.{Value}
use Rattle.model_items.specs.declared.item.Item.{Item}
use Rattle.model_items.specs.Plain.{CitesWell}
use Rattle.model_site_law.specs.Protocol.{SessionHolds}
use Rattle.ve_server.specs.Serving.{Serving}
use Rattle.ve_sites.specs.Senders.{Sender, session_of}

-- the sites have these numbers, from the first on
abbrev pub AreNumbered : (from : ℕ) → List Sender → Type 0
AreNumbered from [] = Unit {0}
AreNumbered from (s ∷ senders) = (s.number ≡ from) × AreNumbered (suc from) senders

-- There are as many queues as sites, whose numbers are their positions; the first list cites its
-- values; and what always holds of a session holds.
pub record IsShared (values : List Value) (first : List Item) (server : Serving) (senders : List Sender) : Type 0 where
  pub as_many : length server.queues ≡ length senders
  pub numbers : AreNumbered 0 senders
  pub cites : All (CitesWell values) first
  pub holds : SessionHolds (session_of values first server senders)
