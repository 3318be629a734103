-- The first of some entries taken back, under those behind it: for a private function.
use Rattle.std.specs.Prelude.{ℕ, Bool, true, false, List, Result}
use Rattle.model_change.specs.Replay.{revoke}
use Rattle.model_change.specs.Transaction.{Transaction}
use Rattle.model_site.specs.Live.{Hinted, RevokeCause, in_conflict, unhinted}
use Rattle.ve_peer_undo.specs.Counting.{revoke_first}

-- it has number n, which is what those behind it name that take it back
abbrev pub first_back : (live : Bool) (n : ℕ) → List Hinted → Result (List Transaction) RevokeCause
first_back true n entries = revoke_first n entries
first_back false n entries = in_conflict (revoke (unhinted entries) 0)
