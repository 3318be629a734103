-- A joined transaction's span is found from the two spans alone, and joined lists keep the bound.
use Rattle.std.specs.Prelude.{◌≡◌, ◌≤◌, ◌+◌, true, List, length, All, Ok}
use Rattle.ve_base.specs.Limits.{max_total_length}
use Rattle.model_items.specs.declared.plain_item.PlainItem.{PlainItem}
use Rattle.model_items.specs.Law.{Lawful}
use Rattle.model_change.specs.Transaction.{Transaction, old_length, new_length, is_reduced, is_normal}
use Rattle.model_change.specs.Join.{join, join_list, overlap}
use Rattle.model_change.specs.Replay.{AllRun, inserted_by}
use Rattle.ve_rebase.specs.Span.{span_of, joined_first, joined_second, old_size, new_size, meet}

abbrev pub SpansAdd : Type 0
SpansAdd = (t : Transaction) → (old_length t ≡ old_size (span_of t)) × (new_length t ≡ new_size (span_of t))

abbrev pub SpansMeet : Type 0
SpansMeet = (a b : Transaction) → overlap a b ≡ meet (span_of a) (span_of b)

abbrev pub SpansJoin : Type 0
SpansJoin = (a b : Transaction) → is_reduced a ≡ true → is_reduced b ≡ true →
    (span_of (join a b).0 ≡ joined_first (span_of a) (span_of b)) × (span_of (join a b).1 ≡ joined_second (span_of a) (span_of b))

-- two lists of transactions, each of which runs one after the other from one lawful list, and that
-- list with all they insert is within the bound
pub record FitTogether (committed mine : List Transaction) (items : List PlainItem) : Type 0 where
  pub lawful : Lawful items
  pub committed_run : AllRun committed items
  pub mine_run : AllRun mine items
  pub within : length items + (inserted_by committed + inserted_by mine) ≤ max_total_length

-- Then whatever is joined of them is in normal form, so its lengths stay within the bound too.
abbrev pub JoinedStayNormal : Type 0
JoinedStayNormal = (committed mine : List Transaction) (items : List PlainItem) (joined : List Transaction × List Transaction) →
    FitTogether committed mine items → join_list committed mine ≡ Ok joined →
    All (λ t. is_normal t ≡ true) joined.0 × All (λ t. is_normal t ≡ true) joined.1
