-- When an entry may be taken back, and what decides how.
use Rattle.std.specs.Prelude.{◌≡◌, ℕ, ◌<◌, List, length, drop}
use Rattle.model_items.specs.declared.plain_item.PlainItem.{PlainItem}
use Rattle.model_items.specs.Law.{Lawful}
use Rattle.model_change.specs.Attributes.{AllNamesApart}
use Rattle.model_change.specs.Transaction.{Transaction}
use Rattle.model_change.specs.Replay.{AllRun, entry_at, flattened, made_after, reversal, revoke}
use Rattle.ve_rebase.specs.Lists.{RunFromOneLength}

-- Where entries run one after the other from a page, those after one of them and what takes it back
-- run from lists of one length.
abbrev pub RevokesRun : Type 0
RevokesRun = (entries : List (List Transaction)) (i : ℕ) (base : List PlainItem) → i < length entries → Lawful base → AllNamesApart base →
    AllRun (flattened entries) base → RunFromOneLength (made_after entries i) (reversal (entry_at entries i))

-- An entry is taken back in one way, whatever stands before it.
abbrev pub EarlierDoNotMatter : Type 0
EarlierDoNotMatter = (entries : List (List Transaction)) (i : ℕ) → i < length entries → revoke (drop i entries) 0 ≡ revoke entries i
