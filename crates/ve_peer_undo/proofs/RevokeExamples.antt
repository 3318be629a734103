-- Which fault tells of a refusal, and what is asked of entries.
use Rattle.std.proofs.Common.{List, [], ◌∷◌, Ok, Err, refl}
use Rattle.model_change.specs.Transaction.{Retain, Replace, Transaction}
use Rattle.model_change.specs.Replay.{entry_at, made_after, reversal}
use Rattle.model_items.specs.declared.plain_item.PlainItem.TheVariants.{Char}
use Rattle.ve_rebase.specs.Lists.{RunFromOneLength}
use Rattle.ve_peer_undo.specs.declared.fault.RevokeFault.TheVariants as why
use Rattle.ve_peer_undo.specs.Refusal.{IsRevokeRefusal}

conflict_is_named : IsRevokeRefusal (Err (record { committed = (1, 3); mine = (1, 2) })) (why.Conflict (1, 3) (1, 2))
conflict_is_named = refl

memory_tells_nothing : IsRevokeRefusal (Ok []) why.Memory
memory_tells_nothing = tt

-- a letter put before two items, and then one put after the first of three
abbrev entries : List (List Transaction)
entries = ((Replace [] (Char 97 [] ∷ []) ∷ Retain 2 ∷ []) ∷ []) ∷ ((Retain 1 ∷ Replace [] (Char 98 [] ∷ []) ∷ Retain 2 ∷ []) ∷ []) ∷ []

-- what takes the first one back, and the later one, are both on three items
first_may_go : RunFromOneLength (made_after entries 0) (reversal (entry_at entries 0))
first_may_go = record { length = 3; committed_run = (refl, tt); mine_run = (refl, tt) }
