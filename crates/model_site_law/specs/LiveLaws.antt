-- Laws of what counts of entries, over every list of entries: what took each other back leaves
-- nothing.
use Rattle.std.specs.Prelude.{◌≡◌, ◌<◌, ℕ, ◌+◌, Bool, true, false, ◌==◌, if◌then◌else◌, List, [], ◌∷◌, ◌++◌, length, Option, Some, None, Result, Ok, Err}
use Rattle.std.specs.List.{AllByRecursion}
use Rattle.model_items.specs.declared.plain_item.PlainItem.{PlainItem}
use Rattle.model_change.specs.Transaction.{Transaction}
use Rattle.model_change.specs.Join.{join_list}
use Rattle.model_change.specs.Replay.{replay, AllRun, reversal, flattened, entry_at, made_before}
use Rattle.model_site.specs.Entries.{Parcel}
use Rattle.model_site.specs.Live.{Hinted, RevokeCause, Standing, unhinted, hinted, all_standing, live, revoke_live}
use Rattle.model_site_law.specs.Sound.{Sound}

-- the transactions of entry i, and the list before it
abbrev pub own_of : List Hinted → ℕ → List Transaction
own_of entries i = entry_at (unhinted entries) i

abbrev pub list_before : List Hinted → ℕ → List PlainItem → List PlainItem
list_before entries i base = replay (made_before (unhinted entries) i) base

-- the list after all of them
abbrev pub list_after : List Hinted → List PlainItem → List PlainItem
list_after entries base = replay (flattened (unhinted entries)) base

-- entries that run one after the other from a page, and the number of one of them
pub record RunFrom (entries : List Hinted) (i : ℕ) (base : List PlainItem) : Type 0 where
  pub within : i < length entries
  pub sound : Sound base
  pub runs : AllRun (flattened (unhinted entries)) base

-- Entry i and what counts behind it run on the list before i, and give the list after all.
pub record IsAll (entries : List Hinted) (i : ℕ) (standing : List Standing) (base : List PlainItem) : Type 0 where
  pub runs : AllRun (own_of entries i ++ all_standing standing) (list_before entries i base)
  pub one_list : replay (own_of entries i ++ all_standing standing) (list_before entries i base) ≡ list_after entries base

abbrev pub WhatCountsIsAll : Type 0
WhatCountsIsAll = (entries : List Hinted) (i : ℕ) (standing : List Standing) (base : List PlainItem) → RunFrom entries i base →
    live entries i ≡ Ok standing → IsAll entries i standing base

-- Taking entry i back runs on the list after all. The list is then as it would be had entry i never
-- been made, nor what was taken back.
pub record IsLeftOut (entries : List Hinted) (i : ℕ) (back : List Transaction) (base : List PlainItem) : Type 0 where
  pub standing : List Standing
  pub without : List Transaction
  pub counts : live entries i ≡ Ok standing
  pub joined : join_list (all_standing standing) (reversal (own_of entries i)) ≡ Ok (without, back)
  pub runs : AllRun back (list_after entries base)
  pub without_runs : AllRun without (list_before entries i base)
  pub one_list : replay back (list_after entries base) ≡ replay without (list_before entries i base)

abbrev pub LiveRevokeLeavesOut : Type 0
LiveRevokeLeavesOut = (entries : List Hinted) (i : ℕ) (back : List Transaction) (base : List PlainItem) → RunFrom entries i base →
    revoke_live entries i ≡ Ok back → IsLeftOut entries i back base

-- Where nothing behind it counts, entry i is taken back, and the list before it is there again.
pub record IsBefore (entries : List Hinted) (i : ℕ) (base : List PlainItem) : Type 0 where
  pub back : revoke_live entries i ≡ Ok (reversal (own_of entries i))
  pub list : replay (reversal (own_of entries i)) (list_after entries base) ≡ list_before entries i base

abbrev pub NothingStandsAbove : Type 0
NothingStandsAbove = (entries : List Hinted) (i : ℕ) (base : List PlainItem) → RunFrom entries i base → live entries i ≡ Ok [] →
    IsBefore entries i base

-- what takes entry i back, committed behind others that came in between
abbrev pub taken_back_behind : List Hinted → (i : ℕ) → (others : List Parcel) (back : List Transaction) → List Hinted
taken_back_behind entries i others back = entries ++ (hinted others [] ++ record { txs = back; takes_back = Some i } ∷ [])

-- Then it counts no more, whatever others committed in between that takes nothing back itself.
abbrev pub TakenBackCountsNoMore : Type 0
TakenBackCountsNoMore = (entries : List Hinted) (i : ℕ) (back : List Transaction) (others : List Parcel) (joined : List Transaction × List Transaction) →
    i < length entries → revoke_live entries i ≡ Ok back → join_list (flattened others) back ≡ Ok joined →
    live (taken_back_behind entries i others joined.1) i ≡ Err (length entries + length others)

-- ---- what one person takes back and makes again, in turns

-- one more entry; one of somebody else, which takes nothing back; the newest of the person's entries
-- that counts, taken back; or the newest one that was taken back, made again by taking back what
-- took it back
pub data Step : Type 0 where
  Make : (ts : List Transaction) → Step
  Other : (ts : List Transaction) → Step
  Back : Step
  Again : Step

-- All entries. Of the person's own those that count, and those that took one back and count, the
-- newest first. And the numbers of what others made.
pub record Steps : Type 0 where
  pub entries : List Hinted
  pub made : List Standing
  pub taken : List Standing
  pub others : List ℕ

abbrev pub at_first : List Hinted → Steps
at_first entries = record { entries = entries; made = []; taken = []; others = [] }

-- an entry as it counts behind these
abbrev pub next_of : List Hinted → List Transaction → Standing
next_of entries ts = record { number = length entries; txs = ts }

abbrev pub with_entry_more : List Hinted → Option ℕ → List Transaction → List Hinted
with_entry_more entries hint ts = entries ++ record { txs = ts; takes_back = hint } ∷ []

-- The newest one is taken back, unless that is refused.
abbrev pub back_by : Result (List Transaction) RevokeCause → (newest : Standing) (older : List Standing) → Steps → Steps
back_by (Err cause) newest older s = s
back_by (Ok back) newest older s = record {
  entries = with_entry_more s.entries (Some newest.number) back;
  made = older;
  taken = next_of s.entries back ∷ s.taken;
  others = s.others;
}

abbrev pub back_from : List Standing → Steps → Steps
back_from [] s = s
back_from (newest ∷ older) s = back_by (revoke_live s.entries newest.number) newest older s

abbrev pub again_by : Result (List Transaction) RevokeCause → (newest : Standing) (older : List Standing) → Steps → Steps
again_by (Err cause) newest older s = s
again_by (Ok back) newest older s = record {
  entries = with_entry_more s.entries (Some newest.number) back;
  made = next_of s.entries back ∷ s.made;
  taken = older;
  others = s.others;
}

abbrev pub again_from : List Standing → Steps → Steps
again_from [] s = s
again_from (newest ∷ older) s = again_by (revoke_live s.entries newest.number) newest older s

-- where one more entry is made, what was taken back before can't be made again
abbrev pub stepped : Step → Steps → Steps
stepped (Make ts) s = record { entries = with_entry_more s.entries None ts; made = next_of s.entries ts ∷ s.made; taken = []; others = s.others }
stepped (Other ts) s = record { entries = with_entry_more s.entries None ts; made = s.made; taken = s.taken; others = length s.entries ∷ s.others }
stepped Back s = back_from s.made s
stepped Again s = again_from s.taken s

abbrev pub all_stepped : List Step → Steps → Steps
all_stepped [] s = s
all_stepped (step ∷ steps) s = all_stepped steps (stepped step s)

abbrev pub is_among : List ℕ → ℕ → Bool
is_among [] n = false
is_among (m ∷ ms) n = if m == n then true else is_among ms n

-- Behind the newest one nothing counts but what others made.
pub record OthersCount (entries : List Hinted) (others : List ℕ) (newest : Standing) : Type 0 where
  pub own : own_of entries newest.number ≡ newest.txs
  pub standing : List Standing
  pub counts : live entries newest.number ≡ Ok standing
  pub theirs : AllByRecursion (λ (s : Standing). is_among others s.number ≡ true) standing

abbrev pub OthersCountBehind : List Hinted → List ℕ → List Standing → Type 0
OthersCountBehind entries others [] = Unit {0}
OthersCountBehind entries others (newest ∷ older) = OthersCount entries others newest

-- Whatever entries were there before: what one person takes back and makes again, in whatever order
-- and however often, does not stand in the way of the next. Only what others made in between can.
abbrev pub OwnStepsAreFree : Type 0
OwnStepsAreFree = (first : List Hinted) (steps : List Step) →
    let s = all_stepped steps (at_first first) in OthersCountBehind s.entries s.others s.made × OthersCountBehind s.entries s.others s.taken

-- all transactions that are made run on the list then
abbrev pub StepRuns : (base : List PlainItem) → Steps → Step → Type 0
StepRuns base s (Make ts) = AllRun ts (list_after s.entries base)
StepRuns base s (Other ts) = AllRun ts (list_after s.entries base)
StepRuns base s _ = Unit {0}

abbrev pub AllStepsRun : (base : List PlainItem) → Steps → List Step → Type 0
AllStepsRun base s [] = Unit {0}
AllStepsRun base s (step ∷ steps) = StepRuns base s step × AllStepsRun base (stepped step s) steps

-- Then so do all entries, with those that take back.
abbrev pub StepsRun : Type 0
StepsRun = (first : List Hinted) (steps : List Step) (base : List PlainItem) → Sound base → AllRun (flattened (unhinted first)) base →
    AllStepsRun base (at_first first) steps → AllRun (flattened (unhinted (all_stepped steps (at_first first)).entries)) base

-- Where nobody else made an entry, taking the newest one back gives the list before it.
abbrev pub NewestGivesBack : (base : List PlainItem) → List Hinted → List Standing → Type 0
NewestGivesBack base entries [] = Unit {0}
NewestGivesBack base entries (newest ∷ older) = IsBefore entries newest.number base

abbrev pub OwnStepsGiveBack : Type 0
OwnStepsGiveBack = (first : List Hinted) (steps : List Step) (base : List PlainItem) → Sound base → AllRun (flattened (unhinted first)) base →
    AllStepsRun base (at_first first) steps → (all_stepped steps (at_first first)).others ≡ [] →
    let s = all_stepped steps (at_first first) in NewestGivesBack base s.entries s.made × NewestGivesBack base s.entries s.taken
