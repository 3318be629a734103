-- What one person takes back and makes again does not stand in the way of the next.
use Rattle.std.specs.List.{AllByRecursion}
use Rattle.std.proofs.Common.{◌≡◌, ◌<◌, ℕ, true, false, List, [], ◌∷◌, ◌++◌, length, Some, None, Result, Ok, Err, refl, sym, ap, ◌∙◌, subst, append-nil}
use Rattle.model_items.specs.declared.plain_item.PlainItem.{PlainItem}
use Rattle.model_change.specs.Replay.{AllRun, flattened}
use Rattle.model_change.specs.Transaction.{Transaction}
use Rattle.model_site.specs.Live.{Hinted, RevokeCause, Standing, revoke_live, unhinted}
use Rattle.model_site_law.specs.LiveLaws.{Again, AllStepsRun, Back, Make, NewestGivesBack, Other, OthersCountBehind, OwnStepsAreFree, OwnStepsGiveBack, Step, StepRuns, Steps, StepsRun, again_by, again_from, all_stepped, at_first, back_by, back_from, is_among, list_after, next_of, stepped, with_entry_more}
use Rattle.model_site_law.specs.Sound.{Sound}
use Rattle.model_site_law.proofs.LiveLemmas.{nothing_stands_above, revocation_runs}
use Rattle.model_site_law.proofs.ReplayLemmas.{AllRun-append, flattened-append}
use Rattle.model_site_law.proofs.OwnedLemmas.{AllCount, Below, Each, EachOwn, Free, Owned, Theirs, each-append, one_back, one_made, one_other, owns, owns-settled, settled, turned, with_one}

-- ---- steps

record AreFree (s : Steps) : Type 0 where
  made : List Owned
  taken : List Owned
  made_are : owns made ≡ s.made
  taken_are : owns taken ≡ s.taken
  free : Free s.entries s.others made taken

step_free : (step : Step) (s : Steps) → AreFree s → AreFree (stepped step s)
step_free (Make ts) s f = record {
  made = record { own = next_of s.entries ts; behind = [] } ∷ f.made;
  taken = [];
  made_are = ap (λ r. next_of s.entries ts ∷ r) f.made_are;
  taken_are = refl;
  free = one_made s.entries s.others ts f.made f.taken f.free;
}
step_free (Other ts) s f =
    let above : List Standing = next_of s.entries ts ∷ [] in
    record {
      made = settled above f.made;
      taken = settled above f.taken;
      made_are = owns-settled above f.made ∙ f.made_are;
      taken_are = owns-settled above f.taken ∙ f.taken_are;
      free = one_other s.entries s.others ts f.made f.taken f.free;
    }
step_free Back s f = subst (λ m. AreFree (back_from m s)) f.made_are (by_newest f.made refl)
  where
    by_newest : (made : List Owned) → f.made ≡ made → AreFree (back_from (owns made) s)
    by_newest [] e = f
    by_newest (o ∷ made) e = by_result (revoke_live s.entries o.own.number) refl
      where
        by_result : (r : Result (List Transaction) RevokeCause) → revoke_live s.entries o.own.number ≡ r → AreFree (back_by r o.own (owns made) s)
        by_result (Err cause) d = f
        by_result (Ok back) d =
            let t = one_back s.entries s.others back o made f.taken (subst (λ m. Free s.entries s.others m f.taken) e f.free) d in
            record {
              made = t.left;
              taken = record { own = next_of s.entries back; behind = [] } ∷ f.taken;
              made_are = t.same;
              taken_are = ap (λ r. next_of s.entries back ∷ r) f.taken_are;
              free = t.free;
            }
step_free Again s f = subst (λ m. AreFree (again_from m s)) f.taken_are (by_newest f.taken refl)
  where
    by_newest : (taken : List Owned) → f.taken ≡ taken → AreFree (again_from (owns taken) s)
    by_newest [] e = f
    by_newest (o ∷ taken) e = by_result (revoke_live s.entries o.own.number) refl
      where
        by_result : (r : Result (List Transaction) RevokeCause) → revoke_live s.entries o.own.number ≡ r → AreFree (again_by r o.own (owns taken) s)
        by_result (Err cause) d = f
        by_result (Ok back) d =
            let other_way = turned s.entries s.others f.made (o ∷ taken) (subst (λ m. Free s.entries s.others f.made m) e f.free) in
            let t = one_back s.entries s.others back o taken f.made other_way d in
            let next : Owned = record { own = next_of s.entries back; behind = [] } in
            record {
              made = next ∷ f.made;
              taken = t.left;
              made_are = ap (λ r. next_of s.entries back ∷ r) f.made_are;
              taken_are = t.same;
              free = turned (with_entry_more s.entries (Some o.own.number) back) s.others t.left (next ∷ f.made) t.free;
            }

steps_free : (steps : List Step) (s : Steps) → AreFree s → AreFree (all_stepped steps s)
steps_free [] s f = f
steps_free (step ∷ steps) s f = steps_free steps (stepped step s) (step_free step s f)

first_free : (first : List Hinted) → AreFree (at_first first)
first_free first = record {
  made = [];
  taken = [];
  made_are = refl;
  taken_are = refl;
  free = record { made_count = tt; taken_count = tt; made_apart = tt; taken_apart = tt; across = tt; across_back = tt; made_known = tt; taken_known = tt };
}

others_count : (entries : List Hinted) (others : List ℕ) (os : List Owned) → AllCount entries [] os → EachOwn (Below (length entries)) (Theirs (length entries) others) os →
    OthersCountBehind entries others (owns os)
others_count entries others [] h k = tt
others_count entries others (o ∷ os) h k = record { own = h.0.own; standing = o.behind ++ []; counts = h.0.counts; theirs = all (o.behind ++ []) (each-append (Theirs (length entries) others) o.behind [] k.1 tt) }
  where
    all : (ss : List Standing) → Each (Theirs (length entries) others) ss → AllByRecursion (λ (s : Standing). is_among others s.number ≡ true) ss
    all [] h = tt
    all (s ∷ ss) h = (h.0.1, all ss h.1)

pub own_steps_are_free : OwnStepsAreFree
own_steps_are_free first steps =
    let s = all_stepped steps (at_first first) in
    let f = steps_free steps (at_first first) (first_free first) in (
      subst (OthersCountBehind s.entries s.others) f.made_are (others_count s.entries s.others f.made f.free.made_count f.free.made_known),
      subst (OthersCountBehind s.entries s.others) f.taken_are (others_count s.entries s.others f.taken f.free.taken_count f.free.taken_known),
    )

-- ---- the list

abbrev Running : (base : List PlainItem) → List Hinted → Type 0
Running base entries = AllRun (flattened (unhinted entries)) base

one_runs : (base : List PlainItem) (entries : List Hinted) (e : Hinted) → Running base entries → AllRun e.txs (list_after entries base) → Running base (with_one entries e)
one_runs base entries e runs more =
    subst (λ ts. AllRun ts base) (sym (all entries)) (AllRun-append (flattened (unhinted entries)) (e.txs ++ []) base runs (subst (λ ts. AllRun ts (list_after entries base)) (sym (append-nil e.txs)) more))
  where
    map_more : (es : List Hinted) → unhinted (es ++ e ∷ []) ≡ unhinted es ++ e.txs ∷ []
    map_more [] = refl
    map_more (f ∷ es) = ap (λ r. f.txs ∷ r) (map_more es)

    all : (es : List Hinted) → flattened (unhinted (es ++ e ∷ [])) ≡ flattened (unhinted es) ++ (e.txs ++ [])
    all es = ap flattened (map_more es) ∙ flattened-append (unhinted es) (e.txs ∷ [])

-- what takes the newest one back runs
back_runs : (base : List PlainItem) (entries : List Hinted) (others : List ℕ) (newest : Standing) (older : List Standing) (back : List Transaction) → Sound base → Running base entries →
    newest.number < length entries → revoke_live entries newest.number ≡ Ok back → Running base (with_entry_more entries (Some newest.number) back)
back_runs base entries others newest older back sound runs below revoked =
    one_runs base entries (record { txs = back; takes_back = Some newest.number }) runs
    (revocation_runs true entries newest.number back base (record { within = below; sound = sound; runs = runs }) revoked)

-- the person's own are among the entries
abbrev Within : List Hinted → List Standing → Type 0
Within entries ss = Each (Below (length entries)) ss

owned_within : (entries : List Hinted) (others : List ℕ) (os : List Owned) → EachOwn (Below (length entries)) (Theirs (length entries) others) os → Within entries (owns os)
owned_within entries others [] h = tt
owned_within entries others (o ∷ os) h = (h.0, owned_within entries others os h.2)

step_runs : (base : List PlainItem) (step : Step) (s : Steps) → Sound base → AreFree s → Running base s.entries → StepRuns base s step → Running base (stepped step s).entries
step_runs base (Make ts) s sound f runs may = one_runs base s.entries (record { txs = ts; takes_back = None }) runs may
step_runs base (Other ts) s sound f runs may = one_runs base s.entries (record { txs = ts; takes_back = None }) runs may
step_runs base Back s sound f runs may =
    by_newest s.made (subst (Within s.entries) f.made_are (owned_within s.entries s.others f.made f.free.made_known))
  where
    by_newest : (made : List Standing) → Within s.entries made → Running base (back_from made s).entries
    by_newest [] h = runs
    by_newest (newest ∷ older) h = by_result (revoke_live s.entries newest.number) refl
      where
        by_result : (r : Result (List Transaction) RevokeCause) → revoke_live s.entries newest.number ≡ r → Running base (back_by r newest older s).entries
        by_result (Err cause) d = runs
        by_result (Ok back) d = back_runs base s.entries s.others newest older back sound runs h.0 d
step_runs base Again s sound f runs may =
    by_newest s.taken (subst (Within s.entries) f.taken_are (owned_within s.entries s.others f.taken f.free.taken_known))
  where
    by_newest : (taken : List Standing) → Within s.entries taken → Running base (again_from taken s).entries
    by_newest [] h = runs
    by_newest (newest ∷ older) h = by_result (revoke_live s.entries newest.number) refl
      where
        by_result : (r : Result (List Transaction) RevokeCause) → revoke_live s.entries newest.number ≡ r → Running base (again_by r newest older s).entries
        by_result (Err cause) d = runs
        by_result (Ok back) d = back_runs base s.entries s.others newest older back sound runs h.0 d

all_run : (base : List PlainItem) (steps : List Step) (s : Steps) → Sound base → AreFree s → Running base s.entries → AllStepsRun base s steps → Running base (all_stepped steps s).entries
all_run base [] s sound f runs may = runs
all_run base (step ∷ steps) s sound f runs may =
    all_run base steps (stepped step s) sound (step_free step s f) (step_runs base step s sound f runs may.0) may.1

pub steps_run : StepsRun
steps_run first steps base sound runs may = all_run base steps (at_first first) sound (first_free first) runs may

gives_back : (base : List PlainItem) (entries : List Hinted) (ss : List Standing) → Sound base → Running base entries → Within entries ss → OthersCountBehind entries [] ss →
    NewestGivesBack base entries ss
gives_back base entries [] sound runs w h = tt
gives_back base entries (newest ∷ older) sound runs w h =
    nothing_stands_above entries newest.number base (record { within = w.0; sound = sound; runs = runs }) (h.counts ∙ ap (λ ss. Ok ss) (none h.standing h.theirs))
  where
    none : (ss : List Standing) → AllByRecursion (λ (s : Standing). false ≡ true) ss → ss ≡ []
    none [] h = refl
    none (s ∷ ss) h = (let no : false ≡ true = h.0 in cc)

pub own_steps_give_back : OwnStepsGiveBack
own_steps_give_back first steps base sound runs may alone =
    let s = all_stepped steps (at_first first) in
    let f = steps_free steps (at_first first) (first_free first) in
    let count = own_steps_are_free first steps in
    let all = steps_run first steps base sound runs may in (
      gives_back base s.entries s.made sound all (subst (Within s.entries) f.made_are (owned_within s.entries s.others f.made f.free.made_known))
          (subst (λ o. OthersCountBehind s.entries o s.made) alone count.0),
      gives_back base s.entries s.taken sound all (subst (Within s.entries) f.taken_are (owned_within s.entries s.others f.taken f.free.taken_known))
          (subst (λ o. OthersCountBehind s.entries o s.taken) alone count.1),
    )
