-- A batch is all of its changes in turn, or it stops at the first that is refused.
use Rattle.std.proofs.Common.{◌≡◌, ℕ, suc, ◌+◌, List, [], ◌∷◌, take, slice_get, Some, Result, Ok, Err, refl, ap, ◌∙◌, subst, arith}
use Rattle.model_change.specs.Transaction.{Transaction}
use Rattle.model_site.specs.Replica.{Replica, performed, all_performed}
use Rattle.model_world.specs.declared.edit_command.EditCommand.{EditCommand}
use Rattle.model_world.specs.declared.refusal.Refusal.{Refusal}
use Rattle.model_world.specs.Edits.{BatchRefusal, change_on, batch_from}
use Rattle.model_world.specs.Laws.{MadeInTurn, BatchIsWhole, WholeIsBatch, BatchStopsAtFirst}

abbrev Batch : Type 0
Batch = Result (List Transaction) BatchRefusal

-- one more change before the rest of a batch
abbrev with_rest : Transaction → Batch → Batch
with_rest t rest = elim rest as (λ _. Batch) [ Err refused ↦ Err refused | Ok ts ↦ Ok (t ∷ ts) ]

abbrev with_first : ℕ → Replica → List EditCommand → Result Transaction Refusal → Batch
with_first i r cs first = elim first as (λ _. Batch) [
  | Err refusal ↦ Err (record { at = i; refusal = refusal })
  | Ok t ↦ with_rest t (batch_from (suc i) cs (performed t r))
]

made_in_turn : (cs : List EditCommand) (i : ℕ) (r : Replica) (ts : List Transaction) → batch_from i cs r ≡ Ok ts → MadeInTurn cs ts r
made_in_turn [] i r ts h = let e : ◌≡◌ {A = List Transaction} [] ts = cc in subst (λ us. MadeInTurn [] us r) e tt
made_in_turn (c ∷ cs) i r ts h = by_first (made_in_turn cs (suc i)) (change_on r c) refl h
  where
    by_first : ((s : Replica) (us : List Transaction) → batch_from (suc i) cs s ≡ Ok us → MadeInTurn cs us s) → (first : Result Transaction Refusal) → change_on r c ≡ first →
        with_first i r cs first ≡ Ok ts → MadeInTurn (c ∷ cs) ts r
    by_first rest_made (Err f) e h = cc
    by_first rest_made (Ok t) e h = by_rest (batch_from (suc i) cs (performed t r)) refl h
      where
        by_rest : (rest : Batch) → batch_from (suc i) cs (performed t r) ≡ rest → with_rest t rest ≡ Ok ts → MadeInTurn (c ∷ cs) ts r
        by_rest (Err f) d h = cc
        by_rest (Ok us) d h = let same : t ∷ us ≡ ts = cc in subst (λ vs. MadeInTurn (c ∷ cs) vs r) same (e, rest_made (performed t r) us d)

pub batch_is_whole : BatchIsWhole
batch_is_whole r cmds ts h = made_in_turn cmds 0 r ts h

whole_from : (cs : List EditCommand) (ts : List Transaction) (i : ℕ) (r : Replica) → MadeInTurn cs ts r → batch_from i cs r ≡ Ok ts
whole_from [] [] i r m = refl
whole_from [] (t ∷ ts) i r m = absurd m
whole_from (c ∷ cs) [] i r m = absurd m
whole_from (c ∷ cs) (t ∷ ts) i r m = ap (with_first i r cs) m.0 ∙ ap (with_rest t) (whole_from cs ts (suc i) (performed t r) m.1)

pub whole_is_batch : WholeIsBatch
whole_is_batch r cmds ts m = whole_from cmds ts 0 r m

-- counted from the position i on
pub record StopsFrom (i : ℕ) (r : Replica) (cmds : List EditCommand) (f : BatchRefusal) : Type 0 where
  pub past : ℕ
  pub place : f.at ≡ i + past
  pub made : List Transaction
  pub in_turn : MadeInTurn (take past cmds) made r
  pub change : EditCommand
  pub there : slice_get cmds past ≡ Some change
  pub refused : change_on (all_performed made r) change ≡ Err f.refusal

stops_from : (cs : List EditCommand) (i : ℕ) (r : Replica) (f : BatchRefusal) → batch_from i cs r ≡ Err f → StopsFrom i r cs f
stops_from [] i r f h = cc
stops_from (c ∷ cs) i r f h = by_first (stops_from cs (suc i)) (change_on r c) refl h
  where
    by_first : ((s : Replica) (g : BatchRefusal) → batch_from (suc i) cs s ≡ Err g → StopsFrom (suc i) s cs g) → (first : Result Transaction Refusal) → change_on r c ≡ first →
        with_first i r cs first ≡ Err f → StopsFrom i r (c ∷ cs) f
    by_first rest_stops (Err refusal) e h =
        let here : BatchRefusal = record { at = i; refusal = refusal } in
        let same : here ≡ f = cc in
        subst (StopsFrom i r (c ∷ cs)) same (record { past = 0; place = omega arith; made = []; in_turn = tt; change = c; there = refl; refused = e })
    by_first rest_stops (Ok t) e h = by_rest (batch_from (suc i) cs (performed t r)) refl h
      where
        by_rest : (rest : Batch) → batch_from (suc i) cs (performed t r) ≡ rest → with_rest t rest ≡ Err f → StopsFrom i r (c ∷ cs) f
        by_rest (Ok us) d h = cc
        by_rest (Err g) d h =
            let same : g ≡ f = cc in
            let s = rest_stops (performed t r) g d in
            let place = s.place in
            subst (StopsFrom i r (c ∷ cs)) same (record {
              past = suc s.past;
              place = omega arith;
              made = t ∷ s.made;
              in_turn = (e, s.in_turn);
              change = s.change;
              there = s.there;
              refused = s.refused;
            })

pub batch_stops_at_first : BatchStopsAtFirst
batch_stops_at_first r cmds f h =
    let s = stops_from cmds 0 r f h in
    let place = s.place in
    let past : s.past ≡ f.at = omega arith in
    record {
      made = s.made;
      in_turn = subst (λ n. MadeInTurn (take n cmds) s.made r) past s.in_turn;
      change = s.change;
      there = subst (λ n. slice_get cmds n ≡ Some s.change) past s.there;
      refused = s.refused;
    }
