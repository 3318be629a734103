-- The unmatched brackets of a range are those of the nodes that it closes and opens.
use Rattle.std.proofs.Common.{◌≡◌, ◌≤◌, ◌+◌, ◌-◌, ℕ, zero, suc, List, [], ◌∷◌, ◌++◌, length, take, drop, Ok, refl, sym, ap, ◌∙◌, subst, arith, drop-drop}
use Rattle.std.proofs.Math.Seq.{take-add}
use Rattle.std.proofs.lemmas.List.{take-map, take-append-drop, length-map, length-take-le}
use Rattle.ve_kinds.specs.Table.{is_content_branch}
use Rattle.model_items.specs.declared.item.Item.{Item}
use Rattle.model_items.specs.declared.item.Item.TheVariants.{Char, Opening, Closing}
use Rattle.model_items.specs.declared.law_fault.LawFault.{LawFault}
use Rattle.model_items.specs.Plain.{plain}
use Rattle.model_items.specs.Law.{State, start, finish, top, step, after, Lawful}
use Rattle.model_items.specs.Tree.{Open, opens_after}
use Rattle.model_items.proofs.LawLemmas.{if_ok, Ok-same, opened_before, closed_before, joined-ok, after_parts, after_from_Lawful}
use Rattle.model_items.proofs.NodeAtLemmas.{open_is_stack}
use Rattle.ve_offsets.proofs.UnmatchedLemmas.{closings_left, openings_left, opens_append, unmatched_is_left}
use Rattle.ve_tree.specs.IsTree.{unvalued}
use Rattle.model_items.specs.Offsets.{opens_at, unmatched_counts}
use Rattle.ve_offsets.specs.Unmatched.{unmatched_after, unmatched_in, AllBegin, UnmatchedAreOpen}

-- after some items, of the nodes that were open `closed` are closed, and the begun ones are open
record Went (items : List Item) (from at : ℕ) (base begun : List Open) (closed : ℕ) : Type 0 where
  now : List Open
  in_range : AllBegin from now
  openings : length now ≡ (unmatched_after (closed, length begun) items).1
  closings : (unmatched_after (closed, length begun) items).0 ≤ length base
  open_at_end : opens_after (begun ++ drop closed base) at (unvalued items) ≡ now ++ drop (unmatched_after (closed, length begun) items).0 base

went : (items : List Item) (s u : State) (from at : ℕ) (base begun : List Open) (closed : ℕ) → from ≤ at → AllBegin from begun → closed ≤ length base →
    length begun + (length base - closed) ≡ length s.stack → after s (unvalued items) ≡ Ok u → Went items from at base begun closed
went [] s u from at base begun closed le all room long h = record { now = begun; in_range = all; openings = refl; closings = room; open_at_end = refl }
went (Char ch marks ∷ items) s u from at base begun closed le all room long h =
    let p = joined-ok 1 (step s (plain [] (Char ch marks))) (λ next. after next (unvalued items)) u h in
    let same = Ok-same {E = LawFault} s p.0 (if_ok (is_content_branch (top s.stack)) _ _ p.0 p.1).1 in
    let w = went items p.0 u from (suc at) base begun closed (omega (arith, le)) all room (long ∙ ap (λ (t : State). length t.stack) same) p.2 in
    record { now = w.now; in_range = w.in_range; openings = w.openings; closings = w.closings; open_at_end = w.open_at_end }
went (Opening kind head marks pre origin generated ∷ items) s u from at base begun closed le all room long h =
    let p = joined-ok 1 (step s (plain [] (Opening kind head marks pre origin generated))) (λ next. after next (unvalued items)) u h in
    let deeper : suc (length s.stack) ≡ length p.0.stack = ap (λ l. length l) (opened_before s p.0 kind p.1).0 in
    let w = went items p.0 u from (suc at) base (record { kind = kind; from = at } ∷ begun) closed (omega (arith, le)) (le, all) room (omega (arith, long, deeper)) p.2 in
    record { now = w.now; in_range = w.in_range; openings = w.openings; closings = w.closings; open_at_end = w.open_at_end }
went (Closing kind pre ∷ items) s u from at base (x ∷ begun) closed le all room long h =
    let p = joined-ok 1 (step s (plain [] (Closing kind pre))) (λ next. after next (unvalued items)) u h in
    let shorter : length s.stack ≡ suc (length p.0.stack) = ap (λ l. length l) (closed_before s.stack s.seen kind p.0 p.1).0 in
    let w = went items p.0 u from (suc at) base begun closed (omega (arith, le)) all.1 room (omega (arith, long, shorter)) p.2 in
    record { now = w.now; in_range = w.in_range; openings = w.openings; closings = w.closings; open_at_end = w.open_at_end }
went (Closing kind pre ∷ items) s u from at base [] closed le all room long h =
    let p = joined-ok 1 (step s (plain [] (Closing kind pre))) (λ next. after next (unvalued items)) u h in
    let shorter : length s.stack ≡ suc (length p.0.stack) = ap (λ l. length l) (closed_before s.stack s.seen kind p.0 p.1).0 in
    let w = went items p.0 u from (suc at) base [] (suc closed) (omega (arith, le)) tt (omega (arith, long, shorter, room)) (omega (arith, long, shorter, room)) p.2 in
    let e : closed + 1 ≡ suc closed = omega arith in
    let next : drop 1 (drop closed base) ≡ drop (suc closed) base = drop-drop 1 closed base ∙ ap (λ n. drop n base) e in
    record {
      now = w.now;
      in_range = w.in_range;
      openings = w.openings;
      closings = w.closings;
      open_at_end = ap (λ opens. opens_after opens (suc at) (unvalued items)) next ∙ w.open_at_end;
    }

drop-map : (n : ℕ) (l : List Item) → drop n (unvalued l) ≡ unvalued (drop n l)
drop-map zero l = refl
drop-map (suc n) [] = refl
drop-map (suc n) (x ∷ l) = drop-map n l

-- the walk pairs the openings and closings that are left, with those before
counts_are_left : (items : List Item) (closings openings : ℕ) →
    unmatched_after (closings, openings) items ≡ (closings + (closings_left (unvalued items) - openings), (openings - closings_left (unvalued items)) + openings_left (unvalued items))
counts_are_left [] closings openings =
    let c : closings ≡ closings + (0 - openings) = omega arith in
    let o : openings ≡ (openings - 0) + 0 = omega arith in
    λ i. (c i, o i)
counts_are_left (Char ch marks ∷ items) closings openings = counts_are_left items closings openings
counts_are_left (Opening kind head marks pre origin generated ∷ items) closings openings =
    let k = closings_left (unvalued items) in
    let u = openings_left (unvalued items) in
    let c : closings + (k - suc openings) ≡ closings + ((k - 1) - openings) = omega arith in
    let o : (suc openings - k) + u ≡ (openings - (k - 1)) + ((1 - k) + u) = omega arith in
    counts_are_left items closings (suc openings) ∙ (λ i. (c i, o i))
counts_are_left (Closing kind pre ∷ items) closings zero =
    let k = closings_left (unvalued items) in
    let u = openings_left (unvalued items) in
    let c : suc closings + (k - 0) ≡ closings + (suc k - 0) = omega arith in
    let o : (0 - k) + u ≡ (0 - suc k) + u = omega arith in
    counts_are_left items (suc closings) 0 ∙ (λ i. (c i, o i))
counts_are_left (Closing kind pre ∷ items) closings (suc openings) =
    let k = closings_left (unvalued items) in
    let u = openings_left (unvalued items) in
    let c : closings + (k - openings) ≡ closings + (suc k - suc openings) = omega arith in
    let o : (openings - k) + u ≡ (suc openings - suc k) + u = omega arith in
    counts_are_left items closings openings ∙ (λ i. (c i, o i))

-- The walk over a range counts the brackets whose partners are not in it.
pub counts_are_unmatched : (items : List Item) (from to : ℕ) → Lawful (unvalued items) → from ≤ to → to ≤ length items → unmatched_in items from to ≡ unmatched_counts (unvalued items) from to
counts_are_unmatched items from to lawful order within =
    let all = unvalued items in
    let span = to - from in
    let part = take span (drop from items) in
    let is_part : unvalued part ≡ take span (drop from all) = sym (ap (take span) (drop-map from items) ∙ take-map (plain []) span (drop from items)) in
    let k = closings_left (take span (drop from all)) in
    let u = openings_left (take span (drop from all)) in
    let c : 0 + (k - 0) ≡ k = omega arith in
    let o : (0 - k) + u ≡ u = omega arith in
    counts_are_left part 0 0
    ∙ ap (λ l. (0 + (closings_left l - 0), (0 - closings_left l) + openings_left l)) is_part
    ∙ (λ i. (c i, o i))
    ∙ sym (unmatched_is_left all from to lawful order (omega (arith, within, length-map items (plain []))))

pub unmatched_are_open : UnmatchedAreOpen
unmatched_are_open items from to lawful order within =
    let all = unvalued items in
    let span = to - from in
    let part = take span (drop from items) in
    let long = length-map items (plain []) in
    let halves = after_parts (take from all) (drop from all) start finish (ap (after start) (take-append-drop from all) ∙ after_from_Lawful all lawful) in
    let thirds = after_parts (take span (drop from all)) (drop span (drop from all)) halves.0 finish (ap (after halves.0) (take-append-drop span (drop from all)) ∙ halves.2) in
    let is_part : take span (drop from all) ≡ unvalued part = ap (take span) (drop-map from items) ∙ take-map (plain []) span (drop from items) in
    let base = opens_at all from in
    let deep : length base ≡ length halves.0.stack = sym (length-map base (λ (o : Open). o.kind)) ∙ ap (λ l. length l) (open_is_stack (take from all) halves.0 halves.1) in
    let w = went part halves.0 thirds.0 from from base [] 0 (omega arith) tt (omega arith) (omega (arith, deep)) (ap (after halves.0) (sym is_part) ∙ thirds.1) in
    let whole : to ≡ from + span = omega (arith, order) in
    let at : 0 + length (take from all) ≡ from = omega (arith, length-take-le from all (omega (arith, long, order, within))) in
    let counts = counts_are_unmatched items from to lawful order within in
    record {
      begun = w.now;
      in_range = w.in_range;
      openings = w.openings ∙ ap (λ (n : ℕ × ℕ). n.1) counts;
      closings = subst (λ (n : ℕ × ℕ). n.0 ≤ length base) counts w.closings;
      open_at_end =
          ap (λ n. opens_after [] 0 (take n all)) whole
          ∙ ap (opens_after [] 0) (take-add from span all)
          ∙ opens_append [] 0 (take from all) (take span (drop from all))
          ∙ (λ i. opens_after base (at i) (is_part i))
          ∙ w.open_at_end
          ∙ ap (λ (n : ℕ × ℕ). w.now ++ drop n.0 base) counts;
    }
