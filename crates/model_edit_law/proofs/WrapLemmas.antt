-- The transaction of a wrap is in normal form, and applies.
use Rattle.std.specs.Prelude.{slice_get, flat_map}
use Rattle.std.specs.List.{range_with_len, list_any}
use Rattle.std.proofs.Common.{◌≡◌, inl, inr, ℕ, zero, suc, ◌+◌, ◌-◌, ◌<◌, ◌≤◌, Bool, true, false, not, ◌==◌, if◌then◌else◌, nat_lt, nat_le, List, [], ◌∷◌, ◌++◌, length, take, drop, Option, Some, None, Result, Ok, Err, refl, sym, ap, ◌∙◌, subst, arith, length-append, length-drop}
use Rattle.std.proofs.lemmas.Bool.{or_parts, and_parts, ltb-false, ltb-true, leb-true, eqb-true, not-true}
use Rattle.std.proofs.lemmas.List.{take-append-drop, length-take-le}
use Rattle.ve_kinds.specs.declared.kind.Kind.{Kind}
use Rattle.model_items.specs.declared.plain_item.PlainItem.{PlainItem}
use Rattle.model_items.specs.declared.plain_item.PlainItem.TheVariants.{Char, Opening, Closing}
use Rattle.model_items.specs.Law.{Lawful}
use Rattle.model_items.proofs.LawLemmas.{Ok-same}
use Rattle.model_items.specs.Tree.{Open, length_to_close}
use Rattle.model_edit.specs.Causes.{BuildCause}
use Rattle.model_edit.specs.Brackets.{is_opening_of}
use Rattle.model_items.specs.Offsets.{partner, end_of_node, siblings, is_unmatched, places_in, passes}
use Rattle.model_edit_law.specs.Fine.{Fine}
use Rattle.model_edit.specs.Edits.{Edit, Change, transaction_of}
use Rattle.model_edit_law.proofs.OrderLemmas.{Rising, Fine-Rising, Rising-within, Rising-append}
use Rattle.model_edit_law.proofs.BracketLemmas.{node_parts, partner-opening}
use Rattle.model_edit.specs.declared.wrap_plan.Shape.{Shape}
use Rattle.model_edit.specs.declared.wrap_plan.WrapPlan.{WrapPlan}
use Rattle.model_change.specs.Transaction.{Transaction}
use Rattle.model_edit.specs.Wrap.{wrap, is_whole_nodes, is_bad_wrap, Claim, opening_claims, closing_claims, node_claims, first_wrong, nodes_in, wrong_place, closings_of, node_edits, wrap_edits, wrapped_unless}
use Rattle.model_edit_law.specs.ShapeLaws.{WrapIsFine}

if_ok_else : {A E : Type 0} (b : Bool) (e : E) (r : Result A E) (t : A) → (if b then Err e else r) ≡ Ok t → (b ≡ false) × (r ≡ Ok t)
if_ok_else true e r t h = cc
if_ok_else false e r t h = (refl, h)

one_holds : (at : ℕ) (b : Bool) (claims : List Claim) → first_wrong ((at, b) ∷ claims) ≡ None → (b ≡ true) × (first_wrong claims ≡ None)
one_holds at true claims h = (refl, h)
one_holds at false claims h = cc

both_hold : (xs ys : List Claim) → first_wrong (xs ++ ys) ≡ None → (first_wrong xs ≡ None) × (first_wrong ys ≡ None)
both_hold [] ys h = (refl, h)
both_hold ((at, true) ∷ xs) ys h = both_hold xs ys h
both_hold ((at, false) ∷ xs) ys h = cc

-- the partner of an opening stands after it, in the list
abbrev Ahead : List PlainItem → ℕ → Type 0
Ahead items n = (suc n ≤ partner items n) × (suc (partner items n) ≤ length items)

ahead : (items : List PlainItem) (n : ℕ) (kind : Kind) (o : Option PlainItem) → Lawful items → slice_get items n ≡ o → passes (is_opening_of kind) o ≡ true → Ahead items n
ahead items n kind None lawful e h = cc
ahead items n kind (Some (Char c marks)) lawful e h = cc
ahead items n kind (Some (Closing k pre)) lawful e h = cc
ahead items n kind (Some (Opening k head marks pre origin generated)) lawful e h =
    let p = node_parts items n k head marks pre origin generated lawful e in
    let far = p.its_partner in
    let within = p.within in
    (omega arith, omega arith)

first_ahead : (items : List PlainItem) (at : ℕ) (kind : Kind) (kinds : List Kind) → Lawful items → first_wrong (opening_claims items at (kind ∷ kinds)) ≡ None → Ahead items at
first_ahead items at kind kinds lawful h =
    ahead items at kind (slice_get items at) lawful refl (one_holds at _ (opening_claims items (suc at) kinds) h).0

last_ahead : (items : List PlainItem) (at n : ℕ) (kind : Kind) (kinds : List Kind) → Lawful items → n ≡ at + length kinds → first_wrong (opening_claims items at (kind ∷ kinds)) ≡ None → Ahead items n
last_ahead items at n kind [] lawful e h = let z : at ≡ n = omega arith in subst (Ahead items) z (first_ahead items at kind [] lawful h)
last_ahead items at n kind (next ∷ kinds) lawful e h =
    last_ahead items (suc at) n next kinds lawful (omega arith) (one_holds at _ (opening_claims items (suc at) (next ∷ kinds)) h).1

-- the last closing is that of the first opening
last_partner : (items : List PlainItem) (first c at : ℕ) → first_wrong (closing_claims items first (suc c) at) ≡ None → partner items first ≡ at + c
last_partner items first zero at h =
    let e = eqb-true (partner items (first + 0)) at (one_holds at (partner items (first + 0) == at) (closing_claims items first 0 (suc at)) h).0 in
    let z : first + 0 ≡ first = omega arith in
    let q = ap (partner items) z in omega arith
last_partner items first (suc c) at h =
    let r = last_partner items first c (suc at) (one_holds at (partner items (first + suc c) == at) (closing_claims items first (suc c) (suc at)) h).1 in omega arith

-- a node whose first items open, and whose last items close them, has room for both
node_room : (items : List PlainItem) (kinds : List Kind) (at : ℕ) → Lawful items → at < end_of_node items at → first_wrong (node_claims items kinds at) ≡ None →
    (at + length kinds ≤ end_of_node items at - length kinds) × (end_of_node items at - length kinds + length kinds ≡ end_of_node items at)
node_room items [] at lawful low h = (omega arith, omega arith)
node_room items (kind ∷ kinds) at lawful low h =
    let p = both_hold (opening_claims items at (kind ∷ kinds)) _ h in
    let a = last_ahead items at (at + length kinds) kind kinds lawful refl p.0 in
    let end = end_of_node items at - suc (length kinds) in
    let e = eqb-true (partner items (at + length kinds)) end (one_holds end (partner items (at + length kinds) == end) (closing_claims items at (length kinds) (suc end)) p.1).0 in
    room (partner items at) (partner items (at + length kinds)) a e
  where
    room : (far near : ℕ) → Ahead items (at + length kinds) → partner items (at + length kinds) ≡ suc (partner items at) - suc (length kinds) →
        (at + suc (length kinds) ≤ suc (partner items at) - suc (length kinds)) × (suc (partner items at) - suc (length kinds) + suc (length kinds) ≡ suc (partner items at))
    room far near a e = let b = a.0 in (omega arith, omega arith)

-- a test that holds nowhere in a range
none_at : (test : ℕ → Bool) (from count n : ℕ) → list_any test (range_with_len from count) ≡ false → from ≤ n → n < from + count → test n ≡ false
none_at test from zero n h low high = absurd (omega arith)
none_at test from (suc count) n h low high =
    let p = or_parts (test from) _ h in
    elim (Rattle.std.proofs.lemmas.Bool.cases_eq from n) [
      | inl here ↦ subst (λ k. test k ≡ false) here p.0
      | inr other ↦ none_at test (from + 1) count n p.1 (omega arith) (omega arith)
    ]

snoc-append : (done : List PlainItem) (x : PlainItem) (items : List PlainItem) → (done ++ x ∷ []) ++ items ≡ done ++ x ∷ items
snoc-append [] x items = refl
snoc-append (y ∷ done) x items = ap (λ v. y ∷ v) (snoc-append done x items)

module _ (whole rest : List PlainItem) (from to : ℕ) (kinds : List Kind) (shapes : List Shape) (lawful : Lawful whole)
    (matched : list_any (is_unmatched whole from to) (range_with_len from (to - from)) ≡ false) where
  abbrev edits_of : Open → List Edit
  edits_of node = node_edits node.from (end_of_node whole node.from) (length kinds) shapes

  abbrev claims_of : Open → List Claim
  claims_of node = node_claims whole kinds node.from

  -- where the node that is open ends, and else where the walk is
  abbrev low_end : ℕ → ℕ → List PlainItem → ℕ
  low_end zero at items = at
  low_end (suc d) at items = at + length_to_close d (items ++ rest)

  ends_in : (n : ℕ) → from ≤ n → n < to → suc (partner whole n) ≤ to
  ends_in n low high =
      let e = none_at (is_unmatched whole from to) from (to - from) n matched low (omega arith) in
      let p = and_parts (nat_le from (partner whole n)) (nat_lt (partner whole n) to) (Rattle.std.proofs.lemmas.Bool.not-false _ e) in
      let l = ltb-true (partner whole n) to p.1 in
      omega arith

  nodes_rise : (items done : List PlainItem) (depth at : ℕ) → whole ≡ done ++ (items ++ rest) → at ≡ length done → to ≡ at + length items → from ≤ at →
      low_end depth at items ≤ to → first_wrong (flat_map claims_of (siblings depth at items)) ≡ None →
      Rising (low_end depth at items) to (flat_map edits_of (siblings depth at items))
  nodes_rise [] done depth at parts here ends low fits h = fits
  nodes_rise (Char c marks ∷ items) done zero at parts here ends low fits h =
      Rising-within (suc at) at to to _ (omega arith) (omega arith)
      (nodes_rise items (done ++ Char c marks ∷ []) zero (suc at) (parts ∙ sym (snoc-append done (Char c marks) (items ++ rest))) (omega (arith, length-append done (Char c marks ∷ []))) (omega arith) (omega arith) (omega arith) h)
  nodes_rise (Char c marks ∷ items) done (suc d) at parts here ends low fits h =
      Rising-within (suc at + length_to_close d (items ++ rest)) _ to to _ (omega arith) (omega arith)
      (nodes_rise items (done ++ Char c marks ∷ []) (suc d) (suc at) (parts ∙ sym (snoc-append done (Char c marks) (items ++ rest))) (omega (arith, length-append done (Char c marks ∷ []))) (omega arith) (omega arith) (omega arith) h)
  nodes_rise (Opening kind head marks pre origin generated ∷ items) done (suc d) at parts here ends low fits h =
      let x = Opening kind head marks pre origin generated in
      Rising-within (suc at + length_to_close (suc d) (items ++ rest)) _ to to _ (omega arith) (omega arith)
      (nodes_rise items (done ++ x ∷ []) (suc (suc d)) (suc at) (parts ∙ sym (snoc-append done x (items ++ rest))) (omega (arith, length-append done (x ∷ []))) (omega arith) (omega arith) (omega arith) h)
  nodes_rise (Opening kind head marks pre origin generated ∷ items) done zero at parts here ends low fits h =
      let x = Opening kind head marks pre origin generated in
      let node : Open = record { kind = kind; from = at } in
      let far : partner whole at ≡ length done + length_to_close 0 (items ++ rest) =
      (λ i. partner (parts i) (here i)) ∙ partner-opening done kind head marks pre origin generated (items ++ rest) in
      let inside = ends_in at low (omega arith) in
      let c = both_hold (claims_of node) (flat_map claims_of (siblings 1 (suc at) items)) h in
      let r = node_room whole kinds at lawful (omega arith) c.0 in
      let r0 = r.0 in
      let r1 = r.1 in
      Rising-append at (suc (partner whole at)) to (edits_of node) (flat_map edits_of (siblings 1 (suc at) items))
      (omega arith, (r0, omega arith))
      (Rising-within (suc at + length_to_close 0 (items ++ rest)) _ to to _ (omega arith) (omega arith)
      (nodes_rise items (done ++ x ∷ []) 1 (suc at) (parts ∙ sym (snoc-append done x (items ++ rest))) (omega (arith, length-append done (x ∷ []))) (omega arith) (omega arith) (omega arith) c.1))
  nodes_rise (Closing kind pre ∷ items) done zero at parts here ends low fits h = fits
  nodes_rise (Closing kind pre ∷ items) done (suc zero) at parts here ends low fits h =
      let x = Closing kind pre in
      Rising-within (suc at) _ to to _ (omega arith) (omega arith)
      (nodes_rise items (done ++ x ∷ []) zero (suc at) (parts ∙ sym (snoc-append done x (items ++ rest))) (omega (arith, length-append done (x ∷ []))) (omega arith) (omega arith) (omega arith) h)
  nodes_rise (Closing kind pre ∷ items) done (suc (suc d)) at parts here ends low fits h =
      let x = Closing kind pre in
      Rising-within (suc at + length_to_close d (items ++ rest)) _ to to _ (omega arith) (omega arith)
      (nodes_rise items (done ++ x ∷ []) (suc d) (suc at) (parts ∙ sym (snoc-append done x (items ++ rest))) (omega (arith, length-append done (x ∷ []))) (omega arith) (omega arith) (omega arith) h)

-- the closings of the outer nodes are in the list
outer_fits : (items : List PlainItem) (kinds : List Kind) (first to : ℕ) → Lawful items → to ≤ length items → first_wrong (opening_claims items first kinds) ≡ None →
    first_wrong (closing_claims items first (length kinds) to) ≡ None → to + length kinds ≤ length items
outer_fits items [] first to lawful high o c = omega arith
outer_fits items (kind ∷ kinds) first to lawful high o c =
    fits (first_ahead items first kind kinds lawful o) (last_partner items first (length kinds) to c)
  where
    fits : Ahead items first → partner items first ≡ to + length kinds → to + suc (length kinds) ≤ length items
    fits a e = let b = a.1 in omega arith

-- a wrap that was not refused is edits in order
pub wrap_rises : (items : List PlainItem) (from to : ℕ) (plan : WrapPlan) (t : Transaction) → Lawful items → wrap items from to plan ≡ Ok t →
    Rising 0 (length items) (wrap_edits items from to plan) × (transaction_of items (wrap_edits items from to plan) ≡ t)
wrap_rises items from to plan t lawful h =
    let p = if_ok_else (is_bad_wrap items from to) _ _ t h in
    let bad = or_parts (not (is_whole_nodes items from to)) _ p.0 in
    let w = and_parts (nat_lt from to) _ (Rattle.std.proofs.lemmas.Bool.not-false _ bad.0) in
    let v = and_parts (nat_le to (length items)) _ w.1 in
    let m = not-true _ (and_parts (not (Rattle.ve_kinds.specs.Table.is_content_branch (Rattle.model_items.specs.Offsets.kind_at items from))) _ v.1).1 in
    let low = ltb-true from to w.0 in
    let high = leb-true to (length items) v.0 in
    by (wrong_place items from to plan.unwrap_outer plan.unwrap_each) refl p.1 low high m
  where
    by : (o : Option ℕ) → wrong_place items from to plan.unwrap_outer plan.unwrap_each ≡ o → wrapped_unless o (transaction_of items (wrap_edits items from to plan)) ≡ Ok t →
        from < to → to ≤ length items → list_any (is_unmatched items from to) (places_in from to) ≡ false →
        Rising 0 (length items) (wrap_edits items from to plan) × (transaction_of items (wrap_edits items from to plan) ≡ t)
    by (Some at) e g low high m = cc
    by None e g low high m = (placed (nat_lt from (length plan.unwrap_outer)) refl e, Ok-same {E = BuildCause} (transaction_of items (wrap_edits items from to plan)) t g)
      where
        placed : (b : Bool) → nat_lt from (length plan.unwrap_outer) ≡ b →
            (if b then Some 0 else first_wrong
            (opening_claims items (from - length plan.unwrap_outer) plan.unwrap_outer
            ++ (flat_map (λ (node : Open). node_claims items plan.unwrap_each node.from) (nodes_in items from to)
            ++ closing_claims items (from - length plan.unwrap_outer) (length plan.unwrap_outer) to))) ≡ None → Rising 0 (length items) (wrap_edits items from to plan)
        placed true b e = cc
        placed false b e =
            let room = ltb-false from (length plan.unwrap_outer) b in
            let first = from - length plan.unwrap_outer in
            let c1 = both_hold (opening_claims items first plan.unwrap_outer) _ e in
            let c2 = both_hold (flat_map (λ (node : Open). node_claims items plan.unwrap_each node.from) (nodes_in items from to)) _ c1.1 in
            let prefix = take from items in
            let range = take (to - from) (drop from items) in
            let rest = drop (to - from) (drop from items) in
            let parts : items ≡ prefix ++ (range ++ rest) = sym (take-append-drop from items) ∙ ap (λ y. prefix ++ y) (sym (take-append-drop (to - from) (drop from items))) in
            let lf : length prefix ≡ from = length-take-le from items (omega arith) in
            let lr : length range ≡ to - from = length-take-le (to - from) (drop from items) (omega (arith, length-drop from items)) in
            let nodes = nodes_rise items rest from to plan.unwrap_each plan.wrap_each lawful m range prefix 0 from parts (sym lf) (omega arith) (omega arith) (omega arith) c2.0 in
            let last = outer_fits items plan.unwrap_outer first to lawful high c1.0 c2.1 in (
              omega arith,
              Rising-within from (first + length plan.unwrap_outer) (length items) (length items) _ (omega arith) (omega arith)
                  (Rising-append from to (length items) (flat_map (λ (node : Open). node_edits node.from (end_of_node items node.from) (length plan.unwrap_each) plan.wrap_each) (nodes_in items from to))
                  (Change to (length plan.unwrap_outer) (closings_of plan.wrap_outer) ∷ []) nodes (omega arith, last)),
            )

pub wrap_fine : WrapIsFine
wrap_fine items from to plan t lawful h =
    let r = wrap_rises items from to plan t lawful h in
    subst (Fine items) r.1 (Fine-Rising items (wrap_edits items from to plan) r.0)
