-- What a site's history leaves of the list that was opened, at its beginning and at its end.
use Rattle.std.proofs.Common.{◌≡◌, ◌≤◌, ◌+◌, ◌-◌, ℕ, zero, suc, Bool, true, false, List, [], ◌∷◌, ◌++◌, length, map, take, drop, All, refl, sym, ap, ◌∙◌, subst, arith, eqb-true}
use Rattle.std.specs.Prelude.{◌==◌}
use Rattle.std.proofs.lemmas.List.Elements.{All-drop, All-head, All-tail, All-take}
use Rattle.std.proofs.lemmas.List.{append_assoc, drop_at, drop-drop, drop-map, length-append, length-drop, length-map, length-take-le, take-append-le, take-map, take-take}
use Rattle.ve_base.specs.declared.value.Value.{Value}
use Rattle.model_items.specs.declared.item.Item.{Item}
use Rattle.model_items.specs.declared.plain_item.PlainItem.{PlainItem}
use Rattle.model_items.specs.Plain.{plain, plain_list, AreDistinct, CitesWell, PlainTellsApart}
use Rattle.model_change.specs.Fault.{Applies}
use Rattle.model_change.specs.Join.{end_of, start_of, OnlyActiveChanges}
use Rattle.model_change.specs.Replay.{replay, AllRun}
use Rattle.model_change.specs.Transaction.{Transaction, edited, is_reduced, old_length}
use Rattle.ve_site.specs.Ends.{LeaveEnds, LeavesEnds}
use Rattle.ve_site.specs.declared.ends.Ends.{Ends}
use Rattle.ve_session.specs.Ends.{AgreeAtEnds}

-- ---- one transaction

length_by : (t : Transaction) (items : List PlainItem) (b : Bool) → (old_length t == length items) ≡ b → Applies t items → old_length t ≡ length items
length_by t items true e applies = eqb-true (old_length t) (length items) e
length_by t items false e applies = absurd (cc)

length_of : (t : Transaction) (items : List PlainItem) → Applies t items → old_length t ≡ length items
length_of t items applies = length_by t items (old_length t == length items) refl applies

-- what stands round a piece is what stood round another
round : (e : Ends) (items piece : List PlainItem) (f g : ℕ) → e.prefix ≤ f → f ≤ g → g + e.suffix ≤ length items →
    AgreeAtEnds e items (take f items ++ (piece ++ drop g items))
round e items piece f g before order after =
    let n : length (take f items) ≡ f = length-take-le f items (omega arith) in
    let rest : length (drop g items) ≡ length items - g = length-drop g items in
    let whole : take f items ++ (piece ++ drop g items) ≡ (take f items ++ piece) ++ drop g items = sym (append_assoc (take f items) piece (drop g items)) in
    let lead : length (take f items ++ piece) ≡ f + length piece = length-append (take f items) piece ∙ ap (λ k. k + length piece) n in
    let long : length (take f items ++ (piece ++ drop g items)) ≡ f + length piece + (length items - g) =
    ap length whole ∙ length-append (take f items ++ piece) (drop g items) ∙ ap (λ k. k + length (drop g items)) lead ∙ ap (λ k. f + length piece + k) rest in
    let here : length (take f items ++ (piece ++ drop g items)) - e.suffix ≡ (f + length piece) + (length items - e.suffix - g) = omega (arith, long) in
    let there : g + (length items - e.suffix - g) ≡ length items - e.suffix = omega arith in
    record {
      prefix_there = omega arith;
      prefix_here = omega (arith, long);
      prefix = take-append-le e.prefix (take f items) (piece ++ drop g items) (omega (arith, n)) ∙ take-take e.prefix f items before;
      suffix_there = omega arith;
      suffix_here = omega (arith, long);
      suffix =
          ap (λ k. drop k (take f items ++ (piece ++ drop g items))) here
          ∙ (ap (drop ((f + length piece) + (length items - e.suffix - g))) whole
          ∙ (sym (drop-drop (length items - e.suffix - g) (f + length piece) ((take f items ++ piece) ++ drop g items))
          ∙ (ap (drop (length items - e.suffix - g)) (drop_at (take f items ++ piece) (drop g items) (f + length piece) lead)
          ∙ (drop-drop (length items - e.suffix - g) g items
          ∙ ap (λ k. drop k items) there))));
    }

-- an active range ends after it begins
in_order : (t : Transaction) → start_of t ≤ end_of t
in_order t = omega arith

one_leaves : OnlyActiveChanges → (e : Ends) (t : Transaction) (items : List PlainItem) → is_reduced t ≡ true → Applies t items → LeavesEnds e t → AgreeAtEnds e items (edited t items)
one_leaves law e t items reduced applies leaves =
    let all = length_of t items applies in
    let p = law t items reduced applies in
    subst (AgreeAtEnds e items) (sym p.1)
    (round e items p.0 (start_of t) (end_of t) leaves.0 (in_order t) (subst (λ n. end_of t + e.suffix ≤ n) all leaves.1))

-- ---- one after the other

over_two : {A : Type 0} (e : Ends) (xs ys zs : List A) → AgreeAtEnds e xs ys → AgreeAtEnds e ys zs → AgreeAtEnds e xs zs
over_two e xs ys zs a b = record {
  prefix_there = a.prefix_there;
  prefix_here = b.prefix_here;
  prefix = b.prefix ∙ a.prefix;
  suffix_there = a.suffix_there;
  suffix_here = b.suffix_here;
  suffix = b.suffix ∙ a.suffix;
}

pub all_leave : OnlyActiveChanges → (e : Ends) (ts : List Transaction) (items : List PlainItem) → e.prefix ≤ length items → e.suffix ≤ length items →
    AllRun ts items → LeaveEnds e ts → AgreeAtEnds e items (replay ts items)
all_leave law e [] items p q runs leave = record { prefix_there = p; prefix_here = p; prefix = refl; suffix_there = q; suffix_here = q; suffix = refl }
all_leave law e (t ∷ ts) items p q runs leave =
    let one = one_leaves law e t items runs.0.reduced runs.0.applies (All-head (LeavesEnds e) t ts leave) in
    over_two e items (edited t items) (replay ts (edited t items)) one
    (all_leave law e ts (edited t items) one.prefix_here one.suffix_here runs.1 (All-tail (LeavesEnds e) t ts leave))

-- ---- of items that cite, over distinct values

lists_apart : PlainTellsApart → (values : List Value) (xs ys : List Item) → AreDistinct values → All (CitesWell values) xs → All (CitesWell values) ys →
    plain_list values xs ≡ plain_list values ys → xs ≡ ys
lists_apart law values [] [] d h k e = refl
lists_apart law values (x ∷ xs) (y ∷ ys) d h k e =
    let head : plain values x ≡ plain values y = cc in
    let tail : plain_list values xs ≡ plain_list values ys = cc in
    let a = law values x y d (All-head (CitesWell values) x xs h) (All-head (CitesWell values) y ys k) head in
    let b = lists_apart law values xs ys d (All-tail (CitesWell values) x xs h) (All-tail (CitesWell values) y ys k) tail in
    ap (λ z. z ∷ xs) a ∙ ap (λ zs. y ∷ zs) b
lists_apart law values [] (y ∷ ys) d h k e = absurd (cc)
lists_apart law values (x ∷ xs) [] d h k e = absurd (cc)

pub agree_cited : PlainTellsApart → (values : List Value) (e : Ends) (first now : List Item) → AreDistinct values → All (CitesWell values) first → All (CitesWell values) now →
    AgreeAtEnds e (plain_list values first) (plain_list values now) → AgreeAtEnds e first now
agree_cited law values e first now d h k a =
    let m : length (plain_list values first) ≡ length first = length-map first (plain values) in
    let n : length (plain_list values now) ≡ length now = length-map now (plain values) in
    let p = e.prefix in
    let q = e.suffix in
    record {
      prefix_there = subst (λ x. p ≤ x) m a.prefix_there;
      prefix_here = subst (λ x. p ≤ x) n a.prefix_here;
      prefix = lists_apart law values (take p now) (take p first) d (All-take (CitesWell values) p now k) (All-take (CitesWell values) p first h)
          (sym (take-map (plain values) p now) ∙ a.prefix ∙ take-map (plain values) p first);
      suffix_there = subst (λ x. q ≤ x) m a.suffix_there;
      suffix_here = subst (λ x. q ≤ x) n a.suffix_here;
      suffix = lists_apart law values (drop (length now - q) now) (drop (length first - q) first) d (All-drop (CitesWell values) (length now - q) now k)
          (All-drop (CitesWell values) (length first - q) first h)
          (sym (drop-map (plain values) (length now - q) now)
          ∙ ap (λ x. drop (x - q) (plain_list values now)) (sym n)
          ∙ a.suffix
          ∙ ap (λ x. drop (x - q) (plain_list values first)) m
          ∙ drop-map (plain values) (length first - q) first);
    }
