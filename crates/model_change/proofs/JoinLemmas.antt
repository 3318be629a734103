-- Two transactions side by side, joined.
use Rattle.std.proofs.Common.{◌≡◌, ℕ, zero, suc, ◌+◌, ◌-◌, ◌≤◌, true, List, [], ◌∷◌, ◌++◌, length, take, drop, refl, sym, ap, ◌∙◌, subst, arith, take-append-drop, append_assoc, zero-add}
use Rattle.std.proofs.lemmas.List.{take_at, drop_at, take-append-le, drop-append-le, append_cancel_right, length-take-le, length-drop, length-append, drop-drop}
use Rattle.model_items.specs.declared.plain_item.PlainItem.{PlainItem}
use Rattle.model_change.specs.Attributes.{item_changed, PutsBack}
use Rattle.model_change.specs.Transaction.{Retain, Replace, Attribute, Transaction, old_length, new_length, on_first, edited, is_reduced}
use Rattle.model_change.specs.Fault.{first_allows, Applies}
use Rattle.model_change.specs.Inverse.{FirstPutsBack, IsRestorable}
use Rattle.model_change.specs.Join.{first, end_retain, without_end, last, core, reach, end_of, retained, with_ends, moved_on, with_new_end, Agree}
use Rattle.model_change.proofs.Fits.{Fits, parts_of_Applies, Applies_from, length-edited}
use Rattle.model_change.proofs.InverseLemmas.{reduced_parts}

-- a transaction is its middle between two retains

pub end_split : (ops : Transaction) → is_reduced ops ≡ true → without_end ops ++ retained (end_retain ops) ≡ ops
end_split [] h = refl
end_split (Retain zero ∷ []) h = absurd (let e = (reduced_parts (Retain zero) [] h).0 in cc)
end_split (Retain (suc n) ∷ []) h = refl
end_split (Retain n ∷ (op ∷ ops)) h = ap (λ rest. Retain n ∷ rest) (end_split (op ∷ ops) (reduced_parts (Retain n) (op ∷ ops) h).2)
end_split (Replace removed inserted ∷ ops) h = ap (λ rest. Replace removed inserted ∷ rest) (end_split ops (reduced_parts (Replace removed inserted) ops h).2)
end_split (Attribute c ∷ ops) h = ap (λ rest. Attribute c ∷ rest) (end_split ops (reduced_parts (Attribute c) ops h).2)

pub ends_split : (t : Transaction) → is_reduced t ≡ true → with_ends (first t) (core t) (last t) ≡ t
ends_split [] h = refl
ends_split (Retain zero ∷ ops) h = absurd (let e = (reduced_parts (Retain zero) ops h).0 in cc)
ends_split (Retain (suc n) ∷ ops) h = ap (λ rest. Retain (suc n) ∷ rest) (end_split ops (reduced_parts (Retain (suc n)) ops h).2)
ends_split (Replace removed inserted ∷ ops) h = end_split (Replace removed inserted ∷ ops) h
ends_split (Attribute c ∷ ops) h = end_split (Attribute c ∷ ops) h

-- a retain before, and one after

edited-retained : (n : ℕ) (ops : Transaction) (items : List PlainItem) → edited (retained n ++ ops) items ≡ take n items ++ edited ops (drop n items)
edited-retained zero ops items = refl
edited-retained (suc n) ops items = refl

Fits-retained : (n : ℕ) (ops : Transaction) (items : List PlainItem) → Fits (retained n ++ ops) items ≡ Fits ops (drop n items)
Fits-retained zero ops items = refl
Fits-retained (suc n) ops items = refl

pub edited-suffix : (ops : Transaction) (n : ℕ) (items : List PlainItem) → edited (ops ++ retained n) items ≡ edited ops items
edited-suffix [] zero items = refl
edited-suffix [] (suc n) items = take-append-drop (suc n) items
edited-suffix (Retain count ∷ ops) n items = ap (λ rest. take count items ++ rest) (edited-suffix ops n (drop count items))
edited-suffix (Replace removed inserted ∷ ops) n items = ap (λ rest. inserted ++ rest) (edited-suffix ops n (drop (length removed) items))
edited-suffix (Attribute c ∷ ops) n items = edited-suffix ops n (on_first (item_changed c) items)

pub Fits-suffix : (ops : Transaction) (n : ℕ) (items : List PlainItem) → Fits (ops ++ retained n) items ≡ Fits ops items
Fits-suffix [] zero items = refl
Fits-suffix [] (suc n) items = refl
Fits-suffix (Retain count ∷ ops) n items = Fits-suffix ops n (drop count items)
Fits-suffix (Replace removed inserted ∷ ops) n items = ap (λ P. (items ≡ removed ++ drop (length removed) items) × P) (Fits-suffix ops n (drop (length removed) items))
Fits-suffix (Attribute c ∷ ops) n items = ap (λ P. (first_allows c items ≡ true) × P) (Fits-suffix ops n (on_first (item_changed c) items))

-- what lies past the reach of the operations stays

module _ (suffix : List PlainItem) where
  pub edited-append : (ops : Transaction) (items : List PlainItem) → reach ops ≤ length items → edited ops (items ++ suffix) ≡ edited ops items ++ suffix
  edited-append [] items le = refl
  edited-append (Retain count ∷ ops) items le =
      let cut : length (drop count items) ≡ length items - count = length-drop count items in
      let room : count ≤ length items = omega arith in
      let rest = edited-append ops (drop count items) (omega arith) in
      rw (take-append-le count items suffix room, drop-append-le count items suffix room, rest) (sym (append_assoc (take count items) (edited ops (drop count items)) suffix))
  edited-append (Replace removed inserted ∷ ops) items le =
      let cut : length (drop (length removed) items) ≡ length items - length removed = length-drop (length removed) items in
      let room : length removed ≤ length items = omega arith in
      let rest = edited-append ops (drop (length removed) items) (omega arith) in
      rw (drop-append-le (length removed) items suffix room, rest) (sym (append_assoc inserted (edited ops (drop (length removed) items)) suffix))
  edited-append (Attribute c ∷ ops) [] le = absurd (omega arith)
  edited-append (Attribute c ∷ ops) (item ∷ items) le = edited-append ops (item_changed c item ∷ items) (omega arith)

  Fits-append : (ops : Transaction) (items : List PlainItem) → reach ops ≤ length items → Fits ops items → Fits ops (items ++ suffix)
  Fits-append [] items le fits = tt
  Fits-append (Retain count ∷ ops) items le fits =
      let cut : length (drop count items) ≡ length items - count = length-drop count items in
      let room : count ≤ length items = omega arith in
      subst (λ l. Fits ops l) (sym (drop-append-le count items suffix room)) (Fits-append ops (drop count items) (omega arith) fits)
  Fits-append (Replace removed inserted ∷ ops) items le fits =
      let cut : length (drop (length removed) items) ≡ length items - length removed = length-drop (length removed) items in
      let room : length removed ≤ length items = omega arith in
      let e = drop-append-le (length removed) items suffix room in (
        ap (λ l. l ++ suffix) fits.0 ∙ append_assoc removed (drop (length removed) items) suffix ∙ ap (λ l. removed ++ l) (sym e),
        subst (λ l. Fits ops l) (sym e) (Fits-append ops (drop (length removed) items) (omega arith) fits.1),
      )
  Fits-append (Attribute c ∷ ops) [] le fits = absurd (omega arith)
  Fits-append (Attribute c ∷ ops) (item ∷ items) le fits = (fits.0, Fits-append ops (item_changed c item ∷ items) (omega arith) fits.1)

  Fits_of-append : (ops : Transaction) (items : List PlainItem) → reach ops ≤ length items → Fits ops (items ++ suffix) → Fits ops items
  Fits_of-append [] items le fits = tt
  Fits_of-append (Retain count ∷ ops) items le fits =
      let cut : length (drop count items) ≡ length items - count = length-drop count items in
      let room : count ≤ length items = omega arith in
      Fits_of-append ops (drop count items) (omega arith) (subst (λ l. Fits ops l) (drop-append-le count items suffix room) fits)
  Fits_of-append (Replace removed inserted ∷ ops) items le fits =
      let cut : length (drop (length removed) items) ≡ length items - length removed = length-drop (length removed) items in
      let room : length removed ≤ length items = omega arith in
      let e = drop-append-le (length removed) items suffix room in (
        append_cancel_right items (removed ++ drop (length removed) items) suffix
            (fits.0 ∙ ap (λ l. removed ++ l) e ∙ sym (append_assoc removed (drop (length removed) items) suffix)),
        Fits_of-append ops (drop (length removed) items) (omega arith) (subst (λ l. Fits ops l) e fits.1),
      )
  Fits_of-append (Attribute c ∷ ops) [] le fits = absurd (omega arith)
  Fits_of-append (Attribute c ∷ ops) (item ∷ items) le fits = (fits.0, Fits_of-append ops (item_changed c item ∷ items) (omega arith) fits.1)

-- the lengths

old_length-append : (s t : Transaction) → old_length (s ++ t) ≡ old_length s + old_length t
old_length-append [] t = sym (zero-add (old_length t))
old_length-append (Retain count ∷ s) t = let e = old_length-append s t in omega arith
old_length-append (Replace removed inserted ∷ s) t = let e = old_length-append s t in omega arith
old_length-append (Attribute c ∷ s) t = old_length-append s t

new_length-append : (s t : Transaction) → new_length (s ++ t) ≡ new_length s + new_length t
new_length-append [] t = sym (zero-add (new_length t))
new_length-append (Retain count ∷ s) t = let e = new_length-append s t in omega arith
new_length-append (Replace removed inserted ∷ s) t = let e = new_length-append s t in omega arith
new_length-append (Attribute c ∷ s) t = new_length-append s t

pub old_length-retained : (n : ℕ) → old_length (retained n) ≡ n
old_length-retained zero = refl
old_length-retained (suc n) = omega arith

new_length-retained : (n : ℕ) → new_length (retained n) ≡ n
new_length-retained zero = refl
new_length-retained (suc n) = omega arith

-- a transaction written with its ends

module _ (before : ℕ) (ops : Transaction) (suffix : ℕ) where
  pub old_length-with_ends : old_length (with_ends before ops suffix) ≡ before + (old_length ops + suffix)
  old_length-with_ends = rw (old_length-append (retained before) (ops ++ retained suffix), old_length-append ops (retained suffix), old_length-retained before, old_length-retained suffix)

  new_length-with_ends : new_length (with_ends before ops suffix) ≡ before + (new_length ops + suffix)
  new_length-with_ends = rw (new_length-append (retained before) (ops ++ retained suffix), new_length-append ops (retained suffix), new_length-retained before, new_length-retained suffix)

  pub edited-with_ends : (items : List PlainItem) → edited (with_ends before ops suffix) items ≡ take before items ++ edited ops (drop before items)
  edited-with_ends items = edited-retained before (ops ++ retained suffix) items ∙ ap (λ l. take before items ++ l) (edited-suffix ops suffix (drop before items))

  pub Fits-with_ends : (items : List PlainItem) → Fits (with_ends before ops suffix) items ≡ Fits ops (drop before items)
  Fits-with_ends items = Fits-retained before (ops ++ retained suffix) items ∙ Fits-suffix ops suffix (drop before items)

-- what makes a transaction with ends apply
with_ends_apply : (before : ℕ) (ops : Transaction) (suffix : ℕ) (items : List PlainItem) →
    before + (old_length ops + suffix) ≡ length items → Fits ops (drop before items) → Applies (with_ends before ops suffix) items
with_ends_apply before ops suffix items e fits =
    Applies_from (with_ends before ops suffix) items (old_length-with_ends before ops suffix ∙ e) (subst (λ P. P) (sym (Fits-with_ends before ops suffix items)) fits)

old_length-reach : (ops : Transaction) → old_length ops ≤ reach ops
old_length-reach [] = omega arith
old_length-reach (Retain count ∷ ops) = let h = old_length-reach ops in omega arith
old_length-reach (Replace removed inserted ∷ ops) = let h = old_length-reach ops in omega arith
old_length-reach (Attribute c ∷ ops) = let h = old_length-reach ops in omega arith

-- A list is X, A and B. A change within A, and one within B
module _ (X A B : List PlainItem) where
  take_two : (n : ℕ) → n ≡ length X + length A → take n (X ++ (A ++ B)) ≡ X ++ A
  take_two n e = ap (take n) (sym (append_assoc X A B)) ∙ take_at (X ++ A) B n (length-append X A ∙ sym e)

  drop_two : (n : ℕ) → n ≡ length X + length A → drop n (X ++ (A ++ B)) ≡ B
  drop_two n e = ap (drop n) (sym (append_assoc X A B)) ∙ drop_at (X ++ A) B n (length-append X A ∙ sym e)

  change_first : (ops : Transaction) (suffix n : ℕ) → n ≡ length X → reach ops ≤ length A →
      edited (with_ends n ops suffix) (X ++ (A ++ B)) ≡ X ++ (edited ops A ++ B)
  change_first ops suffix n e near =
      edited-with_ends n ops suffix (X ++ (A ++ B))
      ∙ rw (take_at X (A ++ B) n (sym e), drop_at X (A ++ B) n (sym e)) (ap (λ l. X ++ l) (edited-append B ops A near))

  change_second : (ops : Transaction) (suffix n : ℕ) → n ≡ length X + length A →
      edited (with_ends n ops suffix) (X ++ (A ++ B)) ≡ X ++ (A ++ edited ops B)
  change_second ops suffix n e =
      edited-with_ends n ops suffix (X ++ (A ++ B))
      ∙ rw (take_two n e, drop_two n e) (append_assoc X A (edited ops B))

  first_applies : (ops : Transaction) (suffix n : ℕ) → n ≡ length X → n + (old_length ops + suffix) ≡ length (X ++ (A ++ B)) → reach ops ≤ length A →
      Fits ops A → Applies (with_ends n ops suffix) (X ++ (A ++ B))
  first_applies ops suffix n e whole near fits =
      with_ends_apply n ops suffix (X ++ (A ++ B)) whole
      (subst (λ l. Fits ops l) (sym (drop_at X (A ++ B) n (sym e))) (Fits-append B ops A near fits))

  second_applies : (ops : Transaction) (suffix n : ℕ) → n ≡ length X + length A → n + (old_length ops + suffix) ≡ length (X ++ (A ++ B)) →
      Fits ops B → Applies (with_ends n ops suffix) (X ++ (A ++ B))
  second_applies ops suffix n e whole fits =
      with_ends_apply n ops suffix (X ++ (A ++ B)) whole (subst (λ l. Fits ops l) (sym (drop_two n e)) fits)

-- what can be undone

IsRestorable-suffix : (ops : Transaction) (n : ℕ) (items : List PlainItem) → IsRestorable (ops ++ retained n) items ≡ IsRestorable ops items
IsRestorable-suffix [] zero items = refl
IsRestorable-suffix [] (suc n) items = refl
IsRestorable-suffix (Retain count ∷ ops) n items = IsRestorable-suffix ops n (drop count items)
IsRestorable-suffix (Replace removed inserted ∷ ops) n items = IsRestorable-suffix ops n (drop (length removed) items)
IsRestorable-suffix (Attribute c ∷ ops) n items = ap (λ P. FirstPutsBack c items × P) (IsRestorable-suffix ops n (on_first (item_changed c) items))

IsRestorable-with_ends : (before : ℕ) (ops : Transaction) (suffix : ℕ) (items : List PlainItem) →
    IsRestorable (with_ends before ops suffix) items ≡ IsRestorable ops (drop before items)
IsRestorable-with_ends zero ops suffix items = IsRestorable-suffix ops suffix items
IsRestorable-with_ends (suc n) ops suffix items = IsRestorable-suffix ops suffix (drop (suc n) items)

IsRestorable-append : (ops : Transaction) (items suffix : List PlainItem) → reach ops ≤ length items → IsRestorable ops (items ++ suffix) ≡ IsRestorable ops items
IsRestorable-append [] items suffix le = refl
IsRestorable-append (Retain count ∷ ops) items suffix le =
    let cut : length (drop count items) ≡ length items - count = length-drop count items in
    let room : count ≤ length items = omega arith in
    ap (IsRestorable ops) (drop-append-le count items suffix room) ∙ IsRestorable-append ops (drop count items) suffix (omega arith)
IsRestorable-append (Replace removed inserted ∷ ops) items suffix le =
    let cut : length (drop (length removed) items) ≡ length items - length removed = length-drop (length removed) items in
    let room : length removed ≤ length items = omega arith in
    ap (IsRestorable ops) (drop-append-le (length removed) items suffix room) ∙ IsRestorable-append ops (drop (length removed) items) suffix (omega arith)
IsRestorable-append (Attribute c ∷ ops) [] suffix le = absurd (omega arith)
IsRestorable-append (Attribute c ∷ ops) (item ∷ items) suffix le = ap (λ P. PutsBack c item × P) (IsRestorable-append ops (item_changed c item ∷ items) suffix (omega arith))

-- along an equation of types
carried : {P Q : Type 0} → P ≡ Q → P → Q
carried e p = subst (λ T. T) e p

-- a changes A to A' and b changes B to B'; a2 and b2 do the same after the other
pub record Beside (a b a2 b2 : Transaction) (items : List PlainItem) : Type 0 where
  pub X : List PlainItem
  pub A : List PlainItem
  pub B : List PlainItem
  pub A' : List PlainItem
  pub B' : List PlainItem
  pub old : X ++ (A ++ B) ≡ items
  pub left_only : edited a items ≡ X ++ (A' ++ B)
  pub right_only : edited b items ≡ X ++ (A ++ B')
  pub left_then : edited b2 (edited a items) ≡ X ++ (A' ++ B')
  pub right_then : edited a2 (edited b items) ≡ X ++ (A' ++ B')
  pub first_then : Applies b2 (edited a items)
  pub second_then : Applies a2 (edited b items)
  pub first_full : IsRestorable a items → IsRestorable a2 (edited b items)
  pub second_full : IsRestorable b items → IsRestorable b2 (edited a items)

pub Agree_from_Beside : (a b a2 b2 : Transaction) (items : List PlainItem) → Beside a b a2 b2 items → Agree a b a2 b2 items
Agree_from_Beside a b a2 b2 items s = record { first_then = s.first_then; second_then = s.second_then; one_list = s.left_then ∙ sym s.right_then }

-- Two changes side by side, each written with its ends, agree when the first one's end and the
-- second one's beginning are moved
side_by_side : (X A B : List PlainItem) (ops others : Transaction) (n suffix m further suffix' m' : ℕ) →
    n ≡ length X → m ≡ length X + length A → m' ≡ length X + length (edited ops A) →
    reach ops ≤ length A → Fits ops A → Fits others B →
    n + (old_length ops + suffix') ≡ length (X ++ (A ++ edited others B)) →
    m' + (old_length others + further) ≡ length (X ++ (edited ops A ++ B)) →
    Beside (with_ends n ops suffix) (with_ends m others further) (with_ends n ops suffix') (with_ends m' others further) (X ++ (A ++ B))
side_by_side X A B ops others n suffix m further suffix' m' en em em' near fits fits_too whole whole_too =
    let A' = edited ops A in
    let B' = edited others B in
    let after_first : edited (with_ends n ops suffix) (X ++ (A ++ B)) ≡ X ++ (A' ++ B) = change_first X A B ops suffix n en near in
    let after_second : edited (with_ends m others further) (X ++ (A ++ B)) ≡ X ++ (A ++ B') = change_second X A B others further m em in
    record {
      X = X;
      A = A;
      B = B;
      A' = A';
      B' = B';
      old = refl;
      left_only = after_first;
      right_only = after_second;
      left_then = ap (edited (with_ends m' others further)) after_first ∙ change_second X A' B others further m' em';
      right_then = ap (edited (with_ends n ops suffix')) after_second ∙ change_first X A B' ops suffix' n en near;
      first_then = subst (λ l. Applies (with_ends m' others further) l) (sym after_first) (second_applies X A' B others further m' em' whole_too fits_too);
      second_then = subst (λ l. Applies (with_ends n ops suffix') l) (sym after_second) (first_applies X A B' ops suffix' n en whole near fits);
      first_full = λ full.
          let here : IsRestorable ops (A ++ B) = subst (IsRestorable ops) (drop_at X (A ++ B) n (sym en)) (carried (IsRestorable-with_ends n ops suffix (X ++ (A ++ B))) full) in
          let there : IsRestorable ops (A ++ B') = carried (IsRestorable-append ops A B near ∙ sym (IsRestorable-append ops A B' near)) here in
          subst (IsRestorable (with_ends n ops suffix')) (sym after_second)
          (carried (sym (IsRestorable-with_ends n ops suffix' (X ++ (A ++ B')))) (subst (IsRestorable ops) (sym (drop_at X (A ++ B') n (sym en))) there));
      second_full = λ full.
          let here : IsRestorable others B = subst (IsRestorable others) (drop_two X A B m em) (carried (IsRestorable-with_ends m others further (X ++ (A ++ B))) full) in
          subst (IsRestorable (with_ends m' others further)) (sym after_first)
          (carried (sym (IsRestorable-with_ends m' others further (X ++ (A' ++ B)))) (subst (IsRestorable others) (sym (drop_two X A' B m' em')) here));
    }

pub Agree-swap : (a b a2 b2 : Transaction) (items : List PlainItem) → Agree a b a2 b2 items → Agree b a b2 a2 items
Agree-swap a b a2 b2 items g = record { first_then = g.second_then; second_then = g.first_then; one_list = sym g.one_list }

-- what is known of a transaction that applies, by its parts
pub record HasParts (t : Transaction) (items : List PlainItem) : Type 0 where
  pub split : with_ends (first t) (core t) (last t) ≡ t
  pub whole : first t + (old_length (core t) + last t) ≡ length items
  pub old : old_length t ≡ length items
  pub new : new_length t ≡ first t + (new_length (core t) + last t)
  pub fits : Fits (core t) (drop (first t) items)

pub parts_of : (t : Transaction) (items : List PlainItem) → is_reduced t ≡ true → Applies t items → HasParts t items
parts_of t items reduced applies =
    let split = ends_split t reduced in
    let p = parts_of_Applies t items applies in
    record {
      split = split;
      whole = sym (old_length-with_ends (first t) (core t) (last t)) ∙ ap old_length split ∙ p.0;
      old = p.0;
      new = ap new_length (sym split) ∙ new_length-with_ends (first t) (core t) (last t);
      fits = subst (λ P. P) (Fits-with_ends (first t) (core t) (last t) items) (subst (λ u. Fits u items) (sym split) p.1);
    }

pub left_beside : (a b : Transaction) (items : List PlainItem) → HasParts a items → HasParts b items → end_of a ≤ first b →
    Beside a b (with_new_end a b) (moved_on b a) items
left_beside a b items pa pb near =
    let X = take (first a) items in
    let A = take (first b - first a) (drop (first a) items) in
    let B = drop (first b - first a) (drop (first a) items) in
    let inner : A ++ B ≡ drop (first a) items = take-append-drop (first b - first a) (drop (first a) items) in
    let list : X ++ (A ++ B) ≡ items = ap (λ l. X ++ l) inner ∙ take-append-drop (first a) items in
    let wholes = pa.whole in
    let whole_b = pb.whole in
    let lx : length X ≡ first a = length-take-le (first a) items (omega arith) in
    let ld : length (drop (first a) items) ≡ length items - first a = length-drop (first a) items in
    let la : length A ≡ first b - first a = length-take-le (first b - first a) (drop (first a) items) (omega arith) in
    let lb : length B ≡ length (drop (first a) items) - (first b - first a) = length-drop (first b - first a) (drop (first a) items) in
    let near_a : reach (core a) ≤ length A = omega arith in
    let fits_a : Fits (core a) A = Fits_of-append B (core a) A near_a (subst (λ l. Fits (core a) l) (sym inner) pa.fits) in
    let sum : first b ≡ first a + (first b - first a) = omega arith in
    let same_b : drop (first b) items ≡ B = ap (λ n. drop n items) sum ∙ sym (drop-drop (first b - first a) (first a) items) in
    let fits_b : Fits (core b) B = subst (λ l. Fits (core b) l) same_b pb.fits in
    let reached = old_length-reach (core a) in
    let grown_a = length-edited (core a) A fits_a (omega arith) in
    let grown_b = length-edited (core b) B fits_b (omega arith) in
    let new_a = pa.new in
    let new_b = pb.new in
    let old_a = pa.old in
    let old_b = pb.old in
    let total_b : length (X ++ (A ++ edited (core b) B)) ≡ length X + (length A + length (edited (core b) B)) = rw (length-append X (A ++ edited (core b) B), length-append A (edited (core b) B)) in
    let total_a : length (X ++ (edited (core a) A ++ B)) ≡ length X + (length (edited (core a) A) + length B) = rw (length-append X (edited (core a) A ++ B), length-append (edited (core a) A) B) in
    let beside = side_by_side X A B (core a) (core b) (first a) (last a) (first b) (last b)
    ((last a + new_length b) - old_length b) ((first b + new_length a) - old_length a)
    (sym lx) (omega arith) (omega arith) near_a fits_a fits_b (omega arith) (omega arith) in
    subst (λ l. Beside a b (with_new_end a b) (moved_on b a) l) list
    (subst (λ u. Beside u b (with_new_end a b) (moved_on b a) (X ++ (A ++ B))) pa.split
    (subst (λ u. Beside (with_ends (first a) (core a) (last a)) u (with_new_end a b) (moved_on b a) (X ++ (A ++ B))) pb.split beside))

pub left_agrees : (a b : Transaction) (items : List PlainItem) → HasParts a items → HasParts b items → end_of a ≤ first b →
    Agree a b (with_new_end a b) (moved_on b a) items
left_agrees a b items pa pb near = Agree_from_Beside a b (with_new_end a b) (moved_on b a) items (left_beside a b items pa pb near)
