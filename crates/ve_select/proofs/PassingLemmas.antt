-- One pass over the pieces of a text finds the boundaries on either side of a bound.
use Rattle.std.specs.Prelude.{find}
use Rattle.std.specs.Option.{option_or}
use Rattle.std.specs.Str.{chars}
use Rattle.std.proofs.Common.{◌≡◌, ℕ, ◌+◌, ◌<◌, ◌≤◌, Bool, true, false, cond, if◌then◌else◌, nat_lt, List, [], ◌∷◌, length, reverse, Option, Some, None, refl, sym, ap, ◌∙◌, arith}
use Rattle.std.proofs.lemmas.Bool.{lt-ltb, le-ltb}
use Rattle.std.proofs.lemmas.Grind.{reverse_onto}
use Rattle.std.proofs.lemmas.List.Folds.{find-append}
use Rattle.model_edit.specs.Next.{ends, first_above, last_below}
use Rattle.ve_select.specs.Passing.{cuts, char_total, IsPassing}

abbrev pub lower : ℕ → ℕ → Option ℕ → Option ℕ
lower end bound found = if nat_lt end bound then Some end else found

last_below-cons : (bound n : ℕ) (ns : List ℕ) → last_below bound (n ∷ ns) ≡ option_or (last_below bound ns) (lower n bound None)
last_below-cons bound n ns =
    let test : ℕ → Bool = λ k. nat_lt k bound in
    ap (find test) (reverse_onto ns n []) ∙ find-append test (reverse ns) (n ∷ [])

pick : (a : Option ℕ) (b : Bool) (n : ℕ) (d : Option ℕ) → option_or (option_or a (if b then Some n else None)) d ≡ option_or a (if b then Some n else d)
pick None true n d = refl
pick None false n d = refl
pick (Some m) b n d = refl

none_below : (bound end : ℕ) (ps : List (List ℕ)) → bound ≤ end → last_below bound (ends end ps) ≡ None
none_below bound end [] h = refl
none_below bound end (p ∷ ps) h =
    let after = end + length (chars p) in
    last_below-cons bound after (ends after ps)
    ∙ ap (λ o. option_or o (lower after bound None)) (none_below bound after ps (omega arith))
    ∙ ap (λ b. option_or None (if b then Some after else None)) (le-ltb after bound (omega arith))

module _ (bound : ℕ) (all : List (List ℕ)) where
  pub passing_start : IsPassing bound all all 0 (lower 0 bound None)
  passing_start = record {
    above = sym (ap (λ b. cond b (Some 0) (first_above bound (ends 0 all))) (le-ltb bound 0 (omega arith)));
    below = sym (last_below-cons bound 0 (ends 0 all));
    within = omega arith;
  }

  pub passing_on : (p : List ℕ) (left : List (List ℕ)) (end : ℕ) (found : Option ℕ) → IsPassing bound all (p ∷ left) end found →
      end + length (chars p) ≤ bound → IsPassing bound all left (end + length (chars p)) (lower (end + length (chars p)) bound found)
  passing_on p left end found h low =
      let after = end + length (chars p) in
      let room = h.within in
      record {
        above = sym (ap (λ b. cond b (Some after) (first_above bound (ends after left))) (le-ltb bound after low)) ∙ h.above;
        below = sym (pick (last_below bound (ends after left)) (nat_lt after bound) after found)
            ∙ ap (λ o. option_or o found) (sym (last_below-cons bound after (ends after left))) ∙ h.below;
        within = omega arith;
      }

  pub passed_above : (p : List ℕ) (left : List (List ℕ)) (end : ℕ) (found : Option ℕ) → IsPassing bound all (p ∷ left) end found →
      bound < end + length (chars p) → Some (end + length (chars p)) ≡ first_above bound (cuts all)
  passed_above p left end found h high =
      let after = end + length (chars p) in
      sym (ap (λ b. cond b (Some after) (first_above bound (ends after left))) (lt-ltb bound after high)) ∙ h.above

  pub passed_below : (p : List ℕ) (left : List (List ℕ)) (end : ℕ) (found : Option ℕ) → IsPassing bound all (p ∷ left) end found →
      bound < end + length (chars p) → found ≡ last_below bound (cuts all)
  passed_below p left end found h high =
      let after = end + length (chars p) in
      let none : last_below bound (ends end (p ∷ left)) ≡ None =
      last_below-cons bound after (ends after left)
      ∙ ap (λ o. option_or o (lower after bound None)) (none_below bound after left (omega arith))
      ∙ ap (λ b. option_or None (if b then Some after else None)) (le-ltb after bound (omega arith)) in
      ap (λ o. option_or o found) (sym none) ∙ h.below

  pub passed_within : (p : List ℕ) (left : List (List ℕ)) (end : ℕ) (found : Option ℕ) → IsPassing bound all (p ∷ left) end found →
      end + length (chars p) ≤ char_total all
  passed_within p left end found h = let room = h.within in omega arith

  pub passed_all : (end : ℕ) (found : Option ℕ) → IsPassing bound all [] end found →
      (found ≡ last_below bound (cuts all)) × (None ≡ first_above bound (cuts all))
  passed_all end found h = (h.below, h.above)
