-- Lists whose members are read alike, one after the other.
use Rattle.std.proofs.Common.{◌≡◌, ◌≤◌, ◌<◌, ℕ, ◌+◌, List, [], ◌∷◌, ◌++◌, length, map, drop, get_or, refl, sym, ap, subst, ◌∙◌, append_assoc, append-nil}
use Rattle.std.specs.Prelude.{All, flat_map}
use Rattle.std.proofs.lemmas.List.{map-append, drop_more, drop_all}
use Rattle.std.proofs.lemmas.List.Elements.{All-nil, All-cons, All-append}
use Rattle.ve_base.specs.declared.value.Value.{Value}
use Rattle.model_change.specs.Store.{fill}
use Rattle.model_change.proofs.StoreLemmas.{fill_appends}
use Rattle.ve_tx.specs.Copied.{ReadsAlike}
use Rattle.ve_tx.proofs.CopiesLemmas.{fill-append, grown}

module _ {X Y : Type 0} (read : List Value → X → Y) (Cites : List Value → X → Type 0) (citing : Y → List Value) (store : List Value) where
  -- what was made of the first i members reads, with the rest, as all of them; and so do the
  -- values, once the rest fills them
  pub record Going (old values : List Value) (xs : List X) (i : ℕ) (made : List X) : Type 0 where
    pub reads : (more : List Value) → map (read (values ++ more)) made ++ map (read store) (drop i xs) ≡ map (read store) xs
    pub cites : (more : List Value) → All (Cites (values ++ more)) made
    pub fills : fill values (flat_map citing (map (read store) (drop i xs))) ≡ fill old (flat_map citing (map (read store) xs))

  pub going-first : (old : List Value) (xs : List X) → Going old old xs 0 []
  going-first old xs = record { reads = λ more. refl; cites = λ more. All-nil (Cites (old ++ more)); fills = refl }

  pub going-next : (old values new : List Value) (xs : List X) (i : ℕ) (made : List X) (x y : X) → drop i xs ≡ x ∷ drop (i + 1) xs → new ≡ fill values (citing (read store x)) →
      ReadsAlike read Cites store new x y → Going old values xs i made → Going old new xs (i + 1) (made ++ y ∷ [])
  going-next old values new xs i made x y part is alike g =
      let rest = map (read store) (drop (i + 1) xs) in
      let appended = (fill_appends values (citing (read store x))).appended in
      record {
        reads = λ more.
            ap (λ prefix. prefix ++ rest) (map-append (read (new ++ more)) made (y ∷ [])) ∙ append_assoc (map (read (new ++ more)) made) (read (new ++ more) y ∷ []) rest
            ∙ ap (λ z. map (read (new ++ more)) made ++ z ∷ rest) (alike more).0 ∙ ap (λ zs. map (read (new ++ more)) made ++ map (read store) zs) (sym part)
            ∙ ap (λ vs. map (read vs) made ++ map (read store) (drop i xs)) (ap (λ prefix. prefix ++ more) is ∙ grown values (citing (read store x)) more) ∙ g.reads (appended ++ more);
        cites = λ more.
            let P = Cites (new ++ more) in
            let all : new ++ more ≡ values ++ (appended ++ more) = ap (λ prefix. prefix ++ more) is ∙ grown values (citing (read store x)) more in
            All-append P made (y ∷ []) (subst (λ vs. All (Cites vs) made) (sym all) (g.cites (appended ++ more))) (All-cons P y [] (alike more).1 (All-nil P));
        fills =
            ap (λ vs. fill vs (flat_map citing rest)) is ∙ sym (fill-append values (citing (read store x)) (flat_map citing rest))
            ∙ ap (λ zs. fill values (flat_map citing (map (read store) zs))) (sym part) ∙ g.fills;
      }

  pub going-last : (old values : List Value) (xs : List X) (i : ℕ) (made : List X) → length xs ≤ i → Going old values xs i made →
      ReadsAlike (λ vs. map (read vs)) (λ vs. All (Cites vs)) store values xs made
  going-last old values xs i made done g more =
      (sym (append-nil (map (read (values ++ more)) made)) ∙ ap (λ zs. map (read (values ++ more)) made ++ map (read store) zs) (sym (drop_all i xs done)) ∙ g.reads more, g.cites more)

  pub going-filled : (old values : List Value) (xs : List X) (i : ℕ) (made : List X) → length xs ≤ i → Going old values xs i made →
      values ≡ fill old (flat_map citing (map (read store) xs))
  going-filled old values xs i made done g = ap (λ zs. fill values (flat_map citing (map (read store) zs))) (sym (drop_all i xs done)) ∙ g.fills

-- the member at a position, and the rest
pub member_at : {X : Type 0} (xs : List X) (i : ℕ) (x : X) → i < length xs → x ≡ get_or xs i x → drop i xs ≡ x ∷ drop (i + 1) xs
member_at xs i x within here = drop_more xs i x within ∙ ap (λ y. y ∷ drop (i + 1) xs) (sym here)
