-- The text of nodes one after the other: whether they have content, and stay in a run.
use Rattle.std.proofs.Common.{◌≡◌, ℕ, Bool, true, false, not, ◌||◌, List, [], ◌∷◌, ◌++◌, map, refl, sym, ap, ◌∙◌, inl, inr}
use Rattle.std.proofs.lemmas.Bool.{and_parts, and_from, cases_Bool}
use Rattle.ve_base.specs.declared.marks.Mark.{Mark}
use Rattle.model_items.specs.declared.plain_item.PlainItem.TheVariants.{Char}
use Rattle.model_page.specs.Elements.{is_white_char, is_white}
use Rattle.model_page_write.specs.Nodes.{Nodes, Empty, Letter, Node}
use Rattle.model_page_write.specs.Written.{is_empty, stays_inline, has_content, all_stay_inline}
use Rattle.model_page_law.proofs.NodesLemmas.{followed}
use Rattle.model_page_law.proofs.ShapeLemmas.{plain, letters}

pub has_content-followed : (n rest : Nodes) → has_content (followed n rest) ≡ (has_content n || has_content rest)
has_content-followed Empty rest = refl
has_content-followed (Letter c marks later) rest =
    ap (λ b. not (is_white_char c) || not (is_empty marks) || b) (has_content-followed later rest) ∙ assoc (not (is_white_char c) || not (is_empty marks)) (has_content later) (has_content rest)
  where
    assoc : (a b c : Bool) → (a || (b || c)) ≡ (a || b || c)
    assoc true b c = refl
    assoc false b c = refl
has_content-followed (Node s inside pre later) rest = refl

pub all_stay_inline-followed : (n rest : Nodes) → all_stay_inline n ≡ true → all_stay_inline rest ≡ true → all_stay_inline (followed n rest) ≡ true
all_stay_inline-followed Empty rest h g = g
all_stay_inline-followed (Letter c marks later) rest h g = all_stay_inline-followed later rest h g
all_stay_inline-followed (Node s inside pre later) rest h g =
    let p = and_parts (stays_inline s) (all_stay_inline later) h in
    and_from (stays_inline s) (all_stay_inline (followed later rest)) p.0 (all_stay_inline-followed later rest p.1 g)

pub all_stay_inline-letters : (marks : List Mark) (text : List ℕ) → all_stay_inline (letters marks text) ≡ true
all_stay_inline-letters marks [] = refl
all_stay_inline-letters marks (c ∷ cs) = all_stay_inline-letters marks cs

pub plain-letters : (marks : List Mark) (text : List ℕ) → map (λ c. Char c marks) text ≡ plain (letters marks text)
plain-letters marks [] = refl
plain-letters marks (c ∷ cs) = ap (λ xs. Char c marks ∷ xs) (plain-letters marks cs)

pub is_white-append : (a b : List ℕ) → is_white a ≡ true → is_white b ≡ true → is_white (a ++ b) ≡ true
is_white-append [] b h g = g
is_white-append (c ∷ cs) b h g =
    let p = and_parts (is_white_char c) (is_white cs) h in and_from (is_white_char c) (is_white (cs ++ b)) p.0 (is_white-append cs b p.1 g)

pub or_left : (a b : Bool) → a ≡ true → (a || b) ≡ true
or_left true b h = refl
or_left false b h = cc

pub or_right : (a b : Bool) → b ≡ true → (a || b) ≡ true
or_right true b h = refl
or_right false b h = h

-- what is not white in two parts is not white in one of them
pub not_white : {A : Type 0} (a b : List ℕ) → is_white (a ++ b) ≡ false → (is_white a ≡ false → A) → (is_white b ≡ false → A) → A
not_white a b h f g =
    elim (cases_Bool (is_white a)) [
      | inr not_a ↦ f not_a
      | inl white_a ↦ elim (cases_Bool (is_white b)) [
        | inr not_b ↦ g not_b
        | inl white_b ↦ absurd (let e : true ≡ false = sym (is_white-append a b white_a white_b) ∙ h in cc)
      ]
    ]
