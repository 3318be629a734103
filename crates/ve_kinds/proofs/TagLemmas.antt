-- Tags that are in a list or in none.
use Rattle.std.proofs.Common.{◌≡◌, ℕ, Bool, true, false, ◌||◌, List, [], ◌∷◌, ◌++◌, None, refl, sym, ap, ◌∙◌}
use Rattle.std.specs.Str.{bytes_eq}
use Rattle.std.proofs.lemmas.Bool.{false_from_ne_true}
use Rattle.std.proofs.lemmas.Slice.Eq.{bytes_eq-Decides}
use Rattle.std.proofs.lemmas.List.Folds.{list_any-append}
use Rattle.ve_kinds.specs.declared.kind.Kind.{Kind}
use Rattle.ve_kinds.specs.Tags.{kind_among, is_one_of}

differs : (word tag : List ℕ) → ¬ (tag ≡ word) → bytes_eq word tag ≡ false
differs word tag other = false_from_ne_true (bytes_eq word tag) (λ same. other (sym ((bytes_eq-Decides word tag).0 same)))

abbrev pub NoneOf : List (List ℕ × Kind) → List ℕ → Type 0
NoneOf [] tag = Unit {0}
NoneOf (row ∷ rows) tag = (¬ (tag ≡ row.0)) × NoneOf rows tag

pub kind_among-none : (rows : List (List ℕ × Kind)) (tag : List ℕ) → NoneOf rows tag → kind_among rows tag ≡ None
kind_among-none [] tag none = refl
kind_among-none (row ∷ rows) tag none = rw (differs row.0 tag none.0) (kind_among-none rows tag none.1)

pub among_first : (names others : List (List ℕ)) (tag : List ℕ) (r : Bool) → r ≡ is_one_of names tag → r ≡ true → r ≡ is_one_of (names ++ others) tag
among_first names others tag r is found = found ∙ sym (list_any-append (λ one. bytes_eq one tag) names others ∙ ap (λ b. b || is_one_of others tag) (sym is ∙ found))

pub among_last : (names others : List (List ℕ)) (tag : List ℕ) (r s : Bool) → r ≡ is_one_of names tag → r ≡ false → s ≡ is_one_of others tag → s ≡ is_one_of (names ++ others) tag
among_last names others tag r s is no_first last = last ∙ sym (list_any-append (λ one. bytes_eq one tag) names others ∙ ap (λ b. b || is_one_of others tag) (sym is ∙ no_first))
