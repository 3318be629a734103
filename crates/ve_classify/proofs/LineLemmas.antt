-- An element of a kind stands within a line where its kind says so.
use Rattle.std.proofs.Common.{◌≡◌, ℕ, Bool, true, false, List, [], ◌∷◌, Some, None, if◌then◌else◌, refl, sym, ap, subst, ◌∙◌}
use Rattle.std.specs.Str.{bytes_eq}
use Rattle.std.proofs.lemmas.Slice.Eq.{bytes_eq-Decides}
use Rattle.ve_kinds.specs.declared.kind.Kind.{Kind}
use Rattle.ve_kinds.specs.Table.{is_inline_leaf}
use Rattle.ve_kinds.specs.Tags.{inline_tags, is_one_of, kind_among, kind_of_tag, tags_of_kinds}

abbrev Tell : List (List ℕ × Kind) → Type 0
Tell [] = Unit {0}
Tell (row ∷ rows) = (is_one_of inline_tags row.0 ≡ is_inline_leaf row.1) × Tell rows

all_tell : Tell tags_of_kinds
all_tell = (refl, (refl, (refl, (refl, (refl, (refl, (refl, (refl, (refl, (refl, (refl, (refl, (refl, (refl, (refl, (refl, (refl, (refl, (refl, (refl, (refl, (refl, (refl, (refl, (refl, (refl, (refl, tt)))))))))))))))))))))))))))

step : (b : Bool) (row : List ℕ × Kind) (rows : List (List ℕ × Kind)) (tag : List ℕ) (k : Kind) → bytes_eq row.0 tag ≡ b → is_one_of inline_tags row.0 ≡ is_inline_leaf row.1 →
    (kind_among rows tag ≡ Some k → is_one_of inline_tags tag ≡ is_inline_leaf k) → kind_among (row ∷ rows) tag ≡ Some k → is_one_of inline_tags tag ≡ is_inline_leaf k
step true row rows tag k same tells later e =
    let here : Some row.1 ≡ Some k = sym (ap (λ b. if b then Some row.1 else kind_among rows tag) same) ∙ e in
    let kind : row.1 ≡ k = cc in
    subst (λ l. is_one_of inline_tags l ≡ is_inline_leaf k) ((bytes_eq-Decides row.0 tag).0 same) (tells ∙ ap is_inline_leaf kind)
step false row rows tag k other tells later e = later (sym (ap (λ b. if b then Some row.1 else kind_among rows tag) other) ∙ e)

found : (rows : List (List ℕ × Kind)) (tag : List ℕ) (k : Kind) → Tell rows → kind_among rows tag ≡ Some k → is_one_of inline_tags tag ≡ is_inline_leaf k
found [] tag k t e = absurd (let no : None ≡ Some k = e in cc)
found (row ∷ rows) tag k t e = step (bytes_eq row.0 tag) row rows tag k refl t.0 (found rows tag k t.1) e

pub kind_tells : (tag : List ℕ) (k : Kind) → kind_of_tag tag ≡ Some k → is_one_of inline_tags tag ≡ is_inline_leaf k
kind_tells tag k e = found tags_of_kinds tag k all_tell e
