-- Worked examples of the rows of references, and notes of them that are none.
use Rattle.std.proofs.Common.{◌≡◌, ℕ, suc, true, false, List, [], ◌∷◌, ◌++◌, Some, None, refl, sym, ap, ◌∙◌, arith}
use Rattle.std.specs.Prelude.{Bool, Option, ◌==◌, map, codes, unwrap_or}
use Rattle.std.specs.Option.{option_or}
use Rattle.indexmap.specs.IndexMap.{IndexMap, get}
use Rattle.ve_base.specs.declared.head.RefKey.{RefKey}
use Rattle.model_items.specs.Same.{ref_key_same, text_same}
use Rattle.model_page.proofs.PageExamples.{key_n, internal_list_of, owner_paragraph, reuse_paragraph}
use Rattle.model_page.specs.References.{RefAt, table}
use Rattle.model_page.specs.declared.ref_table.RefRow.{RefRow}
use Rattle.ve_internal.specs.Noted.{Counts, HasRefs, NotesBody, cited_ref, counted, row_by, seen_again}
use Rattle.ve_internal.specs.declared.notes.Cited.{Cited}
use Rattle.ve_internal.specs.declared.notes.Notes.{Notes}

-- ---- rows

abbrev row : ℕ → Bool → RefRow
row at carrier = record { at = at; key = key_n; number = 1; carrier = carrier; body_at = Some 11 }

-- refuses the first reference as the one that always carries the body
the_owner_carries_the_body : table (reuse_paragraph ++ owner_paragraph ++ internal_list_of (codes "x")) ≡ row 2 false ∷ row 7 true ∷ []
the_owner_carries_the_body = refl

-- refuses a row of the first number, one without its body, and one whose body the first reference
-- carries
a_row_says_what_is_known : (cited : Cited) → row_by (Some (record { number = 2; first = 3; owner = Some 5 })) (Some 9) cited
    ≡ Some (record { at = cited.at; key = cited.key.now; number = 2; carrier = 5 == cited.at; body_at = Some 9 })
a_row_says_what_is_known cited = refl

-- refuses each reference as an owner
a_use_owns_nothing : seen_again (record { number = 1; first = 2; owner = None }) 5 false ≡ record { number = 1; first = 2; owner = None }
a_use_owns_nothing = refl

-- ---- notes

-- refuses two as the first number of a group
a_new_group_has_no_keys : {S : Type 0} (groups : IndexMap (List ℕ) ℕ S) → get text_same groups (codes "g") ≡ None → counted groups (codes "g") ≡ 0
a_new_group_has_no_keys groups none = ap (λ n. unwrap_or n 0) none

-- a group isn't noted with one key more where it has as many as before
no_key_is_left_uncounted : {S : Type 0} (old new : IndexMap (List ℕ) ℕ S) → counted new (codes "g") ≡ counted old (codes "g") → Counts old new (codes "g") → ⊥
no_key_is_left_uncounted old new same h =
    let e : counted old (codes "g") ≡ suc (counted old (codes "g")) = sym same ∙ h (codes "g") in omega (arith, e)

-- a body that opens at the position 3 isn't noted at the start
no_body_opens_at_the_start : {S : Type 0} (old new : IndexMap RefKey ℕ S) → get ref_key_same old key_n ≡ None → get ref_key_same new key_n ≡ Some 0 → NotesBody old new key_n 3 → ⊥
no_body_opens_at_the_start old new none first h =
    let e : 0 ≡ 3 = ap (λ (place : Option ℕ). unwrap_or place 0) (sym first ∙ h key_n ∙ ap (λ place. option_or place (Some 3)) none) in omega (arith, e)

abbrev first_at : List RefAt → ℕ
first_at [] = 0
first_at (r ∷ refs) = r.at

-- nor is a reference at the position 7
no_reference_stands_at_the_start : (notes : Notes) (c : Cited) → notes.refs.items ≡ c ∷ [] → c.at ≡ 0 →
    HasRefs notes (record { at = 7; key = key_n; owner = false; inside = false } ∷ []) → ⊥
no_reference_stands_at_the_start notes c is first h =
    let e : c.at ≡ 7 = ap first_at (ap (map cited_ref) (sym is) ∙ h.cited) in omega (arith, e, first)
