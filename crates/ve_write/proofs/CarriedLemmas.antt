-- The bodies that references carry, by the rows of the table.
use Rattle.std.proofs.Common.{◌≡◌, ℕ, suc, ◌+◌, ◌<◌, ◌==◌, Bool, true, false, List, [], ◌∷◌, ◌++◌, length, drop, refl, sym, ap, ◌∙◌, arith, eqb-true, Option, Some, None}
use Rattle.std.specs.Prelude.{nat_lt, not, ◌&&◌, if◌then◌else◌, option_map, option_and_then}
use Rattle.std.specs.Str.{chars, encode_utf8_all, IsUtf8}
use Rattle.std.proofs.lemmas.Str.{encodes-chars}
use Rattle.std.proofs.lemmas.List.{drop-map}
use Rattle.ve_base.specs.declared.head.RefKey.{RefKey}
use Rattle.ve_base.specs.declared.value.Value.{Value}
use Rattle.ve_kinds.specs.declared.kind.Kind.TheVariants.{InternalItem}
use Rattle.ve_kinds.specs.Table.{kind_same}
use Rattle.model_items.specs.declared.item.Item.{Item}
use Rattle.model_items.specs.Plain.{plain, plain_list}
use Rattle.model_items.specs.declared.plain_item.PlainItem.{PlainItem}
use Rattle.model_items.specs.declared.plain_item.PlainItem.TheVariants.{Char, Opening, Closing}
use Rattle.model_items.specs.Same.{option_same, ref_key_same}
use Rattle.model_page.specs.References.{Body, RefAt, body_after, body_from, body_of, carried_by, is_carrier, place_of_body, ref_row, refs_of, table}
use Rattle.model_page_write.specs.Nodes.{body_carried}
use Rattle.model_page_write.specs.PageText.{html_of}
use Rattle.ve_origin.proofs.ReferLemmas.{find_row, ref_in}
use Rattle.ve_write.specs.BodyTexts.{carried_outside, notes_place, text_at, text_by}
use Rattle.ve_write.proofs.NoteLemmas.{inside_is}

-- ---- the body of a key

-- it stands after an item of the list
pub record BodyStands (at : ℕ) (xs : List PlainItem) (b : Body) : Type 0 where
  pub place : ℕ
  pub at_is : b.at ≡ at + place
  pub within : place < length xs
  pub is : b ≡ body_after b.at (drop (suc place) xs)

later : (at : ℕ) (x : PlainItem) (xs : List PlainItem) (b : Body) → BodyStands (suc at) xs b → BodyStands at (x ∷ xs) b
later at x xs b h = record { place = suc h.place; at_is = let e = h.at_is in omega (arith, e); within = let e = h.within in omega (arith, e); is = h.is }

pub body_stands : (at : ℕ) (key : RefKey) (xs : List PlainItem) (b : Body) → body_from at key xs ≡ Some b → BodyStands at xs b
body_stands at key [] b e = cc
body_stands at key (Char c marks ∷ xs) b e = later at _ xs b (body_stands (suc at) key xs b e)
body_stands at key (Closing kind pre ∷ xs) b e = later at _ xs b (body_stands (suc at) key xs b e)
body_stands at key (Opening kind head marks pre origin generated ∷ xs) b e =
    cases (kind_same kind InternalItem && option_same ref_key_same head.reference (Some key)) e (λ h. body_stands (suc at) key xs b h)
  where
    cases : (c : Bool) → (if c then Some (body_after at xs) else body_from (suc at) key xs) ≡ Some b → (body_from (suc at) key xs ≡ Some b → BodyStands (suc at) xs b) →
        BodyStands at (Opening kind head marks pre origin generated ∷ xs) b
    cases true h more =
        let same : body_after at xs ≡ b = cc in
        let place : at ≡ b.at = ap (λ (c : Body). c.at) same in
        record { place = 0; at_is = let e : at ≡ at + 0 = omega arith in sym place ∙ e; within = omega arith; is = sym same ∙ ap (λ n. body_after n xs) place }
    cases false h more = later at _ xs b (more h)

text_is : (items : List PlainItem) (b : Body) → BodyStands 0 items b → html_of b ≡ text_at items b.at
text_is items b h =
    let e : suc h.place ≡ b.at + 1 = let f = h.at_is in omega (arith, f) in
    ap html_of (h.is ∙ ap (λ n. body_after b.at (drop n items)) e)

text_of_key : (items : List PlainItem) (key : RefKey) → option_map html_of (body_of key items) ≡ option_map (text_at items) (place_of_body (body_of key items))
text_of_key items key = from (body_of key items) refl
  where
    from : (o : Option Body) → body_of key items ≡ o → option_map html_of o ≡ option_map (text_at items) (place_of_body o)
    from None e = refl
    from (Some b) e = ap Some (text_is items b (body_stands 0 key items b e))

-- what is written of it, read as UTF-8
pub body_read : (values : List Value) (items : List Item) (at : ℕ) (old new lent text spelled : List ℕ) → old ≡ [] → new ≡ old ++ html_of (body_after at (plain_list values (drop (at + 1) items))) →
    lent ≡ new → text ≡ lent → IsUtf8 lent → spelled ≡ chars text → encode_utf8_all spelled ≡ text_at (plain_list values items) at
body_read values items at old new lent text spelled none is same read utf8 known =
    ap encode_utf8_all (known ∙ ap chars read) ∙ encodes-chars lent utf8 ∙ same ∙ is
    ∙ ap (λ (l : List ℕ). l ++ html_of (body_after at (plain_list values (drop (at + 1) items)))) none
    ∙ ap (λ l. html_of (body_after at l)) (sym (drop-map (plain values) (at + 1) items))

-- ---- what a reference carries

by_tests : {A : Type 0} (html : Body → A) (text : ℕ → A) (o : Option Body) (carries past inside : Bool) → inside ≡ past → option_map html o ≡ option_map text (place_of_body o) →
    option_map html (if carries && not inside then o else None) ≡ option_map text (if past then None else (if carries then place_of_body o else None))
by_tests html text o true true true e same = refl
by_tests html text o true false false e same = same
by_tests html text o false true true e same = refl
by_tests html text o false false false e same = refl
by_tests html text o true true false e same = cc
by_tests html text o true false true e same = cc
by_tests html text o false true false e same = cc
by_tests html text o false false true e same = cc

found_place : (refs : List RefAt) (p : ℕ) (r : RefAt) → ref_in p refs ≡ Some r → r.at ≡ p
found_place [] p r e = cc
found_place (s ∷ refs) p r e = cases (s.at == p) refl e (λ h. found_place refs p r h)
  where
    cases : (b : Bool) → (s.at == p) ≡ b → (if b then Some s else ref_in p refs) ≡ Some r → (ref_in p refs ≡ Some r → r.at ≡ p) → r.at ≡ p
    cases true same h more = let is : s ≡ r = cc in sym (ap (λ (t : RefAt). t.at) is) ∙ eqb-true _ _ same
    cases false same h more = more h

pub carried_text : (items : List PlainItem) (at : ℕ) → option_map html_of (body_carried items at) ≡ text_by items (table items) at
carried_text items at =
    from (ref_in at (refs_of items)) refl
    ∙ sym (ap (λ o. option_map (text_at items) (option_and_then (carried_outside (notes_place items)) o)) (find_row items at (refs_of items)))
  where
    from : (o : Option RefAt) → ref_in at (refs_of items) ≡ o →
        option_map html_of (body_carried items at) ≡ option_map (text_at items) (option_and_then (carried_outside (notes_place items)) (option_map (ref_row items) (ref_in at (refs_of items))))
    from None e =
        ap (λ o. option_map html_of (option_and_then (carried_by items) o)) e
        ∙ sym (ap (λ o. option_map (text_at items) (option_and_then (carried_outside (notes_place items)) (option_map (ref_row items) o))) e)
    from (Some r) e =
        ap (λ o. option_map html_of (option_and_then (carried_by items) o)) e
        ∙ by_tests html_of (text_at items) (body_of r.key items) (is_carrier (refs_of items) r) (nat_lt (notes_place items) r.at) r.inside
        (inside_is 0 at false items r e ∙ ap (λ n. nat_lt n at) (let z : 0 + notes_place items ≡ notes_place items = omega arith in z) ∙ ap (nat_lt (notes_place items)) (sym (found_place (refs_of items) at r e)))
        (text_of_key items r.key)
        ∙ sym (ap (λ o. option_map (text_at items) (option_and_then (carried_outside (notes_place items)) (option_map (ref_row items) o))) e)
