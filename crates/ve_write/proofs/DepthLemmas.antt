-- Where siblings end: how many more nodes are open at a later position.
use Rattle.std.proofs.Common.{◌≡◌, ℕ, zero, suc, ◌+◌, ◌-◌, ◌≤◌, ◌<◌, Bool, true, List, [], ◌∷◌, length, get_or, take, drop, refl, sym, ap, subst, ◌∙◌, arith, Some, Option, drop-drop}
use Rattle.std.specs.List.{slice_get, slice_range}
use Rattle.std.proofs.lemmas.List.{get_or-take, get_or-drop}
use Rattle.std.proofs.lemmas.Option.{slice_get_within, slice_get-get_or, get_or_from_slice_get}
use Rattle.ve_base.specs.declared.value.ValueId.{ValueId}
use Rattle.ve_kinds.specs.declared.kind.Kind.{Kind}
use Rattle.model_items.specs.declared.item.Item.{Item}
use Rattle.model_items.specs.declared.item.Item.TheVariants.{Char, Opening, Closing}
use Rattle.model_page_write.specs.Nodes.{Empty, NodesEnding}
use Rattle.ve_write.specs.Siblings.{ending_at, Ends, is_end}
use Rattle.ve_write.specs.Passing.{Inside, StandsAt}
use Rattle.ve_write.proofs.SiblingLemmas.{found_at, char_here, opening_here, closing_here, nothing_here, ends_here}

pub over_char : (items : List Item) (from at d e : ℕ) (item : Item) (ch : ℕ) (marks : Option ValueId) → slice_get items at ≡ Some item → item ≡ Char ch marks → e ≡ d →
    Inside items from d at → Inside items from e (at + 1)
over_char items from at d e item ch marks found is same so v =
    let here = char_here v items at ch marks (found_at items at item found ∙ ap (λ x. x ∷ drop (at + 1) items) is) in
    ap (λ n. drop n (ending_at v items (at + 1)).outer) same ∙ sym (ap (λ (x : NodesEnding). drop d x.outer) here) ∙ so v

pub over_opening : (items : List Item) (from at d e : ℕ) (item : Item) (kind : Kind) (generated : Bool) (head marks pre : Option ValueId) (origin : Option ℕ) → slice_get items at ≡ Some item →
    item ≡ Opening kind generated head marks pre origin → e ≡ d + 1 → Inside items from d at → Inside items from e (at + 1)
over_opening items from at d e item kind generated head marks pre origin found is same so v =
    let here = opening_here v items at kind generated head marks pre origin (found_at items at item found ∙ ap (λ x. x ∷ drop (at + 1) items) is) in
    let n : e ≡ 1 + d = omega (arith, same) in
    ap (λ n. drop n (ending_at v items (at + 1)).outer) n ∙ sym (drop-drop d 1 (ending_at v items (at + 1)).outer) ∙ sym (ap (λ (x : NodesEnding). drop d x.outer) here) ∙ so v

pub over_closing : (items : List Item) (from at d e : ℕ) (item : Item) (kind : Kind) (pre : Option ValueId) → slice_get items at ≡ Some item → item ≡ Closing kind pre → d ≡ suc e →
    Inside items from d at → Inside items from e (at + 1)
over_closing items from at d e item kind pre found is same so v =
    let here = closing_here v items at kind pre (found_at items at item found ∙ ap (λ x. x ∷ drop (at + 1) items) is) in
    sym (ap (λ n. drop n (ending_at v items at).outer) same ∙ ap (λ (x : NodesEnding). drop (suc e) x.outer) here) ∙ so v

-- one item on in a piece
pub piece_on : (items : List Item) (from at n d : ℕ) → Inside items from d (at + n + 1) → Inside items from d (at + (n + 1))
piece_on items from at n d so = let e : at + n + 1 ≡ at + (n + 1) = omega arith in subst (Inside items from d) e so

-- a piece that is borrowed stands in its list
pub piece_stands : (items piece : List Item) (at : ℕ) → piece ≡ slice_range items at (at + length piece) → at + length piece ≤ length items → StandsAt items piece at
piece_stands items piece at is within n item found =
    let less = slice_get_within piece n item found in
    let count : at + length piece - at ≡ length piece = omega arith in
    let lent : piece ≡ take (length piece) (drop at items) = is ∙ ap (λ m. take m (drop at items)) count in
    slice_get-get_or items (at + n) item (omega (arith, less, within))
    ∙ ap Some (sym (get_or-drop at items n item) ∙ sym (get_or-take (length piece) (drop at items) n item less)
    ∙ ap (λ l. get_or l n item) (sym lent) ∙ get_or_from_slice_get piece n item item found)

-- the item of a piece, by its position in the list
pub piece_item : (items piece : List Item) (from at : ℕ) (x : Item) → piece ≡ slice_range items from (from + length piece) → from + length piece ≤ length items → from ≤ at → at - from < length piece →
    slice_get items at ≡ Some (get_or piece (at - from) x)
piece_item items piece from at x is within more less =
    let here : from + (at - from) ≡ at = omega (arith, more) in
    ap (slice_get items) (sym here) ∙ piece_stands items piece from is within (at - from) (get_or piece (at - from) x) (slice_get-get_or piece (at - from) x less)

pub at_closing : (items : List Item) (from at d : ℕ) → is_end (drop at items) ≡ true → d ≡ 0 → Inside items from d at → Ends items from at
at_closing items from at d ends none so = ends_here items from at ends (subst (λ n. Inside items from n at) none so)

drop_none : {A : Type 0} (n : ℕ) → drop n (let none : List A = [] in none) ≡ []
drop_none zero = refl
drop_none (suc n) = refl

pub at_end : (items : List Item) (from at d : ℕ) → drop at items ≡ [] → Inside items from d at → Ends items from at
at_end items from at d e so v =
    let here = nothing_here v items at e in
    here ∙ ap (λ o. record { here = Empty; outer = o }) (sym (ap (λ (x : NodesEnding). drop d x.outer) here ∙ drop_none d) ∙ so v)
