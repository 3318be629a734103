-- Positions before the internal list, among the items that values are cited by.
use Rattle.std.proofs.Common.{◌≡◌, ◌≢◌, ℕ, ◌+◌, ◌≤◌, Bool, false, List, [], ◌∷◌, ◌++◌, length, take, drop, sym, ap, ◌∙◌, arith, Option, Some, None}
use Rattle.std.specs.Prelude.{◌||◌}
use Rattle.std.specs.List.{list_any, slice_get, drop-map, take-map}
use Rattle.std.proofs.lemmas.List.{length-map, map-append, take_more}
use Rattle.std.proofs.lemmas.List.Folds.{list_any-append}
use Rattle.std.proofs.lemmas.Option.{slice_get_within, get_or_from_slice_get}
use Rattle.ve_base.specs.declared.value.Value.{Value}
use Rattle.ve_base.specs.declared.value.ValueId.{ValueId}
use Rattle.ve_kinds.specs.declared.kind.Kind.{Kind}
use Rattle.ve_kinds.specs.declared.kind.Kind.TheVariants.{InternalList}
use Rattle.ve_kinds.specs.Table.{kind_same}
use Rattle.model_items.specs.declared.item.Item.{Item}
use Rattle.model_items.specs.declared.item.Item.TheVariants.{Opening}
use Rattle.model_items.specs.Plain.{plain, plain_list}
use Rattle.model_page.specs.declared.ref_table.RefRow.{RefRow}
use Rattle.model_page.specs.References.{Body}
use Rattle.model_page_write.specs.Nodes.{NodesEnding, carried_from, nodes_ending}
use Rattle.ve_write.specs.Siblings.{View, ending_at, is_end, SameOuter}
use Rattle.ve_write.proofs.SiblingLemmas.{found_at}
use Rattle.ve_origin.specs.Kept.{opens_notes}
use Rattle.ve_write.specs.Originals.{origin_of, AreLent, IsBefore}
use Rattle.ve_write.specs.declared.first_page.First.{First}
use Rattle.ve_write.proofs.LawfulLemmas.{ending_from, still_before}

pub plain_drop : (values : List Value) (n : ℕ) (items : List Item) → plain_list values (drop n items) ≡ drop n (plain_list values items)
plain_drop values n items = sym (drop-map (plain values) n items)

pub ending_is : (v : View) (items : List Item) (at : ℕ) → ending_at v items at ≡ ending_from v.bodies (plain_list v.values items) at
unfolding ending_at
ending_is v items at = ap (λ l. nodes_ending (carried_from v.bodies at l)) (plain_drop v.values at items)

abbrev no_bodies : ℕ → Option Body
no_bodies at = None

some_left : (values : List Value) (items : List Item) → is_end items ≡ false → plain_list values items ≢ []
some_left values [] e = cc
some_left values (x ∷ items) e = λ h. cc

-- the siblings that begin before the internal list go on before it
pub before_on : (values : List Value) (items : List Item) (refs : List RefRow) (first : Option First) (from at : ℕ) → AreLent values items refs first → IsBefore values items first from → from ≤ length items → at ≤ length items →
    SameOuter items from at → is_end (drop at items) ≡ false → IsBefore values items first at
before_on values items refs None from at lent before from_within within same more = tt
before_on values items refs (Some first) from at lent before from_within within same more =
    let v : View = record { values = values; bodies = no_bodies } in
    let long = length-map items (plain values) in
    still_before no_bodies (plain_list values items) from at lent.lawful (omega (arith, from_within, long)) (omega (arith, within, long))
    (sym (ap (λ (x : NodesEnding). x.outer) (ending_is v items at)) ∙ same v ∙ ap (λ (x : NodesEnding). x.outer) (ending_is v items from))
    before (λ e. some_left values (drop at items) more (plain_drop values at items ∙ e))

-- so do the nodes in a node that isn't the internal list
pub before_inside : (values : List Value) (items : List Item) (first : Option First) (at : ℕ) (kind : Kind) (generated : Bool) (head marks pre : Option ValueId) (origin : Option ℕ) → IsBefore values items first at →
    slice_get items at ≡ Some (Opening kind generated head marks pre origin) → kind_same kind InternalList ≡ false → IsBefore values items first (at + 1)
before_inside values items None at kind generated head marks pre origin before found other = tt
before_inside values items (Some first) at kind generated head marks pre origin before found other =
    let x = Opening kind generated head marks pre origin in
    let is : take (at + 1) (plain_list values items) ≡ take at (plain_list values items) ++ plain values x ∷ [] =
    take-map (plain values) (at + 1) items
    ∙ ap (plain_list values) (take_more items at x (slice_get_within items at x found) ∙ ap (λ y. take at items ++ y ∷ []) (get_or_from_slice_get items at x x found))
    ∙ map-append (plain values) (take at items) (x ∷ [])
    ∙ ap (λ l. l ++ plain values x ∷ []) (sym (take-map (plain values) at items)) in
    ap (list_any opens_notes) is ∙ list_any-append opens_notes (take at (plain_list values items)) (plain values x ∷ [])
    ∙ ap (λ b. b || (kind_same kind InternalList || false)) before ∙ ap (λ b. b || false) other

-- ---- origins

pub origin_at : (values : List Value) (items : List Item) (at : ℕ) (kind : Kind) (generated : Bool) (head marks pre : Option ValueId) (origin : Option ℕ) →
    slice_get items at ≡ Some (Opening kind generated head marks pre origin) → origin_of (drop at (plain_list values items)) ≡ origin
origin_at values items at kind generated head marks pre origin found = ap origin_of (sym (plain_drop values at items) ∙ ap (plain_list values) (found_at items at _ found))
