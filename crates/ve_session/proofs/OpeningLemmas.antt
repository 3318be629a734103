-- The rows of origins find the openings of the list that was first read.
use Rattle.std.proofs.Common.{◌≡◌, ◌<◌, ◌≤◌, ◌-◌, ◌==◌, ℕ, zero, suc, Bool, true, false, if◌then◌else◌, List, [], ◌∷◌, length, map, take, drop, Option, Some, None, option_map, refl, ap, sym, subst, ◌∙◌, arith}
use Rattle.std.specs.Prelude.{slice_get, slice_range}
use Rattle.std.proofs.lemmas.Bool.{eqb-true, false_from_ne_true}
use Rattle.std.proofs.lemmas.Option.{slice_get-map}
use Rattle.ve_base.specs.declared.head.Head.{Head}
use Rattle.ve_base.specs.declared.value.Value.{Value}
use Rattle.ve_kinds.specs.declared.kind.Kind.{Kind}
use Rattle.model_items.specs.declared.item.Item.{Item}
use Rattle.model_items.specs.declared.plain_item.PlainItem.{PlainItem}
use Rattle.model_items.specs.declared.plain_item.PlainItem.TheVariants.{Char, Opening, Closing}
use Rattle.model_items.specs.Plain.{plain, plain_list}
use Rattle.model_page.specs.References.{Body}
use Rattle.model_page_write.specs.Nodes.{Carried, body_carried, carried_from, carried_items}
use Rattle.model_page_write.specs.PageText.{has_origin, node_from, node_with}
use Rattle.model_world.specs.Completed.{read_for}
use Rattle.ve_changes.specs.Completions.{opening_of, FindsFirst}
use Rattle.ve_origin.specs.Kept.{IsNodeRange}
use Rattle.ve_origin.specs.Origins.{FirstRead, AreRows}
use Rattle.ve_origin.specs.declared.origin.OriginRow.{OriginRow}
use Rattle.ve_write.specs.Originals.{origin_of, IsFirst}

-- ---- the first item of an origin's node

carried_back : (bodies : ℕ → Option Body) (at : ℕ) (items : List PlainItem) → map (λ (c : Carried). c.item) (carried_from bodies at items) ≡ items
carried_back bodies at [] = refl
carried_back bodies at (Char c marks ∷ items) = ap (λ l. Char c marks ∷ l) (carried_back bodies (suc at) items)
carried_back bodies at (Closing kind pre ∷ items) = ap (λ l. Closing kind pre ∷ l) (carried_back bodies (suc at) items)
carried_back bodies at (Opening kind head marks pre origin generated ∷ items) = ap (λ l. Opening kind head marks pre origin generated ∷ l) (carried_back bodies (suc at) items)

abbrev first_of : {A : Type 0} → List A → Option A
first_of [] = None
first_of (x ∷ xs) = Some x

first_taken : {A : Type 0} (xs : List A) (from n : ℕ) (x : A) → slice_get xs from ≡ Some x → 0 < n → first_of (take n (drop from xs)) ≡ Some x
first_taken [] zero n x e some = cc e
first_taken [] (suc from) n x e some = cc e
first_taken (y ∷ xs) zero zero x e some = absurd (let none : ⊥ = omega (arith, some) in none)
first_taken (y ∷ xs) zero (suc n) x e some = e
first_taken (y ∷ xs) (suc from) n x e some = first_taken xs from n x e some

-- an item of the origin is its opening
by_origin : (k : ℕ) (item : PlainItem) (later : List PlainItem) → has_origin k item ≡ true → read_for k (item ∷ later) ≡ opening_of item
by_origin k (Char c marks) later e = cc e
by_origin k (Closing kind pre) later e = cc e
by_origin k (Opening kind head marks pre None generated) later e = cc e
by_origin k (Opening kind head marks pre (Some origin) generated) later e = ap (λ b. if b then Some (kind, head) else read_for k later) e

by_other : (k : ℕ) (item : PlainItem) (later : List PlainItem) → has_origin k item ≡ false → read_for k (item ∷ later) ≡ read_for k later
by_other k (Char c marks) later e = refl
by_other k (Closing kind pre) later e = refl
by_other k (Opening kind head marks pre None generated) later e = refl
by_other k (Opening kind head marks pre (Some origin) generated) later e = ap (λ b. if b then Some (kind, head) else read_for k later) e

abbrev opening_in : Option Carried → Option (Kind × Head)
opening_in None = None
opening_in (Some x) = opening_of x.item

first_is_read : (k : ℕ) (cs : List Carried) (c : Carried) → first_of (node_with k cs) ≡ Some c → read_for k (map (λ (d : Carried). d.item) cs) ≡ opening_of c.item
first_is_read k [] c e = cc e
first_is_read k (d ∷ cs) c e = by (has_origin k d.item) refl e (first_is_read k cs c) where
  by : (b : Bool) → has_origin k d.item ≡ b → first_of (if b then d ∷ node_from cs 0 else node_with k cs) ≡ Some c →
      (first_of (node_with k cs) ≡ Some c → read_for k (map (λ (x : Carried). x.item) cs) ≡ opening_of c.item) →
      read_for k (d.item ∷ map (λ (x : Carried). x.item) cs) ≡ opening_of c.item
  by true is f later = by_origin k d.item (map (λ (x : Carried). x.item) cs) is ∙ ap opening_in f
  by false is f later = by_other k d.item (map (λ (x : Carried). x.item) cs) is ∙ later f

in_list : (items : List PlainItem) (bodies : ℕ → Option Body) (at from : ℕ) (item : PlainItem) → slice_get items from ≡ Some item →
    (c : Carried) × (slice_get (carried_from bodies at items) from ≡ Some c) × (c.item ≡ item)
in_list [] bodies at zero item e = cc e
in_list [] bodies at (suc from) item e = cc e
in_list (Char c marks ∷ items) bodies at zero item e = (record { item = Char c marks; body = None }, refl, cc e)
in_list (Closing kind pre ∷ items) bodies at zero item e = (record { item = Closing kind pre; body = None }, refl, cc e)
in_list (Opening kind head marks pre origin generated ∷ items) bodies at zero item e = (record { item = Opening kind head marks pre origin generated; body = bodies at }, refl, cc e)
in_list (Char c marks ∷ items) bodies at (suc from) item e = in_list items bodies (suc at) from item e
in_list (Closing kind pre ∷ items) bodies at (suc from) item e = in_list items bodies (suc at) from item e
in_list (Opening kind head marks pre origin generated ∷ items) bodies at (suc from) item e = in_list items bodies (suc at) from item e

-- the opening of an origin stands where its node's range begins
range_finds : (items : List PlainItem) (k from to : ℕ) (item : PlainItem) → IsNodeRange items k from to → slice_get items from ≡ Some item → read_for k items ≡ opening_of item
range_finds items k from to item range e =
    let c = in_list items (body_carried items) 0 from item e in
    let first = ap (λ (l : List Carried). first_of l) range.is ∙ first_taken (carried_items items) from (to - from) c.0 c.1 (omega (arith, range.some)) in
    ap (read_for k) (sym (carried_back (body_carried items) 0 items)) ∙ first_is_read k (carried_items items) c.0 first ∙ ap opening_of c.2

-- ---- an origin that no opening has

none_read : (items : List PlainItem) (k : ℕ) → ((at : ℕ) → origin_of (drop at items) ≡ Some k → ⊥) → read_for k items ≡ None
none_read [] k none = refl
none_read (Char c marks ∷ items) k none = none_read items k (λ at e. none (suc at) e)
none_read (Closing kind pre ∷ items) k none = none_read items k (λ at e. none (suc at) e)
none_read (Opening kind head marks pre None generated ∷ items) k none = none_read items k (λ at e. none (suc at) e)
none_read (Opening kind head marks pre (Some origin) generated ∷ items) k none =
    ap (λ b. if b then Some (kind, head) else read_for k items) (false_from_ne_true (origin == k) (λ same. none 0 (ap (λ n. Some n) (eqb-true origin k same))))
    ∙ none_read items k (λ at e. none (suc at) e)

-- ---- so the rows find them

pub finds_first : (page : List ℕ) (values : List Value) (o : FirstRead) → AreRows page (length o.items) o.rows → IsFirst values o → FindsFirst values o.items o.rows
finds_first page values o rows first = record {
  cites = first.cites;
  within = λ k row there. let r = rows k row there in omega (arith, r.some, r.within);
  found = λ k row item there here. range_finds (plain_list values o.items) k row.from row.to (plain values item) (first.ranges k row there) (slice_get-map (plain values) o.items row.from ∙ ap (option_map (plain values)) here);
  others = λ k past. none_read (plain_list values o.items) k (λ at e. let less = first.numbered at k e in absurd (let none : ⊥ = omega (arith, past, less) in none));
}
