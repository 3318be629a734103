-- Bodies: the siblings after the opening of an internal item are those of its body.
use Rattle.std.proofs.Common.{◌≡◌, ℕ, zero, suc, ◌+◌, false, List, [], ◌∷◌, ◌++◌, take, drop, refl, sym, ap, ◌∙◌, append_assoc, Option, None}
use Rattle.std.specs.Prelude.{encode_utf8_all, nat_eq, option_map}
use Rattle.std.specs.Map.{lookup}
use Rattle.indexmap.specs.IndexMap.{IndexMap, IsEmpty}
use Rattle.model_items.specs.declared.item.Item.{Item}
use Rattle.model_items.specs.declared.plain_item.PlainItem.{PlainItem}
use Rattle.model_items.specs.declared.plain_item.PlainItem.TheVariants.{Char, Opening, Closing}
use Rattle.model_items.specs.Plain.{value_at, white_in, plain_list}
use Rattle.model_page.specs.References.{Body, body_after, inside_from}
use Rattle.model_page_write.specs.Nodes.{Carried, Empty, Letter, Node, Nodes, NodesEnding, Outer, Start, carried_from, carrying_nothing, first_outer, node_items, nodes_ending}
use Rattle.model_page_write.specs.PageText.{bare_writer, html_of}
use Rattle.model_page_write.specs.Written.{Writer, blocks}
use Rattle.ve_write.specs.Siblings.{View, ending_at, Ends}
use Rattle.ve_write.specs.After.{Follows}
use Rattle.ve_write.specs.declared.ends.After.{After}
use Rattle.ve_write.proofs.SiblingLemmas.{node_pre}
use Rattle.ve_write.specs.Originals.{original_in}
use Rattle.ve_write.specs.Told.{blocks_at, text_of, view_of, IsAppended, Known}

-- ---- no texts

pub no_texts : {S : Type 0} (texts : IndexMap ℕ (List ℕ) S) → IsEmpty texts → (k : ℕ) → None ≡ text_of texts k
no_texts texts empty k = sym (ap (λ entries. option_map encode_utf8_all (lookup (nat_eq k) entries)) empty)

-- ---- where a body ends

-- no reference carries a body
abbrev nothing : ℕ → Option Body
nothing at = None

-- The siblings of the one are those of the other, which ends where so many more nodes are closed
-- and one is left, with this whitespace before its closing.
record IsCut (whole cut : NodesEnding) (depth : ℕ) (pre : List ℕ) : Type 0 where
  here : whole.here ≡ cut.here
  outer : take depth whole.outer ≡ cut.outer
  closing : (first_outer (drop depth whole.outer)).pre ≡ pre

take_none : {A : Type 0} (n : ℕ) → take n (let none : List A = [] in none) ≡ []
take_none zero = refl
take_none (suc n) = refl

drop_none : {A : Type 0} (n : ℕ) → drop n (let none : List A = [] in none) ≡ []
drop_none zero = refl
drop_none (suc n) = refl

first_taken : (d : ℕ) (outer : List Outer) → first_outer outer ≡ first_outer (take (suc d) outer)
first_taken d [] = refl
first_taken d (o ∷ outer) = refl

rest_taken : (d : ℕ) (outer : List Outer) → take d (drop 1 outer) ≡ drop 1 (take (suc d) outer)
rest_taken d [] = take_none d
rest_taken d (o ∷ outer) = refl

rest_dropped : (d : ℕ) (outer : List Outer) → drop d (drop 1 outer) ≡ drop (suc d) outer
rest_dropped d [] = drop_none d
rest_dropped d (o ∷ outer) = refl

inside_cut : (k d : ℕ) (items : List PlainItem) → IsCut (nodes_ending (carried_from nothing k items)) (nodes_ending (carrying_nothing (inside_from d items).0)) d (inside_from d items).1
inside_cut k d [] = record { here = refl; outer = take_none d; closing = ap (λ (o : List Outer). (first_outer o).pre) (drop_none d) }
inside_cut k zero (Closing kind pre ∷ items) = record { here = refl; outer = refl; closing = refl }
inside_cut k (suc d) (Closing kind pre ∷ items) =
    let cut = inside_cut (suc k) d items in
    record {
      here = refl;
      outer = λ i. record { pre = pre; later = cut.here i } ∷ cut.outer i;
      closing = cut.closing;
    }
inside_cut k d (Char c marks ∷ items) =
    let cut = inside_cut (suc k) d items in
    record { here = ap (Letter c marks) cut.here; outer = cut.outer; closing = cut.closing }
inside_cut k d (Opening kind head marks pre origin generated ∷ items) =
    let cut = inside_cut (suc k) (suc d) items in
    let e = nodes_ending (carried_from nothing (suc k) items) in
    let s : Start = record { kind = kind; head = head; marks = marks; pre = pre; origin = origin; generated = generated; body = None } in
    let first = first_taken d e.outer ∙ ap first_outer cut.outer in
    record {
      here = λ i. Node s (cut.here i) (first i).pre (first i).later;
      outer = rest_taken d e.outer ∙ ap (drop 1) cut.outer;
      closing = ap (λ (o : List Outer). (first_outer o).pre) (rest_dropped d e.outer) ∙ cut.closing;
    }

-- ---- the text of a body

from_is : (v : View) (items : List Item) (at : ℕ) → ending_at v items at ≡ nodes_ending (carried_from v.bodies at (plain_list v.values (drop at items)))
unfolding ending_at
from_is v items at = refl

-- a writer that has no original bytes
pub none_in : (w : Writer) → ((start : Start) (items : List Carried) → w.original start items ≡ None) → (n : Nodes) → original_in w n ≡ None
none_in w none Empty = refl
none_in w none (Letter c marks later) = refl
none_in w none (Node start inside pre later) = none start (node_items start inside pre)

pub body_done : (k : Known) (at end : ℕ) (after : After) (old mid new : List ℕ) → ((n : ℕ) → None ≡ k.originals n) → ((n : ℕ) → None ≡ k.texts n) →
    Ends k.items (at + 1) end → Follows k.items end after → IsAppended k old mid (λ w v. blocks_at w v k.items false (at + 1)) →
    new ≡ mid ++ encode_utf8_all (white_in (value_at k.values after.pre)) → new ≡ old ++ html_of (body_after at (plain_list k.values (drop (at + 1) k.items)))
body_done k at end after old mid new fresh none ends follows so last =
    let v : View = view_of k nothing in
    let inside = plain_list k.values (drop (at + 1) k.items) in
    let cut = inside_cut (at + 1) 0 inside in
    let pre = (inside_from 0 inside).1 in
    let first : (first_outer (ending_at v k.items (at + 1)).outer).pre ≡ pre = ap (λ (e : NodesEnding). (first_outer e.outer).pre) (from_is v k.items (at + 1)) ∙ cut.closing in
    let here = ap (λ (e : NodesEnding). e.here) (from_is v k.items (at + 1)) ∙ cut.here in
    let text : blocks_at bare_writer v k.items false (at + 1) ≡ blocks bare_writer false pre (nodes_ending (carrying_nothing (inside_from 0 inside).0)).here = (λ i. blocks bare_writer false (first i) (here i)) in
    let written : mid ≡ old ++ blocks_at bare_writer v k.items false (at + 1) =
    so bare_writer nothing (record { original = λ n. none_in bare_writer (λ start items. refl) (ending_at v k.items n).here ∙ fresh n; known = none }) in
    last
    ∙ ap (λ (l : List ℕ). l ++ encode_utf8_all (white_in (value_at k.values after.pre))) (written ∙ ap (λ l. old ++ l) text)
    ∙ append_assoc old _ _
    ∙ ap (λ l. old ++ (blocks bare_writer false pre (nodes_ending (carrying_nothing (inside_from 0 inside).0)).here ++ encode_utf8_all l)) (sym (node_pre k.items (at + 1) end after ends follows v) ∙ first)
