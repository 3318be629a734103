-- The siblings that begin at a position, by the item there.
use Rattle.std.proofs.Common.{◌≡◌, ℕ, suc, ◌+◌, Bool, true, false, List, [], ◌∷◌, drop, refl, sym, ap, ◌∙◌, arith, Some, Option}
use Rattle.std.specs.List.{slice_get}
use Rattle.ve_base.specs.declared.value.ValueId.{ValueId}
use Rattle.ve_kinds.specs.declared.kind.Kind.{Kind}
use Rattle.model_items.specs.declared.item.Item.{Item}
use Rattle.model_items.specs.declared.item.Item.TheVariants.{Char, Opening, Closing}
use Rattle.model_items.specs.Plain.{value_at, head_in, marks_in, white_in, plain_list}
use Rattle.model_page_write.specs.Nodes.{Empty, Letter, Node, Start, NodesEnding, first_outer, carried_from, nodes_ending}
use Rattle.ve_write.specs.Siblings.{View, ending_at, Ends, SameOuter, is_end}
use Rattle.ve_write.specs.After.{Follows}
use Rattle.ve_write.specs.declared.ends.After.{After}
use Rattle.std.proofs.lemmas.List.{drop_more}
use Rattle.std.proofs.lemmas.Option.{slice_get_within, get_or_from_slice_get}

pub found_at : {A : Type 0} (xs : List A) (at : ℕ) (x : A) → slice_get xs at ≡ Some x → drop at xs ≡ x ∷ drop (at + 1) xs
found_at xs at x found = drop_more xs at x (slice_get_within xs at x found) ∙ ap (λ y. y ∷ drop (at + 1) xs) (get_or_from_slice_get xs at x x found)

-- what follows an item
next : (v : View) (items : List Item) (at : ℕ) → nodes_ending (carried_from v.bodies (suc at) (plain_list v.values (drop (at + 1) items))) ≡ ending_at v items (at + 1)
unfolding ending_at
next v items at = let e : suc at ≡ at + 1 = omega arith in ap (λ n. nodes_ending (carried_from v.bodies n (plain_list v.values (drop (at + 1) items)))) e

pub char_here : (v : View) (items : List Item) (at : ℕ) (ch : ℕ) (marks : Option ValueId) → drop at items ≡ Char ch marks ∷ drop (at + 1) items →
    ending_at v items at ≡ record { here = Letter ch (marks_in (value_at v.values marks)) (ending_at v items (at + 1)).here; outer = (ending_at v items (at + 1)).outer }
unfolding ending_at
char_here v items at ch marks e =
    ap (λ l. nodes_ending (carried_from v.bodies at (plain_list v.values l))) e
    ∙ ap (λ (x : NodesEnding). record { here = Letter ch (marks_in (value_at v.values marks)) x.here; outer = x.outer }) (next v items at)

pub closing_here : (v : View) (items : List Item) (at : ℕ) (kind : Kind) (pre : Option ValueId) → drop at items ≡ Closing kind pre ∷ drop (at + 1) items →
    ending_at v items at ≡ record { here = Empty; outer = record { pre = white_in (value_at v.values pre); later = (ending_at v items (at + 1)).here } ∷ (ending_at v items (at + 1)).outer }
unfolding ending_at
closing_here v items at kind pre e =
    ap (λ l. nodes_ending (carried_from v.bodies at (plain_list v.values l))) e
    ∙ ap (λ (x : NodesEnding). record { here = Empty; outer = record { pre = white_in (value_at v.values pre); later = x.here } ∷ x.outer }) (next v items at)

-- what an opening says, with the body that it carries
abbrev pub start_of : View → ℕ → Kind → Bool → Option ValueId → Option ValueId → Option ValueId → Option ℕ → Start
start_of v at kind generated head marks pre origin = record {
  kind = kind;
  head = head_in (value_at v.values head);
  marks = marks_in (value_at v.values marks);
  pre = white_in (value_at v.values pre);
  origin = origin;
  generated = generated;
  body = v.bodies at;
}

pub opening_here : (v : View) (items : List Item) (at : ℕ) (kind : Kind) (generated : Bool) (head marks pre : Option ValueId) (origin : Option ℕ) →
    drop at items ≡ Opening kind generated head marks pre origin ∷ drop (at + 1) items →
    ending_at v items at ≡ record {
      here = Node (start_of v at kind generated head marks pre origin) (ending_at v items (at + 1)).here (first_outer (ending_at v items (at + 1)).outer).pre (first_outer (ending_at v items (at + 1)).outer).later;
      outer = drop 1 (ending_at v items (at + 1)).outer;
    }
unfolding ending_at
opening_here v items at kind generated head marks pre origin e =
    ap (λ l. nodes_ending (carried_from v.bodies at (plain_list v.values l))) e
    ∙ ap (λ (x : NodesEnding). record { here = Node (start_of v at kind generated head marks pre origin) x.here (first_outer x.outer).pre (first_outer x.outer).later; outer = drop 1 x.outer }) (next v items at)

pub nothing_here : (v : View) (items : List Item) (at : ℕ) → drop at items ≡ [] → ending_at v items at ≡ record { here = Empty; outer = [] }
unfolding ending_at
nothing_here v items at e = ap (λ l. nodes_ending (carried_from v.bodies at (plain_list v.values l))) e

-- ---- one step among siblings

pub char_outer : (items : List Item) (at : ℕ) (item : Item) (ch : ℕ) (marks : Option ValueId) → slice_get items at ≡ Some item → item ≡ Char ch marks → SameOuter items at (at + 1)
char_outer items at item ch marks found is v = sym (ap (λ (x : NodesEnding). x.outer) (char_here v items at ch marks (found_at items at item found ∙ ap (λ x. x ∷ drop (at + 1) items) is)))

pub node_pre : (items : List Item) (inside end : ℕ) (after : After) → Ends items inside end → Follows items end after → (v : View) → (first_outer (ending_at v items inside).outer).pre ≡ white_in (value_at v.values after.pre)
node_pre items inside end after ends is v = sym (ap (λ (x : NodesEnding). (first_outer x.outer).pre) (ends v)) ∙ is.pre v

pub node_later : (items : List Item) (inside end : ℕ) (after : After) → Ends items inside end → Follows items end after → (v : View) → (first_outer (ending_at v items inside).outer).later ≡ (ending_at v items after.at).here
node_later items inside end after ends is v = sym (ap (λ (x : NodesEnding). (first_outer x.outer).later) (ends v)) ∙ is.later v

pub node_outer : (items : List Item) (inside end : ℕ) (after : After) → Ends items inside end → Follows items end after → (v : View) → drop 1 (ending_at v items inside).outer ≡ (ending_at v items after.at).outer
node_outer items inside end after ends is v = sym (ap (λ (x : NodesEnding). drop 1 x.outer) (ends v)) ∙ is.outer v

pub opening_outer : (items : List Item) (at : ℕ) (item : Item) (kind : Kind) (generated : Bool) (head marks pre : Option ValueId) (origin : Option ℕ) (end : ℕ) (after : After) →
    slice_get items at ≡ Some item → item ≡ Opening kind generated head marks pre origin → Ends items (at + 1) end → Follows items end after → SameOuter items at after.at
opening_outer items at item kind generated head marks pre origin end after found is ends follows v =
    sym (node_outer items (at + 1) end after ends follows v)
    ∙ sym (ap (λ (x : NodesEnding). x.outer) (opening_here v items at kind generated head marks pre origin (found_at items at item found ∙ ap (λ x. x ∷ drop (at + 1) items) is)))

pub no_closing : (items : List Item) (at : ℕ) (item : Item) (kind : Kind) (pre : Option ValueId) → slice_get items at ≡ Some item → item ≡ Closing kind pre → is_end (drop at items) ≡ false → ⊥
no_closing items at item kind pre found is open_here =
    let f : true ≡ false = sym (ap is_end (found_at items at item found) ∙ ap (λ x. is_end (x ∷ drop (at + 1) items)) is) ∙ open_here in cc

ends_lists : (v : View) (items rest : List Item) (at : ℕ) → drop at items ≡ rest → is_end rest ≡ true → (ending_at v items at).here ≡ Empty
unfolding ending_at
ends_lists v items [] at e h = ap (λ l. (nodes_ending (carried_from v.bodies at (plain_list v.values l))).here) e
ends_lists v items (Closing kind pre ∷ rest) at e h = ap (λ l. (nodes_ending (carried_from v.bodies at (plain_list v.values l))).here) e
ends_lists v items (Char ch marks ∷ rest) at e h = cc
ends_lists v items (Opening kind generated head marks pre origin ∷ rest) at e h = cc

-- nothing is left where the parent closes
pub none_here : (v : View) (items : List Item) (at : ℕ) → is_end (drop at items) ≡ true → (ending_at v items at).here ≡ Empty
none_here v items at h = ends_lists v items (drop at items) at refl h

pub ends_here : (items : List Item) (from at : ℕ) → is_end (drop at items) ≡ true → SameOuter items from at → Ends items from at
ends_here items from at h same v =
    let a = none_here v items at h in
    let b = same v in
    (λ i. record { here = a i; outer = b i })

pub outer_on : (items : List Item) (from at to : ℕ) → SameOuter items from at → SameOuter items at to → SameOuter items from to
outer_on items from at to a b v = b v ∙ a v
