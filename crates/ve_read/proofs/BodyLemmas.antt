-- The internal list, read node by node.
use Rattle.std.proofs.Common.{◌≡◌, ℕ, zero, suc, ◌+◌, ◌≤◌, false, List, [], ◌∷◌, ◌++◌, length, map, drop, Option, Some, None, refl, sym, ap, ◌∙◌, subst, append_assoc, append-nil, slice_get, arith}
use Rattle.std.specs.Prelude.{flat_map, option_map, unwrap_or}
use Rattle.std.proofs.Math.ListN.{drop_of_length-le}
use Rattle.std.proofs.lemmas.Option.{slice_get_within}
use Rattle.std.specs.Option.{option_or}
use Rattle.ve_base.specs.declared.head.Head.{Head}
use Rattle.ve_base.specs.Empty.{empty_head}
use Rattle.ve_kinds.specs.declared.kind.Kind.TheVariants.{InternalList, InternalItem}
use Rattle.model_items.specs.declared.plain_item.PlainItem.{PlainItem}
use Rattle.model_items.specs.declared.plain_item.PlainItem.TheVariants.{Opening, Closing}
use Rattle.model_page.specs.Fit.{Flow, around_in}
use Rattle.model_page.specs.Pieces.{Owner, Made}
use Rattle.model_page.specs.PageItems.{or_nothing, item_head, body_made, internal_item}
use Rattle.model_page.specs.Limits.{Limit, TooDeep, TooManyMarks, moved_to, limit_of, body_limit, first_body_limit}
use Rattle.model_spelling.specs.Forest.{Forest}
use Rattle.model_spelling.specs.Parsed.{forest_of}
use Rattle.ve_origin.specs.declared.origin.OriginRow.{OriginRow}
use Rattle.ve_reader.specs.declared.purpose.Purpose.TheVariants as purpose
use Rattle.ve_reader.specs.declared.reader.OpenNode.{OpenNode}
use Rattle.ve_reader.specs.ReadSoFar.{ReadSoFar, with_opening, with_closing, node_opened, bodies_next}
use Rattle.ve_read.specs.Blocks.{with_siblings, white_at_end, siblings_limit}
use Rattle.ve_read.specs.Bodies.{InBodies, with_items, no_span}
use Rattle.ve_read.specs.declared.fault.ReadFault.{ReadFault}
use Rattle.ve_read.specs.declared.fault.ReadFault.TheVariants as fault
use Rattle.ve_read.specs.Faults.{IsOver}
use Rattle.ve_read.specs.Forests.{parts_in}
use Rattle.ve_read.specs.Moved.{owner_moved}
use Rattle.ve_read.proofs.MovedLemmas.{body_owns_none}

-- what is read of a page, where bodies come next
abbrev in_bodies : ℕ → List PlainItem → List OriginRow → ReadSoFar
in_bodies depth items rows = record { purpose = purpose.Body; depth = depth; items = items; marks = []; rows = rows; owners = [] }

is_in_bodies : (depth : ℕ) (r : ReadSoFar) → InBodies depth r → r ≡ in_bodies depth r.items r.rows
is_in_bodies depth r h = λ j. record { purpose = h.purpose j; depth = h.depth j; items = r.items; marks = h.marks j; rows = r.rows; owners = h.owners j }

-- ---- one owner

-- its item is opened,
abbrev item_opened : Owner → ReadSoFar → ReadSoFar
item_opened o r = with_opening InternalItem (item_head o.key) [] false no_span r

-- its body is read,
abbrev body_read : Owner → ReadSoFar → ReadSoFar
body_read o r = with_siblings (around_in InternalItem) (parts_in o.html) 0 (item_opened o r)

-- and the item is closed
abbrev item_closed : Owner → ReadSoFar → ReadSoFar
item_closed o r = with_closing (node_opened InternalItem r) (white_at_end (around_in InternalItem) (parts_in o.html) 0 (item_opened o r)) (body_read o r)

grown_by : (items body : List PlainItem) (first last : PlainItem) → ((items ++ first ∷ []) ++ body) ++ last ∷ [] ≡ items ++ (first ∷ (body ++ last ∷ []))
grown_by items body first last = append_assoc (items ++ first ∷ []) body (last ∷ []) ∙ append_assoc items (first ∷ []) (body ++ last ∷ [])

same_rows : (rows : List OriginRow) → ((rows ++ []) ++ []) ++ [] ≡ rows
same_rows rows = append-nil ((rows ++ []) ++ []) ∙ append-nil (rows ++ []) ∙ append-nil rows

item_closes : (o : Owner) (items : List PlainItem) (rows : List OriginRow) → item_closed o (in_bodies 1 items rows) ≡ with_items (internal_item o) (in_bodies 1 items rows)
item_closes o items rows =
    let forest : Forest = or_nothing (forest_of o.html) in
    let body : Made = body_made forest in
    let all = grown_by items body.later.items (Opening InternalItem (item_head o.key) [] [] None false) (Closing InternalItem body.pre) in
    let kept = same_rows rows in
    let owners = append-nil body.owners ∙ body_owns_none forest in
    λ j. record { purpose = purpose.Body; depth = 1; items = all j; marks = []; rows = kept j; owners = owners j }

pub owner_read : (o : Owner) (r : ReadSoFar) → InBodies 1 r → item_closed o r ≡ with_items (internal_item o) r
owner_read o r h =
    let e = is_in_bodies 1 r h in
    ap (item_closed o) e ∙ item_closes o r.items r.rows ∙ ap (with_items (internal_item o)) (sym e)

-- the same, by what the calls leave
pub owner_done : (o : Owner) (r opened filled closed : ReadSoFar) (head : Head) (node : OpenNode) (before white : List ℕ) → InBodies 1 r
    → head ≡ item_head o.key → before ≡ []
    → opened ≡ with_opening InternalItem head before false no_span r
    → node ≡ node_opened InternalItem r
    → filled ≡ with_siblings (around_in InternalItem) (parts_in o.html) 0 opened
    → white ≡ white_at_end (around_in InternalItem) (parts_in o.html) 0 opened
    → closed ≡ with_closing node white filled
    → closed ≡ with_items (internal_item o) r
owner_done o r opened filled closed head node before white h head_is none opened_is node_is filled_is white_is closed_is =
    let first : opened ≡ item_opened o r = opened_is ∙ (λ j. with_opening InternalItem (head_is j) (none j) false no_span r) in
    closed_is
    ∙ (λ j. with_closing (node_is j) (white_is j) (filled_is j))
    ∙ ap (λ x. with_closing (node_opened InternalItem r) (white_at_end (around_in InternalItem) (parts_in o.html) 0 x) (with_siblings (around_in InternalItem) (parts_in o.html) 0 x)) first
    ∙ owner_read o r h

-- no mark is around in its body
pub owner_marks : (o : Owner) (r opened : ReadSoFar) (head : Head) (before : List ℕ) → InBodies 1 r → opened ≡ with_opening InternalItem head before false no_span r → opened.marks ≡ []
owner_marks o r opened head before h e = ap (λ (x : ReadSoFar). x.marks) e ∙ h.marks

-- what is over a limit in its body
body_limits : (o : Owner) (r opened : ReadSoFar) (head : Head) (before : List ℕ) → InBodies 1 r → opened ≡ with_opening InternalItem head before false no_span r
    → siblings_limit (around_in InternalItem) (parts_in o.html) 0 opened ≡ limit_of 2 (Flow InternalItem) (parts_in o.html) 0 (body_made (or_nothing (forest_of o.html)))
body_limits o r opened head before h e =
    ap (siblings_limit (around_in InternalItem) (parts_in o.html) 0) (e ∙ ap (with_opening InternalItem head before false no_span) (is_in_bodies 1 r h))

pub owner_limit : (d at : ℕ) (o : Owner) (r opened : ReadSoFar) (head : Head) (before : List ℕ) → InBodies 1 r → opened ≡ with_opening InternalItem head before false no_span r → at ≡ d + o.at
    → option_map (moved_to at) (siblings_limit (around_in InternalItem) (parts_in o.html) 0 opened) ≡ body_limit (owner_moved d o)
owner_limit d at o r opened head before h e place =
    (λ j. option_map (moved_to (place j)) (body_limits o r opened head before h e j))

-- ---- all owners

pub in_bodies_still : (items : List PlainItem) (r next : ReadSoFar) → InBodies 1 r → next ≡ with_items items r → InBodies 1 next
in_bodies_still items r next h e = subst (InBodies 1) (sym e) (record { purpose = h.purpose; depth = h.depth; marks = h.marks; owners = h.owners })

drop_next : (owners : List Owner) (k : ℕ) (o : Owner) → slice_get owners k ≡ Some o → drop k owners ≡ o ∷ drop (suc k) owners
drop_next [] k o e = absurd (none_some o e)
  where
    none_some : (x : Owner) → slice_get {X = Owner} [] k ≡ Some x → ⊥
    none_some x h = absurd (omega (arith, slice_get_within [] k x h))
drop_next (x ∷ owners) zero o e = ap (λ y. y ∷ owners) (same x o e)
  where
    same : (a b : Owner) → ◌≡◌ {A = Option Owner} (Some a) (Some b) → a ≡ b
    same a b h = ap (λ y. unwrap_or y a) h
drop_next (x ∷ owners) (suc k) o e = drop_next owners k o e

-- The rest of the owners gives what all give.
pub record Left (d : ℕ) (owners : List Owner) (first : ReadSoFar) (k : ℕ) (r : ReadSoFar) : Type 0 where
  pub within : k ≤ length owners
  pub ready : InBodies 1 r
  pub read : with_items (flat_map internal_item (drop k owners)) r ≡ with_items (flat_map internal_item owners) first
  pub limit : first_body_limit (map (owner_moved d) (drop k owners)) ≡ first_body_limit (map (owner_moved d) owners)

pub left_first : (d : ℕ) (owners : List Owner) (first : ReadSoFar) → InBodies 1 first → Left d owners first 0 first
left_first d owners first h = record { within = omega arith; ready = h; read = refl; limit = refl }

two_reads : (r : ReadSoFar) (a b : List PlainItem) → with_items b (with_items a r) ≡ with_items (a ++ b) r
two_reads r a b = ap (λ items. record r { items = items }) (append_assoc r.items a b)

pub left_next : (d : ℕ) (owners : List Owner) (first : ReadSoFar) (k : ℕ) (r next : ReadSoFar) (o : Owner) → Left d owners first k r → slice_get owners k ≡ Some o
    → next ≡ with_items (internal_item o) r → body_limit (owner_moved d o) ≡ None → Left d owners first (suc k) next
left_next d owners first k r next o h e is none =
    let split = drop_next owners k o e in
    let rest : List PlainItem = flat_map internal_item (drop (suc k) owners) in
    record {
      within = slice_get_within owners k o e;
      ready = in_bodies_still (internal_item o) r next h.ready is;
      read = ap (with_items rest) is ∙ two_reads r (internal_item o) rest ∙ ap (λ os. with_items (flat_map internal_item os) r) (sym split) ∙ h.read;
      limit =
          sym (ap (λ l. option_or l (first_body_limit (map (owner_moved d) (drop (suc k) owners)))) none)
          ∙ ap (λ os. first_body_limit (map (owner_moved d) os)) (sym split)
          ∙ h.limit;
    }

pub left_stops : (d : ℕ) (owners : List Owner) (first : ReadSoFar) (k : ℕ) (r : ReadSoFar) (o : Owner) (limit : Limit) → Left d owners first k r → slice_get owners k ≡ Some o
    → body_limit (owner_moved d o) ≡ Some limit → first_body_limit (map (owner_moved d) owners) ≡ Some limit
left_stops d owners first k r o limit h e is =
    sym h.limit
    ∙ ap (λ os. first_body_limit (map (owner_moved d) os)) (drop_next owners k o e)
    ∙ ap (λ l. option_or l (first_body_limit (map (owner_moved d) (drop (suc k) owners)))) is

pub left_over : (d : ℕ) (owners : List Owner) (first : ReadSoFar) (k : ℕ) (r : ReadSoFar) (o : Owner) (e : ReadFault) → Left d owners first k r → slice_get owners k ≡ Some o
    → IsOver e (body_limit (owner_moved d o)) → IsOver e (first_body_limit (map (owner_moved d) owners))
left_over d owners first k r o (fault.TooDeep at) h e is = left_stops d owners first k r o (TooDeep at) h e is
left_over d owners first k r o (fault.TooManyMarks at) h e is = left_stops d owners first k r o (TooManyMarks at) h e is
left_over d owners first k r o fault.Memory h e is = is
left_over d owners first k r o (fault.PageTooLong len) h e is = is
left_over d owners first k r o (fault.Html f) h e is = is
left_over d owners first k r o (fault.TooManyItems count) h e is = is
left_over d owners first k r o fault.StoreFull h e is = is

none_left : (owners : List Owner) (k : ℕ) → length owners ≤ k → drop k owners ≡ []
none_left owners k l = drop_of_length-le owners l

nothing_more : (r : ReadSoFar) → with_items [] r ≡ r
nothing_more r = ap (λ items. record r { items = items }) (append-nil r.items)

pub left_done : (d : ℕ) (owners : List Owner) (first : ReadSoFar) (k : ℕ) (r : ReadSoFar) → Left d owners first k r → length owners ≤ k
    → (r ≡ with_items (flat_map internal_item owners) first) × (first_body_limit (map (owner_moved d) owners) ≡ None)
left_done d owners first k r h l =
    let none = none_left owners k l in (
      sym (nothing_more r) ∙ ap (λ os. with_items (flat_map internal_item os) r) (sym none) ∙ h.read,
      sym h.limit ∙ ap (λ os. first_body_limit (map (owner_moved d) os)) none,
    )

-- ---- the list

-- the list is opened
pub list_opened : (r next : ReadSoFar) (head : Head) (white : List ℕ) → r.depth ≡ 0 → r.marks ≡ [] → next ≡ with_opening InternalList head white false no_span (bodies_next r) → InBodies 1 next
list_opened r next head white d m e = subst (InBodies 1) (sym e) (record { purpose = refl; depth = ap suc d; marks = m; owners = refl })

-- and closed, after what stands in it
pub list_closed : (r opened filled closed : ReadSoFar) (head : Head) (node : OpenNode) (white after : List ℕ) (body : List PlainItem) → head ≡ empty_head → after ≡ []
    → opened ≡ with_opening InternalList head white false no_span (bodies_next r)
    → node ≡ node_opened InternalList (bodies_next r)
    → filled ≡ with_items body opened
    → closed ≡ with_closing node after filled
    → (closed.items ≡ r.items ++ (Opening InternalList empty_head [] white None false ∷ (body ++ Closing InternalList [] ∷ []))) × (closed.rows ≡ r.rows)
list_closed r opened filled closed head node white after body empty none opened_is node_is filled_is closed_is =
    let is : closed ≡ with_closing (node_opened InternalList (bodies_next r)) [] (with_items body (with_opening InternalList empty_head white false no_span (bodies_next r))) =
    closed_is ∙ (λ j. with_closing (node_is j) (none j) (filled_is j))
    ∙ (λ j. with_closing (node_opened InternalList (bodies_next r)) [] (with_items body (opened_is j)))
    ∙ (λ j. with_closing (node_opened InternalList (bodies_next r)) [] (with_items body (with_opening InternalList (empty j) white false no_span (bodies_next r)))) in (
      ap (λ (x : ReadSoFar). x.items) is ∙ grown_by r.items body (Opening InternalList empty_head [] white None false) (Closing InternalList []),
      ap (λ (x : ReadSoFar). x.rows) is ∙ append-nil (r.rows ++ []) ∙ append-nil r.rows,
    )
