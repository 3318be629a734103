-- A page by what was read of its body.
use Rattle.std.proofs.Common.{◌≡◌, ℕ, ◌+◌, ◌≤◌, Bool, true, false, List, [], ◌∷◌, ◌++◌, length, map, Option, Some, None, Result, Ok, Err, refl, sym, ap, ◌∙◌, subst, arith}
use Rattle.std.specs.Prelude.{All, flat_map, nat_lt, option_map}
use Rattle.std.specs.Option.{option_or}
use Rattle.std.proofs.lemmas.List.{length-map}
use Rattle.ve_base.specs.Limits.{max_page}
use Rattle.ve_base.specs.declared.value.Value.{Value}
use Rattle.ve_base.specs.Empty.{empty_head}
use Rattle.ve_kinds.specs.declared.kind.Kind.TheVariants.{Root, InternalList}
use Rattle.model_items.specs.declared.item.Item.{Item}
use Rattle.model_items.specs.declared.plain_item.PlainItem.{PlainItem}
use Rattle.model_items.specs.declared.plain_item.PlainItem.TheVariants.{Opening, Closing}
use Rattle.model_items.specs.Plain.{plain, plain_list, CitesWell}
use Rattle.model_change.specs.Store.{cited, fill}
use Rattle.model_spelling.specs.Faults.{ForestFault, fault_of}
use Rattle.model_spelling.specs.Parsed.{forest_of}
use Rattle.model_spelling.specs.Page.{body_at, fault_in_page}
use Rattle.model_page.specs.Fit.{Flow, around_in}
use Rattle.model_page.specs.Pieces.{Owner, Made, Progress}
use Rattle.model_page.specs.Convert.{made_of}
use Rattle.model_page.specs.Limits.{Limit, limit_of, first_body_limit}
use Rattle.model_page.specs.PageItems.{Opened, page_opened, page_made, slice, or_nothing, internal_item, internal_list, items_of_page, with_origins}
use Rattle.model_page.specs.OpenPage.{OpenFault, PageTooLong, BadPage, OverLimit, if_small, if_within, read_body, read_page, values_of}
use Rattle.ve_origin.specs.Origins.{spans}
use Rattle.ve_origin.specs.declared.origin.OriginRow.{OriginRow}
use Rattle.ve_reader.specs.declared.purpose.Purpose.TheVariants as purpose
use Rattle.ve_reader.specs.Laws.{InsidesAreEven}
use Rattle.ve_reader.specs.ReadSoFar.{ReadSoFar, nothing_read, node_rows}
use Rattle.ve_read.specs.Blocks.{siblings_limit, with_siblings, white_at_end}
use Rattle.ve_read.specs.declared.fault.ReadFault.{ReadFault}
use Rattle.ve_read.specs.declared.fault.ReadFault.TheVariants as fault
use Rattle.ve_read.specs.Bodies.{AreSpelled}
use Rattle.ve_read.specs.Faults.{IsOver, limit_from}
use Rattle.ve_read.specs.Forests.{parts_in, rows_in, IsBodyRead}
use Rattle.ve_read.specs.Moved.{span_moved, owner_moved, made_moved, limit_moved, row_moved}
use Rattle.ve_html_scan.specs.declared.token.Span.{Span}
use Rattle.ve_read.specs.declared.pages.PageRead.{PageRead}
use Rattle.ve_read.specs.Pages.{opened_by, IsReadPage, HasPlaces}
use Rattle.ve_read.proofs.MovedLemmas.{flow_moves, limit_moves}
use Rattle.ve_read.proofs.RowLemmas.{placed_rows}
use Rattle.ve_read.proofs.SpelledLemmas.{closed_spelled, owners_spelled}

-- ---- the body, moved

-- what the body becomes by itself
abbrev pub made_in : List ℕ → Made
made_in text = page_made 0 (or_nothing (forest_of text))

at_byte : (d : ℕ) → d ≡ d + 0
at_byte d = omega arith

pub page_moves : (d : ℕ) (text : List ℕ) → page_made d (or_nothing (forest_of text)) ≡ made_moved d (made_in text)
page_moves d text =
    let first : Progress = record { at = 0; owners = []; editable = true } in
    ap (λ at. page_made at (or_nothing (forest_of text))) (at_byte d) ∙ flow_moves d Root (parts_in text) first

items_move : (d : ℕ) (owners : List Owner) → flat_map internal_item (map (owner_moved d) owners) ≡ flat_map internal_item owners
items_move d [] = refl
items_move d (o ∷ owners) = ap (λ items. internal_item o ++ items) (items_move d owners)

abbrev listed : List ℕ → List PlainItem → List PlainItem
listed pre items = Opening InternalList empty_head [] pre None false ∷ items ++ Closing InternalList [] ∷ []

pub page_items : (d : ℕ) (text : List ℕ) → items_of_page (page_made d (or_nothing (forest_of text))) ≡ with_origins 0 (made_in text).later.items ++ internal_list (made_in text).pre (made_in text).owners
page_items d text =
    let m : Made = made_in text in
    ap items_of_page (page_moves d text) ∙ ap (λ items. with_origins 0 m.later.items ++ listed m.pre items) (items_move d m.owners)

-- ---- limits

-- what is over a limit outside of bodies
abbrev pub outer_limit : List ℕ → Option Limit
outer_limit text = siblings_limit (around_in Root) (parts_in text) 0 (nothing_read purpose.Page)

pub page_limits : (d : ℕ) (text : List ℕ) → limit_from d text ≡ option_or (option_map (limit_moved d) (outer_limit text)) (first_body_limit (map (owner_moved d) (made_in text).owners))
page_limits d text =
    let m : Made = made_in text in
    (λ j. option_or (limit_of 0 (Flow Root) (parts_in text) (at_byte d j) (page_moves d text j)) (first_body_limit (page_moves d text j).owners))
    ∙ ap (λ l. option_or l (first_body_limit (map (owner_moved d) m.owners))) (limit_moves d 0 (Flow Root) (parts_in text) 0 m)

over_first : (e : ReadFault) (x y : Option Limit) → IsOver e x → IsOver e (option_or x y)
over_first (fault.TooDeep at) x y h = ap (λ l. option_or l y) h
over_first (fault.TooManyMarks at) x y h = ap (λ l. option_or l y) h
over_first fault.Memory x y h = h
over_first (fault.PageTooLong len) x y h = h
over_first (fault.Html f) x y h = h
over_first (fault.TooManyItems count) x y h = h
over_first fault.StoreFull x y h = h

pub outer_over : (d : ℕ) (text : List ℕ) (e : ReadFault) → IsOver e (option_map (limit_moved d) (outer_limit text)) → IsOver e (limit_from d text)
outer_over d text e h = subst (IsOver e) (sym (page_limits d text)) (over_first e _ _ h)

inner_limits : (d : ℕ) (text : List ℕ) (r : ReadSoFar) → outer_limit text ≡ None → r ≡ with_siblings (around_in Root) (parts_in text) 0 (nothing_read purpose.Page)
    → limit_from d text ≡ first_body_limit (map (owner_moved d) r.owners)
inner_limits d text r none e =
    page_limits d text
    ∙ ap (λ l. option_or (option_map (limit_moved d) l) (first_body_limit (map (owner_moved d) (made_in text).owners))) none
    ∙ ap (λ (x : ReadSoFar). first_body_limit (map (owner_moved d) x.owners)) (sym e)

pub inner_over : (d : ℕ) (text : List ℕ) (r : ReadSoFar) (e : ReadFault) → outer_limit text ≡ None → r ≡ with_siblings (around_in Root) (parts_in text) 0 (nothing_read purpose.Page)
    → IsOver e (first_body_limit (map (owner_moved d) r.owners)) → IsOver e (limit_from d text)
inner_over d text r e none is h = subst (IsOver e) (sym (inner_limits d text r none is)) h

pub all_within : (d : ℕ) (text : List ℕ) (r : ReadSoFar) → outer_limit text ≡ None → r ≡ with_siblings (around_in Root) (parts_in text) 0 (nothing_read purpose.Page)
    → first_body_limit (map (owner_moved d) r.owners) ≡ None → limit_from d text ≡ None
all_within d text r none is h = inner_limits d text r none is ∙ h

-- ---- items

pub all_items : (d : ℕ) (text white : List ℕ) (first last : ReadSoFar) → first ≡ with_siblings (around_in Root) (parts_in text) 0 (nothing_read purpose.Page)
    → white ≡ white_at_end (around_in Root) (parts_in text) 0 (nothing_read purpose.Page) → last.items ≡ first.items ++ internal_list white first.owners
    → last.items ≡ items_of_page (page_made d (or_nothing (forest_of text)))
all_items d text white first last is end e =
    e ∙ (λ j. (is j).items ++ internal_list (end j) (is j).owners) ∙ sym (page_items d text)

-- ---- the page

-- as the model opens it
abbrev pub opened_at : List ℕ → ℕ → ℕ → Opened
opened_at text from to = page_opened text (record { from = from; to = to }) (page_made from (or_nothing (forest_of (slice text from to))))

abbrev page_by : List ℕ → Bool → Result Opened OpenFault
page_by text long = elim long [
  | true ↦ Err (PageTooLong (length text))
  | false ↦ read_body text (body_at text)
]

abbrev body_by : List ℕ → ℕ → ℕ → Option ForestFault → Result Opened OpenFault
body_by text from to found = elim found [
  | Some f ↦ Err (BadPage (fault_in_page from f))
  | None ↦ if_within (opened_at text from to)
]

abbrev within_by : Opened → Option Limit → Result Opened OpenFault
within_by o limit = elim limit [ Some l ↦ Err (OverLimit l) | None ↦ if_small o ]

not_over : (n m : ℕ) → m ≤ n → nat_lt n m ≡ false
not_over n m l = grind arith

pub read_as_small : (text : List ℕ) (from to : ℕ) → length text ≤ max_page → body_at text ≡ Ok (from, to) → fault_of (slice text from to) ≡ None → limit_from from (slice text from to) ≡ None
    → read_page text ≡ if_small (opened_at text from to)
read_as_small text from to short body spelled within =
    ap (page_by text) (not_over max_page (length text) short)
    ∙ ap (read_body text) body
    ∙ ap (body_by text from to) spelled
    ∙ ap (within_by (opened_at text from to)) within

-- The parts that were read of a body.
pub record HasParts (from : ℕ) (text : List ℕ) (r : ReadSoFar) (list : List Item) (values : List Value) : Type 0 where
  pub read : IsBodyRead from text r
  pub items : plain_list values list ≡ r.items
  pub filled : values ≡ fill [] (cited r.items)

pub parts_count : (text : List ℕ) (from to : ℕ) (r : ReadSoFar) (list : List Item) (values : List Value) → HasParts from (slice text from to) r list values
    → (length (opened_at text from to).items ≡ length list) × (length (values_of (opened_at text from to)) ≡ length values)
parts_count text from to r list values h = (
  ap length (sym h.read.items) ∙ ap length (sym h.items) ∙ length-map list (plain values),
  ap (λ items. length (fill [] (cited items))) (sym h.read.items) ∙ ap length (sym h.filled),
)

pub rows_are : (d : ℕ) (text : List ℕ) (rows : List OriginRow) → InsidesAreEven → rows ≡ map (row_moved d) (rows_in text)
    → (spans rows ≡ (page_made d (or_nothing (forest_of text))).later.spans)
    × (rows ≡ node_rows 0 (items_of_page (page_made d (or_nothing (forest_of text)))) (spans rows))
rows_are d text rows even e =
    let m : Made = made_in text in
    let first : Progress = record { at = 0; owners = []; editable = true } in
    let p = placed_rows d m.later m.pre m.owners (even (Flow Root) (parts_in text) first) in
    let found : spans rows ≡ map (span_moved d) m.later.spans = ap spans e ∙ p.0 in (
      found ∙ ap (λ (x : Made). x.later.spans) (sym (page_moves d text)),
      e ∙ p.1 ∙ (λ j. node_rows 0 (sym (page_items d text) j) (sym found j)),
    )

-- ---- what is handed over

-- The findings for a page, by the calls that made them.
pub record Found (text : List ℕ) (at : Span) (bytes : List ℕ) (r : ReadSoFar) (list : List Item) (values : List Value) : Type 0 where
  pub short : length text ≤ max_page
  pub body : body_at text ≡ Ok (at.from, at.to)
  pub source : bytes ≡ slice text at.from at.to
  pub read : IsBodyRead at.from bytes r
  pub items : plain_list values list ≡ r.items
  pub filled : values ≡ fill [] (cited r.items)

has_parts : (text : List ℕ) (body : Span) (source : List ℕ) (r : ReadSoFar) (list : List Item) (values : List Value) → Found text body source r list values → HasParts body.from (slice text body.from body.to) r list values
has_parts text body source r list values h = record { read = subst (λ s. IsBodyRead body.from s r) h.source h.read; items = h.items; filled = h.filled }

pub sized_page : (text : List ℕ) (body : Span) (source : List ℕ) (r : ReadSoFar) (list : List Item) (values : List Value) → Found text body source r list values
    → (read_page text ≡ if_small (opened_at text body.from body.to))
    × (length (opened_at text body.from body.to).items ≡ length list) × (length (values_of (opened_at text body.from body.to)) ≡ length values)
sized_page text body source r list values h =
    let p = has_parts text body source r list values h in
    let n = parts_count text body.from body.to r list values p in
    (read_as_small text body.from body.to h.short h.body p.read.spelled p.read.within, n.0, n.1)

-- The page, and the positions of its rows, where it is small enough.
pub page_is : (text : List ℕ) (source : List ℕ) (r : ReadSoFar) (p : PageRead) (rows : List OriginRow) → Found text p.body source r p.list.items p.values → InsidesAreEven
    → All (CitesWell p.values) p.list.items → rows ≡ r.rows → p.rows ≡ map (row_moved p.body.from) rows → if_small (opened_at text p.body.from p.body.to) ≡ Ok (opened_at text p.body.from p.body.to)
    → IsReadPage text p × HasPlaces p
page_is text source r p rows h even cites rows_are_read moved small =
    let from : ℕ = p.body.from in
    let to : ℕ = p.body.to in
    let parts = has_parts text p.body source r p.list.items p.values h in
    let o : Opened = opened_at text from to in
    let items : o.items ≡ plain_list p.values p.list.items = sym parts.read.items ∙ sym h.items in
    let found = rows_are from (slice text from to) p.rows even (moved ∙ ap (map (row_moved from)) (rows_are_read ∙ parts.read.rows)) in
    let is : o ≡ opened_by text p = λ j. record { page = text; body = record { from = from; to = to }; items = items j; spans = sym found.0 j } in (
      record {
        opens = (sized_page text p.body source r p.list.items p.values h).0 ∙ small ∙ ap (λ x. Ok x) is;
        values = h.filled ∙ ap (λ xs. fill [] (cited xs)) (sym h.items);
        cites = cites;
      },
      found.1 ∙ ap (λ xs. node_rows 0 xs (spans p.rows)) items,
    )

-- the owners of a page
pub page_spelled : (text : List ℕ) (r : ReadSoFar) → r ≡ with_siblings (around_in Root) (parts_in text) 0 (nothing_read purpose.Page) → AreSpelled r.owners
page_spelled text r e =
    let w : Progress = record { at = 0; owners = []; editable = true } in
    let m : Made = made_of (Flow Root) (parts_in text) w in
    subst (λ (x : ReadSoFar). AreSpelled x.owners) (sym e) (closed_spelled w m (owners_spelled (Flow Root) (parts_in text) w))
