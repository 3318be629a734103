-- The answer of `kept`.
use Rattle.std.proofs.Common.{◌≡◌, ℕ, ◌+◌, ◌-◌, ◌<◌, ◌≤◌, ◌↔◌, Bool, true, false, List, length, get_or, refl, sym, ap, ◌∙◌, arith, subst}
use Rattle.std.specs.Prelude.{slice_get, Some}
use Rattle.std.specs.List.{slice_range}
use Rattle.std.specs.Prelude.{option_map}
use Rattle.std.proofs.lemmas.Option.{slice_get-map, slice_get-get_or}
use Rattle.model_items.specs.declared.item.Item.{Item}
use Rattle.model_items.specs.declared.plain_item.PlainItem.{PlainItem}
use Rattle.model_items.specs.Plain.{plain_list}
use Rattle.model_page.specs.declared.ref_table.RefRow.{RefRow}
use Rattle.model_page_write.specs.Nodes.{carried_items}
use Rattle.model_page_write.specs.PageText.{is_kept, part_at}
use Rattle.ve_origin.specs.declared.origin.OriginRow.{OriginRow}
use Rattle.ve_origin.specs.Bodies.{AreSameBodies}
use Rattle.ve_origin.specs.Kept.{node_at, IsNodeRange}
use Rattle.ve_origin.specs.Origins.{FirstRead, AreRows, IsRow, Keeps, spans}
use Rattle.ve_origin.specs.Rows.{RowsRise, AllCarrySame, carried_at, carried_place}
use Rattle.ve_origin.specs.Without.{first_without}
use Rattle.ve_origin.proofs.KeptLemmas.{kept_where_found, found_where_kept}
use Rattle.ve_origin.proofs.ReferLemmas.{table_rises}
use Rattle.ve_origin.proofs.ValueLemmas.{all_citing}

bool_is : (a b : Bool) → (a ≡ true → b ≡ true) → (b ≡ true → a ≡ true) → a ≡ b
bool_is true b h k = sym (h refl)
bool_is false true h k = k refl
bool_is false false h k = refl

range_as : (items : List PlainItem) (k : ℕ) (rows : List OriginRow) (row own : OriginRow) → slice_get rows k ≡ Some row → slice_get rows k ≡ Some own → IsNodeRange items k row.from row.to →
    IsNodeRange items k own.from (own.from + (own.to - own.from))
range_as items k rows row own e f range =
    let some : Some row ≡ Some own = sym e ∙ f in
    let same : row ≡ own = cc in
    let less = range.some in
    let to : row.to ≡ row.from + (row.to - row.from) = omega (arith, less) in
    subst (λ (r : OriginRow). IsNodeRange items k r.from (r.from + (r.to - r.from))) same (subst (λ n. IsNodeRange items k row.from n) to range)

-- what the parts of the answer say
pub record Parts (o : FirstRead) (now : List Item) (from : ℕ) (refs : List RefRow) (row : OriginRow) : Type 0 where
  pub room : from + (row.to - row.from) ≤ length now
  pub items : first_without (slice_range now from (from + (row.to - row.from))) ≡ first_without (slice_range o.items row.from (row.from + (row.to - row.from)))
  pub all : RowsRise refs → RowsRise o.refs → AllCarrySame (record { items = now; refs = refs; from = from }) (record { items = o.items; refs = o.refs; from = row.from }) (row.to - row.from)

pub keeps_by : (o : FirstRead) (k : ℕ) (now : List Item) (from : ℕ) (refs : List RefRow) (own : OriginRow) (b : Bool) → slice_get o.rows k ≡ Some own → (b ≡ true → Parts o now from refs own) →
    (RowsRise refs → RowsRise o.refs → Parts o now from refs own → b ≡ true) → Keeps o k now from refs b
keeps_by o k now from refs own b own_is parts back values row distinct cites_first cites found range refs_first outside refs_now =
    let n = own.to - own.from in
    let xs = plain_list values now in
    let ys = plain_list values o.items in
    let c = all_citing values now cites in
    let d = all_citing values o.items cites_first in
    let there = range_as ys k o.rows row own found own_is range in
    let rise : RowsRise refs = subst RowsRise (sym refs_now) (table_rises xs) in
    let rise_first : RowsRise o.refs = subst RowsRise (sym refs_first) (table_rises ys) in
    bool_is b (is_kept (carried_items ys) k (node_at (carried_items xs) from))
    (λ e.
    let p = parts e in
    kept_where_found values now o.items k from own.from n distinct c d there outside
    (record {
      room = p.room;
      items = p.items;
      all = λ j r f low high. subst (λ l. AreSameBodies now o.items (carried_place (Some r)) (carried_at l (own.from + (r.at - from)))) refs_first
          (p.all rise rise_first j r (ap (λ l. slice_get l j) refs_now ∙ f) low high);
    }))
    (λ e.
    let f = found_where_kept values now o.items k from own.from n distinct c d there outside e in
    back rise rise_first
    (record {
      room = f.room;
      items = f.items;
      all = λ u w j r g low high. subst (λ l. AreSameBodies now o.items (carried_place (Some r)) (carried_at l (own.from + (r.at - from)))) (sym refs_first)
          (f.all j r (ap (λ l. slice_get l j) (sym refs_now) ∙ g) low high);
    }))

-- the part of a row
pub part_of_row : (page : List ℕ) (rows : List OriginRow) (k : ℕ) (row : OriginRow) → slice_get rows k ≡ Some row → slice_range page row.span.from row.span.to ≡ part_at page (slice_get (spans rows) k)
part_of_row page rows k row e = sym (ap (part_at page) (slice_get-map _ rows k ∙ ap (option_map _) e))

-- ---- the type's own rows

pub row_fits : (inside own : FirstRead) (rows : List OriginRow) (k : ℕ) (d : OriginRow) → inside ≡ own → AreRows inside.page (length inside.items) inside.rows → rows ≡ inside.rows → k < length own.rows →
    IsRow own.page (length own.items) (get_or rows k d)
row_fits inside own rows k d is fit e less =
    let within : k < length rows = subst (λ (l : List OriginRow). k < length l) (sym (e ∙ ap (λ (o : FirstRead). o.rows) is)) less in
    subst (λ (o : FirstRead). IsRow o.page (length o.items) (get_or rows k d)) is (fit k (get_or rows k d) (ap (λ (l : List OriginRow). slice_get l k) (sym e) ∙ slice_get-get_or rows k d within))

-- ---- the answers

pub keeps_not : (o : FirstRead) (k : ℕ) (now : List Item) (from : ℕ) (refs : List RefRow) (own : OriginRow) (first : List Item) (b : Bool) → slice_get o.rows k ≡ Some own → first ≡ o.items → b ≡ false →
    (first_without (slice_range now from (from + (own.to - own.from))) ≡ first_without (slice_range first own.from (own.from + (own.to - own.from))) → b ≡ true) → Keeps o k now from refs false
keeps_not o k now from refs own first b own_is same no_b items =
    keeps_by o k now from refs own false own_is (λ e. cc)
    (λ u w p. let e = items (p.items ∙ ap (λ (l : List Item). first_without (slice_range l own.from (own.from + (own.to - own.from)))) (sym same)) in sym no_b ∙ e)

pub keeps_all : (o : FirstRead) (k : ℕ) (now : List Item) (from : ℕ) (refs : List RefRow) (own : OriginRow) (first : List Item) (rows first_rows : List RefRow) (b c : Bool) →
    slice_get o.rows k ≡ Some own → first ≡ o.items → rows ≡ refs → first_rows ≡ o.refs → from + (own.to - own.from) ≤ length now → b ≡ true →
    (b ≡ true → first_without (slice_range now from (from + (own.to - own.from))) ≡ first_without (slice_range first own.from (own.from + (own.to - own.from)))) →
    (RowsRise rows → RowsRise first_rows → (c ≡ true) ↔ AllCarrySame (record { items = now; refs = rows; from = from }) (record { items = first; refs = first_rows; from = own.from }) (own.to - own.from)) →
    Keeps o k now from refs c
keeps_all o k now from refs own first rows first_rows b c own_is same rows_are first_are room is items all =
    let found = items is ∙ ap (λ (l : List Item). first_without (slice_range l own.from (own.from + (own.to - own.from)))) same in
    let n = own.to - own.from in
    let both : RowsRise refs → RowsRise o.refs → (c ≡ true) ↔ AllCarrySame (record { items = now; refs = refs; from = from }) (record { items = o.items; refs = o.refs; from = own.from }) n =
    subst (λ (l : List Item). RowsRise refs → RowsRise o.refs → (c ≡ true) ↔ AllCarrySame (record { items = now; refs = refs; from = from }) (record { items = l; refs = o.refs; from = own.from }) n) same
    (subst (λ (l : List RefRow). RowsRise refs → RowsRise l → (c ≡ true) ↔ AllCarrySame (record { items = now; refs = refs; from = from }) (record { items = first; refs = l; from = own.from }) n) first_are
    (subst (λ (l : List RefRow). RowsRise l → RowsRise first_rows → (c ≡ true) ↔ AllCarrySame (record { items = now; refs = l; from = from }) (record { items = first; refs = first_rows; from = own.from }) n) rows_are all)) in
    keeps_by o k now from refs own c own_is (λ e. record { room = room; items = found; all = λ u w. (both u w).0 e }) (λ u w p. (both u w).1 (p.all u w))
