-- The bytes that a node was, by what is answered of its origin.
use Rattle.std.proofs.Common.{◌≡◌, ℕ, zero, suc, ◌<◌, ◌≤◌, ◌==◌, Bool, false, List, [], ◌∷◌, length, take, drop, get_or, refl, sym, ap, subst, ◌∙◌, arith, Option, Some, None}
use Rattle.std.specs.Prelude.{All, if◌then◌else◌}
use Rattle.std.specs.List.{list_any, slice_get}
use Rattle.std.proofs.lemmas.Option.{slice_get-get_or}
use Rattle.ve_base.specs.declared.value.Value.{Value}
use Rattle.model_items.specs.declared.item.Item.{Item}
use Rattle.model_items.specs.Plain.{plain_list, AreDistinct, CitesWell}
use Rattle.model_items.specs.declared.plain_item.PlainItem.{PlainItem}
use Rattle.model_items.specs.declared.plain_item.PlainItem.TheVariants.{Char, Opening, Closing}
use Rattle.model_items.specs.Same.{list_same}
use Rattle.model_page.specs.References.{Body}
use Rattle.model_page.specs.declared.ref_table.RefRow.{RefRow}
use Rattle.model_page_write.specs.Nodes.{Carried, body_carried, carried_from, carried_items}
use Rattle.model_page_write.specs.PageText.{carried_same, node_from, node_with, original_at, part_at, without_pre}
use Rattle.ve_write.specs.Siblings.{AllCite}
use Rattle.ve_origin.specs.Kept.{first_node, node_at, opens_notes}
use Rattle.ve_origin.specs.Known.{IsKnown}
use Rattle.ve_origin.specs.declared.known.Known.{Known}
use Rattle.ve_origin.specs.Origins.{spans, FirstRead, Keeps}
use Rattle.ve_origin.proofs.RowLemmas.{not_same}
use Rattle.ve_write.specs.Originals.{opened_over, origin_of, original_there, originals_of, read_of, AreLent, IsBefore, IsFirst, IsKnownFor, IsLent}
use Rattle.ve_write.specs.declared.first_page.First.{First}

pub all_cite : (values : List Value) (items : List Item) → AllCite values items → All (CitesWell values) items
all_cite values items h k d less = h k (get_or items k d) (slice_get-get_or items k d less)

pub row_at : {A : Type 0} (rows : List A) (k : ℕ) → k < length rows → (row : A) × (slice_get rows k ≡ Some row)
row_at [] k less = absurd (omega (arith, less))
row_at (row ∷ rows) zero less = (row, refl)
row_at (row ∷ rows) (suc k) less = row_at rows k (omega (arith, less))

-- ---- an origin that the page hadn't

-- no item has an origin of this number or a higher one
abbrev Numbered : ℕ → List PlainItem → Type 0
Numbered n items = (at k : ℕ) → origin_of (drop at items) ≡ Some k → k < n

no_node : (k n : ℕ) (bodies : ℕ → Option Body) (at : ℕ) (items : List PlainItem) → Numbered n items → n ≤ k → node_with k (carried_from bodies at items) ≡ []
no_node k n bodies at [] numbered past = refl
no_node k n bodies at (Char c marks ∷ items) numbered past = no_node k n bodies (suc at) items (λ i. numbered (suc i)) past
no_node k n bodies at (Closing kind pre ∷ items) numbered past = no_node k n bodies (suc at) items (λ i. numbered (suc i)) past
no_node k n bodies at (Opening kind head marks pre None generated ∷ items) numbered past = no_node k n bodies (suc at) items (λ i. numbered (suc i)) past
no_node k n bodies at (Opening kind head marks pre (Some j) generated ∷ items) numbered past =
    let less : j < n = numbered 0 j refl in
    let other : (j == k) ≡ false = not_same j k (λ e. omega (arith, less, past, e)) in
    ap (λ b. if b then record { item = Opening kind head marks pre (Some j) generated; body = bodies at } ∷ node_from (carried_from bodies (suc at) items) 0 else node_with k (carried_from bodies (suc at) items)) other
    ∙ no_node k n bodies (suc at) items (λ i. numbered (suc i)) past

has_some : (k : ℕ) (bodies : ℕ → Option Body) (i at : ℕ) (items : List PlainItem) → origin_of (drop at items) ≡ Some k → (c : Carried) × (cs : List Carried) × (drop at (carried_from bodies i items) ≡ c ∷ cs)
has_some k bodies i zero [] e = cc
has_some k bodies i (suc at) [] e = cc
has_some k bodies i zero (Char c marks ∷ items) e = cc
has_some k bodies i zero (Closing kind pre ∷ items) e = cc
has_some k bodies i zero (Opening kind head marks pre origin generated ∷ items) e = (_, _, refl)
has_some k bodies i (suc at) (Char c marks ∷ items) e = has_some k bodies (suc i) at items e
has_some k bodies i (suc at) (Closing kind pre ∷ items) e = has_some k bodies (suc i) at items e
has_some k bodies i (suc at) (Opening kind head marks pre origin generated ∷ items) e = has_some k bodies (suc i) at items e

pub not_kept : (values : List Value) (items : List PlainItem) (o : FirstRead) (at k : ℕ) → IsFirst values o → length o.rows ≤ k → origin_of (drop at items) ≡ Some k →
    None ≡ original_there (opened_over values o) items at
not_kept values items o at k first past e =
    let some = has_some k (body_carried items) 0 at items e in
    let none = no_node k (length o.rows) (body_carried (plain_list values o.items)) 0 (plain_list values o.items) first.numbered past in
    sym (ap (λ j. original_at (opened_over values o) (carried_items (plain_list values o.items)) j (node_at (carried_items items) at)) e
    ∙ ap (λ cs. if list_same carried_same (without_pre (first_node cs)) (without_pre (node_with k (carried_items (plain_list values o.items)))) then Some (part_at o.page (slice_get (spans o.rows) k)) else None) some.2
    ∙ ap (λ cs. if list_same carried_same (without_pre (some.0 ∷ node_from some.1 0)) (without_pre cs) then Some (part_at o.page (slice_get (spans o.rows) k)) else None) none)

-- ---- an origin that the page had

by_kept : (values : List Value) (items : List Item) (refs : List RefRow) (o : FirstRead) (at k : ℕ) (kept b : Bool) → k < length o.rows → IsLent values items refs o → AreDistinct values → AllCite values items →
    list_any opens_notes (take at (plain_list values items)) ≡ false → origin_of (drop at (plain_list values items)) ≡ Some k → Keeps o k items at refs kept → kept ≡ b →
    (if b then Some (part_at o.page (slice_get (spans o.rows) k)) else None) ≡ original_there (opened_over values o) (plain_list values items) at
by_kept values items refs o at k kept b has lent distinct cites before e keeps is =
    let row = row_at o.rows k has in
    let known = keeps values row.0 distinct lent.first.cites (all_cite values items cites) row.1 (lent.first.ranges k row.0 row.1) lent.first.refs before lent.rows in
    ap (λ c. if c then Some (part_at o.page (slice_get (spans o.rows) k)) else None) (sym is ∙ known)
    ∙ sym (ap (λ j. original_at (opened_over values o) (carried_items (plain_list values o.items)) j (node_at (carried_items (plain_list values items)) at)) e)

-- ---- what is borrowed

of_first : (values : List Value) (items : List Item) (first : Option First) (f : First) (at : ℕ) (o : Option (List ℕ)) → first ≡ Some f → o ≡ original_there (opened_over values f.origins.now) (plain_list values items) at →
    o ≡ originals_of (read_of first) values items at
of_first values items first f at o is e = e ∙ ap (λ x. originals_of (read_of x) values items at) (sym is)

pub kept_lent : (values : List Value) (items : List Item) (refs : List RefRow) (first : Option First) (f : First) (at k : ℕ) (kept b : Bool) → first ≡ Some f → k < length f.origins.now.rows → AreLent values items refs first → AreDistinct values → AllCite values items →
    IsBefore values items first at → origin_of (drop at (plain_list values items)) ≡ Some k → Keeps f.origins.now k items at refs kept → kept ≡ b →
    (if b then Some (part_at f.origins.now.page (slice_get (spans f.origins.now.rows) k)) else None) ≡ originals_of (read_of first) values items at
kept_lent values items refs first f at k kept b is has lent distinct cites before e keeps answer =
    of_first values items first f at _ is (by_kept values items refs f.origins.now at k kept b has (subst (AreLent values items refs) is lent) distinct cites (subst (λ x. IsBefore values items x at) is before) e keeps answer)

pub past_lent : (values : List Value) (items : List Item) (refs : List RefRow) (first : Option First) (f : First) (at k : ℕ) → first ≡ Some f → length f.origins.now.rows ≤ k → AreLent values items refs first →
    origin_of (drop at (plain_list values items)) ≡ Some k → None ≡ originals_of (read_of first) values items at
past_lent values items refs first f at k is past lent e =
    of_first values items first f at _ is (not_kept values (plain_list values items) f.origins.now at k (subst (AreLent values items refs) is lent).first past e)

-- ---- what is known

pub nothing_known : (items : List Item) (refs : List RefRow) (first : Option First) (known : Known) → ((now : List Item) (rows : List RefRow) (o : FirstRead) → IsKnown now rows o known) → IsKnownFor items refs first known
nothing_known items refs None known h = tt
nothing_known items refs (Some first) known h = h items refs first.origins.now
