-- The origins of an opened page.
use Rattle.std.proofs.Common.{◌≡◌, ℕ, suc, true, false, List, [], ◌∷◌, ◌++◌, length, Option, Some, None, Result, Ok, Err, refl, sym, ap, ◌∙◌}
use Rattle.std.specs.Prelude.{flat_map, unwrap_or}
use Rattle.std.proofs.lemmas.List.{append-nil}
use Rattle.model_spelling.specs.declared.scan_fault.ScanFault.{ScanFault}
use Rattle.model_spelling.specs.Forest.{Forest}
use Rattle.model_spelling.specs.Parsed.{forest_of}
use Rattle.model_spelling.specs.Page.{body_at}
use Rattle.ve_kinds.specs.declared.kind.Kind.TheVariants.{Root, InternalItem, InternalList}
use Rattle.model_items.specs.declared.plain_item.PlainItem.{PlainItem}
use Rattle.model_items.specs.declared.plain_item.PlainItem.TheVariants.{Char, Opening, Closing}
use Rattle.model_page.specs.Parts.{parts_of}
use Rattle.model_page.specs.Pieces.{Owner, Made, Progress}
use Rattle.model_page.specs.PageItems.{with_origins, body_made, or_nothing, internal_item, internal_list, page_made, items_of_page, slice, Opened, page_opened, opened_forest, opened_body}
use Rattle.model_page_law.specs.Origins.{origin_before, origins_of, counted_from, OriginsNumberSpans}
use Rattle.model_page_law.proofs.NestLemmas.{unplaced}
use Rattle.model_page_law.proofs.LawfulLemmas.{opening_count, flow_holds, flow_counted}

before-append : (o : Option ℕ) (xs ys : List ℕ) → origin_before o (xs ++ ys) ≡ origin_before o xs ++ ys
before-append None xs ys = refl
before-append (Some k) xs ys = refl

pub origins_of-append : (xs ys : List PlainItem) → origins_of (xs ++ ys) ≡ origins_of xs ++ origins_of ys
origins_of-append [] ys = refl
origins_of-append (Char c marks ∷ xs) ys = origins_of-append xs ys
origins_of-append (Closing kind pre ∷ xs) ys = origins_of-append xs ys
origins_of-append (Opening kind head marks pre origin generated ∷ xs) ys = ap (origin_before origin) (origins_of-append xs ys) ∙ before-append origin (origins_of xs) (origins_of ys)

origins_of-with_origins : (items : List PlainItem) (k : ℕ) → origins_of (with_origins k items) ≡ counted_from k (opening_count items)
origins_of-with_origins [] k = refl
origins_of-with_origins (Char c marks ∷ items) k = origins_of-with_origins items k
origins_of-with_origins (Closing kind pre ∷ items) k = origins_of-with_origins items k
origins_of-with_origins (Opening kind head marks pre origin generated ∷ items) k = ap (λ xs. k ∷ xs) (origins_of-with_origins items (suc k))

item_unplaced : (o : Owner) → origins_of (internal_item o) ≡ []
item_unplaced o =
    let f : Forest = or_nothing (forest_of o.html) in
    let w : Progress = record { at = 0; owners = []; editable = false } in
    origins_of-append (body_made f).later.items (Closing InternalItem (body_made f).pre ∷ [])
    ∙ append-nil (origins_of (body_made f).later.items)
    ∙ unplaced InternalItem (body_made f).later.items [] [] (flow_holds InternalItem (refl, refl, refl, refl) (parts_of f) w)

items_unplaced : (owners : List Owner) → origins_of (flat_map internal_item owners) ≡ []
items_unplaced [] = refl
items_unplaced (o ∷ owners) = origins_of-append (internal_item o) (flat_map internal_item owners) ∙ (λ i. item_unplaced o i ++ items_unplaced owners i)

list_unplaced : (pre : List ℕ) (owners : List Owner) → origins_of (internal_list pre owners) ≡ []
list_unplaced pre owners = origins_of-append (flat_map internal_item owners) (Closing InternalList [] ∷ []) ∙ append-nil (origins_of (flat_map internal_item owners)) ∙ items_unplaced owners

page_origins : (at : ℕ) (f : Forest) → origins_of (items_of_page (page_made at f)) ≡ counted_from 0 (length (page_made at f).later.spans)
page_origins at f =
    let m : Made = page_made at f in
    let w : Progress = record { at = at; owners = []; editable = true } in
    origins_of-append (with_origins 0 m.later.items) (internal_list m.pre m.owners)
    ∙ ap (λ xs. origins_of (with_origins 0 m.later.items) ++ xs) (list_unplaced m.pre m.owners)
    ∙ append-nil (origins_of (with_origins 0 m.later.items))
    ∙ origins_of-with_origins m.later.items 0
    ∙ ap (counted_from 0) (flow_counted Root (parts_of f) w)

forest_origins : (page : List ℕ) (from to : ℕ) (r : Option Forest) (o : Opened) → opened_forest page (record { from = from; to = to }) r ≡ Some o → origins_of o.items ≡ counted_from 0 (length o.spans)
forest_origins page from to None o h = cc
forest_origins page from to (Some f) o h =
    let first : Opened = page_opened page (record { from = from; to = to }) (page_made from f) in
    let is : first ≡ o = let s : ◌≡◌ {A = Option Opened} (Some first) (Some o) = h in ap (λ x. unwrap_or x first) s in
    ap (λ x. origins_of x.items) (sym is) ∙ page_origins from f ∙ ap (λ x. counted_from 0 (length x.spans)) is

body_origins : (page : List ℕ) (body : Result (ℕ × ℕ) ScanFault) (o : Opened) → opened_body page body ≡ Some o → origins_of o.items ≡ counted_from 0 (length o.spans)
body_origins page (Err f) o h = cc
body_origins page (Ok body) o h = forest_origins page body.0 body.1 (forest_of (slice page body.0 body.1)) o h

pub origins_number_spans : OriginsNumberSpans
origins_number_spans page o h = body_origins page (body_at page) o h
