-- The limit that a page is over is the one that the first item of its list is over.
use Rattle.std.specs.Option.{option_or}
use Rattle.std.specs.Prelude.{flat_map, nat_le, nat_lt, option_map, unwrap_or}
use Rattle.std.proofs.Common.{◌≡◌, ℕ, suc, ◌-◌, true, false, if◌then◌else◌, List, [], ◌∷◌, ◌++◌, length, Option, Some, None, Result, Ok, Err, IsUtf8, refl, sym, ap, ◌∙◌, subst, append_assoc}
use Rattle.ve_base.specs.Limits.{max_marks, max_open_kinds}
use Rattle.ve_kinds.specs.declared.kind.Kind.{Kind}
use Rattle.ve_kinds.specs.declared.kind.Kind.TheVariants.{InternalItem, InternalList, Root}
use Rattle.model_items.specs.declared.plain_item.PlainItem.{PlainItem}
use Rattle.model_items.specs.declared.plain_item.PlainItem.TheVariants.{Char, Closing, Opening}
use Rattle.model_spelling.specs.Forest.{Forest, is_forest, spelling}
use Rattle.model_spelling.specs.Page.{body_at}
use Rattle.model_spelling.specs.Parsed.{forest_of}
use Rattle.model_spelling.specs.declared.scan_fault.ScanFault.{ScanFault}
use Rattle.model_spelling.proofs.Proved.{law_reads_right}
use Rattle.model_page.specs.Convert.{in_flow, made_of}
use Rattle.model_page.specs.Fit.{Flow}
use Rattle.model_page.specs.Limits.{Limit, TooDeep, TooManyMarks, body_limit, first_body_limit, limit_of, moved_to, page_limit}
use Rattle.model_page.specs.OpenPage.{limit_in}
use Rattle.model_page.specs.PageItems.{Opened, body_made, internal_item, internal_list, items_of_page, opened_body, opened_forest, or_nothing, page_made, page_opened, slice, with_origins}
use Rattle.model_page.specs.Parts.{Parts, parts_of}
use Rattle.model_page.specs.Pieces.{Owner, Progress}
use Rattle.model_page_law.proofs.BodyUtf8.{body_utf8}
use Rattle.model_page_law.proofs.ShapeLemmas.{Fine-made_of, Fine-run_closed, Shaped}
use Rattle.model_limit_law.specs.Items.{FirstItemIsOver, OfKinds, OfMarks, first_over, which}
use Rattle.model_page_law.proofs.OwnersUtf8.{AllOwnUtf8}
use Rattle.model_limit_law.proofs.OrderLemmas.{over_append, which_or}
use Rattle.model_limit_law.proofs.PageLemmas.{body_texted, forest_texted, page_owns}
use Rattle.model_limit_law.proofs.ToldLemmas.{told_flow}

-- ---- lists

over_origins : (d k : ℕ) (items ys : List PlainItem) → first_over d (with_origins k items ++ ys) ≡ first_over d (items ++ ys)
over_origins d k [] ys = refl
over_origins d k (Char c marks ∷ items) ys = ap (λ o. if nat_le (length marks) max_marks then o else Some OfMarks) (over_origins d k items ys)
over_origins d k (Closing kind pre ∷ items) ys = over_origins (d - 1) k items ys
over_origins d k (Opening kind head marks pre origin generated ∷ items) ys =
    ap (λ o. if nat_le (length marks) max_marks then (if nat_lt d max_open_kinds then o else Some OfKinds) else Some OfMarks) (over_origins (suc d) (suc k) items ys)

flow_shaped : (kind : Kind) (parts : Parts) (w : Progress) → Shaped (in_flow kind parts w).later
flow_shaped kind parts w = (Fine-run_closed w (made_of (Flow kind) parts w) (Fine-made_of (Flow kind) parts w)).later

which_moved : (at : ℕ) (a : Option Limit) → option_map which (option_map (moved_to at) a) ≡ option_map which a
which_moved at None = refl
which_moved at (Some (TooDeep n)) = refl
which_moved at (Some (TooManyMarks n)) = refl

-- ---- bodies

body_over : (o : Owner) → IsUtf8 o.html → option_map which (body_limit o) ≡ first_over 2 (body_made (or_nothing (forest_of o.html))).later.items
body_over o u =
    let f = or_nothing (forest_of o.html) in
    let w : Progress = record { at = 0; owners = []; editable = false } in
    which_moved o.at (limit_of 2 (Flow InternalItem) (parts_of f) 0 (body_made f)) ∙ told_flow InternalItem (refl, refl, refl, refl) (parts_of f) (body_texted o.html u) 2 w

item_over : (o : Owner) (rest : List PlainItem) → IsUtf8 o.html → first_over 1 (internal_item o ++ rest) ≡ option_or (option_map which (body_limit o)) (first_over 1 rest)
item_over o rest u =
    let f = or_nothing (forest_of o.html) in
    let w : Progress = record { at = 0; owners = []; editable = false } in
    let m = body_made f in
    ap (first_over 2) (append_assoc m.later.items (Closing InternalItem m.pre ∷ []) rest)
    ∙ over_append 2 m.later (Closing InternalItem m.pre ∷ rest) (flow_shaped InternalItem (parts_of f) w)
    ∙ ap (λ o. option_or o (first_over 1 rest)) (sym (body_over o u))

bodies_over : (owners : List Owner) → AllOwnUtf8 owners → first_over 1 (flat_map internal_item owners ++ Closing InternalList [] ∷ []) ≡ option_map which (first_body_limit owners)
bodies_over [] u = refl
bodies_over (o ∷ owners) u =
    ap (first_over 1) (append_assoc (internal_item o) (flat_map internal_item owners) (Closing InternalList [] ∷ []))
    ∙ item_over o (flat_map internal_item owners ++ Closing InternalList [] ∷ []) u.0
    ∙ ap (option_or (option_map which (body_limit o))) (bodies_over owners u.1)
    ∙ sym (which_or (body_limit o) (first_body_limit owners))

-- ---- a page

page_over : (at : ℕ) (f : Forest) → is_forest 200 f ≡ true → IsUtf8 (spelling f) → option_map which (page_limit at f) ≡ first_over 0 (items_of_page (page_made at f))
page_over at f h u =
    let w : Progress = record { at = at; owners = []; editable = true } in
    let m = page_made at f in
    which_or (limit_of 0 (Flow Root) (parts_of f) at m) (first_body_limit m.owners)
    ∙ (λ i. option_or (told_flow Root (refl, refl, refl, refl) (parts_of f) (forest_texted f h u) 0 w i) (sym (bodies_over m.owners (page_owns at f h u)) i))
    ∙ sym (over_append 0 m.later (internal_list m.pre m.owners) (flow_shaped Root (parts_of f) w))
    ∙ sym (over_origins 0 0 m.later.items (internal_list m.pre m.owners))

abbrev IsOverFirst : Opened → Type 0
IsOverFirst o = option_map which (limit_in o) ≡ first_over 0 o.items

forest_over : (page : List ℕ) (from to : ℕ) (o : Opened) (r : Option Forest) → forest_of (slice page from to) ≡ r → IsUtf8 page → body_at page ≡ Ok (from, to) →
    opened_forest page (record { from = from; to = to }) r ≡ Some o → IsOverFirst o
forest_over page from to o None is u b e = cc
forest_over page from to o (Some f) is u b e =
    let s = law_reads_right (slice page from to) f is in
    let made = page_opened page (record { from = from; to = to }) (page_made from f) in
    let same : made ≡ o = let q : ◌≡◌ {A = Option Opened} (Some made) (Some o) = e in ap (λ x. unwrap_or x made) q in
    subst IsOverFirst same (ap (λ x. option_map which (page_limit from (or_nothing x))) is ∙ page_over from f s.1 (subst IsUtf8 (sym s.0) (body_utf8 page from to u b)))

body_first_over : (page : List ℕ) (o : Opened) (body : Result (ℕ × ℕ) ScanFault) → IsUtf8 page → body_at page ≡ body → opened_body page body ≡ Some o → IsOverFirst o
body_first_over page o (Err f) u b e = cc
body_first_over page o (Ok body) u b e = forest_over page body.0 body.1 o (forest_of (slice page body.0 body.1)) refl u b e

pub first_item_is_over : FirstItemIsOver
first_item_is_over page o u e = body_first_over page o (body_at page) u refl e
