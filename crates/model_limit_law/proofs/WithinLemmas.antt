-- A page is within its limits exactly where its list is lawful and no item has too many marks.
use Rattle.std.specs.Prelude.{nat_le, nat_lt, option_map, unwrap_or}
use Rattle.std.proofs.Common.{◌≡◌, ◌≤◌, ℕ, suc, ◌-◌, Bool, true, false, if◌then◌else◌, List, [], ◌∷◌, length, map, Option, Some, None, Result, Ok, Err, refl, sym, ap, ◌∙◌, subst, arith}
use Rattle.ve_base.specs.Limits.{max_marks, max_open_kinds}
use Rattle.ve_kinds.specs.Table.{is_content_branch}
use Rattle.ve_kinds.specs.declared.kind.Kind.{Kind}
use Rattle.model_items.specs.Law.{Lawful, State, after, finish, may_open, start, step, top}
use Rattle.model_items.specs.declared.law_fault.LawFault.{LawFault}
use Rattle.model_items.specs.declared.plain_item.PlainItem.{PlainItem}
use Rattle.model_items.specs.declared.plain_item.PlainItem.TheVariants.{Char, Closing, Opening}
use Rattle.model_items.proofs.LawLemmas.{Ok-same, after_from_Lawful, closed_before, if_ok, joined-ok, opened_before}
use Rattle.model_spelling.specs.Forest.{Forest}
use Rattle.model_spelling.specs.Page.{body_at}
use Rattle.model_spelling.specs.Parsed.{forest_of}
use Rattle.model_spelling.specs.declared.scan_fault.ScanFault.{ScanFault}
use Rattle.model_page.specs.Convert.{in_flow}
use Rattle.model_page.specs.Limits.{Limit, page_limit}
use Rattle.model_page.specs.OpenPage.{limit_in}
use Rattle.model_page.specs.PageItems.{Opened, opened_body, opened_forest, or_nothing, slice}
use Rattle.model_page.specs.Pieces.{SourceSpan}
use Rattle.model_page_law.proofs.LawfulLemmas.{flow_counted, limited_is_lawful, opening_count}
use Rattle.model_site_law.specs.ItemLaws.{AllPass}
use Rattle.model_world_law.specs.Standing.{has_few_marks}
use Rattle.model_limit_law.specs.Counted.{OpeningsAreCounted, open_counts, openings}
use Rattle.model_limit_law.specs.Items.{LimitsAreOfItems, OfKinds, OfMarks, first_over, which}
use Rattle.model_limit_law.proofs.ItemLemmas.{first_item_is_over}
use Rattle.model_limit_law.proofs.PageLemmas.{spanned}

-- ---- each opening is counted

counted_up : (depth : ℕ) (items : List PlainItem) (spans : List SourceSpan) → opening_count items ≤ length spans → map (λ (o : ℕ × ℕ). o.0) (openings depth items spans) ≡ open_counts depth items
counted_up depth [] spans c = refl
counted_up depth (Char ch marks ∷ items) spans c = counted_up depth items spans c
counted_up depth (Closing kind pre ∷ items) spans c = counted_up (depth - 1) items spans c
counted_up depth (Opening kind head marks pre origin generated ∷ items) [] c = absurd (omega (arith, c))
counted_up depth (Opening kind head marks pre origin generated ∷ items) (span ∷ spans) c = ap (λ ns. suc depth ∷ ns) (counted_up (suc depth) items spans (omega (arith, c)))

pub openings_are_counted : OpeningsAreCounted
openings_are_counted depth kind parts w = let c = flow_counted kind parts w in counted_up depth (in_flow kind parts w).later.items (in_flow kind parts w).later.spans (omega (arith, c))

-- ---- where no item is over a limit, and where the law goes through

-- what a choice that came to nothing tells
chosen_none : {A : Type 0} (b : Bool) (o : Option A) (a : A) → (if b then o else Some a) ≡ None → (b ≡ true) × (o ≡ None)
chosen_none true o a e = (refl, e)
chosen_none false o a e = cc

none_few : (d : ℕ) (items : List PlainItem) → first_over d items ≡ None → AllPass has_few_marks items
none_few d [] e = tt
none_few d (Char c marks ∷ items) e = let p = chosen_none (nat_le (length marks) max_marks) (first_over d items) OfMarks e in (p.0, none_few d items p.1)
none_few d (Closing kind pre ∷ items) e = (refl, none_few (d - 1) items e)
none_few d (Opening kind head marks pre origin generated ∷ items) e =
    let p = chosen_none (nat_le (length marks) max_marks) _ OfMarks e in
    let q = chosen_none (nat_lt d max_open_kinds) (first_over (suc d) items) OfKinds p.1 in
    (p.0, none_few (suc d) items q.1)

none_over : (items : List PlainItem) (s u : State) → after s items ≡ Ok u → AllPass has_few_marks items → first_over (length s.stack) items ≡ None
none_over [] s u h few = refl
none_over (Char c marks ∷ items) s u h few =
    let p = joined-ok 1 (step s (Char c marks)) (λ next. after next items) u h in
    let same = Ok-same {E = LawFault} s p.0 (if_ok (is_content_branch (top s.stack)) _ _ p.0 p.1).1 in
    ap (λ b. if b then first_over (length s.stack) items else Some OfMarks) few.0
    ∙ subst (λ (v : State). first_over (length v.stack) items ≡ None) (sym same) (none_over items p.0 u p.2 few.1)
none_over (Opening kind head marks pre origin generated ∷ items) s u h few =
    let p = joined-ok 1 (step s (Opening kind head marks pre origin generated)) (λ next. after next items) u h in
    let a = if_ok (may_open s kind) _ _ p.0 p.1 in
    let b = if_ok (nat_lt (length s.stack) max_open_kinds) _ _ p.0 a.1 in
    ap (λ c. if c then (if nat_lt (length s.stack) max_open_kinds then first_over (suc (length s.stack)) items else Some OfKinds) else Some OfMarks) few.0
    ∙ ap (λ c. if c then first_over (suc (length s.stack)) items else Some OfKinds) b.0
    ∙ ap (λ (stack : List Kind). first_over (length stack) items) (opened_before s p.0 kind p.1).0
    ∙ none_over items p.0 u p.2 few.1
none_over (Closing kind pre ∷ items) s u h few =
    let p = joined-ok 1 (step s (Closing kind pre)) (λ next. after next items) u h in
    let less : suc (length p.0.stack) - 1 ≡ length p.0.stack = omega arith in
    ap (λ (stack : List Kind). first_over (length stack - 1) items) (closed_before s.stack s.seen kind p.0 p.1).0
    ∙ ap (λ n. first_over n items) less
    ∙ none_over items p.0 u p.2 few.1

-- ---- an opened page

forest_lawful : (page : List ℕ) (from to : ℕ) (o : Opened) (r : Option Forest) → forest_of (slice page from to) ≡ r → opened_forest page (record { from = from; to = to }) r ≡ Some o → limit_in o ≡ None → Lawful o.items
forest_lawful page from to o None is e none = cc
forest_lawful page from to o (Some f) is e none =
    let made = spanned page from to f in
    let same : made ≡ o = let q : ◌≡◌ {A = Option Opened} (Some made) (Some o) = e in ap (λ x. unwrap_or x made) q in
    let limit : page_limit from f ≡ None = ap (λ x. page_limit from (or_nothing x)) (sym is) ∙ ap limit_in same ∙ none in
    subst (λ x. Lawful x.items) same (limited_is_lawful from f limit)

body_lawful : (page : List ℕ) (o : Opened) (body : Result (ℕ × ℕ) ScanFault) → opened_body page body ≡ Some o → limit_in o ≡ None → Lawful o.items
body_lawful page o (Err f) e none = cc
body_lawful page o (Ok body) e none = forest_lawful page body.0 body.1 o (forest_of (slice page body.0 body.1)) refl e none

which_none : (a : Option Limit) → option_map which a ≡ None → a ≡ None
which_none None e = refl
which_none (Some l) e = cc

pub limits_are_of_items : LimitsAreOfItems
limits_are_of_items page o u e =
    let first = first_item_is_over page o u e in (
      λ none. (body_lawful page o (body_at page) e none, none_few 0 o.items (sym first ∙ ap (option_map which) none)),
      λ good. which_none (limit_in o) (first ∙ none_over o.items start finish (after_from_Lawful o.items good.0) good.1),
    )
