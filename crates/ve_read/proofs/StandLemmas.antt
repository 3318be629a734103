-- The rows of a page that was read stand where its nodes do.
use Rattle.std.proofs.Common.{◌≡◌, ℕ, zero, suc, ◌+◌, ◌-◌, ◌<◌, ◌≤◌, true, List, [], ◌∷◌, ◌++◌, length, take, drop, slice_get, slice_range, Option, Some, None, Result, Ok, Err, refl, sym, ap, ◌∙◌, subst, length-append, arith}
use Rattle.std.specs.Prelude.{unwrap_or, option_map, IsUtf8}
use Rattle.std.specs.List.{list_any}
use Rattle.std.proofs.lemmas.List.{length-map, nil_from_length}
use Rattle.std.proofs.lemmas.Option.{get_or_from_slice_get, slice_get-map, slice_get_within}
use Rattle.model_spelling.specs.declared.scan_fault.ScanFault.{ScanFault}
use Rattle.model_spelling.specs.Forest.{Forest}
use Rattle.model_spelling.specs.Page.{body_at}
use Rattle.model_spelling.specs.Parsed.{forest_of}
use Rattle.ve_kinds.specs.declared.kind.Kind.TheVariants.{Root}
use Rattle.model_items.specs.declared.plain_item.PlainItem.{PlainItem}
use Rattle.model_items.specs.declared.plain_item.PlainItem.TheVariants.{Char, Opening, Closing}
use Rattle.model_items.specs.Plain.{plain}
use Rattle.model_items.specs.Tree.{length_to_close}
use Rattle.model_page.specs.Parts.{parts_of}
use Rattle.model_page.specs.Pieces.{Made, Progress, SourceSpan}
use Rattle.model_page.specs.PageItems.{with_origins, internal_list, page_made, items_of_page, slice, Opened, page_opened, opened_forest, opened_body, opened_page}
use Rattle.model_page.specs.References.{inside_from}
use Rattle.model_page_law.specs.Origins.{origins_of, counted_from}
use Rattle.model_page_law.specs.Spans.{NodeAt, IsPart, IsWholeChars}
use Rattle.model_page_law.proofs.LawfulLemmas.{opening_count, flow_counted, flow_holds}
use Rattle.model_page_law.proofs.NestLemmas.{Holds}
use Rattle.model_page_law.proofs.OpenPageLemmas.{read_is_within}
use Rattle.model_page_law.proofs.OriginLemmas.{origins_of-append, origins_number_spans}
use Rattle.model_page_law.proofs.OriginPlaces.{origins_stand}
use Rattle.model_page_law.proofs.RangeLemmas.{ranges_are_compared}
use Rattle.model_page_law.proofs.SpanCuts.{body_is_cut, spans_are_parts}
use Rattle.ve_html_scan.specs.declared.token.Span.{Span}
use Rattle.ve_origin.specs.declared.origin.OriginRow.{OriginRow}
use Rattle.ve_origin.specs.Kept.{closes_last, opens_notes, IsNodeRange}
use Rattle.ve_origin.specs.Origins.{source_span, spans, IsCut}
use Rattle.ve_reader.specs.ReadSoFar.{node_rows}
use Rattle.ve_read.specs.Pages.{opened_by}
use Rattle.ve_read.specs.RowsStand.{RowsStandLaw}
use Rattle.ve_read.proofs.BeginLemmas.{Begins, Clean, begins, clean_both, clean_inside, clean_later}
use Rattle.ve_read.proofs.NodeRowLemmas.{close_is, closes_is, drop_past, row_at, take_past}

-- ---- what an opened page is made of

record IsMade (o : Opened) : Type 0 where
  pub made : Made
  pub holds : Holds Root made.later.items
  pub counted : opening_count made.later.items ≡ length made.later.spans
  pub items_are : o.items ≡ items_of_page made
  pub spans_are : o.spans ≡ made.later.spans

forest_made : (page : List ℕ) (from to : ℕ) (r : Option Forest) (o : Opened) → opened_forest page (record { from = from; to = to }) r ≡ Some o → IsMade o
forest_made page from to None o h = absurd (cc)
forest_made page from to (Some f) o h =
    let first : Opened = page_opened page (record { from = from; to = to }) (page_made from f) in
    let is : first ≡ o = let s : ◌≡◌ {A = Option Opened} (Some first) (Some o) = h in ap (λ x. unwrap_or x first) s in
    let w : Progress = record { at = from; owners = []; editable = true } in
    subst IsMade is (record {
      made = page_made from f;
      holds = flow_holds Root (refl, refl, refl, refl) (parts_of f) w;
      counted = flow_counted Root (parts_of f) w;
      items_are = refl;
      spans_are = refl;
    })

body_made : (page : List ℕ) (body : Result (ℕ × ℕ) ScanFault) (o : Opened) → opened_body page body ≡ Some o → IsMade o
body_made page (Err f) o h = absurd (cc)
body_made page (Ok body) o h = forest_made page body.0 body.1 (forest_of (slice page body.0 body.1)) o h

length-placed : (items : List PlainItem) (k : ℕ) → length (origins_of (with_origins k items)) ≡ opening_count items
length-placed [] k = refl
length-placed (Char c marks ∷ items) k = length-placed items k
length-placed (Closing kind pre ∷ items) k = length-placed items k
length-placed (Opening kind head marks pre origin generated ∷ items) k = ap suc (length-placed items (suc k))

length-counted : (k count : ℕ) → length (counted_from k count) ≡ count
length-counted k zero = refl
length-counted k (suc count) = ap suc (length-counted (suc k) count)

-- the internal list has no origins
last_unplaced : (o : Opened) (m : IsMade o) → origins_of o.items ≡ counted_from 0 (length o.spans) → origins_of (internal_list m.made.pre m.made.owners) ≡ []
last_unplaced o m numbers =
    let first = with_origins 0 m.made.later.items in
    let last = internal_list m.made.pre m.made.owners in
    let all : length (origins_of first ++ origins_of last) ≡ length o.spans =
    ap (λ (l : List ℕ). length l) (sym (origins_of-append first last) ∙ ap origins_of (sym m.items_are) ∙ numbers) ∙ length-counted 0 (length o.spans) in
    let spans_are : length o.spans ≡ length m.made.later.spans = ap length m.spans_are in
    nil_from_length (origins_of last) (omega (arith, all, spans_are, length-append (origins_of first) (origins_of last), length-placed m.made.later.items 0, m.counted))

-- ---- one row

-- what of the list a node of an origin leaves to say
part_inside : (n : PlainItem) (before inside after : List PlainItem) (closing : PlainItem) (from to : ℕ) → from ≡ length before → to ≡ from + length inside + 2 →
    slice_range (before ++ (n ∷ inside ++ closing ∷ after)) (suc from) to ≡ inside ++ closing ∷ []
part_inside n before inside after closing from to from_is to_is =
    let items = before ++ (n ∷ inside ++ closing ∷ after) in
    let count : to - suc from ≡ length inside + 1 = omega (arith, to_is) in
    ap (λ m. take m (drop (suc from) items)) count
    ∙ ap (λ m. take (length inside + 1) (drop (suc m) items)) from_is
    ∙ ap (take (length inside + 1)) (drop_past before (inside ++ closing ∷ after) n)
    ∙ take_past inside (closing ∷ after) 1

-- the rest of a list after the opening of a node
abbrev after_opening : {items : List PlainItem} {k from to : ℕ} → NodeAt items k from to → List PlainItem
after_opening n = n.inside ++ Closing n.kind n.white ∷ n.after

-- the node begins among the items that have origins
begins_there : (page : List ℕ) (o : Opened) (k from to : ℕ) → opened_page page ≡ Some o → (m : IsMade o) → (n : NodeAt o.items k from to) →
    Begins 0 n.before (after_opening n) (internal_list m.made.pre m.made.owners) n.kind k
begins_there page o k from to opens m n =
    begins n.before m.made.later.items (internal_list m.made.pre m.made.owners) (after_opening n) [] 0 k n.kind n.head n.marks n.pre n.generated (sym n.items_are ∙ m.items_are)
    (last_unplaced o m (origins_number_spans page o opens)) m.holds

-- it closes after what is inside it
closes_after : (items : List PlainItem) (k from to : ℕ) (n : NodeAt items k from to) → length_to_close 0 (after_opening n) ≡ suc (length n.inside)
closes_after items k from to n =
    let end : length (inside_from 0 (after_opening n)).0 ≡ length n.inside = ap (λ (r : List PlainItem × List ℕ). length r.0) n.closes in
    close_is (after_opening n) 0 (omega (arith, end, length-append n.inside (Closing n.kind n.white ∷ n.after))) ∙ ap suc end

no_list_inside : (o : Opened) (k from to : ℕ) (last : List PlainItem) (n : NodeAt o.items k from to) → Begins 0 n.before (after_opening n) last n.kind k →
    Clean (take (suc (length n.inside)) (after_opening n))
no_list_inside o k from to last n b =
    ap (λ m. list_any opens_notes (take m (after_opening n))) (sym (closes_after o.items k from to n))
    ∙ ap (λ l. list_any opens_notes (take (length_to_close 0 l) l)) b.rest_is
    ∙ clean_inside b.rest last (suc k) 0 (n.kind ∷ b.outer) b.nests (omega arith)

up_to_end : (items : List PlainItem) (k from to : ℕ) (n : NodeAt items k from to) →
    take to items ≡ n.before ++ take (suc (suc (length n.inside))) (Opening n.kind n.head n.marks n.pre (Some k) n.generated ∷ after_opening n)
up_to_end items k from to n =
    let rest : List PlainItem = Opening n.kind n.head n.marks n.pre (Some k) n.generated ∷ after_opening n in
    let count : to ≡ length n.before + suc (suc (length n.inside)) = omega (arith, n.to_is, n.from_is) in
    ap (take to) n.items_are ∙ ap (λ m. take m (n.before ++ rest)) count ∙ take_past n.before rest (suc (suc (length n.inside)))

no_list_before : (o : Opened) (k from to : ℕ) (last : List PlainItem) (n : NodeAt o.items k from to) → Begins 0 n.before (after_opening n) last n.kind k → Clean (take to o.items)
no_list_before o k from to last n b =
    let opening : PlainItem = Opening n.kind n.head n.marks n.pre (Some k) n.generated in
    ap (λ l. list_any opens_notes l) (up_to_end o.items k from to n)
    ∙ clean_both n.before (opening ∷ take (suc (length n.inside)) (after_opening n)) b.clean
    (clean_later opening (take (suc (length n.inside)) (after_opening n)) b.other (no_list_inside o k from to last n b))

node_range : (page : List ℕ) (o : Opened) (k from to : ℕ) → opened_page page ≡ Some o → to ≤ length o.items → NodeAt o.items k from to → IsNodeRange o.items k from to
node_range page o k from to opens within n =
    let m = body_made page (body_at page) o opens in
    let opening : PlainItem = Opening n.kind n.head n.marks n.pre (Some k) n.generated in
    record {
      some = omega (arith, n.to_is);
      within = within;
      is = ranges_are_compared page o opens k from to n;
      closes = ap (λ l. closes_last 0 (slice_range l (suc from) to)) n.items_are
          ∙ ap (closes_last 0) (part_inside opening n.before n.inside n.after (Closing n.kind n.white) from to n.from_is n.to_is)
          ∙ closes_is n.inside n.after n.kind n.white 0 (ap (λ (r : List PlainItem × List ℕ). r.0) n.closes);
      outside = no_list_before o k from to (internal_list m.made.pre m.made.owners) n (begins_there page o k from to opens m n);
    }

-- the row of a node says where it begins and ends
row_of_node : (page : List ℕ) (o : Opened) (rows : List OriginRow) (k from to : ℕ) (row : OriginRow) → opened_page page ≡ Some o → rows ≡ node_rows 0 o.items (spans rows) →
    slice_get rows k ≡ Some row → NodeAt o.items k from to → (from ≡ row.from) × (to ≡ row.to)
row_of_node page o rows k from to row opens are got n =
    let m = body_made page (body_at page) o opens in
    let b = begins_there page o k from to opens m n in
    let count : k ≡ opening_count n.before = omega (arith, b.number) in
    let less : opening_count n.before < length (spans rows) = omega (arith, count, slice_get_within rows k row got, length-map rows (λ (r : OriginRow). source_span r.span)) in
    let there : slice_get (node_rows 0 (n.before ++ (Opening n.kind n.head n.marks n.pre (Some k) n.generated ∷ after_opening n)) (spans rows)) (opening_count n.before) ≡ Some row =
    ap (λ l. slice_get (node_rows 0 l (spans rows)) (opening_count n.before)) (sym n.items_are)
    ∙ ap (λ l. slice_get l (opening_count n.before)) (sym are)
    ∙ ap (slice_get rows) (sym count)
    ∙ got in
    let r = row_at n.before (after_opening n) (spans rows) 0 n.kind n.head n.marks n.pre (Some k) n.generated row less there in
    let long = closes_after o.items k from to n in
    (omega (arith, r.0, n.from_is), omega (arith, r.0, r.1, n.from_is, n.to_is, long))

range_of_row : (page : List ℕ) (o : Opened) (rows : List OriginRow) (k : ℕ) (row : OriginRow) → opened_page page ≡ Some o → o.spans ≡ spans rows →
    rows ≡ node_rows 0 o.items (spans rows) → slice_get rows k ≡ Some row → IsNodeRange o.items k row.from row.to
range_of_row page o rows k row opens spans_are are got =
    let few : k < length o.spans = omega (arith, slice_get_within rows k row got, length-map rows (λ (r : OriginRow). source_span r.span), ap length spans_are) in
    let s = origins_stand page o opens k few in
    let same = row_of_node page o rows k s.0 s.1 row opens are got s.3 in
    subst (λ to. IsNodeRange o.items k row.from to) same.1 (subst (λ from. IsNodeRange o.items k from s.1) same.0 (node_range page o k s.0 s.1 opens s.2 s.3))

-- ---- all rows

cut_of : (page : List ℕ) (s : Span) → IsWholeChars page (source_span s) → IsCut page s
cut_of page s w = record { rises = w.rises; first = w.first; last = w.last }

span_of_row : (page : List ℕ) (o : Opened) (rows : List OriginRow) (k : ℕ) (row : OriginRow) → IsUtf8 page → opened_page page ≡ Some o → o.page ≡ page → o.spans ≡ spans rows →
    slice_get rows k ≡ Some row → IsCut page row.span
span_of_row page o rows k row utf8 opens same spans_are got =
    let d : SourceSpan = source_span row.span in
    let few : k < length o.spans = omega (arith, slice_get_within rows k row got, length-map rows (λ (r : OriginRow). source_span r.span), ap length spans_are) in
    let there : slice_get o.spans k ≡ Some d =
    ap (λ l. slice_get l k) spans_are ∙ slice_get-map (λ (r : OriginRow). source_span r.span) rows k ∙ ap (option_map (λ (r : OriginRow). source_span r.span)) got in
    let part = subst (IsPart o.page o.body) (get_or_from_slice_get o.spans k d d there) (spans_are_parts page o utf8 opens k d few) in
    cut_of page row.span (subst (λ p. IsWholeChars p d) same part.cut)

pub rows_stand : RowsStandLaw
rows_stand text p utf8 is places =
    let o : Opened = opened_by text p in
    let opens : opened_page text ≡ Some o = (read_is_within text o is.opens).opens in
    record {
      cut = cut_of text p.body (body_is_cut text o utf8 opens);
      are_rows = λ k row got.
          let range = range_of_row text o p.rows k row opens refl places got in
          record { span = span_of_row text o p.rows k row utf8 opens refl refl got; some = range.some; within = omega (arith, range.within, length-map p.list.items (plain p.values)) };
      ranges = λ k row got. range_of_row text o p.rows k row opens refl places got;
      numbered = origins_number_spans text o opens ∙ ap (counted_from 0) (length-map p.rows (λ (r : OriginRow). source_span r.span));
    }
