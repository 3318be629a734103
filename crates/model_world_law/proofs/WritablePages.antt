-- The items of a page that opens, and those of a fragment, are ones that a line could write.
use Rattle.std.specs.Prelude.{chars, encode_utf8_all, flat_map, map, unwrap_or}
use Rattle.std.proofs.Common.{◌≡◌, ℕ, suc, ◌+◌, ◌≤◌, Bool, true, false, ◌&&◌, if◌then◌else◌, List, [], ◌∷◌, ◌++◌, length, Option, Some, None, Result, Ok, Err, refl, sym, ap, subst, arith, IsUtf8}
use Rattle.std.proofs.lemmas.Bool.{and_parts, lt-ltb}
use Rattle.std.proofs.lemmas.List.{length-append}
use Rattle.std.proofs.lemmas.Str.{IsUtf8-nil}
use Rattle.ve_kinds.specs.declared.kind.Kind.{Kind}
use Rattle.ve_kinds.specs.declared.kind.Kind.TheVariants.{InternalItem, InternalList, P, Root}
use Rattle.ve_kinds.specs.Table.{is_flow}
use Rattle.ve_base.specs.Empty.{empty_head}
use Rattle.ve_base.specs.Limits.{max_items}
use Rattle.model_items.specs.declared.plain_item.PlainItem.{PlainItem}
use Rattle.model_items.specs.declared.plain_item.PlainItem.TheVariants.{Char, Closing, Opening}
use Rattle.model_spelling.specs.Forest.{Forest, Nothing, is_forest, spelling}
use Rattle.model_spelling.specs.Page.{body_at}
use Rattle.model_spelling.specs.Parsed.{forest_of}
use Rattle.model_spelling.specs.declared.scan_fault.ScanFault.{ScanFault}
use Rattle.model_spelling.proofs.Proved.{law_forest_utf8, law_reads_right}
use Rattle.model_page.specs.Convert.{made_of}
use Rattle.model_page.specs.Elements.{is_white}
use Rattle.model_page.specs.Fit.{Flow, around_in}
use Rattle.model_page.specs.Fragment.{context_of, fragment_items, item_unmade, pieces_in}
use Rattle.model_page.specs.OpenPage.{read_page}
use Rattle.model_page.specs.PageItems.{Opened, body_made, internal_item, internal_list, items_of_page, opened_body, opened_forest, or_nothing, page_made, page_opened, slice, with_origins}
use Rattle.model_page.specs.Parts.{parts_of, source_of}
use Rattle.model_page.specs.Pieces.{Owner, Progress}
use Rattle.model_page_law.proofs.BodyUtf8.{body_utf8}
use Rattle.model_page_law.proofs.InlinedLemmas.{Faithful-parts_of}
use Rattle.model_page_law.proofs.OpenPageLemmas.{read_is_within}
use Rattle.model_page_law.proofs.OwnersUtf8.{AllOwnUtf8, flow_owns}
use Rattle.model_page_law.proofs.PartsUtf8.{all_utf8}
use Rattle.model_site_law.specs.ItemLaws.{AllPass}
use Rattle.model_world.specs.Opening.{open_page}
use Rattle.model_world.specs.Refusals.{open_refusal}
use Rattle.model_world_law.specs.Writable.{is_writable}
use Rattle.model_world_law.proofs.ChangeLemmas.{given}
use Rattle.model_world_law.proofs.WritableFits.{context_loose}
use Rattle.model_world_law.proofs.WritableMade.{AllPassing, OpeningPasses, closed_passes, inside_items, inside_marks, made_passes, passes_writable, passing-append, passing-chars}
use Rattle.model_world_law.proofs.WritableParts.{PartsPass, parts_pass}
use Rattle.model_world_law.proofs.WritableTexts.{white_plain}

abbrev pub AllWritable : List PlainItem → Type 0
AllWritable items = AllPass is_writable items

writable-append : (xs ys : List PlainItem) → AllWritable xs → AllWritable ys → AllWritable (xs ++ ys)
writable-append [] ys p q = q
writable-append (x ∷ xs) ys p q = (p.0, writable-append xs ys p.1 q)

all_writable : (items : List PlainItem) → AllPassing items → AllWritable items
all_writable [] p = tt
all_writable (x ∷ xs) p = (passes_writable x p.0, all_writable xs p.1)

-- ---- origins

origins_pass : (items : List PlainItem) (k : ℕ) → k + length items ≤ 4294967295 → AllPassing items → AllPassing (with_origins k items)
origins_pass [] k b p = tt
origins_pass (Char c marks ∷ items) k b p = (p.0, origins_pass items k (omega (arith, b)) p.1)
origins_pass (Closing kind pre ∷ items) k b p = (p.0, origins_pass items k (omega (arith, b)) p.1)
origins_pass (Opening kind head marks pre origin generated ∷ items) k b p =
    let o : OpeningPasses kind head marks pre origin generated = p.0 in (
      record {
        plain = o.plain;
        marks_pass = o.marks_pass;
        white = o.white;
        opens = o.opens;
        placed = lt-ltb k 4294967296 (omega (arith, b));
        made = o.made;
      },
      origins_pass items (suc k) (omega (arith, b)) p.1,
    )

length-origins : (items : List PlainItem) (k : ℕ) → length (with_origins k items) ≡ length items
length-origins [] k = refl
length-origins (Char c marks ∷ items) k = ap suc (length-origins items k)
length-origins (Closing kind pre ∷ items) k = ap suc (length-origins items k)
length-origins (Opening kind head marks pre origin generated ∷ items) k = ap suc (length-origins items (suc k))

-- ---- bodies

text_forest : (text : List ℕ) (r : Option Forest) → forest_of text ≡ r → IsUtf8 text → PartsPass (parts_of (or_nothing r))
text_forest text None e u = tt
text_forest text (Some f) e u =
    let s = law_reads_right text f e in
    parts_pass 200 f s.1 (law_forest_utf8 200 f s.1 (subst IsUtf8 (sym s.0) u))

body_writable : (o : Owner) → IsUtf8 o.html → AllWritable (internal_item o)
body_writable o u =
    let f = or_nothing (forest_of o.html) in
    let w : Progress = record { at = 0; owners = []; editable = false } in
    let m = made_passes (Flow InternalItem) (parts_of f) refl tt (text_forest o.html (forest_of o.html) refl u) w in
    let c = closed_passes (Flow InternalItem) tt w (made_of (Flow InternalItem) (parts_of f) w) m in
    (refl, writable-append (body_made f).later.items (Closing InternalItem (body_made f).pre ∷ []) (all_writable (body_made f).later.items c.later) (refl, tt))

bodies_writable : (owners : List Owner) → AllOwnUtf8 owners → AllWritable (flat_map internal_item owners)
bodies_writable [] u = tt
bodies_writable (o ∷ owners) u = writable-append (internal_item o) (flat_map internal_item owners) (body_writable o u.0) (bodies_writable owners u.1)

-- ---- pages

page_writable : (at : ℕ) (f : Forest) → is_forest 200 f ≡ true → IsUtf8 (spelling f) → length (items_of_page (page_made at f)) ≤ max_items → AllWritable (items_of_page (page_made at f))
page_writable at f h u short =
    let w : Progress = record { at = at; owners = []; editable = true } in
    let m = page_made at f in
    let made = made_passes (Flow Root) (parts_of f) refl tt (parts_pass 200 f h (law_forest_utf8 200 f h u)) w in
    let closed = closed_passes (Flow Root) tt w (made_of (Flow Root) (parts_of f) w) made in
    let all : length (with_origins 0 m.later.items ++ internal_list m.pre m.owners) ≤ 4194304 = short in
    let bound : 0 + length m.later.items ≤ 4294967295 = omega (arith, all, length-append (with_origins 0 m.later.items) (internal_list m.pre m.owners), length-origins m.later.items 0) in
    writable-append (with_origins 0 m.later.items) (internal_list m.pre m.owners)
    (all_writable (with_origins 0 m.later.items) (origins_pass m.later.items 0 bound closed.later)) (
      refl,
      writable-append (flat_map internal_item m.owners) (Closing InternalList [] ∷ [])
          (bodies_writable m.owners (flow_owns 200 Root (parts_of f) w (Faithful-parts_of 200 f h) (all_utf8 f h u))) (refl, tt),
    )

forest_writable : (page : List ℕ) (from to : ℕ) → IsUtf8 (slice page from to) → (r : Option Forest) → forest_of (slice page from to) ≡ r → (o : Opened) →
    opened_forest page (record { from = from; to = to }) r ≡ Some o → length o.items ≤ max_items → AllWritable o.items
forest_writable page from to u None e o h short = cc
forest_writable page from to u (Some f) e o h short =
    let s = law_reads_right (slice page from to) f e in
    let first : Opened = page_opened page (record { from = from; to = to }) (page_made from f) in
    let is : first ≡ o = let p : ◌≡◌ {A = Option Opened} (Some first) (Some o) = h in ap (λ x. unwrap_or x first) p in
    subst (λ x. AllWritable x.items) is (page_writable from f s.1 (subst IsUtf8 (sym s.0) u) (subst (λ x. length x.items ≤ max_items) (sym is) short))

body_page_writable : (page : List ℕ) → IsUtf8 page → (body : Result (ℕ × ℕ) ScanFault) → body_at page ≡ body → (o : Opened) → opened_body page body ≡ Some o → length o.items ≤ max_items → AllWritable o.items
body_page_writable page u (Err f) b o h short = cc
body_page_writable page u (Ok body) b o h short =
    forest_writable page body.0 body.1 (body_utf8 page body.0 body.1 u b) (forest_of (slice page body.0 body.1)) refl o h short

forest_page : (page : List ℕ) (from to : ℕ) (r : Option Forest) (o : Opened) → opened_forest page (record { from = from; to = to }) r ≡ Some o → o.page ≡ page
forest_page page from to None o h = cc
forest_page page from to (Some f) o h =
    let first : Opened = page_opened page (record { from = from; to = to }) (page_made from f) in
    let is : first ≡ o = let p : ◌≡◌ {A = Option Opened} (Some first) (Some o) = h in ap (λ x. unwrap_or x first) p in
    ap (λ x. x.page) (sym is)

opened_page_same : (page : List ℕ) (body : Result (ℕ × ℕ) ScanFault) (o : Opened) → opened_body page body ≡ Some o → o.page ≡ page
opened_page_same page (Err f) o h = cc
opened_page_same page (Ok body) o h = forest_page page body.0 body.1 (forest_of (slice page body.0 body.1)) o h

-- of a text that opens as a page that is UTF-8
pub pages_writable : (text : List ℕ) (o : Opened) → IsUtf8 o.page → open_page text ≡ Ok o → AllPass is_writable o.items
pages_writable text o u h =
    let bytes = encode_utf8_all text in
    let within = read_is_within bytes o (given open_refusal (read_page bytes) o h) in
    let same : o.page ≡ bytes = opened_page_same bytes (body_at bytes) o within.opens in
    body_page_writable bytes (subst IsUtf8 same u) (body_at bytes) refl o within.opens within.items

-- ---- fragments

unmade_passes : (items : List PlainItem) → AllPassing items → AllPassing (map item_unmade items)
unmade_passes [] p = tt
unmade_passes (Char c marks ∷ items) p = (p.0, unmade_passes items p.1)
unmade_passes (Closing kind pre ∷ items) p = (p.0, unmade_passes items p.1)
unmade_passes (Opening kind head marks pre origin generated ∷ items) p =
    let o : OpeningPasses kind head marks pre origin generated = p.0 in (
      record { plain = o.plain; marks_pass = o.marks_pass; white = o.white; opens = o.opens; placed = o.placed; made = refl },
      unmade_passes items p.1,
    )

paragraph_passes : (source : List ℕ) → is_white source ≡ true → AllPassing (Opening P empty_head [] [] None false ∷ map (λ c. Char c []) (chars source) ++ Closing P [] ∷ [])
paragraph_passes source h = (
  record { plain = λ e. refl; marks_pass = refl; white = refl; opens = refl; placed = refl; made = refl },
  passing-append (map (λ c. Char c []) (chars source)) (Closing P [] ∷ []) (passing-chars [] (chars source) refl (white_plain source h).text) ((refl, refl), tt),
)

fragment_passes : (stack : List Kind) (f : Forest) → is_forest 200 f ≡ true → IsUtf8 (spelling f) → AllPassing (fragment_items stack f)
fragment_passes stack f h u = by (is_flow (context_of (parts_of f) stack) && is_white (source_of (parts_of f))) refl
  where
    by : (c : Bool) → (is_flow (context_of (parts_of f) stack) && is_white (source_of (parts_of f))) ≡ c → AllPassing (
        if c
        then Opening P empty_head [] [] None false ∷ map (λ c. Char c []) (chars (source_of (parts_of f))) ++ Closing P [] ∷ []
        else map item_unmade (pieces_in (context_of (parts_of f) stack) (parts_of f)).later.items)
    by true e = paragraph_passes (source_of (parts_of f)) (and_parts (is_flow (context_of (parts_of f) stack)) (is_white (source_of (parts_of f))) e).1
    by false e =
        let parts = parts_of f in
        let k = context_of parts stack in
        let w : Progress = record { at = 0; owners = []; editable = false } in
        unmade_passes (pieces_in k parts).later.items
        (inside_items (around_in k) w (made_of (around_in k) parts w)
        (made_passes (around_in k) parts (inside_marks k) (context_loose parts stack) (parts_pass 200 f h (law_forest_utf8 200 f h u)) w))

pub fragment_writable : (stack : List Kind) (f : Forest) → is_forest 200 f ≡ true → IsUtf8 (spelling f) → AllPass is_writable (fragment_items stack f)
fragment_writable stack f h u = all_writable (fragment_items stack f) (fragment_passes stack f h u)

-- of a text, as the forest that it is read as
pub fragments_writable : (stack : List Kind) (text : List ℕ) → IsUtf8 text → AllPass is_writable (fragment_items stack (or_nothing (forest_of text)))
fragments_writable stack text u = by (forest_of text) refl
  where
    by : (r : Option Forest) → forest_of text ≡ r → AllPass is_writable (fragment_items stack (or_nothing r))
    by None e = fragment_writable stack Nothing refl IsUtf8-nil
    by (Some f) e = let s = law_reads_right text f e in fragment_writable stack f s.1 (subst IsUtf8 (sym s.0) u)
