-- A page is refused for its nesting or its marks exactly at the first thing over these limits.
use Rattle.std.specs.Option.{option_or}
use Rattle.std.specs.Prelude.{encode_utf8_all, nat_lt, option_map, unwrap_or}
use Rattle.std.proofs.Common.{◌≡◌, inl, inr, ℕ, ◌-◌, Bool, true, false, if◌then◌else◌, List, [], ◌∷◌, length, Option, Some, None, Result, Ok, Err, IsUtf8, refl, sym, ap, ◌∙◌, subst, arith}
use Rattle.std.proofs.lemmas.Bool.{le-ltb}
use Rattle.ve_base.specs.Limits.{max_items, max_page, max_values}
use Rattle.ve_kinds.specs.declared.kind.Kind.{Kind}
use Rattle.ve_kinds.specs.declared.kind.Kind.TheVariants.{InternalItem, Root}
use Rattle.model_spelling.specs.Faults as fault
use Rattle.model_spelling.specs.Faults.{ForestFault, Scan, fault_of}
use Rattle.model_spelling.specs.Forest.{Forest, is_forest, spelling}
use Rattle.model_spelling.specs.Page.{body_at, fault_in_page}
use Rattle.model_spelling.specs.Parsed.{forest_of}
use Rattle.model_spelling.specs.declared.scan_fault.ScanFault.{ScanFault}
use Rattle.model_spelling.proofs.Proved.{law_found, law_only, law_reads_right}
use Rattle.model_page.specs.Fit.{Flow, around_in}
use Rattle.model_page.specs.Fragment.{context_of}
use Rattle.model_page.specs.Limits.{Limit, TooDeep, TooManyMarks, first_body_limit, fragment_limit, limit_of, moved_to, page_limit}
use Rattle.model_page.specs.OpenPage.{BadPage, OpenFault, OverLimit, PageTooLong, StoreFull, TooManyItems, if_small, if_within, limit_in, read_body, read_page, values_of}
use Rattle.model_page.specs.PageItems.{Opened, body_made, opened_body, opened_forest, opened_page, or_nothing, page_made, page_opened, slice}
use Rattle.model_page.specs.Parts.{Ended, Group, Note, Parent, Parts, Single, Words, parts_of}
use Rattle.model_page.specs.Pieces.{Made, Owner}
use Rattle.model_page_law.proofs.BodyUtf8.{body_utf8}
use Rattle.model_page_law.proofs.InlinedLemmas.{Faithful, Faithful-parts_of, characters-nonempty}
use Rattle.model_page_law.proofs.MarkedLemmas.{Texted}
use Rattle.model_page_law.proofs.PartsUtf8.{all_utf8}
use Rattle.model_page_law.proofs.Premises.{AllUtf8}
use Rattle.model_world.specs.Refusals.{limit_refusal, open_refusal, refused_as}
use Rattle.model_world.specs.declared.refusal.Refusal.{Refusal}
use Rattle.model_world.specs.declared.refusal.Refusal.TheVariants as refusal
use Rattle.model_limit_law.specs.Counted.{mark_places, openings}
use Rattle.model_limit_law.specs.First.{FirstIn, FirstInBodies, FirstInBody, FirstInOpened, FirstInPage, FirstIsRefused, FragmentsAtFirst, OpeningTellsLimits, RefusedIsFirst}
use Rattle.model_limit_law.proofs.FirstLemmas.{deep_at-first, first_deep, first_is_limit, first_marked, limit_is_first, limit_same, marked_found, marked_only, one_limit}
use Rattle.model_limit_law.proofs.PlaceLemmas.{even_in, marked_at-places}
use Rattle.model_page_law.proofs.OwnersUtf8.{AllOwnUtf8, flow_owns}

-- ---- texts have characters

texted : (room : ℕ) (parts : Parts) → Faithful room parts → AllUtf8 parts → Texted parts
texted room Ended f u = tt
texted room (Words text later) f u = (characters-nonempty text u.0 f.0, texted room later f.1 u.1)
texted room (Note text later) f u = texted room later f u
texted room (Group nodes later) f u = texted room later f.1 u.1
texted room (Single name attrs source later) f u = texted room later f.1 u.1
texted room (Parent name attrs children later) f u = (texted (room - 1) children f.1 u.1, texted room later f.2 u.2)

pub forest_texted : (f : Forest) → is_forest 200 f ≡ true → IsUtf8 (spelling f) → Texted (parts_of f)
forest_texted f h u = texted 200 (parts_of f) (Faithful-parts_of 200 f h) (all_utf8 f h u)

pub body_texted : (html : List ℕ) → IsUtf8 html → Texted (parts_of (or_nothing (forest_of html)))
body_texted html u = by (forest_of html) refl
  where
    by : (r : Option Forest) → forest_of html ≡ r → Texted (parts_of (or_nothing r))
    by None e = tt
    by (Some f) e = let s = law_reads_right html f e in forest_texted f s.1 (subst IsUtf8 (sym s.0) u)

-- ---- fragments

pub fragments_at_first : FragmentsAtFirst
fragments_at_first stack f at h u =
    let parts = parts_of f in
    let kind = context_of parts stack in
    let places = mark_places [] (around_in kind) parts 0 in
    let same : fragment_limit stack f ≡ first_marked places = marked_at-places parts (forest_texted f h u) [] (around_in kind) 0 (even_in kind) (omega arith) in
    (λ e. marked_found places at (sym same ∙ e), λ first. same ∙ marked_only places at first)

-- ---- what stands in a flow parent

no_limit : (a : Option Limit) (l : Limit) → a ≡ None → a ≡ Some l → ⊥
no_limit a l e f = cc

pub flow_limit : (depth : ℕ) (kind : Kind) (parts : Parts) (at : ℕ) (m : Made) → Texted parts →
    limit_of depth (Flow kind) parts at m ≡ one_limit (first_deep (openings depth m.later.items m.later.spans)) (first_marked (mark_places [] (Flow kind) parts at))
flow_limit depth kind parts at m t =
    (λ i. one_limit (deep_at-first depth m.later.items m.later.spans i) (marked_at-places parts t [] (Flow kind) at refl (omega arith) i))

pub flow_first : (depth : ℕ) (kind : Kind) (parts : Parts) (at : ℕ) (m : Made) (l : Limit) → Texted parts → limit_of depth (Flow kind) parts at m ≡ Some l → FirstIn depth kind parts at m l
flow_first depth kind parts at m l t h =
    limit_is_first (openings depth m.later.items m.later.spans) (mark_places [] (Flow kind) parts at) l (sym (flow_limit depth kind parts at m t) ∙ h)

pub first_flow : (depth : ℕ) (kind : Kind) (parts : Parts) (at : ℕ) (m : Made) (l : Limit) → Texted parts → FirstIn depth kind parts at m l → limit_of depth (Flow kind) parts at m ≡ Some l
first_flow depth kind parts at m l t f =
    flow_limit depth kind parts at m t ∙ first_is_limit (openings depth m.later.items m.later.spans) (mark_places [] (Flow kind) parts at) l f

flow_none : (depth : ℕ) (kind : Kind) (parts : Parts) (at : ℕ) (m : Made) → Texted parts → limit_of depth (Flow kind) parts at m ≡ None → (l : Limit) → FirstIn depth kind parts at m l → ⊥
flow_none depth kind parts at m t e l f = no_limit (limit_of depth (Flow kind) parts at m) l e (first_flow depth kind parts at m l t f)

-- where there is no first thing, there is no limit
none_flow : (depth : ℕ) (kind : Kind) (parts : Parts) (at : ℕ) (m : Made) → Texted parts → ((l : Limit) → FirstIn depth kind parts at m l → ⊥) → limit_of depth (Flow kind) parts at m ≡ None
none_flow depth kind parts at m t none = by (limit_of depth (Flow kind) parts at m) refl
  where
    by : (r : Option Limit) → limit_of depth (Flow kind) parts at m ≡ r → r ≡ None
    by None e = refl
    by (Some l) e = absurd (none l (flow_first depth kind parts at m l t e))

-- ---- bodies

abbrev inner_limit : Owner → Option Limit
inner_limit o = let f = or_nothing (forest_of o.html) in limit_of 2 (Flow InternalItem) (parts_of f) 0 (body_made f)

body_first : (o : Owner) (l : Limit) → IsUtf8 o.html → inner_limit o ≡ Some l → FirstInBody o l
body_first o l u h = let f = or_nothing (forest_of o.html) in flow_first 2 InternalItem (parts_of f) 0 (body_made f) l (body_texted o.html u) h

first_body : (o : Owner) (l : Limit) → IsUtf8 o.html → FirstInBody o l → inner_limit o ≡ Some l
first_body o l u h = let f = or_nothing (forest_of o.html) in first_flow 2 InternalItem (parts_of f) 0 (body_made f) l (body_texted o.html u) h

body_none : (o : Owner) → IsUtf8 o.html → inner_limit o ≡ None → (l : Limit) → FirstInBody o l → ⊥
body_none o u e = let f = or_nothing (forest_of o.html) in flow_none 2 InternalItem (parts_of f) 0 (body_made f) (body_texted o.html u) e

none_body : (o : Owner) → IsUtf8 o.html → ((l : Limit) → FirstInBody o l → ⊥) → inner_limit o ≡ None
none_body o u none = let f = or_nothing (forest_of o.html) in none_flow 2 InternalItem (parts_of f) 0 (body_made f) (body_texted o.html u) none

bodies_first : (owners : List Owner) (l : Limit) → AllOwnUtf8 owners → first_body_limit owners ≡ Some l → FirstInBodies owners l
bodies_first [] l u h = cc
bodies_first (o ∷ owners) l u h = by (inner_limit o) refl h (bodies_first owners l u.1)
  where
    by : (r : Option Limit) → inner_limit o ≡ r → option_or (option_map (moved_to o.at) r) (first_body_limit owners) ≡ Some l → (first_body_limit owners ≡ Some l → FirstInBodies owners l) →
        FirstInBodies (o ∷ owners) l
    by (Some inner) e h rest = inl (inner, body_first o inner u.0 e, sym (limit_same (moved_to o.at inner) l h))
    by None e h rest = inr (body_none o u.0 e, rest h)

first_bodies : (owners : List Owner) (l : Limit) → AllOwnUtf8 owners → FirstInBodies owners l → first_body_limit owners ≡ Some l
first_bodies [] l u f = absurd f
first_bodies (o ∷ owners) l u (inl here) =
    ap (λ r. option_or (option_map (moved_to o.at) r) (first_body_limit owners)) (first_body o here.0 u.0 here.1) ∙ ap (λ x. Some x) (sym here.2)
first_bodies (o ∷ owners) l u (inr later) =
    ap (λ r. option_or (option_map (moved_to o.at) r) (first_body_limit owners)) (none_body o u.0 later.0) ∙ first_bodies owners l u.1 later.1

-- ---- a page

abbrev own_limit : ℕ → Forest → Option Limit
own_limit at f = limit_of 0 (Flow Root) (parts_of f) at (page_made at f)

pub page_owns : (at : ℕ) (f : Forest) → is_forest 200 f ≡ true → IsUtf8 (spelling f) → AllOwnUtf8 (page_made at f).owners
page_owns at f h u = flow_owns 200 Root (parts_of f) (record { at = at; owners = []; editable = true }) (Faithful-parts_of 200 f h) (all_utf8 f h u)

pub page_first : (at : ℕ) (f : Forest) (l : Limit) → is_forest 200 f ≡ true → IsUtf8 (spelling f) → page_limit at f ≡ Some l → FirstInPage at f l
page_first at f l h u e = by (own_limit at f) refl e
  where
    t : Texted (parts_of f)
    t = forest_texted f h u

    by : (r : Option Limit) → own_limit at f ≡ r → option_or r (first_body_limit (page_made at f).owners) ≡ Some l → FirstInPage at f l
    by (Some first) o e = inl (flow_first 0 Root (parts_of f) at (page_made at f) l t (o ∙ e))
    by None o e = inr (flow_none 0 Root (parts_of f) at (page_made at f) t o, bodies_first (page_made at f).owners l (page_owns at f h u) e)

pub first_page : (at : ℕ) (f : Forest) (l : Limit) → is_forest 200 f ≡ true → IsUtf8 (spelling f) → FirstInPage at f l → page_limit at f ≡ Some l
first_page at f l h u (inl own) = ap (λ r. option_or r (first_body_limit (page_made at f).owners)) (first_flow 0 Root (parts_of f) at (page_made at f) l (forest_texted f h u) own)
first_page at f l h u (inr bodies) =
    ap (λ r. option_or r (first_body_limit (page_made at f).owners)) (none_flow 0 Root (parts_of f) at (page_made at f) (forest_texted f h u) bodies.0)
    ∙ first_bodies (page_made at f).owners l (page_owns at f h u) bodies.1

-- ---- what is read

abbrev Read : Type 0
Read = Result Opened OpenFault

abbrev over : Limit → Read
over l = Err (OverLimit l)

abbrev limit_of_read : Read → Option Limit
limit_of_read (Ok o) = None
limit_of_read (Err (OverLimit l)) = Some l
limit_of_read (Err (PageTooLong bytes)) = None
limit_of_read (Err (BadPage fault)) = None
limit_of_read (Err (TooManyItems count)) = None
limit_of_read (Err StoreFull) = None

small_has_none : (o : Opened) → limit_of_read (if_small o) ≡ None
small_has_none o = by (nat_lt max_items (length o.items)) (nat_lt max_values (length (values_of o)))
  where
    by : (many full : Bool) → limit_of_read (if many then Err (TooManyItems (length o.items)) else (if full then Err StoreFull else Ok o)) ≡ None
    by true full = refl
    by false true = refl
    by false false = refl

within_limit : (o : Opened) → limit_of_read (if_within o) ≡ limit_in o
within_limit o = by (limit_in o)
  where
    by : (r : Option Limit) → limit_of_read (elim r [ Some l ↦ Err (OverLimit l) | None ↦ if_small o ]) ≡ r
    by (Some l) = refl
    by None = small_has_none o

abbrev pub spanned : List ℕ → ℕ → ℕ → Forest → Opened
spanned page from to f = page_opened page (record { from = from; to = to }) (page_made from f)

abbrev body_read : List ℕ → ℕ → ℕ → Option ForestFault → Read
body_read page from to fault = elim fault [
  | Some f ↦ Err (BadPage (fault_in_page from f))
  | None ↦ if_within (spanned page from to (or_nothing (forest_of (slice page from to))))
]

abbrev IsFirstOf : List ℕ → Limit → Type 0
IsFirstOf page l = (o : Opened) × (opened_page page ≡ Some o) × FirstInOpened o l

body_over : (page : List ℕ) (from to : ℕ) (l : Limit) (fault : Option ForestFault) → fault_of (slice page from to) ≡ fault → IsUtf8 page → body_at page ≡ Ok (from, to) →
    limit_of_read (body_read page from to fault) ≡ Some l → IsFirstOf page l
body_over page from to l (Some fault) h u b e = cc
body_over page from to l None h u b e =
    let text = slice page from to in
    let g = law_found text h in
    let f = g.0 in
    let is : forest_of text ≡ Some f = (law_only text f g.1).1 in
    let s = law_reads_right text f is in
    let o = spanned page from to f in
    let limit : page_limit from f ≡ Some l = ap (λ r. page_limit from (or_nothing r)) (sym is) ∙ sym (within_limit (spanned page from to (or_nothing (forest_of text)))) ∙ e in
    let first = page_first from f l s.1 (subst IsUtf8 (sym s.0) (body_utf8 page from to u b)) limit in
    (o, ap (opened_body page) b ∙ ap (opened_forest page (record { from = from; to = to })) is, subst (λ r. FirstInPage from (or_nothing r) l) (sym is) first)

over_body : (page : List ℕ) (l : Limit) (body : Result (ℕ × ℕ) ScanFault) → IsUtf8 page → body_at page ≡ body → limit_of_read (read_body page body) ≡ Some l → IsFirstOf page l
over_body page l (Err f) u b e = cc
over_body page l (Ok body) u b e = body_over page body.0 body.1 l (fault_of (slice page body.0 body.1)) refl u b e

abbrev page_read : List ℕ → Bool → Read
page_read page long = elim long [
  | true ↦ Err (PageTooLong (length page))
  | false ↦ read_body page (body_at page)
]

over_page : (page : List ℕ) (l : Limit) (long : Bool) → IsUtf8 page → limit_of_read (page_read page long) ≡ Some l → IsFirstOf page l
over_page page l true u e = cc
over_page page l false u e = over_body page l (body_at page) u refl e

pub refused_is_first : RefusedIsFirst
refused_is_first page l u e = over_page page l (nat_lt max_page (length page)) u (ap limit_of_read e)

-- ---- what is over a limit is refused

no_fault : (text : List ℕ) (f : Forest) → forest_of text ≡ Some f → fault_of text ≡ None
no_fault text f e = let s = law_reads_right text f e in (law_only text f (record { allowed = s.1; text_is = sym s.0 })).0

limited : (o : Opened) (l : Limit) → limit_in o ≡ Some l → if_within o ≡ over l
limited o l e = ap (λ r. elim r as (λ _. Read) [ Some x ↦ Err (OverLimit x) | None ↦ if_small o ]) e

forest_refused : (page : List ℕ) (from to : ℕ) (o : Opened) (l : Limit) (r : Option Forest) → forest_of (slice page from to) ≡ r → IsUtf8 page → body_at page ≡ Ok (from, to) →
    opened_forest page (record { from = from; to = to }) r ≡ Some o → FirstInOpened o l → body_read page from to (fault_of (slice page from to)) ≡ over l
forest_refused page from to o l None is u b e first = cc
forest_refused page from to o l (Some f) is u b e first =
    let text = slice page from to in
    let s = law_reads_right text f is in
    let made = spanned page from to f in
    let same : made ≡ o = let q : ◌≡◌ {A = Option Opened} (Some made) (Some o) = e in ap (λ x. unwrap_or x made) q in
    let own : FirstInOpened made l = subst (λ x. FirstInOpened x l) (sym same) first in
    let limit = first_page from f l s.1 (subst IsUtf8 (sym s.0) (body_utf8 page from to u b)) (subst (λ x. FirstInPage from (or_nothing x) l) is own) in
    ap (body_read page from to) (no_fault text f is)
    ∙ limited (spanned page from to (or_nothing (forest_of text))) l (ap (λ x. page_limit from (or_nothing x)) is ∙ limit)

body_refused : (page : List ℕ) (o : Opened) (l : Limit) (body : Result (ℕ × ℕ) ScanFault) → IsUtf8 page → body_at page ≡ body → opened_body page body ≡ Some o → FirstInOpened o l →
    read_body page body ≡ over l
body_refused page o l (Err f) u b e first = cc
body_refused page o l (Ok body) u b e first = forest_refused page body.0 body.1 o l (forest_of (slice page body.0 body.1)) refl u b e first

pub first_is_refused : FirstIsRefused
first_is_refused page o l u e short first =
    ap (page_read page) (le-ltb max_page (length page) short) ∙ body_refused page o l (body_at page) u refl e first

-- ---- what the line is answered

abbrev limit_told : Result Opened Refusal → Option Limit
limit_told (Ok o) = None
limit_told (Err (refusal.TooDeep at)) = Some (TooDeep at)
limit_told (Err (refusal.TooManyMarks at)) = Some (TooManyMarks at)
limit_told (Err _) = None

told_back : (l : Limit) → limit_told (Err (limit_refusal l)) ≡ Some l
told_back (TooDeep at) = refl
told_back (TooManyMarks at) = refl

told_of : (r : Read) → limit_told (refused_as open_refusal r) ≡ limit_of_read r
told_of (Ok o) = refl
told_of (Err (PageTooLong bytes)) = refl
told_of (Err (BadPage (Scan f))) = refl
told_of (Err (BadPage (fault.Mismatched at))) = refl
told_of (Err (BadPage (fault.Unclosed at))) = refl
told_of (Err (BadPage (fault.Stray at))) = refl
told_of (Err (BadPage (fault.TooDeep at))) = refl
told_of (Err (OverLimit l)) = told_back l
told_of (Err (TooManyItems count)) = refl
told_of (Err StoreFull) = refl

read_back : (r : Read) (l : Limit) → limit_of_read r ≡ Some l → r ≡ over l
read_back (Ok o) l e = cc
read_back (Err (PageTooLong bytes)) l e = cc
read_back (Err (BadPage f)) l e = cc
read_back (Err (OverLimit m)) l e = ap over (limit_same m l e)
read_back (Err (TooManyItems count)) l e = cc
read_back (Err StoreFull) l e = cc

pub opening_tells_limits : OpeningTellsLimits
opening_tells_limits text l =
    let r = read_page (encode_utf8_all text) in
    (λ told. read_back r l (sym (told_of r) ∙ ap limit_told told ∙ told_back l), λ read. ap (refused_as open_refusal) read)
