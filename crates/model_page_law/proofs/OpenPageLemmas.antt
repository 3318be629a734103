-- Which pages are read, and that they are lawful.
use Rattle.std.proofs.Common.{◌≡◌, ℕ, ◌≤◌, Bool, true, false, if◌then◌else◌, List, length, Option, Some, None, Result, Ok, Err, refl, sym, ap, ◌∙◌, subst, arith}
use Rattle.std.specs.Prelude.{nat_lt, unwrap_or}
use Rattle.ve_base.specs.Limits.{max_items, max_page, max_values}
use Rattle.model_spelling.specs.declared.scan_fault.ScanFault.{ScanFault}
use Rattle.model_spelling.specs.Forest.{Forest, Spells}
use Rattle.model_spelling.specs.Faults.{ForestFault, Scan, fault_of}
use Rattle.model_spelling.specs.Parsed.{forest_of}
use Rattle.model_spelling.specs.Page.{body_at, fault_in_page, fault_in_page_if_any, page_fault, fault_between}
use Rattle.model_spelling.proofs.Proved.{law_found, law_only, law_reads_right}
use Rattle.model_items.specs.Law.{Lawful}
use Rattle.model_page.specs.PageItems.{Opened, page_opened, opened_forest, opened_body, opened_page, slice, or_nothing, page_made}
use Rattle.model_page.specs.Limits.{Limit, page_limit}
use Rattle.model_page.specs.OpenPage.{OpenFault, PageTooLong, BadPage, OverLimit, TooManyItems, StoreFull, values_of, limit_in, if_small, if_within, read_body}
use Rattle.model_page_law.specs.Lawful.{IsWithin, ReadIsWithin, ReadIsLawful, WithinIsRead, BadPageHasFault}
use Rattle.model_page_law.proofs.LawfulLemmas.{limited_is_lawful}

abbrev Read : Type 0
Read = Result Opened OpenFault

abbrev read : Opened → Read
read o = Ok o

abbrev refused : OpenFault → Read
refused f = Err f

abbrev opened_or : Opened → Read → Opened
opened_or d (Ok o) = o
opened_or d (Err f) = d

same_read : (o p : Opened) → read o ≡ read p → o ≡ p
same_read o p e = ap (opened_or o) e

no_read : (f : OpenFault) (o : Opened) → refused f ≡ read o → ⊥
no_read f o e = cc

below : (n m : ℕ) → nat_lt n m ≡ false → m ≤ n
below n m e = grind arith

at_most : (n m : ℕ) → m ≤ n → nat_lt n m ≡ false
at_most n m e = grind arith

-- ---- the number of items and of values

small_by : (o p : Opened) (many full : Bool) → (if many then refused (TooManyItems (length o.items)) else (if full then refused StoreFull else read o)) ≡ read p → (many ≡ false) × (full ≡ false) × (o ≡ p)
small_by o p true full e = absurd (no_read (TooManyItems (length o.items)) p e)
small_by o p false true e = absurd (no_read StoreFull p e)
small_by o p false false e = (refl, refl, same_read o p e)

within_by : (o p : Opened) (limit : Option Limit) → limit_in o ≡ limit → (elim limit [ Some l ↦ refused (OverLimit l) | None ↦ if_small o ]) ≡ read p →
    (limit_in o ≡ None) × (length o.items ≤ max_items) × (length (values_of o) ≤ max_values) × (o ≡ p)
within_by o p (Some l) h e = absurd (no_read (OverLimit l) p e)
within_by o p None h e =
    let s = small_by o p (nat_lt max_items (length o.items)) (nat_lt max_values (length (values_of o))) e in
    (h, below max_items (length o.items) s.0, below max_values (length (values_of o)) s.1, s.2)

-- ---- the body

abbrev spanned : List ℕ → ℕ → ℕ → Forest → Opened
spanned page from to f = page_opened page (record { from = from; to = to }) (page_made from f)

-- what is read where the fault of the body is this
abbrev body_read : List ℕ → ℕ → ℕ → Option ForestFault → Read
body_read page from to fault = elim fault [
  | Some f ↦ Err (BadPage (fault_in_page from f))
  | None ↦ if_within (spanned page from to (or_nothing (forest_of (slice page from to))))
]

spelled_forest : (text : List ℕ) → fault_of text ≡ None → (f : Forest) × (forest_of text ≡ Some f)
spelled_forest text h = let f = law_found text h in (f.0, (law_only text f.0 f.1).1)

no_fault : (text : List ℕ) (f : Forest) → forest_of text ≡ Some f → fault_of text ≡ None
no_fault text f e =
    let s = law_reads_right text f e in
    let spells : Spells text f = record { allowed = s.1; text_is = sym s.0 } in
    (law_only text f spells).0

spanned_opens : (page : List ℕ) (from to : ℕ) (f : Forest) → forest_of (slice page from to) ≡ Some f →
    opened_forest page (record { from = from; to = to }) (forest_of (slice page from to)) ≡ Some (spanned page from to (or_nothing (forest_of (slice page from to))))
spanned_opens page from to f e =
    ap (opened_forest page (record { from = from; to = to })) e ∙ ap (λ x. Some (spanned page from to (or_nothing x))) (sym e)

body_within : (page : List ℕ) (from to : ℕ) (p : Opened) (fault : Option ForestFault) → fault_of (slice page from to) ≡ fault → body_at page ≡ Ok (from, to) → length page ≤ max_page →
    body_read page from to fault ≡ read p → IsWithin page p
body_within page from to p (Some f) h b le e = absurd (no_read (BadPage (fault_in_page from f)) p e)
body_within page from to p None h b le e =
    let o : Opened = spanned page from to (or_nothing (forest_of (slice page from to))) in
    let w = within_by o p (limit_in o) refl e in
    let f = spelled_forest (slice page from to) h in
    let opens : opened_page page ≡ Some o = ap (opened_body page) b ∙ spanned_opens page from to f.0 f.1 in
    record {
      opens = opens ∙ ap (λ x. Some x) w.3;
      bytes = le;
      limit = ap limit_in (sym w.3) ∙ w.0;
      items = subst (λ x. length x.items ≤ max_items) w.3 w.1;
      values = subst (λ x. length (values_of x) ≤ max_values) w.3 w.2;
    }

within_body : (page : List ℕ) (p : Opened) (body : Result (ℕ × ℕ) ScanFault) → body_at page ≡ body → length page ≤ max_page → read_body page body ≡ read p → IsWithin page p
within_body page p (Err f) b le e = absurd (no_read (BadPage (Scan f)) p e)
within_body page p (Ok body) b le e = body_within page body.0 body.1 p (fault_of (slice page body.0 body.1)) refl b le e

abbrev page_read : List ℕ → Bool → Read
page_read page long = elim long [
  | true ↦ Err (PageTooLong (length page))
  | false ↦ read_body page (body_at page)
]

within_page : (page : List ℕ) (p : Opened) (long : Bool) → nat_lt max_page (length page) ≡ long → page_read page long ≡ read p → IsWithin page p
within_page page p true h e = absurd (no_read (PageTooLong (length page)) p e)
within_page page p false h e = within_body page p (body_at page) refl (below max_page (length page) h) e

pub read_is_within : ReadIsWithin
read_is_within page p e = within_page page p (nat_lt max_page (length page)) refl e

-- ---- lawful

lawful_forest : (page : List ℕ) (from to : ℕ) (r : Option Forest) → forest_of (slice page from to) ≡ r → (o : Opened) → opened_forest page (record { from = from; to = to }) r ≡ Some o → limit_in o ≡ None → Lawful o.items
lawful_forest page from to None e o h l = cc
lawful_forest page from to (Some f) e o h l =
    let first : Opened = spanned page from to f in
    let is : first ≡ o = let s : ◌≡◌ {A = Option Opened} (Some first) (Some o) = h in ap (λ x. unwrap_or x first) s in
    let limit : page_limit from f ≡ None = ap (λ x. page_limit from (or_nothing x)) (sym e) ∙ ap limit_in is ∙ l in
    subst (λ x. Lawful x.items) is (limited_is_lawful from f limit)

lawful_body : (page : List ℕ) (body : Result (ℕ × ℕ) ScanFault) (o : Opened) → opened_body page body ≡ Some o → limit_in o ≡ None → Lawful o.items
lawful_body page (Err f) o h l = cc
lawful_body page (Ok body) o h l = lawful_forest page body.0 body.1 (forest_of (slice page body.0 body.1)) refl o h l

pub read_is_lawful : ReadIsLawful
read_is_lawful page o e = let w = read_is_within page o e in lawful_body page (body_at page) o w.opens w.limit

-- ---- what opens within the limits is read

abbrev limited : Opened → Option Limit → Read
limited o limit = elim limit [ Some l ↦ Err (OverLimit l) | None ↦ if_small o ]

abbrev small : Opened → Bool → Bool → Read
small o many full = if many then refused (TooManyItems (length o.items)) else (if full then refused StoreFull else read o)

within_read : (o : Opened) → limit_in o ≡ None → length o.items ≤ max_items → length (values_of o) ≤ max_values → if_within o ≡ read o
within_read o l items values =
    ap (limited o) l
    ∙ (λ i. small o (at_most max_items (length o.items) items i) (at_most max_values (length (values_of o)) values i))

read_forest : (page : List ℕ) (from to : ℕ) (o : Opened) (r : Option Forest) → forest_of (slice page from to) ≡ r → opened_forest page (record { from = from; to = to }) r ≡ Some o → IsWithin page o →
    body_read page from to (fault_of (slice page from to)) ≡ read o
read_forest page from to o None e h w = cc
read_forest page from to o (Some f) e h w =
    let first : Opened = spanned page from to f in
    let is : first ≡ o = let s : ◌≡◌ {A = Option Opened} (Some first) (Some o) = h in ap (λ x. unwrap_or x first) s in
    let same : spanned page from to (or_nothing (forest_of (slice page from to))) ≡ o = ap (λ x. spanned page from to (or_nothing x)) e ∙ is in
    ap (body_read page from to) (no_fault (slice page from to) f e)
    ∙ ap if_within same
    ∙ within_read o w.limit w.items w.values

read_within : (page : List ℕ) (o : Opened) (body : Result (ℕ × ℕ) ScanFault) → opened_body page body ≡ Some o → IsWithin page o → read_body page body ≡ read o
read_within page o (Err f) h w = cc
read_within page o (Ok body) h w = read_forest page body.0 body.1 o (forest_of (slice page body.0 body.1)) refl h w

pub within_is_read : WithinIsRead
within_is_read page o w = ap (page_read page) (at_most max_page (length page) w.bytes) ∙ read_within page o (body_at page) w.opens w

-- ---- the fault of a page that is refused for its spelling

abbrev fault_in : Read → Option ForestFault
fault_in (Ok o) = None
fault_in (Err (BadPage f)) = Some f
fault_in (Err (PageTooLong n)) = None
fault_in (Err (OverLimit l)) = None
fault_in (Err (TooManyItems n)) = None
fault_in (Err StoreFull) = None

small_has_none : (o : Opened) (many full : Bool) → fault_in (small o many full) ≡ None
small_has_none o true full = refl
small_has_none o false true = refl
small_has_none o false false = refl

limited_has_none : (o : Opened) (limit : Option Limit) → fault_in (limited o limit) ≡ None
limited_has_none o (Some l) = refl
limited_has_none o None = small_has_none o (nat_lt max_items (length o.items)) (nat_lt max_values (length (values_of o)))

body_fault : (page : List ℕ) (from to : ℕ) (fault : Option ForestFault) → fault_in (body_read page from to fault) ≡ fault_in_page_if_any from fault
body_fault page from to (Some f) = refl
body_fault page from to None = limited_has_none (spanned page from to (or_nothing (forest_of (slice page from to)))) (limit_in (spanned page from to (or_nothing (forest_of (slice page from to)))))

read_fault : (page : List ℕ) (body : Result (ℕ × ℕ) ScanFault) → fault_in (read_body page body) ≡ fault_between page body
read_fault page (Err f) = refl
read_fault page (Ok body) = body_fault page body.0 body.1 (fault_of (slice page body.0 body.1))

bad_by : (page : List ℕ) (fault : ForestFault) (long : Bool) → page_read page long ≡ refused (BadPage fault) → fault_between page (body_at page) ≡ Some fault
bad_by page fault true e = absurd (let h : None ≡ Some fault = ap fault_in e in none_fault fault h)
  where
    none_fault : (f : ForestFault) → None ≡ Some f → ⊥
    none_fault f h = cc
bad_by page fault false e = sym (read_fault page (body_at page)) ∙ ap fault_in e

pub bad_page_has_fault : BadPageHasFault
unfolding page_fault
bad_page_has_fault page fault e = bad_by page fault (nat_lt max_page (length page)) e
