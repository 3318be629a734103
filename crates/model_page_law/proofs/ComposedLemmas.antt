-- A `data-mw` with another body reads back.
use Rattle.std.proofs.Common.{◌≡◌, ℕ, suc, ◌≤◌, ◌||◌, Bool, true, false, if◌then◌else◌, List, Option, Some, None, Ordering, Less, Equal, Greater, nat_cmp, is_eq, bytes_eq, true≢false, refl, sym, ap, ◌∙◌, arith}
use Rattle.std.specs.Prelude.{codes, is_some}
use Rattle.std.specs.Ordering.{match_ordering}
use Rattle.std.specs.Cmp.Lexicographic.{slice_cmp}
use Rattle.std.proofs.lemmas.Bool.{or_parts}
use Rattle.std.proofs.lemmas.Cmp.{nat_list_cmp_total, tied_itself}
use Rattle.std.proofs.lemmas.Map.Text.{is_eq-slice_cmp}
use Rattle.std.proofs.lemmas.Slice.Eq.{bytes_eq-Decides}
use Rattle.serde_json.specs.Data.{Data, null, boolean, number, string, array, object, Members, no_members, member, put, depth, members_depth}
use Rattle.serde_json.specs.Find.{get_member}
use Rattle.serde_json.specs.Read.{read}
use Rattle.serde_json.specs.Written.{has_float, members_have_float, compact_text}
use Rattle.serde_json.proofs.Nesting.{depth-read}
use Rattle.serde_json.proofs.Views.{get_member-put, get_member-put_other}
use Rattle.model_spelling.specs.Forest.{Forest}
use Rattle.model_spelling.specs.Parsed.{forest_of}
use Rattle.model_spelling.proofs.Proved.{law_only, law_reads_right}
use Rattle.model_page.specs.DataMw.{RefRead, ◌>>=◌, whole_object, members_or_none, text_or_empty, unless_empty, if_spelled, html_or_none, if_owner_or_named, reference_of, members_of, without, with_body, composed_mw}
use Rattle.model_page_law.specs.Composed.{ComposedIsRead, ComposedKeepsMembers, ComposedKeepsBody, ComposedTwice, ComposedOwns, ComposedIsSame, ComposedIsBarred, ComposedReuses}
use Rattle.model_page_law.proofs.JsonLemmas.{Above, Proper, MembersProper, IfThere, proper-put, proper-read, read-compact_text}

-- ---- members

either : {A : Type 0} (o : Ordering) (a b : A) → is_eq o ≡ false → match_ordering o a b a ≡ a
either Less a b e = refl
either Equal a b e = absurd (true≢false e)
either Greater a b e = refl

pub differ : (xs ys : List ℕ) (b : Bool) → bytes_eq xs ys ≡ b → (xs ≡ ys → ⊥) → b ≡ false
differ xs ys true e other = absurd (other ((bytes_eq-Decides xs ys).0 e))
differ xs ys false e other = refl

-- another member before
skips : (q l : List ℕ) (d : Data) (ms : Members) → bytes_eq q l ≡ false → get_member q (member l d ms) ≡ get_member q ms
skips q l d ms other = either (slice_cmp nat_cmp q l) (get_member q ms) (Some d) (is_eq-slice_cmp q l ∙ other)

get-above : (k : List ℕ) (ms : Members) → Above k ms → get_member k ms ≡ None
get-above k no_members h = refl
get-above k (member l d ms) h = ap (λ o. match_ordering o (get_member k ms) (Some d) (get_member k ms)) h.0 ∙ get-above k ms h.1

get-without : (k : List ℕ) (ms : Members) → MembersProper ms → get_member k (without k ms) ≡ None
get-without k no_members p = refl
get-without k (member l d ms) p = by (bytes_eq k l) refl (get-without k ms p.2)
  where
    by : (c : Bool) → bytes_eq k l ≡ c → get_member k (without k ms) ≡ None → get_member k (if c then ms else member l d (without k ms)) ≡ None
    by true e rec = ap (λ j. get_member j ms) ((bytes_eq-Decides k l).0 e) ∙ get-above l ms p.1
    by false e rec = skips k l d (without k ms) e ∙ rec

get-without-other : (q k : List ℕ) (ms : Members) → (q ≡ k → ⊥) → get_member q (without k ms) ≡ get_member q ms
get-without-other q k no_members other = refl
get-without-other q k (member l d ms) other = by (bytes_eq k l) refl (get-without-other q k ms other)
  where
    by : (c : Bool) → bytes_eq k l ≡ c → get_member q (without k ms) ≡ get_member q ms → get_member q (if c then ms else member l d (without k ms)) ≡ get_member q (member l d ms)
    by true e rec = sym (skips q l d ms (differ q l (bytes_eq q l) refl (λ f. other (f ∙ sym ((bytes_eq-Decides k l).0 e)))))
    by false e rec = ap (λ x. match_ordering (slice_cmp nat_cmp q l) x (Some d) x) rec

-- ---- values that are read back

-- read so, without a float, and so deep at most
record Fit (n : ℕ) (d : Data) : Type 0 where
  proper : Proper d
  whole : has_float d ≡ false
  shallow : depth d ≤ n

record MembersFit (n : ℕ) (ms : Members) : Type 0 where
  proper : MembersProper ms
  whole : members_have_float ms ≡ false
  shallow : members_depth ms ≤ n

neither : (a b : Bool) → a ≡ false → b ≡ false → (a || b) ≡ false
neither a b e f = (λ i. e i || f i)

first-fit : (n : ℕ) (k : List ℕ) (d : Data) (ms : Members) → MembersFit n (member k d ms) → Fit n d
first-fit n k d ms f = let s = f.shallow in record { proper = f.proper.0; whole = (or_parts (has_float d) (members_have_float ms) f.whole).0; shallow = omega (arith, s) }

later-fit : (n : ℕ) (k : List ℕ) (d : Data) (ms : Members) → MembersFit n (member k d ms) → MembersFit n ms
later-fit n k d ms f = let s = f.shallow in record { proper = f.proper.2; whole = (or_parts (has_float d) (members_have_float ms) f.whole).1; shallow = omega (arith, s) }

whole-put : (k : List ℕ) (d : Data) (ms : Members) → has_float d ≡ false → members_have_float ms ≡ false → members_have_float (put k d ms) ≡ false
whole-put k d no_members e f = neither (has_float d) false e refl
whole-put k d (member l c ms) e f = by (slice_cmp nat_cmp k l) (or_parts (has_float c) (members_have_float ms) f) (λ g. whole-put k d ms e g)
  where
    by : (o : Ordering) → (has_float c ≡ false) × (members_have_float ms ≡ false) → (members_have_float ms ≡ false → members_have_float (put k d ms) ≡ false) →
        members_have_float (match_ordering o (member k d (member l c ms)) (member l d ms) (member l c (put k d ms))) ≡ false
    by Less p rec = neither (has_float d) (has_float c || members_have_float ms) e f
    by Equal p rec = neither (has_float d) (members_have_float ms) e p.1
    by Greater p rec = neither (has_float c) (members_have_float (put k d ms)) p.0 (rec p.1)

shallow-put : (n : ℕ) (k : List ℕ) (d : Data) (ms : Members) → depth d ≤ n → members_depth ms ≤ n → members_depth (put k d ms) ≤ n
shallow-put n k d no_members e f = omega (arith, e)
shallow-put n k d (member l c ms) e f = by (slice_cmp nat_cmp k l) (shallow-put n k d ms e (omega (arith, f)))
  where
    by : (o : Ordering) → members_depth (put k d ms) ≤ n → members_depth (match_ordering o (member k d (member l c ms)) (member l d ms) (member l c (put k d ms))) ≤ n
    by Less rec = omega (arith, e, f)
    by Equal rec = omega (arith, e, f)
    by Greater rec = omega (arith, f, rec)

put-fit : (n : ℕ) (k : List ℕ) (d : Data) (ms : Members) → Fit n d → MembersFit n ms → MembersFit n (put k d ms)
put-fit n k d ms e f = record { proper = proper-put k d ms e.proper f.proper; whole = whole-put k d ms e.whole f.whole; shallow = shallow-put n k d ms e.shallow f.shallow }

above-without : (j k : List ℕ) (ms : Members) → Above j ms → Above j (without k ms)
above-without j k no_members h = tt
above-without j k (member l d ms) h = by (bytes_eq k l) (above-without j k ms h.1)
  where
    by : (c : Bool) → Above j (without k ms) → Above j (if c then ms else member l d (without k ms))
    by true rec = h.1
    by false rec = (h.0, rec)

without-fit : (n : ℕ) (k : List ℕ) (ms : Members) → MembersFit n ms → MembersFit n (without k ms)
without-fit n k no_members f = f
without-fit n k (member l d ms) f = by (bytes_eq k l) (without-fit n k ms (later-fit n l d ms f))
  where
    by : (c : Bool) → MembersFit n (without k ms) → MembersFit n (if c then ms else member l d (without k ms))
    by true rec = later-fit n l d ms f
    by false rec =
        let first = first-fit n l d ms f in
        let s = first.shallow in
        let t = rec.shallow in
        record {
          proper = (f.proper.0, above-without l k ms f.proper.1, rec.proper);
          whole = neither (has_float d) (members_have_float (without k ms)) first.whole rec.whole;
          shallow = omega (arith, s, t);
        }

found-fit : (n : ℕ) (k : List ℕ) (ms : Members) → MembersFit n ms → IfThere (Fit n) (get_member k ms)
found-fit n k no_members f = tt
found-fit n k (member l d ms) f = by (slice_cmp nat_cmp k l) (found-fit n k ms (later-fit n l d ms f))
  where
    by : (o : Ordering) → IfThere (Fit n) (get_member k ms) → IfThere (Fit n) (match_ordering o (get_member k ms) (Some d) (get_member k ms))
    by Less rec = rec
    by Equal rec = first-fit n l d ms f
    by Greater rec = rec

no-members-fit : (n : ℕ) → MembersFit n no_members
no-members-fit n = record { proper = tt; whole = refl; shallow = omega arith }

-- the members inside of a member
inner-fit : (n : ℕ) (o : Option Data) → IfThere (Fit (suc n)) o → MembersFit n (members_of o)
inner-fit n None h = no-members-fit n
inner-fit n (Some null) h = no-members-fit n
inner-fit n (Some (boolean b)) h = no-members-fit n
inner-fit n (Some (number x)) h = no-members-fit n
inner-fit n (Some (string s)) h = no-members-fit n
inner-fit n (Some (array ds)) h = no-members-fit n
inner-fit n (Some (object ms)) h = let s = h.shallow in record { proper = h.proper; whole = h.whole; shallow = omega (arith, s) }

body-fit : (n : ℕ) (html : Option (List ℕ)) (ms : Members) → MembersFit (suc n) ms → MembersFit (suc n) (with_body html ms)
body-fit n None ms f = without-fit (suc n) (codes "body") ms f
body-fit n (Some html) ms f =
    let bs : Members = members_of (get_member (codes "body") ms) in
    let inner = put-fit n (codes "html") (string html) bs (record { proper = tt; whole = refl; shallow = omega arith }) (inner-fit n (get_member (codes "body") ms) (found-fit (suc n) (codes "body") ms f)) in
    let s = inner.shallow in
    put-fit (suc n) (codes "body") (object (put (codes "html") (string html) bs)) ms (record { proper = inner.proper; whole = inner.whole; shallow = omega (arith, s) }) f

composed-fit : (mw : List ℕ) (html : Option (List ℕ)) (ms : Members) → read mw ≡ Some (object ms) → members_have_float ms ≡ false → MembersFit 126 (with_body html ms)
composed-fit mw html ms e f =
    let d = depth-read mw (object ms) e in
    body-fit 125 html ms (record { proper = proper-read mw (object ms) e; whole = f; shallow = omega (arith, d) })

pub composed_is_read : ComposedIsRead
composed_is_read mw html ms e f =
    let fit = composed-fit mw html ms e f in
    let s = fit.shallow in
    ap (λ o. read (compact_text (object (with_body html (members_of o))))) e ∙ read-compact_text (object (with_body html ms)) fit.proper fit.whole (omega (arith, s))

-- ---- what an editable text says

-- from its attributes and its body
abbrev said_with : Option Members → Option (Option (List ℕ)) → Option RefRead
said_with attrs body =
    attrs >>= λ a. text_or_empty (get_member (codes "name") a) >>= λ name. text_or_empty (get_member (codes "group") a) >>= λ group. body >>= λ html.
    if_owner_or_named (record { group = group; name = unless_empty name; html = html })

abbrev said : Members → Option RefRead
said ms = said_with (members_or_none (get_member (codes "attrs") ms)) (html_or_none (get_member (codes "body") ms))

record Says (mw : List ℕ) (r : RefRead) : Type 0 where
  members : Members
  reads : read mw ≡ Some (object members)
  whole : members_have_float members ≡ false
  says : said members ≡ Some r

-- what is read from an object without a float
said-read : (mw : List ℕ) (ms : Members) → read mw ≡ Some (object ms) → members_have_float ms ≡ false → reference_of mw ≡ said ms
said-read mw ms e f = ap (λ v. v >>= λ d. whole_object d >>= said) e ∙ ap (λ c. (if c then None else Some ms) >>= said) f

says : (mw : List ℕ) (r : RefRead) → reference_of mw ≡ Some r → Says mw r
says mw r e = by (read mw) refl e
  where
    inside : (ms : Members) (c : Bool) → read mw ≡ Some (object ms) → members_have_float ms ≡ c → ((if c then None else Some ms) >>= said) ≡ Some r → Says mw r
    inside ms true v f e = cc
    inside ms false v f e = record { members = ms; reads = v; whole = f; says = e }

    by : (o : Option Data) → read mw ≡ o → (o >>= λ d. whole_object d >>= said) ≡ Some r → Says mw r
    by None v e = cc
    by (Some null) v e = cc
    by (Some (boolean b)) v e = cc
    by (Some (number n)) v e = cc
    by (Some (string s)) v e = cc
    by (Some (array ds)) v e = cc
    by (Some (object ms)) v e = inside ms (members_have_float ms) v refl e

-- ---- another body

abbrev with_html : RefRead → Option (List ℕ) → RefRead
with_html r html = record { group = r.group; name = r.name; html = html }

kept : (q r : RefRead) (c : Bool) → (if c then Some q else None) ≡ Some r → q ≡ r
kept q r true e = let s : ◌≡◌ {A = Option RefRead} (Some q) (Some r) = e in cc
kept q r false e = cc

at-body : (name group : List ℕ) (body : Option (Option (List ℕ))) (html : Option (List ℕ)) (r : RefRead) → (body >>= λ h. if_owner_or_named (record { group = group; name = unless_empty name; html = h })) ≡ Some r →
    if_owner_or_named (record { group = group; name = unless_empty name; html = html }) ≡ if_owner_or_named (with_html r html)
at-body name group None html r e = cc
at-body name group (Some h) html r e =
    let q : RefRead = record { group = group; name = unless_empty name; html = h } in
    ap (λ x. if_owner_or_named (with_html x html)) (kept q r (is_some q.html || is_some q.name) e)

at-group : (name : List ℕ) (group : Option (List ℕ)) (body : Option (Option (List ℕ))) (html : Option (List ℕ)) (r : RefRead) →
    (group >>= λ g. body >>= λ h. if_owner_or_named (record { group = g; name = unless_empty name; html = h })) ≡ Some r →
    (group >>= λ g. if_owner_or_named (record { group = g; name = unless_empty name; html = html })) ≡ if_owner_or_named (with_html r html)
at-group name None body html r e = cc
at-group name (Some g) body html r e = at-body name g body html r e

at-name : (name group : Option (List ℕ)) (body : Option (Option (List ℕ))) (html : Option (List ℕ)) (r : RefRead) →
    (name >>= λ n. group >>= λ g. body >>= λ h. if_owner_or_named (record { group = g; name = unless_empty n; html = h })) ≡ Some r →
    (name >>= λ n. group >>= λ g. if_owner_or_named (record { group = g; name = unless_empty n; html = html })) ≡ if_owner_or_named (with_html r html)
at-name None group body html r e = cc
at-name (Some n) group body html r e = at-group n group body html r e

-- the same attributes with this body
said-other : (attrs : Option Members) (body : Option (Option (List ℕ))) (html : Option (List ℕ)) (r : RefRead) → said_with attrs body ≡ Some r → said_with attrs (Some html) ≡ if_owner_or_named (with_html r html)
said-other None body html r e = cc
said-other (Some a) body html r e = at-name (text_or_empty (get_member (codes "name") a)) (text_or_empty (get_member (codes "group") a)) body html r e

-- the same attributes with a body that is none
barred : (name group : Option (List ℕ)) → (name >>= λ n. group >>= λ g. ◌>>=◌ {A = Option (List ℕ)} None (λ h. if_owner_or_named (record { group = g; name = unless_empty n; html = h }))) ≡ None
barred None group = refl
barred (Some n) None = refl
barred (Some n) (Some g) = refl

said-barred : (attrs : Option Members) → said_with attrs None ≡ None
said-barred None = refl
said-barred (Some a) = barred (text_or_empty (get_member (codes "name") a)) (text_or_empty (get_member (codes "group") a))

-- ---- the laws

apart : (xs ys : List ℕ) → bytes_eq xs ys ≡ false → xs ≡ ys → ⊥
apart xs ys e f = true≢false (sym ((bytes_eq-Decides xs ys).1 f) ∙ e)

other-member : (html : Option (List ℕ)) (ms : Members) (k : List ℕ) → (k ≡ codes "body" → ⊥) → get_member k (with_body html ms) ≡ get_member k ms
other-member None ms k other = get-without-other k (codes "body") ms other
other-member (Some html) ms k other = get_member-put_other k (codes "body") (object (put (codes "html") (string html) (members_of (get_member (codes "body") ms)))) ms other

-- the body that is put into members
abbrev new_body : List ℕ → Members → Members
new_body html ms = put (codes "html") (string html) (members_of (get_member (codes "body") ms))

body-member : (html : List ℕ) (ms : Members) → get_member (codes "body") (with_body (Some html) ms) ≡ Some (object (new_body html ms))
body-member html ms = get_member-put (codes "body") (object (new_body html ms)) ms

pub composed_keeps_members : ComposedKeepsMembers
composed_keeps_members mw html r e k other =
    let s = says mw r e in
    ap (λ o. get_member k (members_of o)) (composed_is_read mw html s.members s.reads s.whole) ∙ other-member html s.members k other ∙ ap (λ o. get_member k (members_of o)) (sym s.reads)

pub composed_keeps_body : ComposedKeepsBody
composed_keeps_body mw html r e k other =
    let s = says mw r e in
    ap (λ o. get_member k (members_of (get_member (codes "body") (members_of o)))) (composed_is_read mw (Some html) s.members s.reads s.whole)
    ∙ ap (λ o. get_member k (members_of o)) (body-member html s.members)
    ∙ get_member-put_other k (codes "html") (string html) (members_of (get_member (codes "body") s.members)) other
    ∙ ap (λ o. get_member k (members_of (get_member (codes "body") (members_of o)))) (sym s.reads)

-- what is said of what was composed: the attributes are the same
composed-said : (mw : List ℕ) (html : Option (List ℕ)) (r : RefRead) (s : Says mw r) →
    reference_of (composed_mw mw html) ≡ said_with (members_or_none (get_member (codes "attrs") s.members)) (html_or_none (get_member (codes "body") (with_body html s.members)))
composed-said mw html r s =
    let ms : Members = with_body html s.members in
    said-read (composed_mw mw html) ms (composed_is_read mw html s.members s.reads s.whole) (composed-fit mw html s.members s.reads s.whole).whole
    ∙ ap (λ o. said_with (members_or_none o) (html_or_none (get_member (codes "body") ms))) (other-member html s.members (codes "attrs") (apart (codes "attrs") (codes "body") refl))

html-member : (html : List ℕ) (ms : Members) (o : Option Forest) → forest_of html ≡ o → html_or_none (get_member (codes "body") (with_body (Some html) ms)) ≡ (o >>= λ f. Some (Some html))
html-member html ms o e =
    ap html_or_none (body-member html ms)
    ∙ ap (λ x. if_spelled x >>= λ text. Some (Some text)) (get_member-put (codes "html") (string html) (members_of (get_member (codes "body") ms)))
    ∙ ap (λ x. (x >>= λ f. Some html) >>= λ text. Some (Some text)) e
    ∙ spelled o
  where
    spelled : (o : Option Forest) → ((o >>= λ f. Some html) >>= λ text. Some (Some text)) ≡ (o >>= λ f. Some (Some html))
    spelled None = refl
    spelled (Some f) = refl

pub composed_owns : ComposedOwns
composed_owns mw html r f e h =
    let s = says mw r e in
    let attrs : Option Members = members_or_none (get_member (codes "attrs") s.members) in
    composed-said mw (Some html) r s
    ∙ ap (said_with attrs) (html-member html s.members (Some f) (law_only html f h).1)
    ∙ said-other attrs (html_or_none (get_member (codes "body") s.members)) (Some html) r s.says

pub composed_is_barred : ComposedIsBarred
composed_is_barred mw html r e h =
    let s = says mw r e in
    let attrs : Option Members = members_or_none (get_member (codes "attrs") s.members) in
    composed-said mw (Some html) r s ∙ ap (said_with attrs) (html-member html s.members None h) ∙ said-barred attrs

pub composed_reuses : ComposedReuses
composed_reuses mw r e =
    let s = says mw r e in
    let attrs : Option Members = members_or_none (get_member (codes "attrs") s.members) in
    composed-said mw None r s
    ∙ ap (λ o. said_with attrs (html_or_none o)) (get-without (codes "body") s.members (proper-read mw (object s.members) s.reads))
    ∙ said-other attrs (html_or_none (get_member (codes "body") s.members)) None r s.says

-- ---- the same body again

-- a member that is put at a name twice
put-put : (k : List ℕ) (d e : Data) (ms : Members) → put k d (put k e ms) ≡ put k d ms
put-put k d e no_members = ap (λ o. match_ordering o (member k d (member k e no_members)) (member k d no_members) (member k e (member k d no_members))) (tied_itself nat_list_cmp_total k)
put-put k d e (member l c ms) = by (slice_cmp nat_cmp k l) refl (put-put k d e ms)
  where
    by : (o : Ordering) → slice_cmp nat_cmp k l ≡ o → put k d (put k e ms) ≡ put k d ms →
        put k d (match_ordering o (member k e (member l c ms)) (member l e ms) (member l c (put k e ms))) ≡ match_ordering o (member k d (member l c ms)) (member l d ms) (member l c (put k d ms))
    by Less t rec = ap (λ o. match_ordering o (member k d (member k e (member l c ms))) (member k d (member l c ms)) (member k e (put k d (member l c ms)))) (tied_itself nat_list_cmp_total k)
    by Equal t rec = ap (λ o. match_ordering o (member k d (member l e ms)) (member l d ms) (member l e (put k d ms))) t
    by Greater t rec = ap (λ o. match_ordering o (member k d (member l c (put k e ms))) (member l d (put k e ms)) (member l c (put k d (put k e ms)))) t ∙ ap (member l c) rec

body-twice : (first second : List ℕ) (ms : Members) → with_body (Some second) (with_body (Some first) ms) ≡ with_body (Some second) ms
body-twice first second ms =
    ap (λ o. put (codes "body") (object (put (codes "html") (string second) (members_of o))) (with_body (Some first) ms)) (body-member first ms)
    ∙ ap (λ bs. put (codes "body") (object bs) (with_body (Some first) ms)) (put-put (codes "html") (string second) (string first) (members_of (get_member (codes "body") ms)))
    ∙ put-put (codes "body") (object (new_body second ms)) (object (new_body first ms)) ms

pub composed_twice : ComposedTwice
composed_twice mw first second r e =
    let s = says mw r e in
    ap (λ o. compact_text (object (with_body (Some second) (members_of o)))) (composed_is_read mw (Some first) s.members s.reads s.whole)
    ∙ ap (λ ms. compact_text (object ms)) (body-twice first second s.members)
    ∙ ap (λ o. compact_text (object (with_body (Some second) (members_of o)))) (sym s.reads)

-- the body that is said
html-in : (name group : Option (List ℕ)) (body : Option (Option (List ℕ))) (r : RefRead) →
    (name >>= λ n. group >>= λ g. body >>= λ h. if_owner_or_named (record { group = g; name = unless_empty n; html = h })) ≡ Some r → body ≡ Some r.html
html-in None group body r e = cc
html-in (Some n) None body r e = cc
html-in (Some n) (Some g) None r e = cc
html-in (Some n) (Some g) (Some h) r e =
    let q : RefRead = record { group = g; name = unless_empty n; html = h } in
    ap (λ x. Some x.html) (kept q r (is_some q.html || is_some q.name) e)

html-said : (attrs : Option Members) (body : Option (Option (List ℕ))) (r : RefRead) → said_with attrs body ≡ Some r → body ≡ Some r.html
html-said None body r e = cc
html-said (Some a) body r e = html-in (text_or_empty (get_member (codes "name") a)) (text_or_empty (get_member (codes "group") a)) body r e

-- the text of a body that is said is spelled
html-spelled : (member : Option Data) (html : List ℕ) → html_or_none member ≡ Some (Some html) → (f : Forest) × (forest_of html ≡ Some f)
html-spelled None html e = absurd (none-never html e)
  where
    none-never : (html : List ℕ) → ◌≡◌ {A = Option (Option (List ℕ))} (Some None) (Some (Some html)) → ⊥
    none-never html e = cc
html-spelled (Some null) html e = cc
html-spelled (Some (boolean b)) html e = cc
html-spelled (Some (number n)) html e = cc
html-spelled (Some (string s)) html e = cc
html-spelled (Some (array ds)) html e = cc
html-spelled (Some (object ms)) html e = in-body (get_member (codes "html") ms) e
  where
    same-text : (text : List ℕ) → ◌≡◌ {A = Option (Option (List ℕ))} (Some (Some text)) (Some (Some html)) → text ≡ html
    same-text text e = cc

    by : (text : List ℕ) (o : Option Forest) → forest_of text ≡ o → ((o >>= λ f. Some text) >>= λ t. Some (Some t)) ≡ Some (Some html) → (f : Forest) × (forest_of html ≡ Some f)
    by text None r e = cc
    by text (Some f) r e = (f, ap forest_of (sym (same-text text e)) ∙ r)

    in-body : (member : Option Data) → (if_spelled member >>= λ text. Some (Some text)) ≡ Some (Some html) → (f : Forest) × (forest_of html ≡ Some f)
    in-body None e = cc
    in-body (Some null) e = cc
    in-body (Some (boolean b)) e = cc
    in-body (Some (number n)) e = cc
    in-body (Some (string text)) e = by text (forest_of text) refl e
    in-body (Some (array ds)) e = cc
    in-body (Some (object ms)) e = cc

pub composed_is_same : ComposedIsSame
composed_is_same mw r html e h =
    let s = says mw r e in
    let attrs : Option Members = members_or_none (get_member (codes "attrs") s.members) in
    let body : Option (Option (List ℕ)) = html_or_none (get_member (codes "body") s.members) in
    let f = html-spelled (get_member (codes "body") s.members) html (html-said attrs body r s.says ∙ ap (λ x. Some x) h) in
    let p = law_reads_right html f.0 f.1 in
    composed_owns mw html r f.0 e (record { allowed = p.1; text_is = sym p.0 }) ∙ ap (λ x. Some (record { group = r.group; name = r.name; html = x })) (sym h)
