-- The bodies of a page that is UTF-8 are UTF-8.
use Rattle.std.specs.List.{AllByRecursion}
use Rattle.std.specs.Prelude.{IfSome, bytes_eq, chars, codes, is_some}
use Rattle.std.specs.Ordering.{match_ordering, nat_cmp}
use Rattle.std.specs.declared.cmp.Ordering.TheVariants.{Equal, Greater, Less}
use Rattle.std.specs.Cmp.Lexicographic.{slice_cmp}
use Rattle.std.proofs.Common.{◌≡◌, ℕ, ◌-◌, Bool, true, false, ◌&&◌, ◌||◌, if◌then◌else◌, List, [], ◌∷◌, ◌++◌, Option, Some, None, Ordering, IsUtf8, refl, sym, subst}
use Rattle.ve_base.specs.declared.head.Head.{Head}
use Rattle.ve_base.specs.declared.marks.Mark.{Mark}
use Rattle.ve_kinds.specs.Table.{is_inline_leaf}
use Rattle.ve_kinds.specs.declared.kind.Kind.{Kind}
use Rattle.ve_kinds.specs.declared.kind.Kind.TheVariants.{Ref}
use Rattle.serde_json.specs.Data.{Data, Members, array, boolean, member, no_members, null, number, object, string}
use Rattle.serde_json.specs.Find.{get_member}
use Rattle.serde_json.specs.Read.{read}
use Rattle.serde_json.specs.Written.{members_have_float}
use Rattle.model_spelling.specs.Forest.{Element, Forest, Nothing, RawElement, Remark, Text, Void, is_forest, spelling}
use Rattle.model_spelling.specs.Grammar.{Attr as Spelled, Comment, token_text}
use Rattle.model_spelling.specs.Parsed.{forest_of}
use Rattle.model_spelling.specs.Written.{decoded}
use Rattle.model_spelling.proofs.Proved.{law_decodes_utf8}
use Rattle.model_page.specs.Convert.{element_made, element_source, group_made, in_flow, inside_of, inside_piece, leaf_made, made_of, marked_around, marks_at, words_before}
use Rattle.model_page.specs.DataMw as mw
use Rattle.model_page.specs.DataMw.{RefRead, html_or_none, if_owner_or_named, if_spelled, members_or_none, reference_of, text_or_empty, unless_empty, whole_object}
use Rattle.model_page.specs.Elements.{is_white, value_named}
use Rattle.model_page.specs.Fit.{Annotation, Around, Branch, Content, Fit, Flow, Leaf, Structural, Whole, around_in, fit_of, group_kind, note_kind}
use Rattle.model_page.specs.Heads.{head_with, whole_head}
use Rattle.model_page.specs.Parts.{Ended, Group, Note, Parent, Parts, Single, Words}
use Rattle.model_page.specs.Pieces.{Made, Owner, Piece, Progress, before_run, in_run, leaf, leaf_before, node, paragraph_before, past, run_closed, run_dropped, run_ended, source_span, with_white}
use Rattle.model_page.specs.ReferenceNodes.{RefNode, is_owned, key_of, may_be_reference, owners_of, ref_node, ref_of, reference_in, unless_owned}
use Rattle.model_page_law.specs.Strings.{AllInMembers, AllStrings}
use Rattle.model_page_law.proofs.InlinedLemmas.{Faithful}
use Rattle.model_page_law.proofs.PageRefers.{AttrsUtf8, element_attrs}
use Rattle.model_page_law.proofs.Premises.{AllUtf8}
use Rattle.model_page_law.proofs.ReadUtf8.{read_utf8}

-- ---- what a `data-mw` says

found_by : (o : Ordering) (e : Data) (later : Option Data) → AllStrings IsUtf8 e → IfSome later (AllStrings IsUtf8) → IfSome (match_ordering o later (Some e) later) (AllStrings IsUtf8)
found_by Less e later u v = v
found_by Equal e later u v = u
found_by Greater e later u v = v

found_utf8 : (name : List ℕ) (ms : Members) → AllInMembers IsUtf8 ms → IfSome (get_member name ms) (AllStrings IsUtf8)
found_utf8 name no_members u = tt
found_utf8 name (member l e ms) u = found_by (slice_cmp nat_cmp name l) e (get_member name ms) u.1 (found_utf8 name ms u.2)

-- of what follows, where it is known what it follows
then_all : {A B : Type 0} (P : A → Type 0) (Q : B → Type 0) (o : Option A) (f : A → Option B) → IfSome o P → ((x : A) → P x → IfSome (f x) Q) → IfSome (mw.◌>>=◌ o f) Q
then_all P Q None f p h = tt
then_all P Q (Some x) f p h = h x p

any : {A : Type 0} (o : Option A) → IfSome o (λ x. Unit {0})
any None = tt
any (Some x) = tt

whole_utf8 : (d : Data) → AllStrings IsUtf8 d → IfSome (whole_object d) (AllInMembers IsUtf8)
whole_utf8 null u = tt
whole_utf8 (boolean b) u = tt
whole_utf8 (number n) u = tt
whole_utf8 (string s) u = tt
whole_utf8 (array ds) u = tt
whole_utf8 (object ms) u = elim (members_have_float ms) as (λ b. IfSome (if b then None else Some ms) (AllInMembers IsUtf8)) [ true ↦ tt | false ↦ u ]

spelled_utf8 : (o : Option Data) → IfSome o (AllStrings IsUtf8) → IfSome (if_spelled o) IsUtf8
spelled_utf8 None u = tt
spelled_utf8 (Some null) u = tt
spelled_utf8 (Some (boolean b)) u = tt
spelled_utf8 (Some (number n)) u = tt
spelled_utf8 (Some (string s)) u = then_all (λ f. Unit {0}) IsUtf8 (forest_of s) (λ f. Some s) (any (forest_of s)) (λ f v. u)
spelled_utf8 (Some (array ds)) u = tt
spelled_utf8 (Some (object ms)) u = tt

abbrev HtmlUtf8 : Option (List ℕ) → Type 0
HtmlUtf8 html = IfSome html IsUtf8

html_utf8 : (o : Option Data) → IfSome o (AllStrings IsUtf8) → IfSome (html_or_none o) HtmlUtf8
html_utf8 None u = tt
html_utf8 (Some null) u = tt
html_utf8 (Some (boolean b)) u = tt
html_utf8 (Some (number n)) u = tt
html_utf8 (Some (string s)) u = tt
html_utf8 (Some (array ds)) u = tt
html_utf8 (Some (object ms)) u =
    then_all IsUtf8 HtmlUtf8 (if_spelled (get_member (codes "html") ms)) (λ text. Some (Some text)) (spelled_utf8 (get_member (codes "html") ms) (found_utf8 (codes "html") ms u)) (λ text v. v)

abbrev SaysUtf8 : RefRead → Type 0
SaysUtf8 r = HtmlUtf8 r.html

if_utf8 : (r : RefRead) → SaysUtf8 r → IfSome (if_owner_or_named r) SaysUtf8
if_utf8 r u = elim (is_some r.html || is_some r.name) as (λ b. IfSome (if b then Some r else None) SaysUtf8) [ true ↦ u | false ↦ tt ]

pub reading_utf8 : (text : List ℕ) → IsUtf8 text → IfSome (reference_of text) SaysUtf8
reading_utf8 text u = then_all (AllStrings IsUtf8) SaysUtf8 (read text) _ (read_utf8 text u) (λ value v.
    then_all (AllInMembers IsUtf8) SaysUtf8 (whole_object value) _ (whole_utf8 value v) (λ ms w.
    then_all (λ x. Unit {0}) SaysUtf8 (members_or_none (get_member (codes "attrs") ms)) _ (any (members_or_none (get_member (codes "attrs") ms))) (λ attrs x.
    then_all (λ x. Unit {0}) SaysUtf8 (text_or_empty (get_member (codes "name") attrs)) _ (any (text_or_empty (get_member (codes "name") attrs))) (λ name y.
    then_all (λ x. Unit {0}) SaysUtf8 (text_or_empty (get_member (codes "group") attrs)) _ (any (text_or_empty (get_member (codes "group") attrs))) (λ group z.
    then_all HtmlUtf8 SaysUtf8 (html_or_none (get_member (codes "body") ms)) _ (html_utf8 (get_member (codes "body") ms) (found_utf8 (codes "body") ms w)) (λ html h.
    if_utf8 (record { group = group; name = unless_empty name; html = html }) h))))))

-- ---- the owners

abbrev pub AllOwnUtf8 : List Owner → Type 0
AllOwnUtf8 owners = AllByRecursion (λ (o : Owner). IsUtf8 o.html) owners

named_utf8 : (name : List ℕ) (attrs : List Spelled) → AttrsUtf8 attrs → IfSome (value_named name attrs) IsUtf8
named_utf8 name [] u = tt
named_utf8 name (a ∷ attrs) u = by (bytes_eq a.name name) (named_utf8 name attrs u.2)
  where
    by : (b : Bool) → IfSome (value_named name attrs) IsUtf8 → IfSome (if b then Some (decoded a.value) else value_named name attrs) IsUtf8
    by true rest = law_decodes_utf8 a.value u.1
    by false rest = rest

unless_utf8 : (owners : List Owner) (r : RefRead) → SaysUtf8 r → IfSome (unless_owned owners r) SaysUtf8
unless_utf8 owners r u = elim (is_some r.html && is_owned owners (key_of owners r)) as (λ b. IfSome (if b then None else Some r) SaysUtf8) [ true ↦ tt | false ↦ u ]

reference_utf8 : (owners : List Owner) (value : Option (List ℕ)) → IfSome value IsUtf8 → IfSome (reference_in owners value) SaysUtf8
reference_utf8 owners None u = tt
reference_utf8 owners (Some text) u = by (reference_of text) (reading_utf8 text u)
  where
    by : (r : Option RefRead) → IfSome r SaysUtf8 → IfSome (elim r [ None ↦ None | Some reading ↦ unless_owned owners reading ]) SaysUtf8
    by None u = tt
    by (Some reading) u = unless_utf8 owners reading u

node_utf8 : (w : Progress) (name : List ℕ) (attrs : List Spelled) (children : Forest) (reading : RefRead) → SaysUtf8 reading → AllOwnUtf8 (ref_node w name attrs children reading).owners
node_utf8 w name attrs children reading u = by reading.html u
  where
    by : (html : Option (List ℕ)) → HtmlUtf8 html → AllOwnUtf8 (owners_of w.at (key_of w.owners reading) html)
    by None u = tt
    by (Some text) u = (u, tt)

abbrev OwnsUtf8 : Option RefNode → Type 0
OwnsUtf8 r = IfSome r (λ n. AllOwnUtf8 n.owners)

element_utf8 : (w : Progress) (around : Around) (name : List ℕ) (attrs : List Spelled) (children : Forest) → AttrsUtf8 attrs → OwnsUtf8 (ref_of w around (Element name attrs children Nothing))
element_utf8 w around name attrs children u =
    by (may_be_reference w around name attrs) (reference_in w.owners (value_named (codes "data-mw") attrs)) (reference_utf8 w.owners (value_named (codes "data-mw") attrs) (named_utf8 (codes "data-mw") attrs u))
  where
    by : (may : Bool) (found : Option RefRead) → IfSome found SaysUtf8 →
        OwnsUtf8 (if may then (elim found [ None ↦ None | Some reading ↦ Some (ref_node w name attrs children reading) ]) else None)
    by false found u = tt
    by true None u = tt
    by true (Some reading) u = node_utf8 w name attrs children reading u

group_utf8 : (room : ℕ) (nodes : Forest) → is_forest room nodes ≡ true → IsUtf8 (spelling nodes) → (w : Progress) (around : Around) → OwnsUtf8 (ref_of w around nodes)
group_utf8 room Nothing h u w around = tt
group_utf8 room (Text text rest) h u w around = tt
group_utf8 room (Remark text rest) h u w around = tt
group_utf8 room (Void name attrs slash rest) h u w around = tt
group_utf8 room (RawElement name attrs text rest) h u w around = tt
group_utf8 room (Element name attrs children Nothing) h u w around = element_utf8 w around name attrs children (element_attrs room name attrs children h u)
group_utf8 room (Element name attrs children (Text text rest)) h u w around = tt
group_utf8 room (Element name attrs children (Remark text rest)) h u w around = tt
group_utf8 room (Element name attrs children (Void n a slash rest)) h u w around = tt
group_utf8 room (Element name attrs children (RawElement n a text rest)) h u w around = tt
group_utf8 room (Element name attrs children (Element n a inner rest)) h u w around = tt

-- ---- what is made

own-append : (xs ys : List Owner) → AllOwnUtf8 xs → AllOwnUtf8 ys → AllOwnUtf8 (xs ++ ys)
own-append [] ys h g = g
own-append (x ∷ xs) ys h g = (h.0, own-append xs ys h.1 g)

ended_owners : (source : List ℕ) (w : Progress) (m : Made) → (run_ended source w m).owners ≡ m.owners
ended_owners [] w m = refl
ended_owners (b ∷ bs) w m = by (is_white (b ∷ bs))
  where
    by : (c : Bool) → (if c then with_white (chars (b ∷ bs)) (run_dropped m) else paragraph_before (source_span w (b ∷ bs)) m).owners ≡ m.owners
    by true = refl
    by false = refl

before_owns : (w : Progress) (piece : Piece) (owners : List Owner) (m : Made) → AllOwnUtf8 owners → AllOwnUtf8 m.owners → AllOwnUtf8 (before_run w piece owners m).owners
before_owns w piece owners m u h = own-append owners (run_closed w m).owners u (subst AllOwnUtf8 (sym (ended_owners m.source w m)) h)

leaf_owns : (w : Progress) (kind : Kind) (head : Head) (marks : List Mark) (source : List ℕ) (owners : List Owner) (m : Made) → AllOwnUtf8 owners → AllOwnUtf8 m.owners → AllOwnUtf8 (leaf_before w kind head marks source owners m).owners
leaf_owns w kind head marks source owners m u h =
    let piece = leaf kind head marks (source_span w source) in
    elim (is_inline_leaf kind) as (λ b. AllOwnUtf8 (if b then in_run piece source owners m else before_run (past w source owners) piece owners m).owners) [
      | true ↦ own-append owners m.owners u h
      | false ↦ before_owns (past w source owners) piece owners m u h
    ]

inside_owners : (around : Around) (w : Progress) (m : Made) → AllOwnUtf8 m.owners → AllOwnUtf8 (inside_piece around w m).owners
inside_owners (Content marks) w m h = h
inside_owners (Flow kind) w m h = subst AllOwnUtf8 (sym (ended_owners m.source w m)) h
inside_owners (Structural kind) w m h = h

words_own : (around : Around) (text : List ℕ) (m : Made) → AllOwnUtf8 m.owners → AllOwnUtf8 (words_before around text m).owners
words_own (Content marks) text m h = h
words_own (Flow kind) text m h = h
words_own (Structural kind) text m h = h

group_owns : (around : Around) (nodes : Forest) (later : Progress → Made) (w : Progress) (r : Option RefNode) → OwnsUtf8 r → ((p : Progress) → AllOwnUtf8 (later p).owners) → AllOwnUtf8 (group_made around nodes later w r).owners
group_owns around nodes later w (Some r) u h = leaf_owns w Ref r.head (marks_at around) (spelling nodes) r.owners (later (past w (spelling nodes) r.owners)) u (h (past w (spelling nodes) r.owners))
group_owns around nodes later w None u h =
    leaf_owns w (group_kind around nodes) (whole_head (spelling nodes)) (marks_at around) (spelling nodes) [] (later (past w (spelling nodes) [])) tt (h (past w (spelling nodes) []))

single_owns : (around : Around) (attrs : List Spelled) (source : List ℕ) (later : Progress → Made) (w : Progress) (fit : Fit) → ((p : Progress) → AllOwnUtf8 (later p).owners) → AllOwnUtf8 (leaf_made around attrs source later w fit).owners
single_owns around attrs source later w (Leaf kind) h = leaf_owns w kind (head_with attrs) (marks_at around) source [] (later (past w source [])) tt (h (past w source []))
single_owns around attrs source later w (Whole kind) h = leaf_owns w kind (whole_head source) (marks_at around) source [] (later (past w source [])) tt (h (past w source []))
single_owns around attrs source later w Annotation h = leaf_owns w (note_kind around) (whole_head source) (marks_at around) source [] (later (past w source [])) tt (h (past w source []))
single_owns around attrs source later w (Branch kind) h = leaf_owns w (note_kind around) (whole_head source) (marks_at around) source [] (later (past w source [])) tt (h (past w source []))

element_owns : (around : Around) (name : List ℕ) (attrs : List Spelled) (source : List ℕ) (children : Around → Progress → Made) (later : Progress → Made) (w : Progress) (fit : Fit) →
    ((a : Around) (p : Progress) → AllOwnUtf8 (children a p).owners) → ((p : Progress) → AllOwnUtf8 (later p).owners) → AllOwnUtf8 (element_made around name attrs source children later w fit).owners
element_owns around name attrs source children later w Annotation g h =
    let p = inside_of w name attrs in
    let inside = children (marked_around around name attrs) p in
    own-append inside.owners (later (past w source inside.owners)).owners (g (marked_around around name attrs) p) (h (past w source inside.owners))
element_owns around name attrs source children later w (Branch kind) g h =
    let p = inside_of w name attrs in
    let inside = inside_piece (around_in kind) p (children (around_in kind) p) in
    let after = past w source inside.owners in
    before_owns after (node kind (head_with attrs) [] false (source_span w source) inside.later inside.pre) inside.owners (later after)
    (inside_owners (around_in kind) p (children (around_in kind) p) (g (around_in kind) p)) (h after)
element_owns around name attrs source children later w (Leaf kind) g h = single_owns around attrs source later w (Leaf kind) h
element_owns around name attrs source children later w (Whole kind) g h = single_owns around attrs source later w (Whole kind) h

made_owns : (room : ℕ) (parts : Parts) → Faithful room parts → AllUtf8 parts → (around : Around) (w : Progress) → AllOwnUtf8 (made_of around parts w).owners
made_owns room Ended f u around w = tt
made_owns room (Words text later) f u around w = words_own around text (made_of around later (past w text [])) (made_owns room later f.1 u.1 around (past w text []))
made_owns room (Note text later) f u around w =
    single_owns around [] (token_text (Comment text)) (made_of around later) w (Whole (note_kind around)) (λ p. made_owns room later f u around p)
made_owns room (Group nodes later) f u around w =
    group_owns around nodes (made_of around later) w (ref_of w around nodes) (group_utf8 room nodes f.0.spelled u.0 w around) (λ p. made_owns room later f.1 u.1 around p)
made_owns room (Single name attrs source later) f u around w =
    single_owns around attrs source (made_of around later) w (fit_of around name Ended) (λ p. made_owns room later f.1 u.1 around p)
made_owns room (Parent name attrs children later) f u around w =
    element_owns around name attrs (element_source name attrs children) (λ a. made_of a children) (made_of around later) w (fit_of around name children)
    (λ a p. made_owns (room - 1) children f.1 u.1 a p) (λ p. made_owns room later f.2 u.2 around p)

pub flow_owns : (room : ℕ) (kind : Kind) (parts : Parts) (w : Progress) → Faithful room parts → AllUtf8 parts → AllOwnUtf8 (in_flow kind parts w).owners
flow_owns room kind parts w f u = inside_owners (Flow kind) w (made_of (Flow kind) parts w) (made_owns room parts f u (Flow kind) w)
