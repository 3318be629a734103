-- Each owner that is found has a body that a forest spells.
use Rattle.std.proofs.Common.{◌≡◌, ℕ, Bool, true, false, if◌then◌else◌, List, [], ◌∷◌, ◌++◌, Option, Some, None, refl, sym, subst, slice_get, zero, suc}
use Rattle.std.specs.Prelude.{codes, is_some, ◌||◌, ◌&&◌}
use Rattle.serde_json.specs.Data.{Data, null, boolean, number, string, array, object}
use Rattle.serde_json.specs.Read.{read}
use Rattle.serde_json.specs.Find.{get_member}
use Rattle.model_spelling.specs.Grammar.{Attr as Spelled, Comment, token_text}
use Rattle.model_spelling.specs.Forest.{Forest, Nothing, Text, Remark, Void, RawElement, Element, spelling}
use Rattle.model_spelling.specs.Faults.{ForestFault, fault_of}
use Rattle.ve_base.specs.declared.head.Head.{Head}
use Rattle.ve_base.specs.declared.head.RefKey.{RefKey}
use Rattle.ve_base.specs.declared.marks.Mark.{Mark}
use Rattle.ve_kinds.specs.declared.kind.Kind.{Kind}
use Rattle.ve_kinds.specs.declared.kind.Kind.TheVariants.{Ref}
use Rattle.ve_kinds.specs.Table.{is_inline_leaf}
use Rattle.model_page.specs.DataMw.{RefRead, ◌>>=◌, whole_object, members_or_none, text_or_empty, unless_empty, if_spelled, html_or_none, reference_of}
use Rattle.model_page.specs.Elements.{value_named}
use Rattle.model_page.specs.Heads.{head_with, whole_head}
use Rattle.model_page.specs.Parts.{Parts, Ended, Words, Note, Group, Single, Parent}
use Rattle.model_page.specs.Fit.{Around, Flow, Structural, Content, Fit, Annotation, Leaf, Branch, Whole, around_in, fit_of, group_kind, note_kind}
use Rattle.model_page.specs.Pieces.{Owner, Made, Progress, past, source_span, leaf, run_closed, in_run, before_run, leaf_before}
use Rattle.model_page.specs.ReferenceNodes.{RefNode, key_of, is_owned, unless_owned, reference_in, owners_of, ref_node, may_be_reference, ref_of}
use Rattle.model_page.specs.Convert.{marks_at, marked_around, element_source, inside_of, inside_piece, words_before, group_made, leaf_made, element_made, made_of}
use Rattle.ve_read.specs.Bodies.{AreSpelled}
use Rattle.ve_read.proofs.MovedLemmas.{none_in_run}

-- ---- what a `data-mw` says

abbrev IsSpelled : Option (List ℕ) → Type 0
IsSpelled None = Unit {0}
IsSpelled (Some html) = fault_of html ≡ None

abbrev OfHtml : Option (Option (List ℕ)) → Type 0
OfHtml None = Unit {0}
OfHtml (Some html) = IsSpelled html

abbrev OfRead : Option RefRead → Type 0
OfRead None = Unit {0}
OfRead (Some r) = IsSpelled r.html

then_read : {A : Type 0} (x : Option A) (f : A → Option RefRead) → ((a : A) → OfRead (f a)) → OfRead (x >>= f)
then_read (Some x) f h = h x
then_read None f h = tt

html_read : (x : Option (Option (List ℕ))) (f : Option (List ℕ) → Option RefRead) → OfHtml x → ((html : Option (List ℕ)) → IsSpelled html → OfRead (f html)) → OfRead (x >>= f)
html_read (Some x) f s h = h x s
html_read None f s h = tt

spelled_by : (text : List ℕ) (found : Option ForestFault) (forest : Forest) → fault_of text ≡ found
    → OfHtml ((elim found [ Some f ↦ None | None ↦ Some forest ]) >>= (λ f. Some text) >>= (λ t. Some (Some t)))
spelled_by text (Some f) forest e = tt
spelled_by text None forest e = e

html_spelled : (member : Option Data) → OfHtml (if_spelled member >>= λ text. Some (Some text))
html_spelled None = tt
html_spelled (Some null) = tt
html_spelled (Some (boolean b)) = tt
html_spelled (Some (number n)) = tt
html_spelled (Some (string text)) = spelled_by text (fault_of text) _ refl
html_spelled (Some (array ds)) = tt
html_spelled (Some (object ms)) = tt

body_spelled : (member : Option Data) → OfHtml (html_or_none member)
body_spelled None = tt
body_spelled (Some null) = tt
body_spelled (Some (boolean b)) = tt
body_spelled (Some (number n)) = tt
body_spelled (Some (string text)) = tt
body_spelled (Some (array ds)) = tt
body_spelled (Some (object ms)) = html_spelled (get_member (codes "html") ms)

kept_spelled : (c : Bool) (r : RefRead) → IsSpelled r.html → OfRead (if c then Some r else None)
kept_spelled true r s = s
kept_spelled false r s = tt

reading_spelled : (mw : List ℕ) → OfRead (reference_of mw)
reading_spelled mw =
    then_read (read mw) _ (λ value.
    then_read (whole_object value) _ (λ members.
    then_read (members_or_none (get_member (codes "attrs") members)) _ (λ attrs.
    then_read (text_or_empty (get_member (codes "name") attrs)) _ (λ name.
    then_read (text_or_empty (get_member (codes "group") attrs)) _ (λ group.
    html_read (html_or_none (get_member (codes "body") members)) _ (body_spelled (get_member (codes "body") members)) (λ html s.
    let r : RefRead = record { group = group; name = unless_empty name; html = html } in
    kept_spelled (is_some r.html || is_some r.name) r s))))))

-- ---- references

unless_spelled : (c : Bool) (r : RefRead) → IsSpelled r.html → OfRead (if c then None else Some r)
unless_spelled true r s = tt
unless_spelled false r s = s

referred_spelled : (owners : List Owner) (x : Option RefRead) → OfRead x → OfRead (elim x [ None ↦ None | Some reading ↦ unless_owned owners reading ])
referred_spelled owners None s = tt
referred_spelled owners (Some r) s = unless_spelled (is_some r.html && is_owned owners (key_of owners r)) r s

in_spelled : (owners : List Owner) (mw : Option (List ℕ)) → OfRead (reference_in owners mw)
in_spelled owners None = tt
in_spelled owners (Some mw) = referred_spelled owners (reference_of mw) (reading_spelled mw)

owned_spelled : (at : ℕ) (key : RefKey) (html : Option (List ℕ)) → IsSpelled html → AreSpelled (owners_of at key html)
owned_spelled at key None s = tt
owned_spelled at key (Some html) s = (s, tt)

abbrev OfNode : Option RefNode → Type 0
OfNode None = Unit {0}
OfNode (Some r) = AreSpelled r.owners

node_spelled : (w : Progress) (name : List ℕ) (attrs : List Spelled) (children : Forest) (x : Option RefRead) → OfRead x
    → OfNode (elim x [ None ↦ None | Some reading ↦ Some (ref_node w name attrs children reading) ])
node_spelled w name attrs children None s = tt
node_spelled w name attrs children (Some r) s = owned_spelled w.at (key_of w.owners r) r.html s

allowed_spelled : (c : Bool) (x : Option RefNode) → OfNode x → OfNode (if c then x else None)
allowed_spelled true x s = s
allowed_spelled false x s = tt

ref_spelled : (w : Progress) (around : Around) (nodes : Forest) → OfNode (ref_of w around nodes)
ref_spelled w around Nothing = tt
ref_spelled w around (Text text rest) = tt
ref_spelled w around (Remark text rest) = tt
ref_spelled w around (Void name attrs slash rest) = tt
ref_spelled w around (RawElement name attrs text rest) = tt
ref_spelled w around (Element name attrs children Nothing) =
    let mw = value_named (codes "data-mw") attrs in
    allowed_spelled (may_be_reference w around name attrs) _ (node_spelled w name attrs children (reference_in w.owners mw) (in_spelled w.owners mw))
ref_spelled w around (Element name attrs children (Text text rest)) = tt
ref_spelled w around (Element name attrs children (Remark text rest)) = tt
ref_spelled w around (Element name attrs children (Void n a slash rest)) = tt
ref_spelled w around (Element name attrs children (RawElement n a text rest)) = tt
ref_spelled w around (Element name attrs children (Element n a inner rest)) = tt

-- ---- parts

spelled-append : (a b : List Owner) → AreSpelled a → AreSpelled b → AreSpelled (a ++ b)
spelled-append [] b s t = t
spelled-append (o ∷ a) b s t = (s.0, spelled-append a b s.1 t)

abbrev SpellsOwners : (Progress → Made) → Type 0
SpellsOwners later = (w : Progress) → AreSpelled (later w).owners

pub closed_spelled : (w : Progress) (m : Made) → AreSpelled m.owners → AreSpelled (run_closed w m).owners
closed_spelled w m s = subst AreSpelled (sym (none_in_run m.source w m)) s

leaf_spelled : (w : Progress) (kind : Kind) (head : Head) (marks : List Mark) (source : List ℕ) (owners : List Owner) (m : Made) → AreSpelled owners → AreSpelled m.owners
    → AreSpelled (leaf_before w kind head marks source owners m).owners
leaf_spelled w kind head marks source owners m s t = one (is_inline_leaf kind)
  where
    one : (c : Bool) → AreSpelled (if c then in_run (leaf kind head marks (source_span w source)) source owners m else before_run (past w source owners) (leaf kind head marks (source_span w source)) owners m).owners
    one true = spelled-append owners m.owners s t
    one false = spelled-append owners (run_closed (past w source owners) m).owners s (closed_spelled (past w source owners) m t)

single_spelled : (around : Around) (attrs : List Spelled) (source : List ℕ) (later : Progress → Made) (w : Progress) (fit : Fit) → SpellsOwners later
    → AreSpelled (leaf_made around attrs source later w fit).owners
single_spelled around attrs source later w (Leaf kind) h = leaf_spelled w kind (head_with attrs) (marks_at around) source [] (later (past w source [])) tt (h (past w source []))
single_spelled around attrs source later w (Whole kind) h = leaf_spelled w kind (whole_head source) (marks_at around) source [] (later (past w source [])) tt (h (past w source []))
single_spelled around attrs source later w Annotation h = leaf_spelled w (note_kind around) (whole_head source) (marks_at around) source [] (later (past w source [])) tt (h (past w source []))
single_spelled around attrs source later w (Branch kind) h = leaf_spelled w (note_kind around) (whole_head source) (marks_at around) source [] (later (past w source [])) tt (h (past w source []))

words_spelled : (around : Around) (text : List ℕ) (m : Made) → AreSpelled m.owners → AreSpelled (words_before around text m).owners
words_spelled (Structural kind) text m s = s
words_spelled (Flow kind) text m s = s
words_spelled (Content marks) text m s = s

group_spelled : (around : Around) (nodes : Forest) (later : Progress → Made) (w : Progress) (found : Option RefNode) → OfNode found → SpellsOwners later
    → AreSpelled (group_made around nodes later w found).owners
group_spelled around nodes later w (Some r) s h =
    let after : Progress = past w (spelling nodes) r.owners in
    leaf_spelled w Ref r.head (marks_at around) (spelling nodes) r.owners (later after) s (h after)
group_spelled around nodes later w None s h =
    let after : Progress = past w (spelling nodes) [] in
    leaf_spelled w (group_kind around nodes) (whole_head (spelling nodes)) (marks_at around) (spelling nodes) [] (later after) tt (h after)

inside_spelled : (around : Around) (w : Progress) (m : Made) → AreSpelled m.owners → AreSpelled (inside_piece around w m).owners
inside_spelled (Content marks) w m s = s
inside_spelled (Flow kind) w m s = closed_spelled w m s
inside_spelled (Structural kind) w m s = s

element_spelled : (around : Around) (name : List ℕ) (attrs : List Spelled) (source : List ℕ) (children : Around → Progress → Made) (later : Progress → Made) (w : Progress) (fit : Fit)
    → ((a : Around) → SpellsOwners (children a)) → SpellsOwners later → AreSpelled (element_made around name attrs source children later w fit).owners
element_spelled around name attrs source children later w Annotation g h =
    let m : Made = children (marked_around around name attrs) (inside_of w name attrs) in
    let after : Progress = past w source m.owners in
    spelled-append m.owners (later after).owners (g (marked_around around name attrs) (inside_of w name attrs)) (h after)
element_spelled around name attrs source children later w (Branch kind) g h =
    let a : Around = around_in kind in
    let place : Progress = inside_of w name attrs in
    let m : Made = inside_piece a place (children a place) in
    let after : Progress = past w source m.owners in
    spelled-append m.owners (run_closed after (later after)).owners (inside_spelled a place (children a place) (g a place)) (closed_spelled after (later after) (h after))
element_spelled around name attrs source children later w (Leaf kind) g h = single_spelled around attrs source later w (Leaf kind) h
element_spelled around name attrs source children later w (Whole kind) g h = single_spelled around attrs source later w (Whole kind) h

pub owners_spelled : (around : Around) (parts : Parts) → SpellsOwners (made_of around parts)
owners_spelled around Ended w = tt
owners_spelled around (Words text later) w = words_spelled around text (made_of around later (past w text [])) (owners_spelled around later (past w text []))
owners_spelled around (Note text later) w = single_spelled around [] (token_text (Comment text)) (made_of around later) w (Whole (note_kind around)) (owners_spelled around later)
owners_spelled around (Group nodes later) w = group_spelled around nodes (made_of around later) w (ref_of w around nodes) (ref_spelled w around nodes) (owners_spelled around later)
owners_spelled around (Single name attrs source later) w = single_spelled around attrs source (made_of around later) w (fit_of around name Ended) (owners_spelled around later)
owners_spelled around (Parent name attrs children later) w =
    element_spelled around name attrs (element_source name attrs children) (λ a. made_of a children) (made_of around later) w (fit_of around name children) (λ a. owners_spelled a children)
    (owners_spelled around later)

pub spelled_at : (owners : List Owner) (k : ℕ) (o : Owner) → AreSpelled owners → slice_get owners k ≡ Some o → fault_of o.html ≡ None
spelled_at [] k o s e = absurd (nothing_at k e)
  where
    nothing_at : (n : ℕ) → slice_get {X = Owner} [] n ≡ Some o → ⊥
    nothing_at zero h = cc
    nothing_at (suc n) h = cc
spelled_at (x ∷ owners) zero o s e = subst (λ y. fault_of y.html ≡ None) (same x o e) s.0
  where
    same : (a b : Owner) → ◌≡◌ {A = Option Owner} (Some a) (Some b) → a ≡ b
    same a b h = cc
spelled_at (x ∷ owners) (suc k) o s e = spelled_at owners k o s.1 e
