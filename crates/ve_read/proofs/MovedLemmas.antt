-- Converted parts do not depend on the byte where they begin, but for the positions in them.
use Rattle.std.proofs.Common.{◌≡◌, ℕ, suc, ◌+◌, Bool, true, false, if◌then◌else◌, List, [], ◌∷◌, ◌++◌, length, map, ◌-◌, Option, Some, None, refl, sym, ap, ◌∙◌, arith}
use Rattle.std.proofs.lemmas.List.{map-append}
use Rattle.std.specs.Prelude.{nat_lt, option_map, filter, chars, codes, is_some, ◌||◌, ◌&&◌}
use Rattle.std.specs.Option.{option_or}
use Rattle.model_spelling.specs.Grammar.{Attr as Spelled, Comment, token_text, start_text}
use Rattle.model_spelling.specs.Forest.{Forest, Nothing, Text, Remark, Void, RawElement, Element, spelling}
use Rattle.ve_base.specs.declared.head.Head.{Head}
use Rattle.ve_base.specs.declared.head.RefKey.{RefKey}
use Rattle.ve_base.specs.declared.head.Key.TheVariants.{Named, Auto}
use Rattle.ve_base.specs.declared.marks.Mark.{Mark}
use Rattle.ve_base.specs.Limits.{max_open_kinds, max_marks}
use Rattle.ve_kinds.specs.declared.kind.Kind.{Kind}
use Rattle.ve_kinds.specs.declared.kind.Kind.TheVariants.{Ref}
use Rattle.ve_kinds.specs.Table.{is_inline_leaf}
use Rattle.model_items.specs.declared.plain_item.PlainItem.{PlainItem}
use Rattle.model_items.specs.declared.plain_item.PlainItem.TheVariants.{Char, Opening, Closing}
use Rattle.model_items.specs.Same.{ref_key_same}
use Rattle.model_page.specs.DataMw.{RefRead, reference_of}
use Rattle.model_page.specs.Elements.{is_white, value_named}
use Rattle.model_page.specs.Heads.{characters, head_with, whole_head}
use Rattle.model_page.specs.Parts.{Parts, Ended, Words, Note, Group, Single, Parent, parts_of}
use Rattle.model_page.specs.Fit.{Around, Flow, Structural, Content, Fit, Annotation, Leaf, Branch, Whole, around_in, fit_of, group_kind, note_kind}
use Rattle.model_page.specs.Pieces.{SourceSpan, Piece, Owner, Made, Progress, past, source_span, node, leaf, chars_piece, with_white, run_dropped, paragraph_before, run_ended, run_closed, in_run, before_run, leaf_before}
use Rattle.model_page.specs.ReferenceNodes.{RefNode, is_auto, auto_count, key_of, is_owned, unless_owned, reference_in, owners_of, ref_node, may_be_reference, ref_of}
use Rattle.model_page.specs.Convert.{marks_at, marked_around, element_source, inside_of, inside_piece, words_before, group_made, leaf_made, element_made, made_of, in_flow}
use Rattle.model_page.specs.Limits.{Limit, TooDeep, TooManyMarks, limit_at, earlier, deep_at, marked_at, limit_of}
use Rattle.model_page.specs.PageItems.{body_made}
use Rattle.ve_kinds.specs.declared.kind.Kind.TheVariants.{InternalItem}
use Rattle.ve_read.specs.Moved.{span_moved, owner_moved, piece_moved, made_moved, place_moved, limit_moved}

-- ---- positions

place_past : (d : ℕ) (w : Progress) (source : List ℕ) (owners : List Owner) → past (place_moved d w) source (map (owner_moved d) owners) ≡ place_moved d (past w source owners)
place_past d w source owners =
    let at : (d + w.at) + length source ≡ d + (w.at + length source) = omega arith in
    let all = sym (map-append (owner_moved d) w.owners owners) in
    λ j. record { at = at j; owners = all j; editable = w.editable }

span_past : (d : ℕ) (w : Progress) (source : List ℕ) → source_span (place_moved d w) source ≡ span_moved d (source_span w source)
span_past d w source = let to : (d + w.at) + length source ≡ d + (w.at + length source) = omega arith in λ j. record { from = d + w.at; to = to j }

-- ---- runs

chosen : (d : ℕ) (c : Bool) (a b x y : Made) → x ≡ made_moved d a → y ≡ made_moved d b → (if c then x else y) ≡ made_moved d (if c then a else b)
chosen d true a b x y e f = e
chosen d false a b x y e f = f

in_run_moves : (d : ℕ) (piece : Piece) (source : List ℕ) (owners : List Owner) (m : Made) → in_run (piece_moved d piece) source (map (owner_moved d) owners) (made_moved d m) ≡ made_moved d (in_run piece source owners m)
in_run_moves d piece source owners m =
    let spans = sym (map-append (span_moved d) piece.spans m.run.spans) in
    let all = sym (map-append (owner_moved d) owners m.owners) in
    λ j. record { run = record { items = piece.items ++ m.run.items; spans = spans j }; source = source ++ m.source; later = piece_moved d m.later; pre = m.pre; owners = all j }

paragraph_moves : (d : ℕ) (span : SourceSpan) (m : Made) → paragraph_before (span_moved d span) (made_moved d m) ≡ made_moved d (paragraph_before span m)
paragraph_moves d span m =
    let spans = sym (map-append (span_moved d) (span ∷ m.run.spans) m.later.spans) in
    let now : Made = paragraph_before span m in
    λ j. record { run = now.run; source = []; later = record { items = now.later.items; spans = spans j }; pre = m.pre; owners = map (owner_moved d) m.owners }

ended_moves : (d : ℕ) (source : List ℕ) (w : Progress) (m : Made) → run_ended source (place_moved d w) (made_moved d m) ≡ made_moved d (run_ended source w m)
ended_moves d [] w m = refl
ended_moves d (b ∷ bs) w m =
    chosen d (is_white (b ∷ bs)) (with_white (chars (b ∷ bs)) (run_dropped m)) (paragraph_before (source_span w (b ∷ bs)) m) _ _ refl
    (ap (λ s. paragraph_before s (made_moved d m)) (span_past d w (b ∷ bs)) ∙ paragraph_moves d (source_span w (b ∷ bs)) m)

closed_moves : (d : ℕ) (w : Progress) (m : Made) → run_closed (place_moved d w) (made_moved d m) ≡ made_moved d (run_closed w m)
closed_moves d w m = ended_moves d m.source w m

-- ---- blocks and leaves

joined_moves : (d : ℕ) (piece : Piece) (owners : List Owner) (closed : Made) →
    record (made_moved d closed) { later = record { items = piece.items ++ closed.later.items; spans = map (span_moved d) piece.spans ++ map (span_moved d) closed.later.spans }; owners = map (owner_moved d) owners ++ map (owner_moved d) closed.owners }
    ≡ made_moved d (record closed { later = record { items = piece.items ++ closed.later.items; spans = piece.spans ++ closed.later.spans }; owners = owners ++ closed.owners })
joined_moves d piece owners closed =
    let spans = sym (map-append (span_moved d) piece.spans closed.later.spans) in
    let all = sym (map-append (owner_moved d) owners closed.owners) in
    λ j. record { run = piece_moved d closed.run; source = closed.source; later = record { items = piece.items ++ closed.later.items; spans = spans j }; pre = closed.pre; owners = all j }

before_moves : (d : ℕ) (w : Progress) (piece : Piece) (owners : List Owner) (m : Made) →
    before_run (place_moved d w) (piece_moved d piece) (map (owner_moved d) owners) (made_moved d m) ≡ made_moved d (before_run w piece owners m)
before_moves d w piece owners m =
    ap (λ (c : Made). record c { later = record { items = piece.items ++ c.later.items; spans = map (span_moved d) piece.spans ++ c.later.spans }; owners = map (owner_moved d) owners ++ c.owners }) (closed_moves d w m)
    ∙ joined_moves d piece owners (run_closed w m)

leaf_moves : (d : ℕ) (w : Progress) (kind : Kind) (head : Head) (marks : List Mark) (source : List ℕ) (owners : List Owner) (m x : Made) → x ≡ made_moved d m →
    leaf_before (place_moved d w) kind head marks source (map (owner_moved d) owners) x ≡ made_moved d (leaf_before w kind head marks source owners m)
leaf_moves d w kind head marks source owners m x e =
    ap (leaf_before (place_moved d w) kind head marks source (map (owner_moved d) owners)) e
    ∙ chosen d (is_inline_leaf kind) (in_run (leaf kind head marks (source_span w source)) source owners m) (before_run (past w source owners) (leaf kind head marks (source_span w source)) owners m) _ _
    (ap (λ s. in_run (leaf kind head marks s) source (map (owner_moved d) owners) (made_moved d m)) (span_past d w source) ∙ in_run_moves d (leaf kind head marks (source_span w source)) source owners m)
    ((λ j. before_run (place_past d w source owners j) (leaf kind head marks (span_past d w source j)) (map (owner_moved d) owners) (made_moved d m))
    ∙ before_moves d (past w source owners) (leaf kind head marks (source_span w source)) owners m)

-- ---- references

auto_moves : (d : ℕ) (owners : List Owner) → auto_count (map (owner_moved d) owners) ≡ auto_count owners
auto_moves d [] = refl
auto_moves d (o ∷ owners) = one (is_auto o.key.key) (auto_moves d owners)
  where
    one : (c : Bool) → auto_count (map (owner_moved d) owners) ≡ auto_count owners
        → length (if c then owner_moved d o ∷ filter (λ owner. is_auto owner.key.key) (map (owner_moved d) owners) else filter (λ owner. is_auto owner.key.key) (map (owner_moved d) owners))
        ≡ length (if c then o ∷ filter (λ owner. is_auto owner.key.key) owners else filter (λ owner. is_auto owner.key.key) owners)
    one true e = ap suc e
    one false e = e

owned_moves : (d : ℕ) (owners : List Owner) (key : RefKey) → is_owned (map (owner_moved d) owners) key ≡ is_owned owners key
owned_moves d [] key = refl
owned_moves d (o ∷ owners) key = ap (λ b. ref_key_same o.key key || b) (owned_moves d owners key)

abbrev keyed : RefRead → ℕ → RefKey
keyed reading count = record { group = chars reading.group; key = elim (reading.name) [ Some name ↦ Named (chars name) | None ↦ Auto count ] }

key_moves : (d : ℕ) (owners : List Owner) (reading : RefRead) → key_of (map (owner_moved d) owners) reading ≡ key_of owners reading
key_moves d owners reading = ap (keyed reading) (auto_moves d owners)

unless_moves : (d : ℕ) (owners : List Owner) (reading : RefRead) → unless_owned (map (owner_moved d) owners) reading ≡ unless_owned owners reading
unless_moves d owners reading =
    ap (λ b. if is_some reading.html && b then None else Some reading)
    (ap (is_owned (map (owner_moved d) owners)) (key_moves d owners reading) ∙ owned_moves d owners (key_of owners reading))

abbrev referred : List Owner → Option RefRead → Option RefRead
referred owners read = elim read [ None ↦ None | Some reading ↦ unless_owned owners reading ]

referred_moves : (d : ℕ) (owners : List Owner) (read : Option RefRead) → referred (map (owner_moved d) owners) read ≡ referred owners read
referred_moves d owners None = refl
referred_moves d owners (Some reading) = unless_moves d owners reading

reference_moves : (d : ℕ) (owners : List Owner) (mw : Option (List ℕ)) → reference_in (map (owner_moved d) owners) mw ≡ reference_in owners mw
reference_moves d owners None = refl
reference_moves d owners (Some mw) = referred_moves d owners (reference_of mw)

abbrev ref_moved : ℕ → RefNode → RefNode
ref_moved d r = record { head = r.head; owners = map (owner_moved d) r.owners }

owner_moves : (d at : ℕ) (key : RefKey) (html : Option (List ℕ)) → owners_of (d + at) key html ≡ map (owner_moved d) (owners_of at key html)
owner_moves d at key None = refl
owner_moves d at key (Some html) = refl

node_moves : (d : ℕ) (w : Progress) (name : List ℕ) (attrs : List Spelled) (children : Forest) (reading : RefRead) →
    ref_node (place_moved d w) name attrs children reading ≡ ref_moved d (ref_node w name attrs children reading)
node_moves d w name attrs children reading =
    (λ j. record {
      head = record ((ref_node w name attrs children reading).head) { reference = Some (key_moves d w.owners reading j) };
      owners = owners_of (d + w.at) (key_moves d w.owners reading j) reading.html;
    })
    ∙ (λ j. record { head = (ref_node w name attrs children reading).head; owners = owner_moves d w.at (key_of w.owners reading) reading.html j })

may_moves : (d : ℕ) (w : Progress) (around : Around) (name : List ℕ) (attrs : List Spelled) → may_be_reference (place_moved d w) around name attrs ≡ may_be_reference w around name attrs
may_moves d w (Structural parent) name attrs = refl
may_moves d w (Flow kind) name attrs = refl
may_moves d w (Content marks) name attrs = refl

abbrev noded : Progress → List ℕ → List Spelled → Forest → Option RefRead → Option RefNode
noded w name attrs children read = elim read [ None ↦ None | Some reading ↦ Some (ref_node w name attrs children reading) ]

noded_moves : (d : ℕ) (w : Progress) (name : List ℕ) (attrs : List Spelled) (children : Forest) (read : Option RefRead) →
    noded (place_moved d w) name attrs children read ≡ option_map (ref_moved d) (noded w name attrs children read)
noded_moves d w name attrs children None = refl
noded_moves d w name attrs children (Some reading) = ap (λ r. Some r) (node_moves d w name attrs children reading)

allowed_moves : (d : ℕ) (may : Bool) (x y : Option RefNode) → x ≡ option_map (ref_moved d) y → (if may then x else None) ≡ option_map (ref_moved d) (if may then y else None)
allowed_moves d true x y e = e
allowed_moves d false x y e = refl

ref_moves : (d : ℕ) (w : Progress) (around : Around) (nodes : Forest) → ref_of (place_moved d w) around nodes ≡ option_map (ref_moved d) (ref_of w around nodes)
ref_moves d w around Nothing = refl
ref_moves d w around (Text text rest) = refl
ref_moves d w around (Remark text rest) = refl
ref_moves d w around (Void name attrs slash rest) = refl
ref_moves d w around (RawElement name attrs text rest) = refl
ref_moves d w around (Element name attrs children Nothing) =
    let mw = value_named (codes "data-mw") attrs in
    ap (λ b. if b then noded (place_moved d w) name attrs children (reference_in (map (owner_moved d) w.owners) mw) else None) (may_moves d w around name attrs)
    ∙ ap (λ r. if may_be_reference w around name attrs then noded (place_moved d w) name attrs children r else None) (reference_moves d w.owners mw)
    ∙ allowed_moves d (may_be_reference w around name attrs) _ _ (noded_moves d w name attrs children (reference_in w.owners mw))
ref_moves d w around (Element name attrs children (Text text rest)) = refl
ref_moves d w around (Element name attrs children (Remark text rest)) = refl
ref_moves d w around (Element name attrs children (Void n a slash rest)) = refl
ref_moves d w around (Element name attrs children (RawElement n a text rest)) = refl
ref_moves d w around (Element name attrs children (Element n a inner rest)) = refl

-- ---- parts

-- what later parts become moves with the position where they begin
abbrev Moves : ℕ → (Progress → Made) → Type 0
Moves d later = (w : Progress) → later (place_moved d w) ≡ made_moved d (later w)

past_moves : (d : ℕ) (later : Progress → Made) → Moves d later → (w : Progress) (source : List ℕ) (owners : List Owner) →
    later (past (place_moved d w) source (map (owner_moved d) owners)) ≡ made_moved d (later (past w source owners))
past_moves d later h w source owners = ap later (place_past d w source owners) ∙ h (past w source owners)

words_moves : (d : ℕ) (around : Around) (text : List ℕ) (m : Made) → words_before around text (made_moved d m) ≡ made_moved d (words_before around text m)
words_moves d (Structural kind) text m = refl
words_moves d (Flow kind) text m = in_run_moves d (chars_piece [] (characters text)) text [] m
words_moves d (Content marks) text m = in_run_moves d (chars_piece marks (characters text)) text [] m

group_moves : (d : ℕ) (around : Around) (nodes : Forest) (later : Progress → Made) (w : Progress) (found : Option RefNode) → Moves d later →
    group_made around nodes later (place_moved d w) (option_map (ref_moved d) found) ≡ made_moved d (group_made around nodes later w found)
group_moves d around nodes later w (Some r) h =
    leaf_moves d w Ref r.head (marks_at around) (spelling nodes) r.owners (later (past w (spelling nodes) r.owners)) _ (past_moves d later h w (spelling nodes) r.owners)
group_moves d around nodes later w None h =
    leaf_moves d w (group_kind around nodes) (whole_head (spelling nodes)) (marks_at around) (spelling nodes) [] (later (past w (spelling nodes) [])) _ (past_moves d later h w (spelling nodes) [])

single_moves : (d : ℕ) (around : Around) (attrs : List Spelled) (source : List ℕ) (later : Progress → Made) (w : Progress) (fit : Fit) → Moves d later →
    leaf_made around attrs source later (place_moved d w) fit ≡ made_moved d (leaf_made around attrs source later w fit)
single_moves d around attrs source later w (Leaf kind) h =
    leaf_moves d w kind (head_with attrs) (marks_at around) source [] (later (past w source [])) _ (past_moves d later h w source [])
single_moves d around attrs source later w (Whole kind) h =
    leaf_moves d w kind (whole_head source) (marks_at around) source [] (later (past w source [])) _ (past_moves d later h w source [])
single_moves d around attrs source later w Annotation h =
    leaf_moves d w (note_kind around) (whole_head source) (marks_at around) source [] (later (past w source [])) _ (past_moves d later h w source [])
single_moves d around attrs source later w (Branch kind) h =
    leaf_moves d w (note_kind around) (whole_head source) (marks_at around) source [] (later (past w source [])) _ (past_moves d later h w source [])

inside_moves : (d : ℕ) (around : Around) (w : Progress) (m : Made) → inside_piece around (place_moved d w) (made_moved d m) ≡ made_moved d (inside_piece around w m)
inside_moves d (Content marks) w m = refl
inside_moves d (Flow kind) w m = closed_moves d w m
inside_moves d (Structural kind) w m = refl

annotation_moves : (d : ℕ) (source : List ℕ) (later : Progress → Made) (w : Progress) (inside x : Made) → Moves d later → x ≡ made_moved d inside →
    in_run x.run source x.owners (later (past (place_moved d w) source x.owners)) ≡ made_moved d (in_run inside.run source inside.owners (later (past w source inside.owners)))
annotation_moves d source later w inside x h e =
    ap (λ (y : Made). in_run y.run source y.owners (later (past (place_moved d w) source y.owners))) e
    ∙ ap (in_run (piece_moved d inside.run) source (map (owner_moved d) inside.owners)) (past_moves d later h w source inside.owners)
    ∙ in_run_moves d inside.run source inside.owners (later (past w source inside.owners))

branch_moves : (d : ℕ) (kind : Kind) (attrs : List Spelled) (source : List ℕ) (later : Progress → Made) (w : Progress) (inside x : Made) → Moves d later → x ≡ made_moved d inside →
    before_run (past (place_moved d w) source x.owners) (node kind (head_with attrs) [] false (source_span (place_moved d w) source) x.later x.pre) x.owners (later (past (place_moved d w) source x.owners))
    ≡ made_moved d (before_run (past w source inside.owners) (node kind (head_with attrs) [] false (source_span w source) inside.later inside.pre) inside.owners (later (past w source inside.owners)))
branch_moves d kind attrs source later w inside x h e =
    let owners = map (owner_moved d) inside.owners in
    let made : SourceSpan → Piece = λ s. node kind (head_with attrs) [] false s (piece_moved d inside.later) inside.pre in
    ap (λ (y : Made). before_run (past (place_moved d w) source y.owners) (node kind (head_with attrs) [] false (source_span (place_moved d w) source) y.later y.pre) y.owners (later (past (place_moved d w) source y.owners))) e
    ∙ (λ j. before_run (place_past d w source inside.owners j) (made (span_past d w source j)) owners (past_moves d later h w source inside.owners j))
    ∙ before_moves d (past w source inside.owners) (node kind (head_with attrs) [] false (source_span w source) inside.later inside.pre) inside.owners (later (past w source inside.owners))

element_moves : (d : ℕ) (around : Around) (name : List ℕ) (attrs : List Spelled) (source : List ℕ) (children : Around → Progress → Made) (later : Progress → Made) (w : Progress) (fit : Fit) →
    ((a : Around) → Moves d (children a)) → Moves d later →
    element_made around name attrs source children later (place_moved d w) fit ≡ made_moved d (element_made around name attrs source children later w fit)
element_moves d around name attrs source children later w Annotation g h =
    let a : Around = marked_around around name attrs in
    annotation_moves d source later w (children a (inside_of w name attrs)) _ h (past_moves d (children a) (g a) w (start_text name attrs false) [])
element_moves d around name attrs source children later w (Branch kind) g h =
    let a : Around = around_in kind in
    let start : List ℕ = start_text name attrs false in
    branch_moves d kind attrs source later w (inside_piece a (inside_of w name attrs) (children a (inside_of w name attrs))) _ h
    ((λ j. inside_piece a (place_past d w start [] j) (past_moves d (children a) (g a) w start [] j)) ∙ inside_moves d a (inside_of w name attrs) (children a (inside_of w name attrs)))
element_moves d around name attrs source children later w (Leaf kind) g h = single_moves d around attrs source later w (Leaf kind) h
element_moves d around name attrs source children later w (Whole kind) g h = single_moves d around attrs source later w (Whole kind) h

pub made_moves : (d : ℕ) (around : Around) (parts : Parts) (w : Progress) → made_of around parts (place_moved d w) ≡ made_moved d (made_of around parts w)
made_moves d around Ended w = refl
made_moves d around (Words text later) w =
    ap (words_before around text) (past_moves d (made_of around later) (made_moves d around later) w text []) ∙ words_moves d around text (made_of around later (past w text []))
made_moves d around (Note text later) w = single_moves d around [] (token_text (Comment text)) (made_of around later) w (Whole (note_kind around)) (made_moves d around later)
made_moves d around (Group nodes later) w =
    ap (group_made around nodes (made_of around later) (place_moved d w)) (ref_moves d w around nodes)
    ∙ group_moves d around nodes (made_of around later) w (ref_of w around nodes) (made_moves d around later)
made_moves d around (Single name attrs source later) w = single_moves d around attrs source (made_of around later) w (fit_of around name Ended) (made_moves d around later)
made_moves d around (Parent name attrs children later) w =
    element_moves d around name attrs (element_source name attrs children) (λ a. made_of a children) (made_of around later) w (fit_of around name children)
    (λ a. made_moves d a children) (made_moves d around later)

pub flow_moves : (d : ℕ) (kind : Kind) (parts : Parts) (w : Progress) → in_flow kind parts (place_moved d w) ≡ made_moved d (in_flow kind parts w)
flow_moves d kind parts w = ap (run_closed (place_moved d w)) (made_moves d (Flow kind) parts w) ∙ closed_moves d w (made_of (Flow kind) parts w)

-- ---- limits

deep_chosen : (d : ℕ) (c : Bool) (x y : Option ℕ) (at : ℕ) → x ≡ option_map (λ n. d + n) y → (if c then x else Some (d + at)) ≡ option_map (λ n. d + n) (if c then y else Some at)
deep_chosen d true x y at e = e
deep_chosen d false x y at e = refl

deep_moves : (d depth : ℕ) (items : List PlainItem) (spans : List SourceSpan) → deep_at depth items (map (span_moved d) spans) ≡ option_map (λ n. d + n) (deep_at depth items spans)
deep_moves d depth [] spans = refl
deep_moves d depth (Char c marks ∷ items) spans = deep_moves d depth items spans
deep_moves d depth (Closing kind pre ∷ items) spans = deep_moves d (depth - 1) items spans
deep_moves d depth (Opening kind head marks pre origin generated ∷ items) [] = refl
deep_moves d depth (Opening kind head marks pre origin generated ∷ items) (span ∷ spans) =
    deep_chosen d (nat_lt depth max_open_kinds) _ (deep_at (suc depth) items spans) span.from (deep_moves d (suc depth) items spans)

abbrev on : ℕ → Option ℕ → Option ℕ
on d x = option_map (λ n. d + n) x

on_or : (d : ℕ) (x y : Option ℕ) → option_or (on d x) (on d y) ≡ on d (option_or x y)
on_or d (Some n) y = refl
on_or d None y = refl

past_place : (d at n : ℕ) → (d + at) + n ≡ d + (at + n)
past_place d at n = omega arith

-- what is found in an element, by its fit
abbrev found_in : ℕ → Around → ℕ → (Around → Option ℕ) → List ℕ → List Spelled → Option ℕ → Fit → Option ℕ
found_in count around at children name attrs later fit = elim fit [
  | Annotation ↦ if nat_lt count max_marks then option_or (children (marked_around around name attrs)) later else Some at
  | Branch kind ↦ option_or (children (around_in kind)) later
  | _ ↦ later
]

found_moves : (d count : ℕ) (around : Around) (at : ℕ) (moved children : Around → Option ℕ) (name : List ℕ) (attrs : List Spelled) (later : Option ℕ) (fit : Fit) →
    ((a : Around) → moved a ≡ on d (children a)) → found_in count around (d + at) moved name attrs (on d later) fit ≡ on d (found_in count around at children name attrs later fit)
found_moves d count around at moved children name attrs later Annotation h =
    deep_chosen d (nat_lt count max_marks) _ (option_or (children (marked_around around name attrs)) later) at
    (ap (λ x. option_or x (on d later)) (h (marked_around around name attrs)) ∙ on_or d (children (marked_around around name attrs)) later)
found_moves d count around at moved children name attrs later (Branch kind) h =
    ap (λ x. option_or x (on d later)) (h (around_in kind)) ∙ on_or d (children (around_in kind)) later
found_moves d count around at moved children name attrs later (Leaf kind) h = refl
found_moves d count around at moved children name attrs later (Whole kind) h = refl

pub marked_moves : (d : ℕ) (around : Around) (parts : Parts) (at : ℕ) → marked_at around parts (d + at) ≡ on d (marked_at around parts at)
marked_moves d around Ended at = refl
marked_moves d around (Words text later) at = ap (marked_at around later) (past_place d at (length text)) ∙ marked_moves d around later (at + length text)
marked_moves d around (Note text later) at =
    ap (marked_at around later) (past_place d at (length (token_text (Comment text)))) ∙ marked_moves d around later (at + length (token_text (Comment text)))
marked_moves d around (Group nodes later) at = ap (marked_at around later) (past_place d at (length (spelling nodes))) ∙ marked_moves d around later (at + length (spelling nodes))
marked_moves d around (Single name attrs source later) at = ap (marked_at around later) (past_place d at (length source)) ∙ marked_moves d around later (at + length source)
marked_moves d around (Parent name attrs children later) at =
    let inside : ℕ = length (start_text name attrs false) in
    let end : ℕ = length (element_source name attrs children) in
    let fit : Fit = fit_of around name children in
    let count : ℕ = length (marks_at around) in
    let after = ap (marked_at around later) (past_place d at end) ∙ marked_moves d around later (at + end) in
    ap (λ x. found_in count around (d + at) (λ a. marked_at a children ((d + at) + inside)) name attrs x fit) after
    ∙ found_moves d count around at (λ a. marked_at a children ((d + at) + inside)) (λ a. marked_at a children (at + inside)) name attrs (marked_at around later (at + end)) fit
    (λ a. ap (marked_at a children) (past_place d at inside) ∙ marked_moves d a children (at + inside))

-- the earlier of two moves with both
before_by : (d a b : ℕ) (c : Bool) → nat_lt a b ≡ c → nat_lt (d + a) (d + b) ≡ c
before_by d a b true e = grind arith
before_by d a b false e = grind arith

limit_place : (d : ℕ) (l : Limit) → limit_at (limit_moved d l) ≡ d + limit_at l
limit_place d (TooDeep at) = refl
limit_place d (TooManyMarks at) = refl

abbrev limits_moved : ℕ → Option Limit → Option Limit
limits_moved d x = option_map (limit_moved d) x

picked : (d : ℕ) (c : Bool) (a b : Limit) → (if c then Some (limit_moved d b) else Some (limit_moved d a)) ≡ limits_moved d (if c then Some b else Some a)
picked d true a b = refl
picked d false a b = refl

earlier_moves : (d : ℕ) (x y : Option Limit) → earlier (limits_moved d x) (limits_moved d y) ≡ limits_moved d (earlier x y)
earlier_moves d None y = refl
earlier_moves d (Some a) None = refl
earlier_moves d (Some a) (Some b) =
    ap (λ c. if c then Some (limit_moved d b) else Some (limit_moved d a))
    ((λ j. nat_lt (limit_place d b j) (limit_place d a j)) ∙ before_by d (limit_at b) (limit_at a) (nat_lt (limit_at b) (limit_at a)) refl)
    ∙ picked d (nat_lt (limit_at b) (limit_at a)) a b

deep_named : (d : ℕ) (x : Option ℕ) → option_map (λ n. TooDeep n) (on d x) ≡ limits_moved d (option_map (λ n. TooDeep n) x)
deep_named d None = refl
deep_named d (Some n) = refl

marks_named : (d : ℕ) (x : Option ℕ) → option_map (λ n. TooManyMarks n) (on d x) ≡ limits_moved d (option_map (λ n. TooManyMarks n) x)
marks_named d None = refl
marks_named d (Some n) = refl

pub limit_moves : (d depth : ℕ) (around : Around) (parts : Parts) (at : ℕ) (m : Made) → limit_of depth around parts (d + at) (made_moved d m) ≡ limits_moved d (limit_of depth around parts at m)
limit_moves d depth around parts at m =
    (λ j. earlier (option_map (λ n. TooDeep n) (deep_moves d depth m.later.items m.later.spans j)) (option_map (λ n. TooManyMarks n) (marked_moves d around parts at j)))
    ∙ (λ j. earlier (deep_named d (deep_at depth m.later.items m.later.spans) j) (marks_named d (marked_at around parts at) j))
    ∙ earlier_moves d (option_map (λ n. TooDeep n) (deep_at depth m.later.items m.later.spans)) (option_map (λ n. TooManyMarks n) (marked_at around parts at))

-- ---- bodies have no owners

pub none_in_run : (source : List ℕ) (w : Progress) (m : Made) → (run_ended source w m).owners ≡ m.owners
none_in_run [] w m = refl
none_in_run (b ∷ bs) w m = one (is_white (b ∷ bs))
  where
    one : (c : Bool) → (if c then with_white (chars (b ∷ bs)) (run_dropped m) else paragraph_before (source_span w (b ∷ bs)) m).owners ≡ m.owners
    one true = refl
    one false = refl

abbrev OwnsNone : (Progress → Made) → Type 0
OwnsNone later = (w : Progress) → w.editable ≡ false → (later w).owners ≡ []

leaf_owns : (w : Progress) (kind : Kind) (head : Head) (marks : List Mark) (source : List ℕ) (m : Made) → m.owners ≡ [] → (leaf_before w kind head marks source [] m).owners ≡ []
leaf_owns w kind head marks source m e = one (is_inline_leaf kind)
  where
    one : (c : Bool) → (if c then in_run (leaf kind head marks (source_span w source)) source [] m else before_run (past w source []) (leaf kind head marks (source_span w source)) [] m).owners ≡ []
    one true = e
    one false = none_in_run m.source (past w source []) m ∙ e

single_owns : (around : Around) (attrs : List Spelled) (source : List ℕ) (later : Progress → Made) (w : Progress) (fit : Fit) → w.editable ≡ false → OwnsNone later →
    (leaf_made around attrs source later w fit).owners ≡ []
single_owns around attrs source later w (Leaf kind) e h = leaf_owns w kind (head_with attrs) (marks_at around) source (later (past w source [])) (h (past w source []) e)
single_owns around attrs source later w (Whole kind) e h = leaf_owns w kind (whole_head source) (marks_at around) source (later (past w source [])) (h (past w source []) e)
single_owns around attrs source later w Annotation e h = leaf_owns w (note_kind around) (whole_head source) (marks_at around) source (later (past w source [])) (h (past w source []) e)
single_owns around attrs source later w (Branch kind) e h = leaf_owns w (note_kind around) (whole_head source) (marks_at around) source (later (past w source [])) (h (past w source []) e)

words_own : (around : Around) (text : List ℕ) (m : Made) → m.owners ≡ [] → (words_before around text m).owners ≡ []
words_own (Structural kind) text m e = e
words_own (Flow kind) text m e = e
words_own (Content marks) text m e = e

none_may : (w : Progress) (around : Around) (name : List ℕ) (attrs : List Spelled) → w.editable ≡ false → may_be_reference w around name attrs ≡ false
none_may w (Structural parent) name attrs e = refl
none_may w (Flow kind) name attrs e = off w.editable _ _ _ e
  where
    off : (a b c d : Bool) → a ≡ false → (a && b && c && d) ≡ false
    off true b c d h = cc
    off false b c d h = refl
none_may w (Content marks) name attrs e = off w.editable _ _ _ e
  where
    off : (a b c d : Bool) → a ≡ false → (a && b && c && d) ≡ false
    off true b c d h = cc
    off false b c d h = refl

no_reference : (w : Progress) (around : Around) (nodes : Forest) → w.editable ≡ false → ref_of w around nodes ≡ None
no_reference w around Nothing e = refl
no_reference w around (Text text rest) e = refl
no_reference w around (Remark text rest) e = refl
no_reference w around (Void name attrs slash rest) e = refl
no_reference w around (RawElement name attrs text rest) e = refl
no_reference w around (Element name attrs children Nothing) e =
    ap (λ b. if b then noded w name attrs children (reference_in w.owners (value_named (codes "data-mw") attrs)) else None) (none_may w around name attrs e)
no_reference w around (Element name attrs children (Text text rest)) e = refl
no_reference w around (Element name attrs children (Remark text rest)) e = refl
no_reference w around (Element name attrs children (Void n a slash rest)) e = refl
no_reference w around (Element name attrs children (RawElement n a text rest)) e = refl
no_reference w around (Element name attrs children (Element n a inner rest)) e = refl

inside_owns : (around : Around) (w : Progress) (m : Made) → m.owners ≡ [] → (inside_piece around w m).owners ≡ []
inside_owns (Content marks) w m e = e
inside_owns (Flow kind) w m e = none_in_run m.source w m ∙ e
inside_owns (Structural kind) w m e = e

element_owns : (around : Around) (name : List ℕ) (attrs : List Spelled) (source : List ℕ) (children : Around → Progress → Made) (later : Progress → Made) (w : Progress) (fit : Fit) →
    w.editable ≡ false → ((a : Around) → OwnsNone (children a)) → OwnsNone later → (element_made around name attrs source children later w fit).owners ≡ []
element_owns around name attrs source children later w Annotation e g h =
    let m : Made = children (marked_around around name attrs) (inside_of w name attrs) in
    let none : m.owners ≡ [] = g (marked_around around name attrs) (inside_of w name attrs) e in
    let after : Progress = past w source m.owners in
    ap (λ os. os ++ (later after).owners) none ∙ h after e
element_owns around name attrs source children later w (Branch kind) e g h =
    let a : Around = around_in kind in
    let place : Progress = inside_of w name attrs in
    let m : Made = inside_piece a place (children a place) in
    let none : m.owners ≡ [] = inside_owns a place (children a place) (g a place e) in
    let after : Progress = past w source m.owners in
    ap (λ os. os ++ (run_closed after (later after)).owners) none ∙ none_in_run (later after).source after (later after) ∙ h after e
element_owns around name attrs source children later w (Leaf kind) e g h = single_owns around attrs source later w (Leaf kind) e h
element_owns around name attrs source children later w (Whole kind) e g h = single_owns around attrs source later w (Whole kind) e h

owns_none : (around : Around) (parts : Parts) → OwnsNone (made_of around parts)
owns_none around Ended w e = refl
owns_none around (Words text later) w e = words_own around text (made_of around later (past w text [])) (owns_none around later (past w text []) e)
owns_none around (Note text later) w e = single_owns around [] (token_text (Comment text)) (made_of around later) w (Whole (note_kind around)) e (owns_none around later)
owns_none around (Group nodes later) w e =
    let after : Progress = past w (spelling nodes) [] in
    ap (λ r. (group_made around nodes (made_of around later) w r).owners) (no_reference w around nodes e)
    ∙ leaf_owns w (group_kind around nodes) (whole_head (spelling nodes)) (marks_at around) (spelling nodes) (made_of around later after) (owns_none around later after e)
owns_none around (Single name attrs source later) w e = single_owns around attrs source (made_of around later) w (fit_of around name Ended) e (owns_none around later)
owns_none around (Parent name attrs children later) w e =
    element_owns around name attrs (element_source name attrs children) (λ a. made_of a children) (made_of around later) w (fit_of around name children) e (λ a. owns_none a children) (owns_none around later)

pub body_owns_none : (f : Forest) → (body_made f).owners ≡ []
body_owns_none f =
    let w : Progress = record { at = 0; owners = []; editable = false } in
    let m : Made = made_of (Flow InternalItem) (parts_of f) w in
    none_in_run m.source w m ∙ owns_none (Flow InternalItem) (parts_of f) w refl
