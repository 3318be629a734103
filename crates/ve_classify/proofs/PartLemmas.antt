-- The first part of siblings: its nodes, its source, and the siblings after it.
use Rattle.std.proofs.Common.{◌≡◌, ℕ, zero, suc, ◌+◌, ◌-◌, ◌<◌, ◌≤◌, Bool, true, false, not, ◌&&◌, List, [], ◌∷◌, ◌++◌, length, take, drop, Some, refl, sym, ap, ◌∙◌, subst, arith, append_assoc, append-nil, Bor, IsCharBoundary}
use Rattle.std.proofs.Math.Seq.{take-append_seam}
use Rattle.std.proofs.lemmas.Str.{IsCharBoundary-from_drop}
use Rattle.std.specs.Prelude.{slice_get}
use Rattle.std.proofs.lemmas.List.{length-append, length-drop}
use Rattle.std.specs.Prelude.{IsUtf8}
use Rattle.std.proofs.lemmas.Bool.{cases_lt}
use Rattle.std.proofs.Common.{inl, inr, ◌⊎◌}
use Rattle.model_spelling.specs.Grammar as g
use Rattle.model_spelling.specs.Grammar.{Attr, Comment, token_text, start_text, end_text, is_text, is_start, is_verbatim, comment_close}
use Rattle.model_spelling.specs.Forest.{Forest, Nothing, Text, Remark, Void, RawElement, Element, starts_with_text, spelling, is_forest, then_forest}
use Rattle.model_spelling.specs.ForestNodes.{ForestNode, forest_size}
use Rattle.model_spelling.proofs.AttrReading.{and_right}
use Rattle.model_spelling.proofs.ForestLaws.{spelling_then, count_then}
use Rattle.model_spelling.proofs.Back.{element_parts, raw_parts}
use Rattle.model_page.specs.Elements.{is_held}
use Rattle.model_page.specs.Parts.{Parts, Ended, Words, Note, Group, Single, Parent, parts_of}
use Rattle.ve_kinds.specs.Tags.{is_void}
use Rattle.ve_html_scan.specs.Shown.{ShowsToken}
use Rattle.ve_html_scan.specs.declared.attr_tokens.AttrTokens.{AttrTokens}
use Rattle.ve_html_scan.specs.declared.token.Span.{Span}
use Rattle.ve_html_scan.specs.declared.token.Token.{Token}
use Rattle.ve_html_scan.specs.declared.token.Token.TheVariants as lent
use Rattle.ve_html_tree.specs.declared.node.Node.{Node}
use Rattle.ve_classify.specs.Standing.{StartsPast, ShownFrom, Stands, has_node}
use Rattle.ve_classify.proofs.StandLemmas.{first_of, first_token, shown_after}
use Rattle.ve_classify.proofs.GroupLemmas.{first_held, held_begins, group_split}
use Rattle.ve_classify.proofs.GroupSteps.{sibling_is}
use Rattle.ve_classify.specs.Standing.{first_count}
use Rattle.ve_classify.specs.FirstPart.{later_of, first_source}
use Rattle.ve_classify.specs.FirstPart.{has_part, take_parts, first_node, nodes_in, part_nodes}
use Rattle.ve_classify.specs.Places.{StandsIn, PartEnds, PartsTo, AfterParts, SomePart}
use Rattle.ve_classify.proofs.SourceLemmas.{parts_of-source}
use Rattle.ve_classify.specs.PartLaws.{AllParts}
use Rattle.ve_classify.proofs.PartSource.{after_start, parted}
use Rattle.ve_classify.proofs.TextLemmas.{utf8_later}

-- what is allowed after other siblings
allowed_then : (room : ℕ) (k f : Forest) → is_forest room (then_forest k f) ≡ true → is_forest room f ≡ true
allowed_then room Nothing f e = e
allowed_then room (Text text k) f e = allowed_then room k f (and_right (is_text text && not (starts_with_text (then_forest k f))) (is_forest room (then_forest k f)) e)
allowed_then room (Remark text k) f e = allowed_then room k f (and_right (is_verbatim comment_close text) (is_forest room (then_forest k f)) e)
allowed_then zero (Void name attrs slash k) f e = absurd cc
allowed_then (suc room) (Void name attrs slash k) f e = allowed_then (suc room) k f (and_right (is_void name && is_start name attrs slash) (is_forest (suc room) (then_forest k f)) e)
allowed_then zero (RawElement name attrs text k) f e = absurd cc
allowed_then (suc room) (RawElement name attrs text k) f e = allowed_then (suc room) k f (raw_parts room name attrs text (then_forest k f) e).rest_is
allowed_then zero (Element name attrs children k) f e = absurd cc
allowed_then (suc room) (Element name attrs children k) f e = allowed_then (suc room) k f (element_parts room name attrs children (then_forest k f) e).rest_is

-- The nodes of the first part, and the siblings after them.
pub record PartSplit (f : Forest) : Type 0 where
  pub after : Forest
  pub is : f ≡ then_forest (part_nodes f) after
  pub later : later_of (parts_of f) ≡ parts_of after
  pub source : first_source (parts_of f) ≡ spelling (part_nodes f)

-- a group
held_split : (f : Forest) → first_held f ≡ true → PartSplit f
held_split f h =
    let b = held_begins f h in
    let s = group_split f b.nodes b.later b.is in
    let nodes : part_nodes f ≡ b.nodes = ap (λ p. nodes_in p (first_node f)) b.is in
    record {
      after = s.after;
      is = s.is ∙ ap (λ k. then_forest k s.after) (sym nodes);
      later = ap later_of b.is ∙ s.later_is;
      source = ap first_source b.is ∙ ap spelling (sym nodes);
    }

-- an element that is held or not, where its parts are these if it isn't
either_split : (f rest : Forest) (h : Bool) (other : Parts) → first_held f ≡ h → (h ≡ false → parts_of f ≡ other) → f ≡ then_forest (first_node f) rest → later_of other ≡ parts_of rest → first_source other ≡ spelling (first_node f) → nodes_in other (first_node f) ≡ first_node f → PartSplit f
either_split f rest true other h e is later source nodes = held_split f h
either_split f rest false other h e is later source nodes =
    let p = e refl in
    let k : part_nodes f ≡ first_node f = ap (λ x. nodes_in x (first_node f)) p ∙ nodes in
    record { after = rest; is = is ∙ ap (λ x. then_forest x rest) (sym k); later = ap later_of p ∙ later; source = ap first_source p ∙ source ∙ ap spelling (sym k) }

pub part_split : (f : Forest) → has_node f ≡ true → PartSplit f
part_split Nothing e = absurd cc
part_split (Text text rest) e = record { after = rest; is = refl; later = refl; source = sym (append-nil text) }
part_split (Remark text rest) e = record { after = rest; is = refl; later = refl; source = sym (append-nil (token_text (Comment text))) }
part_split (Void name attrs slash rest) e =
    either_split (Void name attrs slash rest) rest (is_held attrs) (Single name attrs (start_text name attrs slash) (parts_of rest)) refl (λ h. rw h refl) refl refl (sym (append-nil (start_text name attrs slash))) refl
part_split (RawElement name attrs text rest) e =
    either_split (RawElement name attrs text rest) rest (is_held attrs) (Single name attrs (start_text name attrs false ++ text ++ end_text name) (parts_of rest)) refl (λ h. rw h refl) refl refl (sym (append-nil (start_text name attrs false ++ text ++ end_text name))) refl
part_split (Element name attrs children rest) e =
    either_split (Element name attrs children rest) rest (is_held attrs) (Parent name attrs (parts_of children) (parts_of rest)) refl (λ h. rw h refl) refl refl
    (ap (λ s. start_text name attrs false ++ s ++ end_text name) (parts_of-source children) ∙ sym (append-nil (start_text name attrs false ++ spelling children ++ end_text name))) refl

-- ---- where it ends

pub group_count : (f : Forest) (h : first_held f ≡ true) (result n : ℕ) → ((nodes : Forest) (later : Parts) → parts_of f ≡ Group nodes later → result ≡ n + forest_size nodes) → result ≡ n + forest_size (part_nodes f)
group_count f h result n gives =
    let b = held_begins f h in
    gives b.nodes b.later b.is ∙ ap (λ k. n + forest_size k) (sym (ap (λ p. nodes_in p (first_node f)) b.is))

single_by : (f rest : Forest) (h : Bool) (other : Parts) → first_held f ≡ h → h ≡ false → (h ≡ false → parts_of f ≡ other) → nodes_in other (first_node f) ≡ first_node f → part_nodes f ≡ first_node f
single_by f rest h other e no_h p nodes = ap (λ x. nodes_in x (first_node f)) (p no_h) ∙ nodes

-- the byte after the first part
passed_by : (text : List ℕ) (nodes : List Node) (n at : ℕ) (f : Forest) (more : List ForestNode) (end byte : ℕ) → StandsIn text nodes n at f more → (s : PartSplit f) → end ≡ n + forest_size (part_nodes f) → byte ≡ at + length (spelling (part_nodes f)) → PartEnds text nodes n at f more end byte
passed_by text nodes n at f more end byte r s e b =
    let k : Forest = part_nodes f in
    let counts : forest_size f ≡ forest_size k + forest_size s.after = ap forest_size s.is ∙ count_then k s.after in
    let spelled : spelling f ≡ spelling k ++ spelling s.after = ap spelling s.is ∙ spelling_then k s.after in
    let long : length (spelling f) ≡ length (spelling k) + length (spelling s.after) = ap length spelled ∙ length-append (spelling k) (spelling s.after) in
    let shown = shown_after nodes n at k s.after more (subst (λ (x : Forest). ShownFrom nodes n at x more) s.is r.stands.shown) in
    let moved : ShownFrom nodes end byte s.after more = subst (λ (i : ℕ). ShownFrom nodes i byte s.after more) (sym e) (subst (λ (i : ℕ). ShownFrom nodes (n + forest_size k) i s.after more) (sym b) shown) in
    let rest : drop (at + length (spelling k)) text ≡ spelling s.after ++ r.following = after_start text (spelling k) (spelling s.after ++ r.following) at (r.text_is ∙ ap (λ l. l ++ r.following) spelled ∙ append_assoc (spelling k) (spelling s.after) r.following) in
    let all : drop at text ≡ spelling k ++ (spelling s.after ++ r.following) = r.text_is ∙ ap (λ l. l ++ r.following) spelled ∙ append_assoc (spelling k) (spelling s.after) r.following in
    let reach : at + length (spelling k) ≤ length text = omega (arith, length-drop at text, ap length all, length-append (spelling k) (spelling s.after ++ r.following), r.within) in
    let later : IsUtf8 (spelling s.after ++ r.following) =
    utf8_later r.stands.room k s.after r.following (sym (ap (is_forest r.stands.room) s.is) ∙ r.stands.allowed) r.ends
    (subst (λ (x : Forest). IsUtf8 (spelling x ++ r.following)) s.is (subst IsUtf8 r.text_is r.utf8)) in
    record {
      after = s.after;
      split = s.is;
      stands = record {
        stands = record { shown = moved; past = subst (λ (i : ℕ). StartsPast i more) (omega (arith, long, b)) r.stands.past; room = r.stands.room; allowed = allowed_then r.stands.room k s.after (sym (ap (is_forest r.stands.room) s.is) ∙ r.stands.allowed) };
        following = r.following;
        text_is = ap (λ i. drop i text) b ∙ rest;
        ends = r.ends;
        within = omega (arith, b, reach);
        utf8 = subst (λ (i : ℕ). IsUtf8 (drop i text)) (sym b) (subst IsUtf8 (sym rest) later);
      };
      parts = s.later;
      byte_is = b ∙ ap (λ l. at + length l) (sym s.source);
      count_is = omega (arith, counts, e);
      length_is = omega (arith, long, b);
    }

pub some_after : (f : Forest) (n to : ℕ) → n < to → to ≡ n + forest_size f → has_node f ≡ true
some_after Nothing n to lt e = absurd (omega (arith, lt, e))
some_after (Text text rest) n to lt e = refl
some_after (Remark text rest) n to lt e = refl
some_after (Void name attrs slash rest) n to lt e = refl
some_after (RawElement name attrs text rest) n to lt e = refl
some_after (Element name attrs children rest) n to lt e = refl

pub none_after : (f : Forest) (n to : ℕ) → to ≤ n → to ≡ n + forest_size f → f ≡ Nothing
none_after Nothing n to le e = refl
none_after (Text text rest) n to le e = absurd (omega (arith, le, e))
none_after (Remark text rest) n to le e = absurd (omega (arith, le, e))
none_after (Void name attrs slash rest) n to le e = absurd (omega (arith, le, e))
none_after (RawElement name attrs [] rest) n to le e = absurd (omega (arith, le, e))
none_after (RawElement name attrs (b ∷ bs) rest) n to le e = absurd (omega (arith, le, e))
none_after (Element name attrs children rest) n to le e = absurd (omega (arith, le, e))

-- ---- so many parts

cancel : (k a b : Forest) → then_forest k a ≡ then_forest k b → a ≡ b
cancel Nothing a b e = e
cancel (Text text k) a b e = cancel k a b cc
cancel (Remark text k) a b e = cancel k a b cc
cancel (Void name attrs slash k) a b e = cancel k a b cc
cancel (RawElement name attrs text k) a b e = cancel k a b cc
cancel (Element name attrs children k) a b e = cancel k a b cc

some_count : (f : Forest) → has_node f ≡ true → 0 < forest_size f
some_count Nothing e = absurd cc
some_count (Text text rest) e = omega arith
some_count (Remark text rest) e = omega arith
some_count (Void name attrs slash rest) e = omega arith
some_count (RawElement name attrs [] rest) e = omega arith
some_count (RawElement name attrs (b ∷ bs) rest) e = omega arith
some_count (Element name attrs children rest) e = omega arith

some_first : (f : Forest) → has_node f ≡ true → 0 < forest_size (first_node f)
some_first Nothing e = absurd cc
some_first (Text text rest) e = omega arith
some_first (Remark text rest) e = omega arith
some_first (Void name attrs slash rest) e = omega arith
some_first (RawElement name attrs [] rest) e = omega arith
some_first (RawElement name attrs (b ∷ bs) rest) e = omega arith
some_first (Element name attrs children rest) e = omega arith

first_some : (f : Forest) → first_held f ≡ true → 0 < first_count f
first_some Nothing e = absurd cc
first_some (Text text rest) e = absurd cc
first_some (Remark text rest) e = absurd cc
first_some (Void name attrs slash rest) e = omega arith
first_some (RawElement name attrs [] rest) e = omega arith
first_some (RawElement name attrs (b ∷ bs) rest) e = omega arith
first_some (Element name attrs children rest) e = omega arith

-- a group has its first element
some_held : (f : Forest) → first_held f ≡ true → 0 < forest_size (part_nodes f)
some_held f h =
    let b = held_begins f h in
    let nodes : part_nodes f ≡ b.nodes = ap (λ p. nodes_in p (first_node f)) b.is in
    omega (arith, ap forest_size nodes, b.counts, first_some f h)

part_by : (f : Forest) (h : Bool) → first_held f ≡ h → has_node f ≡ true → 0 < forest_size (part_nodes f)
part_by f true h e = some_held f h
part_by Nothing false h e = absurd cc
part_by (Text text rest) false h e = omega arith
part_by (Remark text rest) false h e = omega arith
part_by (Void name attrs slash rest) false h e = omega (arith, ap forest_size (single_by (Void name attrs slash rest) rest (is_held attrs) (Single name attrs (start_text name attrs slash) (parts_of rest)) refl h (λ x. rw x refl) refl), some_first (Void name attrs slash rest) refl)
part_by (RawElement name attrs text rest) false h e = omega (arith, ap forest_size (single_by (RawElement name attrs text rest) rest (is_held attrs) (Single name attrs (start_text name attrs false ++ text ++ end_text name) (parts_of rest)) refl h (λ x. rw x refl) refl), some_first (RawElement name attrs text rest) refl)
part_by (Element name attrs children rest) false h e = omega (arith, ap forest_size (single_by (Element name attrs children rest) rest (is_held attrs) (Parent name attrs (parts_of children) (parts_of rest)) refl h (λ x. rw x refl) refl), some_first (Element name attrs children rest) refl)

pub some_part : (f : Forest) → has_node f ≡ true → 0 < forest_size (part_nodes f)
some_part f e = part_by f (first_held f) refl e

pub steps_count : (m : ℕ) (f rest : Forest) → AfterParts m f rest → forest_size rest + m ≤ forest_size f
steps_count zero f rest s = omega (arith, ap forest_size s)
steps_count (suc m) f rest s =
    let later = steps_count m s.0 rest s.3 in
    let counts : forest_size f ≡ forest_size (part_nodes f) + forest_size s.0 = ap forest_size s.2 ∙ count_then (part_nodes f) s.0 in
    omega (arith, later, counts, some_part f s.1)

-- the parts after the first one
pub after_steps : (m : ℕ) (f rest after : Forest) → f ≡ then_forest (part_nodes f) after → AfterParts (suc m) f rest → AfterParts m after rest
after_steps m f rest after is s = subst (λ x. AfterParts m x rest) (cancel (part_nodes f) s.0 after (sym s.2 ∙ is)) s.3

byte_by : (text : List ℕ) (nodes : List Node) (n at : ℕ) (f : Forest) (more : List ForestNode) (end to last byte m : ℕ) (where_is : (end < to) ⊎ (to ≤ end)) → StandsIn text nodes n at f more → (run : PartsTo f n at to last (suc m)) → (s : PartSplit f) → end ≡ n + forest_size (part_nodes f) →
    ((x : Node) → slice_get nodes end ≡ Some x → end < to → byte ≡ x.span.from) → (to ≤ end → byte ≡ last) → byte ≡ at + length (spelling (part_nodes f))
byte_by text nodes n at f more end to last byte m (inl lt) r run s e inside at_last =
    let k : Forest = part_nodes f in
    let counts : forest_size f ≡ forest_size k + forest_size s.after = ap forest_size s.is ∙ count_then k s.after in
    let long = steps_count m s.after run.after (after_steps m f run.after s.after s.is run.steps) in
    let some = some_after s.after end (end + forest_size s.after) (omega (arith, run.to_is, counts, e, lt, long)) refl in
    let shown = shown_after nodes n at k s.after more (subst (λ (x : Forest). ShownFrom nodes n at x more) s.is r.stands.shown) in
    let first = first_of nodes (n + forest_size k) (at + length (spelling k)) s.after more some shown in
    inside first.node (ap (slice_get nodes) e ∙ first.is) lt ∙ first.from
byte_by text nodes n at f more end to last byte zero (inr le) r run s e inside at_last =
    let k : Forest = part_nodes f in
    let same : s.after ≡ run.after = after_steps zero f run.after s.after s.is run.steps in
    let spelled : spelling f ≡ spelling k ++ spelling s.after = ap spelling s.is ∙ spelling_then k s.after in
    let long : length (spelling f) ≡ length (spelling k) + length (spelling s.after) = ap length spelled ∙ length-append (spelling k) (spelling s.after) in
    at_last le ∙ omega (arith, run.byte_is, long, ap (λ x. length (spelling x)) same)
byte_by text nodes n at f more end to last byte (suc m) (inr le) r run s e inside at_last =
    let k : Forest = part_nodes f in
    let counts : forest_size f ≡ forest_size k + forest_size s.after = ap forest_size s.is ∙ count_then k s.after in
    let long = steps_count (suc m) s.after run.after (after_steps (suc m) f run.after s.after s.is run.steps) in
    absurd (omega (arith, run.to_is, counts, e, le, long))

-- the clause of a part
pub passes : (text : List ℕ) (nodes : List Node) (n at : ℕ) (f : Forest) (more : List ForestNode) (end to last byte m : ℕ) → n < to → StandsIn text nodes n at f more → PartsTo f n at to last m → (has_node f ≡ true → end ≡ n + forest_size (part_nodes f)) →
    ((x : Node) → slice_get nodes end ≡ Some x → end < to → byte ≡ x.span.from) → (to ≤ end → byte ≡ last) → PartEnds text nodes n at f more end byte
passes text nodes n at f more end to last byte zero lt r run ends inside at_last = absurd (omega (arith, lt, run.to_is, ap forest_size run.steps))
passes text nodes n at f more end to last byte (suc m) lt r run ends inside at_last =
    let some = run.steps.1 in
    let s = part_split f some in
    let e = ends some in
    passed_by text nodes n at f more end byte r s e (byte_by text nodes n at f more end to last byte m (cases_lt end to) r run s e inside at_last)

-- ---- all parts

take_first : (m : ℕ) (p q : Parts) → has_part p ≡ true → later_of p ≡ q → take_parts m q ≡ q → take_parts (suc m) p ≡ p
take_first m Ended q h l e = absurd cc
take_first m (Words text rest) q h l e = ap (λ x. Words text x) (ap (take_parts m) l ∙ e ∙ sym l)
take_first m (Note text rest) q h l e = ap (λ x. Note text x) (ap (take_parts m) l ∙ e ∙ sym l)
take_first m (Group nodes rest) q h l e = ap (λ x. Group nodes x) (ap (take_parts m) l ∙ e ∙ sym l)
take_first m (Single name attrs source rest) q h l e = ap (λ x. Single name attrs source x) (ap (take_parts m) l ∙ e ∙ sym l)
take_first m (Parent name attrs children rest) q h l e = ap (λ x. Parent name attrs children x) (ap (take_parts m) l ∙ e ∙ sym l)

no_first : (f : Forest) → has_node f ≡ false → f ≡ Nothing
no_first Nothing e = refl
no_first (Text text rest) e = absurd cc
no_first (Remark text rest) e = absurd cc
no_first (Void name attrs slash rest) e = absurd cc
no_first (RawElement name attrs text rest) e = absurd cc
no_first (Element name attrs children rest) e = absurd cc

all_at : (k : ℕ) (f : Forest) (h : Bool) → has_node f ≡ h → forest_size f ≤ suc k → ((x : Forest) → forest_size x ≤ k → (m : ℕ) × AfterParts m x Nothing × (take_parts m (parts_of x) ≡ parts_of x)) → (m : ℕ) × AfterParts m f Nothing × (take_parts m (parts_of f) ≡ parts_of f)
all_at k f false h le rec = let none = no_first f h in (0, none, sym (ap parts_of none))
all_at k f true h le rec =
    let s = part_split f h in
    let counts : forest_size f ≡ forest_size (part_nodes f) + forest_size s.after = ap forest_size s.is ∙ count_then (part_nodes f) s.after in
    let r = rec s.after (omega (arith, counts, le, some_part f h)) in
    (suc r.0, (s.after, h, s.is, r.1), take_first r.0 (parts_of f) (parts_of s.after) (parted f h) s.later r.2)

all_by : (k : ℕ) (f : Forest) → forest_size f ≤ k → (m : ℕ) × AfterParts m f Nothing × (take_parts m (parts_of f) ≡ parts_of f)
all_by k Nothing le = (0, refl, refl)
all_by zero (Text text rest) le = absurd (omega (arith, le))
all_by zero (Remark text rest) le = absurd (omega (arith, le))
all_by zero (Void name attrs slash rest) le = absurd (omega (arith, le))
all_by zero (RawElement name attrs [] rest) le = absurd (omega (arith, le))
all_by zero (RawElement name attrs (b ∷ bs) rest) le = absurd (omega (arith, le))
all_by zero (Element name attrs children rest) le = absurd (omega (arith, le))
all_by (suc k) f le = all_at k f (has_node f) refl le (all_by k)

-- siblings have some number of parts
pub all_parts : (f : Forest) → (m : ℕ) × AfterParts m f Nothing × (take_parts m (parts_of f) ≡ parts_of f)
all_parts f = all_by (forest_size f) f (omega arith)

pub parts_reach : AllParts
parts_reach = λ f n at.
    let all = all_parts f in
    (all.0, record { after = Nothing; steps = all.1; to_is = omega arith; byte_is = omega arith }, all.2)

-- a node that is no part of a group
pub single_count : (nodes : List Node) (n at : ℕ) (f : Forest) (more : List ForestNode) (x : Node) → Stands nodes n at f more → has_node f ≡ true → slice_get nodes n ≡ Some x → first_held f ≡ false → x.next ≡ n + forest_size (part_nodes f)
single_count nodes n at Nothing more x s some is h = absurd cc
single_count nodes n at (Text text rest) more x s some is h = (sibling_is nodes n at (Text text rest) more x s some is).0
single_count nodes n at (Remark text rest) more x s some is h = (sibling_is nodes n at (Remark text rest) more x s some is).0
single_count nodes n at (Void name attrs slash rest) more x s some is h =
    (sibling_is nodes n at (Void name attrs slash rest) more x s some is).0 ∙ ap (λ k. n + forest_size k) (sym (single_by (Void name attrs slash rest) rest (is_held attrs) (Single name attrs (start_text name attrs slash) (parts_of rest)) refl h (λ e. rw e refl) refl))
single_count nodes n at (RawElement name attrs text rest) more x s some is h =
    (sibling_is nodes n at (RawElement name attrs text rest) more x s some is).0 ∙ ap (λ k. n + forest_size k) (sym (single_by (RawElement name attrs text rest) rest (is_held attrs) (Single name attrs (start_text name attrs false ++ text ++ end_text name) (parts_of rest)) refl h (λ e. rw e refl) refl))
single_count nodes n at (Element name attrs children rest) more x s some is h =
    omega (arith, (sibling_is nodes n at (Element name attrs children rest) more x s some is).0, ap forest_size (single_by (Element name attrs children rest) rest (is_held attrs) (Parent name attrs (parts_of children) (parts_of rest)) refl h (λ e. rw e refl) refl))

no_start : (t : Token) (name : List ℕ) (list : List Attr) (slash : Bool) → ((n : Bor (List ℕ)) (attrs : AttrTokens) (span : Span) → t ≡ lent.StartTag n attrs span → ⊥) → ShowsToken t (g.Start name list slash) → ⊥
no_start (lent.StartTag n attrs span) name list slash other s = other n attrs span refl
no_start (lent.EndTag n span) name list slash other s = s
no_start (lent.Chars text span) name list slash other s = s
no_start (lent.Raw text span) name list slash other s = s
no_start (lent.Comment text span) name list slash other s = s

first_shows : (nodes : List Node) (n at : ℕ) (f : Forest) (more : List ForestNode) (x : Node) → Stands nodes n at f more → has_node f ≡ true → slice_get nodes n ≡ Some x → ShowsToken x.token (first_token f)
first_shows nodes n at f more x s some is =
    let first = first_of nodes n at f more some s.shown in
    let same : first.node ≡ x = cc (first.is, is) in
    subst (λ (y : Node). ShowsToken y.token (first_token f)) same first.token

-- what is no element is not held
pub other_held : (nodes : List Node) (n at : ℕ) (f : Forest) (more : List ForestNode) (x : Node) → Stands nodes n at f more → has_node f ≡ true → slice_get nodes n ≡ Some x → ((name : Bor (List ℕ)) (attrs : AttrTokens) (span : Span) → x.token ≡ lent.StartTag name attrs span → ⊥) → first_held f ≡ false
other_held nodes n at Nothing more x s some is other = refl
other_held nodes n at (Text text rest) more x s some is other = refl
other_held nodes n at (Remark text rest) more x s some is other = refl
other_held nodes n at (Void name attrs slash rest) more x s some is other = absurd (no_start x.token name attrs slash other (first_shows nodes n at (Void name attrs slash rest) more x s some is))
other_held nodes n at (RawElement name attrs text rest) more x s some is other = absurd (no_start x.token name attrs false other (first_shows nodes n at (RawElement name attrs text rest) more x s some is))
other_held nodes n at (Element name attrs children rest) more x s some is other = absurd (no_start x.token name attrs false other (first_shows nodes n at (Element name attrs children rest) more x s some is))

-- ---- its source

-- where the source of a part begins and ends
pub record SourceCuts (text : List ℕ) (from byte : ℕ) : Type 0 where
  pub rises : from ≤ byte
  pub within : byte ≤ length text
  pub first : IsCharBoundary text from
  pub last : IsCharBoundary text byte

pub part_begins : (text : List ℕ) (nodes : List Node) (n at : ℕ) (f : Forest) (more : List ForestNode) (x : Node) → StandsIn text nodes n at f more → has_node f ≡ true → slice_get nodes n ≡ Some x → x.span.from ≡ at
part_begins text nodes n at f more x s some is =
    let first = first_of nodes n at f more some s.stands.shown in
    let same : first.node ≡ x = cc (first.is, is) in
    sym (ap (λ (y : Node). y.span.from) same) ∙ first.from

pub source_cuts : (text : List ℕ) (nodes : List Node) (n end byte : ℕ) (x : Node) → (p : SomePart text nodes n end byte) → slice_get nodes n ≡ Some x → SourceCuts text x.span.from byte
source_cuts text nodes n end byte x p is =
    let from = part_begins text nodes n p.at p.forest p.more x p.stands p.some is in
    record {
      rises = omega (arith, from, p.part.byte_is);
      within = p.part.stands.within;
      first = subst (IsCharBoundary text) (sym from) (IsCharBoundary-from_drop text p.at p.stands.within p.stands.utf8);
      last = IsCharBoundary-from_drop text byte p.part.stands.within p.part.stands.utf8;
    }

pub source_by : (text : List ℕ) (nodes : List Node) (n at : ℕ) (f : Forest) (more : List ForestNode) (end byte : ℕ) → StandsIn text nodes n at f more → (p : PartEnds text nodes n at f more end byte) → has_node f ≡ true →
    take (byte - at) (drop at text) ≡ first_source (parts_of f)
source_by text nodes n at f more end byte s p some =
    let k : Forest = part_nodes f in
    let source : first_source (parts_of f) ≡ spelling k = (part_split f some).source in
    let all : drop at text ≡ spelling k ++ (spelling p.after ++ s.following) = s.text_is ∙ ap (λ l. l ++ s.following) (ap spelling p.split ∙ spelling_then k p.after) ∙ append_assoc (spelling k) (spelling p.after) s.following in
    let long : byte - at ≡ length (spelling k) = omega (arith, p.byte_is, ap length source) in
    ap (λ (i : ℕ). take i (drop at text)) long ∙ ap (take (length (spelling k))) all ∙ take-append_seam (spelling k) (spelling p.after ++ s.following) ∙ sym source
