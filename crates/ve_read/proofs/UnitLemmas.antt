-- The first unit of siblings.
use Rattle.std.proofs.Common.{◌≡◌, ℕ, zero, suc, ◌+◌, ◌<◌, Bool, true, false, not, ◌&&◌, if◌then◌else◌, List, [], ◌∷◌, ◌++◌, length, Option, Some, refl, sym, ap, ◌∙◌, subst, append-nil, length-append, arith, true≢false}
use Rattle.std.specs.Prelude.{slice_get, chars}
use Rattle.std.specs.Borrow.{Bor}
use Rattle.std.proofs.lemmas.List.Folds.{list_all-append}
use Rattle.model_spelling.specs.Grammar as g
use Rattle.model_spelling.specs.Grammar.{Comment, token_text, is_text}
use Rattle.model_spelling.specs.Forest.{Forest, Nothing, Text, Remark, Void, RawElement, Element, starts_with_text, spelling, is_forest, then_forest}
use Rattle.model_spelling.specs.ForestNodes.{ForestNode, forest_size}
use Rattle.model_spelling.proofs.AttrReading.{and_left, and_right}
use Rattle.ve_kinds.specs.declared.kind.Kind.{Kind}
use Rattle.model_page.specs.Elements.{is_white, is_white_char, is_held, about_of}
use Rattle.model_page.specs.Parts.{Parts, Ended, Words, Note, Group, Single, Parent, with_held, parts_of, source_of}
use Rattle.model_page.specs.Fit as model
use Rattle.model_page.specs.Fit.{Flow, Structural, Content, fit_of, around_in, group_kind}
use Rattle.model_page.specs.Pieces.{Progress, past, with_white}
use Rattle.ve_html_scan.specs.Shown.{ShowsToken}
use Rattle.ve_html_scan.specs.declared.token.Span.{Span}
use Rattle.ve_html_scan.specs.declared.token.Token.{Token}
use Rattle.ve_html_scan.specs.declared.token.Token.TheVariants as lent
use Rattle.ve_html_tree.specs.declared.node.Node.{Node}
use Rattle.ve_classify.specs.Standing.{Stands, has_node}
use Rattle.ve_classify.specs.Fits.{IsFit, first_fit, same_fit, parent_of}
use Rattle.ve_classify.specs.declared.around.Around.{Around}
use Rattle.ve_classify.specs.declared.around.Around.TheVariants as around
use Rattle.ve_classify.specs.declared.around.Fit.{Fit}
use Rattle.ve_classify.specs.declared.around.Fit.TheVariants as fits
use Rattle.ve_classify.proofs.StandLemmas.{first_of}
use Rattle.ve_classify.proofs.GroupLemmas.{FirstElement, begun, void_first, raw_first, element_first}
use Rattle.ve_classify.specs.FirstPart.{has_part, later_of, first_source, take_parts, part_nodes}
use Rattle.ve_classify.specs.Places.{StandsIn, PartEnds, AfterParts, IsPartEnd}
use Rattle.ve_classify.proofs.PartSource.{parted}
use Rattle.ve_classify.proofs.PartLemmas.{part_split, some_part, some_after}
use Rattle.ve_classify.specs.Runs.{starts_block}
use Rattle.ve_classify.specs.Siblings.{siblings, front, first_block, paragraph}
use Rattle.ve_classify.specs.Units.{Whole, IsInRun, WholeRun, IsRunAt}
use Rattle.ve_classify.proofs.BlockLemmas.{runs_read, white_splits}
use Rattle.ve_classify.proofs.UnitLemmas.{all_to}
use Rattle.ve_read.proofs.PartLemmas.{no_text}
use Rattle.ve_kinds.specs.Table.{is_content_branch, is_flow}
use Rattle.ve_read.specs.declared.units.Sort.TheVariants as sort
use Rattle.ve_read.specs.Places.{holds_blocks}
use Rattle.ve_read.specs.Units.{SomeText, IsTextAt, IsUnitAt}
use Rattle.ve_read.proofs.ParagraphLemmas.{taken_source}

-- ---- a text

text_shown : (nodes : List Node) (n at : ℕ) (text : List ℕ) (rest : Forest) (more : List ForestNode) (x : Node) → Stands nodes n at (Text text rest) more → slice_get nodes n ≡ Some x → ShowsToken x.token (g.Chars text)
text_shown nodes n at text rest more x s is =
    let first = first_of nodes n at (Text text rest) more refl s.shown in
    let same : first.node ≡ x = cc (first.is, is) in
    subst (λ (y : Node). ShowsToken y.token (g.Chars text)) same first.token

pub text_token : (nodes : List Node) (n : ℕ) (x : Node) → SomeText nodes n → slice_get nodes n ≡ Some x → ((lends : Bor (List ℕ)) (span : Span) → x.token ≡ lent.Chars lends span → ⊥) → ⊥
text_token nodes n x s is other = no_text x.token s.text other (text_shown nodes n s.at s.text s.rest s.more x s.stands is)

pub text_is : (nodes : List Node) (n : ℕ) (x : Node) (lends : Bor (List ℕ)) (span : Span) → slice_get nodes n ≡ Some x → x.token ≡ lent.Chars lends span → IsTextAt nodes n lends.now
text_is nodes n x lends span is tag = λ text rest at more s. subst (λ (y : Token). ShowsToken y (g.Chars text)) tag (text_shown nodes n at text rest more x s is)

-- ---- a run of whitespace is one text

-- nodes that begin with no text are no whitespace
tagged_nodes : (f k after : Forest) (more : List ℕ) → f ≡ then_forest k after → 0 < forest_size k → starts_with_text f ≡ false → is_white (spelling k ++ more) ≡ false
tagged_nodes f Nothing after more e n t = absurd (omega (arith, n))
tagged_nodes f (Text text k) after more e n t = absurd (true≢false (sym (ap starts_with_text e) ∙ t))
tagged_nodes f (Remark text k) after more e n t = refl
tagged_nodes f (Void name attrs slash k) after more e n t = refl
tagged_nodes f (RawElement name attrs text k) after more e n t = refl
tagged_nodes f (Element name attrs children k) after more e n t = refl

not_white : (f : Forest) (m : ℕ) → has_node f ≡ true → starts_with_text f ≡ false → is_white (source_of (take_parts (suc m) (parts_of f))) ≡ false
not_white f m some t =
    let s = part_split f some in
    ap is_white (taken_source m (parts_of f) (parted f some))
    ∙ ap (λ x. is_white (x ++ source_of (take_parts m (later_of (parts_of f))))) s.source
    ∙ tagged_nodes f (part_nodes f) s.after _ s.is (some_part f some) t

-- A text of some bytes before other siblings.
record WhiteText (f after : Forest) : Type 0 where
  text : List ℕ
  b : ℕ
  bs : List ℕ
  is : f ≡ Text text after
  bytes : text ≡ b ∷ bs
  white : is_white text ≡ true

some_text : (text : List ℕ) (after f : Forest) → f ≡ Text text after → is_text text ≡ true → is_white text ≡ true → WhiteText f after
some_text [] after f e t w = absurd cc
some_text (b ∷ bs) after f e t w = record { text = b ∷ bs; b = b; bs = bs; is = e; bytes = refl; white = w }

no_text_after : (room : ℕ) (text : List ℕ) (rest : Forest) → is_forest room (Text text rest) ≡ true → not (starts_with_text rest) ≡ true
no_text_after room text rest e = and_right (is_text text) (not (starts_with_text rest)) (and_left (is_text text && not (starts_with_text rest)) (is_forest room rest) e)

is_some_text : (room : ℕ) (text : List ℕ) (rest : Forest) → is_forest room (Text text rest) ≡ true → is_text text ≡ true
is_some_text room text rest e = and_left (is_text text) (not (starts_with_text rest)) (and_left (is_text text && not (starts_with_text rest)) (is_forest room rest) e)

not_not : (b : Bool) → not b ≡ true → b ≡ false
not_not true e = absurd cc
not_not false e = refl

same_rest : (text other : List ℕ) (rest after : Forest) → Text text rest ≡ Text other after → rest ≡ after
same_rest text other rest after e = cc

white_text : (room m : ℕ) (text : List ℕ) (rest after : Forest) → is_forest room (Text text rest) ≡ true → AfterParts (suc m) (Text text rest) after → is_white (source_of (take_parts (suc m) (Words text (parts_of rest)))) ≡ true → WhiteText (Text text rest) after
white_text room zero text rest after allowed t white =
    let one = and_left (is_white text) true (sym (list_all-append is_white_char text []) ∙ white) in
    some_text text after (Text text rest) (t.2 ∙ ap (Text text) t.3) (is_some_text room text rest allowed) one
white_text room (suc m) text rest after allowed t white =
    let same : rest ≡ t.0 = same_rest text text rest t.0 t.2 in
    let some : has_node rest ≡ true = ap has_node same ∙ t.3.1 in
    let later = and_right (is_white text) (is_white (source_of (take_parts (suc m) (parts_of rest)))) (sym (list_all-append is_white_char text (source_of (take_parts (suc m) (parts_of rest)))) ∙ white) in
    absurd (true≢false (sym later ∙ not_white rest m some (not_not (starts_with_text rest) (no_text_after room text rest allowed))))

white_run : (room m : ℕ) (f after : Forest) → is_forest room f ≡ true → starts_block (parts_of f) ≡ false → AfterParts (suc m) f after → is_white (source_of (take_parts (suc m) (parts_of f))) ≡ true → WhiteText f after
white_run room m Nothing after allowed first t white = absurd cc
white_run room m (Text text rest) after allowed first t white = white_text room m text rest after allowed t white
white_run room m (Remark text rest) after allowed first t white = absurd cc
white_run room m (Void name attrs slash rest) after allowed first t white = absurd (true≢false (sym white ∙ not_white (Void name attrs slash rest) m refl refl))
white_run room m (RawElement name attrs text rest) after allowed first t white = absurd (true≢false (sym white ∙ not_white (RawElement name attrs text rest) m refl refl))
white_run room m (Element name attrs children rest) after allowed first t white = absurd (true≢false (sym white ∙ not_white (Element name attrs children rest) m refl refl))

some_parts : (room n end m : ℕ) (f after : Forest) → n < end → n + forest_size f ≡ end + forest_size after → is_forest room f ≡ true → starts_block (parts_of f) ≡ false → AfterParts m f after → is_white (source_of (take_parts m (parts_of f))) ≡ true → WhiteText f after
some_parts room n end zero f after lt to_is allowed first t white = absurd (omega (arith, lt, to_is, ap forest_size t))
some_parts room n end (suc m) f after lt to_is allowed first t white = white_run room m f after allowed first t white

-- it goes before what follows it
flow_goes : (kind : Kind) (text : List ℕ) (b : ℕ) (bs : List ℕ) (rest : Parts) (w : Progress) → text ≡ b ∷ bs → is_white text ≡ true → starts_block rest ≡ true
    → siblings (Flow kind) (Words text rest) w ≡ with_white (chars text) (siblings (Flow kind) rest (past w text []))
flow_goes kind text b bs rest w bytes white next =
    let whole = append-nil text in
    runs_read kind (Words text Ended) rest w b bs refl next (whole ∙ bytes)
    ∙ ap (λ (x : Bool). if x then with_white (chars (text ++ [])) (siblings (Flow kind) rest (past w (text ++ []) [])) else front (paragraph (Words text Ended) w) [] (siblings (Flow kind) rest (past w (text ++ []) []))) (ap is_white whole ∙ white)
    ∙ (λ j. with_white (chars (whole j)) (siblings (Flow kind) rest (past w (whole j) [])))

-- ---- in a flow parent

-- the first part is one of a run
inline_first : (nodes : List Node) (n at : ℕ) (f : Forest) (more : List ForestNode) (inline : Bool) → IsInRun nodes n inline → inline ≡ true → Stands nodes n at f more → has_node f ≡ true → starts_block (parts_of f) ≡ false
inline_first nodes n at f more inline asks is s some = not_not (starts_block (parts_of f)) (sym (asks f at more s some) ∙ is)

pub white_unit : (nodes : List Node) (kind : Kind) (n to byte end place : ℕ) (inline white : Bool) → n < to → n < end → IsInRun nodes n inline → inline ≡ true → IsRunAt nodes n to byte end place white → white ≡ true
    → IsUnitAt nodes (Flow kind) n to byte (record { sort = sort.White; part = record { end = end; byte = place } })
white_unit nodes kind n to byte end place inline white lt more_nodes asks is runs whites = λ text f at more s w.
    let some = some_after f n to lt (sym w.to_is) in
    let first = inline_first nodes n at f more inline asks is s.stands some in
    let run = runs text f at more s w first in
    let so_far = run.so_far in
    let all_white : is_white (source_of (take_parts so_far.parts (parts_of f))) ≡ true = sym so_far.white_is ∙ whites in
    let t = some_parts s.stands.room n end so_far.parts f so_far.run.after more_nodes so_far.run.to_is s.stands.allowed first so_far.run.steps all_white in
    let after : Forest = so_far.run.after in
    record {
      white = t.text;
      after = after;
      is = t.is;
      stands = so_far.stands;
      to_is = so_far.run.to_is;
      byte_is = omega (arith, so_far.run.byte_is, ap (λ x. length (spelling x)) t.is, length-append t.text (spelling after));
      first = first;
      next = run.next;
      goes = λ v. ap (λ x. siblings (Flow kind) (parts_of x) v) t.is ∙ flow_goes kind t.text t.b t.bs (parts_of after) v t.bytes t.white run.next;
    }

pub run_unit : (nodes : List Node) (kind : Kind) (n to byte end place : ℕ) (inline white : Bool) → n < to → IsInRun nodes n inline → inline ≡ true → IsRunAt nodes n to byte end place white → white ≡ false
    → IsUnitAt nodes (Flow kind) n to byte (record { sort = sort.Run; part = record { end = end; byte = place } })
run_unit nodes kind n to byte end place inline white lt asks is runs other = λ text f at more s w.
    let some = some_after f n to lt (sym w.to_is) in
    let first = inline_first nodes n at f more inline asks is s.stands some in
    record { kind = kind; flow = refl; first = first; run = subst (WholeRun text nodes n at f more end place) other (runs text f at more s w first) }

flow_block : (kind : Kind) (p : Parts) → has_part p ≡ true → starts_block p ≡ true → first_block (Flow kind) p ≡ true
flow_block kind Ended h e = absurd cc
flow_block kind (Words text rest) h e = absurd cc
flow_block kind (Note text rest) h e = refl
flow_block kind (Group nodes rest) h e = e
flow_block kind (Single name attrs source rest) h e = e
flow_block kind (Parent name attrs children rest) h e = e

not_false : (b : Bool) → not b ≡ false → b ≡ true
not_false true e = refl
not_false false e = absurd cc

-- where the first part ends
part_of : (text : List ℕ) (nodes : List Node) (n to byte end place at : ℕ) (f : Forest) (more : List ForestNode) → IsPartEnd nodes n to byte end place → StandsIn text nodes n at f more → Whole f n at to byte → PartEnds text nodes n at f more end place
part_of text nodes n to byte end place at f more ends s w = let all = all_to f n at to byte w in ends text f at all.0 more s all.1

pub flow_block_unit : (nodes : List Node) (kind : Kind) (n to byte end place : ℕ) (inline : Bool) → n < to → IsInRun nodes n inline → inline ≡ false → IsPartEnd nodes n to byte end place
    → IsUnitAt nodes (Flow kind) n to byte (record { sort = sort.Block; part = record { end = end; byte = place } })
flow_block_unit nodes kind n to byte end place inline lt asks other ends = λ text f at more s w.
    let some = some_after f n to lt (sym w.to_is) in
    record {
      block = flow_block kind (parts_of f) (parted f some) (not_false (starts_block (parts_of f)) (sym (asks f at more s.stands some) ∙ other));
      part = part_of text nodes n to byte end place at f more ends s w;
    }

-- ---- in a structural parent

abbrev starts_words : Parts → Bool
starts_words Ended = false
starts_words (Words text rest) = true
starts_words (Note text rest) = false
starts_words (Group nodes rest) = false
starts_words (Single name attrs source rest) = false
starts_words (Parent name attrs children rest) = false

no_white : (f : model.Fit) → fits.White ≡ same_fit f → ⊥
no_white model.Annotation e = cc
no_white (model.Leaf k) e = cc
no_white (model.Branch k) e = cc
no_white (model.Whole k) e = cc

words_first : (kind : Kind) (p : Parts) → has_part p ≡ true → fits.White ≡ first_fit (Structural kind) p → starts_words p ≡ true
words_first kind Ended h e = absurd cc
words_first kind (Words text rest) h e = refl
words_first kind (Note text rest) h e = absurd cc
words_first kind (Group nodes rest) h e = absurd cc
words_first kind (Single name attrs source rest) h e = absurd (no_white (fit_of (Structural kind) name Ended) e)
words_first kind (Parent name attrs children rest) h e = absurd (no_white (fit_of (Structural kind) name children) e)

held_words : (held : Bool) (about : Option (List ℕ)) (element : Forest → Forest) (n : ℕ) → FirstElement element about n → (after other : Parts) → starts_words other ≡ false → starts_words (if held then with_held about element after else other) ≡ false
held_words true about element n first after other e = let b = begun about element n first after in ap starts_words b.is
held_words false about element n first after other e = e

-- A text before other siblings.
record TextFirst (f : Forest) : Type 0 where
  text : List ℕ
  rest : Forest
  is : f ≡ Text text rest

text_first : (f : Forest) → starts_words (parts_of f) ≡ true → TextFirst f
text_first Nothing e = absurd cc
text_first (Text text rest) e = record { text = text; rest = rest; is = refl }
text_first (Remark text rest) e = absurd cc
text_first (Void name attrs slash rest) e = absurd (true≢false (sym e ∙ held_words (is_held attrs) (about_of attrs) (Void name attrs slash) 1 (void_first name attrs slash) (parts_of rest) _ refl))
text_first (RawElement name attrs text rest) e =
    absurd (true≢false (sym e ∙ held_words (is_held attrs) (about_of attrs) (RawElement name attrs text) (forest_size (RawElement name attrs text Nothing)) (raw_first name attrs text) (parts_of rest) _ refl))
text_first (Element name attrs children rest) e =
    absurd (true≢false (sym e ∙ held_words (is_held attrs) (about_of attrs) (Element name attrs children) (1 + forest_size children) (element_first name attrs children) (parts_of rest) _ refl))

-- the siblings after a text
after_text : (text : List ℕ) (f rest after : Forest) → f ≡ Text text rest → f ≡ then_forest (part_nodes f) after → f ≡ Text text after
after_text text f rest after e split = split ∙ ap (λ x. then_forest (part_nodes x) after) e

pub structural_white : (nodes : List Node) (kind : Kind) (n to byte end place : ℕ) (fit : Fit) → n < to → IsFit nodes n (around.Structural kind) fit → fit ≡ fits.White → IsPartEnd nodes n to byte end place
    → IsUnitAt nodes (Structural kind) n to byte (record { sort = sort.White; part = record { end = end; byte = place } })
structural_white nodes kind n to byte end place fit lt asks is ends = λ text f at more s w.
    let some = some_after f n to lt (sym w.to_is) in
    let p = part_of text nodes n to byte end place at f more ends s w in
    let t = text_first f (words_first kind (parts_of f) (parted f some) (sym is ∙ asks f at more s.stands some)) in
    let whole = after_text t.text f t.rest p.after t.is p.split in
    record {
      white = t.text;
      after = p.after;
      is = whole;
      stands = p.stands;
      to_is = p.count_is;
      byte_is = p.byte_is ∙ ap (λ x. at + length (first_source (parts_of x))) whole;
      first = ap (λ x. not (starts_with_text x)) whole;
      next = no_text_after s.stands.room t.text p.after (subst (λ x. is_forest s.stands.room x ≡ true) whole s.stands.allowed);
      goes = λ v. ap (λ x. siblings (Structural kind) (parts_of x) v) whole ∙ white_splits kind t.text (parts_of p.after) v;
    }

structural_block : (kind : Kind) (p : Parts) (fit : Fit) → has_part p ≡ true → fit ≡ first_fit (Structural kind) p → (fit ≡ fits.White → ⊥) → first_block (Structural kind) p ≡ true
structural_block kind Ended fit h e other = absurd cc
structural_block kind (Words text rest) fit h e other = absurd (other e)
structural_block kind (Note text rest) fit h e other = refl
structural_block kind (Group nodes rest) fit h e other = refl
structural_block kind (Single name attrs source rest) fit h e other = refl
structural_block kind (Parent name attrs children rest) fit h e other = refl

pub structural_block_unit : (nodes : List Node) (kind : Kind) (n to byte end place : ℕ) (fit : Fit) → n < to → IsFit nodes n (around.Structural kind) fit → (fit ≡ fits.White → ⊥) → IsPartEnd nodes n to byte end place
    → IsUnitAt nodes (Structural kind) n to byte (record { sort = sort.Block; part = record { end = end; byte = place } })
structural_block_unit nodes kind n to byte end place fit lt asks other ends = λ text f at more s w.
    let some = some_after f n to lt (sym w.to_is) in
    record { block = structural_block kind (parts_of f) fit (parted f some) (asks f at more s.stands some) other; part = part_of text nodes n to byte end place at f more ends s w }

-- ---- the children of a kind

flow_holds : (k kind : Kind) (content flow : Bool) → is_content_branch kind ≡ content → is_flow kind ≡ flow → Flow k ≡ (if content then Content [] else (if flow then Flow kind else Structural kind)) → not (is_content_branch k) ≡ true
flow_holds k kind true flow c f e = absurd cc
flow_holds k kind false true c f e = let same : k ≡ kind = cc in ap (λ x. not (is_content_branch x)) same ∙ ap not c
flow_holds k kind false false c f e = absurd cc

structural_holds : (k kind : Kind) (content flow : Bool) → is_content_branch kind ≡ content → is_flow kind ≡ flow → Structural k ≡ (if content then Content [] else (if flow then Flow kind else Structural kind)) → not (is_content_branch k) ≡ true
structural_holds k kind true flow c f e = absurd cc
structural_holds k kind false true c f e = absurd cc
structural_holds k kind false false c f e = let same : k ≡ kind = cc in ap (λ x. not (is_content_branch x)) same ∙ ap not c

-- they stand among blocks, or in content
pub holds : (kind : Kind) (a : Around) → parent_of a ≡ around_in kind → (a ≡ around.Content → ⊥) → holds_blocks (parent_of a) ≡ true
holds kind (around.Flow k) e other = flow_holds k kind (is_content_branch kind) (is_flow kind) refl refl e
holds kind (around.Structural k) e other = structural_holds k kind (is_content_branch kind) (is_flow kind) refl refl e
holds kind around.Content e other = absurd (other refl)
