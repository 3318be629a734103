-- A fragment by what is read of its text.
use Rattle.std.proofs.Common.{◌≡◌, ℕ, Bool, true, false, ◌&&◌, if◌then◌else◌, List, [], ◌∷◌, ◌++◌, map, Option, Some, None, Result, Ok, Err, refl, sym, ap, ◌∙◌, true≢false}
use Rattle.std.specs.Prelude.{All, IfErr, IfOk, OnOk, option_map}
use Rattle.std.proofs.lemmas.List.{map-append}
use Rattle.std.proofs.lemmas.List.Elements.{All-nil, All-cons}
use Rattle.std.specs.Str.{chars}
use Rattle.model_spelling.specs.Grammar.{Comment, token_text}
use Rattle.model_spelling.specs.Faults.{fault_of}
use Rattle.model_spelling.specs.Forest.{spelling}
use Rattle.model_spelling.proofs.Proved.{law_only}
use Rattle.ve_base.specs.Empty.{empty_head}
use Rattle.ve_base.specs.declared.value.Value.{Value}
use Rattle.ve_kinds.specs.declared.kind.Kind.{Kind}
use Rattle.ve_kinds.specs.declared.kind.Kind.TheVariants.{P}
use Rattle.ve_kinds.specs.Table.{is_flow}
use Rattle.model_items.specs.declared.item.Item.{Item}
use Rattle.model_items.specs.declared.item.Item.TheVariants as item
use Rattle.model_items.specs.declared.plain_item.PlainItem.{PlainItem}
use Rattle.model_items.specs.declared.plain_item.PlainItem.TheVariants.{Char, Opening, Closing}
use Rattle.model_items.specs.Plain.{plain_list, CitesWell}
use Rattle.model_change.specs.Store.{cited, fill}
use Rattle.model_page.specs.Elements.{is_white, is_white_char}
use Rattle.model_page.specs.Fit.{Around, around_in}
use Rattle.model_page.specs.Fragment.{context_of, item_unmade, pieces_in}
use Rattle.model_page.specs.Limits.{TooDeep, TooManyMarks, marked_at}
use Rattle.model_page.specs.PageItems.{or_nothing}
use Rattle.model_page.specs.Parts.{Parts, Ended, Words, Note, Group, Single, Parent, parts_of, source_of}
use Rattle.ve_html_tree.specs.declared.node.Node.{Node}
use Rattle.ve_classify.proofs.SourceLemmas.{parts_of-source}
use Rattle.ve_classify.specs.Context.{OfRead, context_in}
use Rattle.ve_reader.specs.declared.purpose.Purpose.TheVariants as purpose
use Rattle.ve_reader.specs.ReadSoFar.{ReadSoFar, nothing_read}
use Rattle.ve_read.specs.Blocks.{siblings_limit, with_siblings}
use Rattle.ve_read.specs.declared.fragments.FragmentFault.{FragmentFault}
use Rattle.ve_read.specs.declared.fragments.FragmentFault.TheVariants as fault
use Rattle.ve_read.specs.Forests.{AreNodesOf, parts_in}
use Rattle.ve_read.specs.Fragments.{IsMisspelled, IsOverMarks, IsReadIn, OverMarks, RefusesFragment, fragment_in, is_blank_in, items_in, limit_in, paragraph_of, pieces_of}
use Rattle.ve_read.proofs.AnewLemmas.{filled_once}

-- ---- the text and the kind that it fits

pub spelled_right : (text : List ℕ) (nodes : List Node) → AreNodesOf text nodes → fault_of text ≡ None
spelled_right text nodes found = (law_only text found.0 found.1).0

pub source_in : (text : List ℕ) (nodes : List Node) → AreNodesOf text nodes → source_of (parts_in text) ≡ text
source_in text nodes found =
    ap (λ f. source_of (parts_of (or_nothing f))) (law_only text found.0 found.1).1 ∙ parts_of-source found.0 ∙ sym found.1.text_is

pub context_is : (text : List ℕ) (nodes : List Node) (stack : List Kind) (kind : Kind) → AreNodesOf text nodes → OfRead text nodes (context_in stack) kind → kind ≡ context_of (parts_in text) stack
context_is text nodes stack kind found given =
    given found.0 found.1 found.2 ∙ ap (λ f. context_in stack (or_nothing f)) (sym (law_only text found.0 found.1).1)

-- ---- the items

-- a fragment, by the kind that it fits and whether it is whitespace where blocks may stand
abbrev fragment_by : Kind → Parts → Bool → List PlainItem
fragment_by kind parts white = if white then paragraph_of (chars (source_of parts)) else map item_unmade (pieces_in kind parts).later.items

module _ (text : List ℕ) (nodes : List Node) (stack : List Kind) (kind : Kind) (found : AreNodesOf text nodes) (given : OfRead text nodes (context_in stack) kind) where
  pub fragment_is : fragment_in stack text ≡ items_in kind text
  fragment_is =
      let P = parts_in text in
      let k : context_of P stack ≡ kind = sym (context_is text nodes stack kind found given) in
      let source = source_in text nodes found in
      (λ j. fragment_by (k j) P (is_flow (k j) && is_white (source_of P)))
      ∙ ap (λ s. if is_flow kind && is_white s then paragraph_of (chars s) else pieces_of kind text) source

  pub limit_is : limit_in stack text ≡ marked_at (around_in kind) (parts_in text) 0
  limit_is = ap (λ k. marked_at (around_in k) (parts_in text) 0) (sym (context_is text nodes stack kind found given))

pub blank_is : (kind : Kind) (text : List ℕ) (b : Bool) → b ≡ is_blank_in kind text → b ≡ true → items_in kind text ≡ paragraph_of (chars text)
blank_is kind text b e h = ap (λ x. if x then paragraph_of (chars text) else pieces_of kind text) (sym e ∙ h)

pub other_is : (kind : Kind) (text : List ℕ) (b : Bool) → b ≡ is_blank_in kind text → b ≡ false → items_in kind text ≡ pieces_of kind text
other_is kind text b e h = ap (λ x. if x then paragraph_of (chars text) else pieces_of kind text) (sym e ∙ h)

-- ---- whitespace has no marks

second_true : (a b : Bool) → (a && b) ≡ true → b ≡ true
second_true true b e = e
second_true false b e = absurd (true≢false (sym e))

later_white : (a b : List ℕ) → is_white (a ++ b) ≡ true → is_white b ≡ true
later_white [] b h = h
later_white (c ∷ a) b h = later_white a b (second_true (is_white_char c) (is_white (a ++ b)) h)

none_marked : (around : Around) (parts : Parts) (at : ℕ) → is_white (source_of parts) ≡ true → marked_at around parts at ≡ None
none_marked around Ended at h = refl
none_marked around (Words text later) at h = none_marked around later _ (later_white text (source_of later) h)
none_marked around (Note text later) at h = none_marked around later _ (later_white (token_text (Comment text)) (source_of later) h)
none_marked around (Group nodes later) at h = none_marked around later _ (later_white (spelling nodes) (source_of later) h)
none_marked around (Single name attrs source later) at h = none_marked around later _ (later_white source (source_of later) h)
none_marked around (Parent name attrs children later) at h = absurd (true≢false (sym h))

pub blank_within : (text : List ℕ) (nodes : List Node) (kind : Kind) (b : Bool) → AreNodesOf text nodes → b ≡ is_blank_in kind text → b ≡ true → marked_at (around_in kind) (parts_in text) 0 ≡ None
blank_within text nodes kind b found e h =
    none_marked (around_in kind) (parts_in text) 0 (ap is_white (source_in text nodes found) ∙ second_true (is_flow kind) (is_white text) (sym e ∙ h))

-- ---- a paragraph of characters

-- as it is made
abbrev pub letters_between : List ℕ → List Item
letters_between text = item.Opening P false None None None None ∷ map (λ c. item.Char c None) text ++ item.Closing P None ∷ []

letters_read : (values : List Value) (text : List ℕ) → plain_list values (map (λ c. item.Char c None) text ++ item.Closing P None ∷ []) ≡ map (λ c. Char c []) text ++ Closing P [] ∷ []
letters_read values [] = refl
letters_read values (c ∷ text) = ap (λ l. Char c [] ∷ l) (letters_read values text)

pub paragraph_reads : (values : List Value) (text : List ℕ) → plain_list values (letters_between text) ≡ paragraph_of text
paragraph_reads values text = ap (λ l. Opening P empty_head [] [] None false ∷ l) (letters_read values text)

letters_cite : (values : List Value) (text : List ℕ) → All (CitesWell values) (map (λ c. item.Char c None) text ++ item.Closing P None ∷ [])
letters_cite values [] = All-cons (CitesWell values) (item.Closing P None) [] tt (All-nil (CitesWell values))
letters_cite values (c ∷ text) = All-cons (CitesWell values) (item.Char c None) (map (λ c. item.Char c None) text ++ item.Closing P None ∷ []) tt (letters_cite values text)

pub paragraph_cites : (values : List Value) (text : List ℕ) → All (CitesWell values) (letters_between text)
paragraph_cites values text =
    All-cons (CitesWell values) (item.Opening P false None None None None) (map (λ c. item.Char c None) text ++ item.Closing P None ∷ []) (tt, tt, tt) (letters_cite values text)

abbrev pub letters_so_far : List ℕ → List Item
letters_so_far text = item.Opening P false None None None None ∷ map (λ c. item.Char c None) text

pub letters_more : (yielded : List ℕ) (ch : ℕ) (made all : List Item) → made ≡ letters_so_far yielded → all ≡ made ++ item.Char ch None ∷ [] → all ≡ letters_so_far (yielded ++ ch ∷ [])
letters_more yielded ch made all so_far is =
    is ∙ ap (λ l. l ++ item.Char ch None ∷ []) so_far ∙ ap (λ l. item.Opening P false None None None None ∷ l) (sym (map-append (λ c. item.Char c None) yielded (ch ∷ [])))

pub letters_whole : (yielded text : List ℕ) (made all : List Item) → made ≡ letters_so_far yielded → yielded ≡ text → all ≡ made ++ item.Closing P None ∷ [] → all ≡ letters_between text
letters_whole yielded text made all so_far whole is = is ∙ ap (λ l. l ++ item.Closing P None ∷ []) (so_far ∙ ap letters_so_far whole)

letters_bring : (text : List ℕ) → cited (map (λ c. Char c []) text ++ Closing P [] ∷ []) ≡ []
letters_bring [] = refl
letters_bring (c ∷ text) = letters_bring text

pub paragraph_brings : (values : List Value) (items : List PlainItem) (text : List ℕ) → items ≡ paragraph_of text → values ≡ fill values (cited items)
paragraph_brings values items text e = ap (fill values) (sym (letters_bring text)) ∙ ap (λ p. fill values (cited p)) (sym e)

-- ---- what is read in the kind

pub pieces_read : (text : List ℕ) (kind : Kind) (start r : ReadSoFar) → start ≡ nothing_read purpose.Fragment → r ≡ with_siblings (around_in kind) (parts_in text) 0 start → r.items ≡ pieces_of kind text
pieces_read text kind start r first e = ap (λ (x : ReadSoFar). x.items) (e ∙ ap (with_siblings (around_in kind) (parts_in text) 0) first)

some_marked : (m : Option ℕ) (at : ℕ) → option_map (λ n. TooManyMarks n) m ≡ Some (TooManyMarks at) → m ≡ Some at
some_marked None at h = absurd cc
some_marked (Some n) at h = cc

none_deep : (m : Option ℕ) (at : ℕ) → option_map (λ n. TooManyMarks n) m ≡ Some (TooDeep at) → ⊥
none_deep None at h = cc
none_deep (Some n) at h = cc

none_over : (m : Option ℕ) → option_map (λ n. TooManyMarks n) m ≡ None → m ≡ None
none_over None h = refl
none_over (Some n) h = absurd cc

module _ (text : List ℕ) (kind : Kind) (start : ReadSoFar) (first : start ≡ nothing_read purpose.Fragment) where
  limit_is_of : siblings_limit (around_in kind) (parts_in text) 0 start ≡ option_map (λ n. TooManyMarks n) (marked_at (around_in kind) (parts_in text) 0)
  limit_is_of = ap (siblings_limit (around_in kind) (parts_in text) 0) first

  pub mark_over : (at : ℕ) → siblings_limit (around_in kind) (parts_in text) 0 start ≡ Some (TooManyMarks at) → marked_at (around_in kind) (parts_in text) 0 ≡ Some at
  mark_over at h = some_marked (marked_at (around_in kind) (parts_in text) 0) at (sym limit_is_of ∙ h)

  pub never_deep : (at : ℕ) → siblings_limit (around_in kind) (parts_in text) 0 start ≡ Some (TooDeep at) → ⊥
  never_deep at h = none_deep (marked_at (around_in kind) (parts_in text) 0) at (sym limit_is_of ∙ h)

  pub marks_within : siblings_limit (around_in kind) (parts_in text) 0 start ≡ None → marked_at (around_in kind) (parts_in text) 0 ≡ None
  marks_within h = none_over (marked_at (around_in kind) (parts_in text) 0) (sym limit_is_of ∙ h)

-- ---- what refuses a fragment

pub misspelled_so : (e : FragmentFault) (stack : List Kind) (text : List ℕ) → IsMisspelled e (fault_of text) → RefusesFragment e stack text
misspelled_so (fault.Html f) stack text h = h
misspelled_so (fault.TooManyMarks at) stack text h = absurd h
misspelled_so fault.Memory stack text h = tt

pub over_so : (e : FragmentFault) (stack : List Kind) (text : List ℕ) (limit : Option ℕ) → fault_of text ≡ None → limit_in stack text ≡ limit → IsOverMarks e limit → RefusesFragment e stack text
over_so (fault.Html f) stack text limit spelled same h = absurd h
over_so (fault.TooManyMarks at) stack text limit spelled same h = (spelled, same ∙ h)
over_so fault.Memory stack text limit spelled same h = tt

-- by what came of reading it
pub spelled_by : {A : Type 0} (text : List ℕ) (r : Result A FragmentFault) → fault_of text ≡ None → OnOk r (fault_of text ≡ None)
spelled_by text (Ok x) h = h
spelled_by text (Err e) h = tt

pub grown_by : (kind : Kind) (text : List ℕ) (old new : List Value) (items : List PlainItem) (r : Result (List Item) FragmentFault) → items ≡ items_in kind text → IfOk r (IsReadIn kind text old new)
    → OnOk r (new ≡ fill old (cited items))
grown_by kind text old new items (Ok x) is h = h.filled ∙ ap (λ p. fill old (cited p)) (sym is)
grown_by kind text old new items (Err e) is h = tt

pub within_by : {A : Type 0} (r : Result A FragmentFault) (stack : List Kind) (text : List ℕ) (limit : Option ℕ) → limit_in stack text ≡ limit → OverMarks r limit → OnOk r (limit_in stack text ≡ None)
within_by (Ok x) stack text limit same h = same ∙ h
within_by (Err e) stack text limit same h = tt

pub refused_by : {A : Type 0} (r : Result A FragmentFault) (stack : List Kind) (text : List ℕ) (limit : Option ℕ) → fault_of text ≡ None → limit_in stack text ≡ limit → OverMarks r limit
    → IfErr r (λ e. RefusesFragment e stack text)
refused_by (Ok x) stack text limit spelled same h = tt
refused_by (Err e) stack text limit spelled same h = over_so e stack text limit spelled same h

-- ---- what is handed over

pub blank_read : (kind : Kind) (text : List ℕ) (values : List Value) (made : List Item) (b : Bool) → b ≡ is_blank_in kind text → b ≡ true → plain_list values made ≡ paragraph_of (chars text)
    → All (CitesWell values) made → IsReadIn kind text values values made
blank_read kind text values made b e h reads cites =
    let is = blank_is kind text b e h in
    record { items = reads ∙ sym is; cites = cites; filled = paragraph_brings values (items_in kind text) (chars text) is }

pub other_read : (kind : Kind) (text : List ℕ) (old new vs : List Value) (list made : List Item) (b : Bool) → b ≡ is_blank_in kind text → b ≡ false → plain_list vs list ≡ pieces_of kind text
    → vs ≡ fill [] (cited (pieces_of kind text)) → plain_list new made ≡ plain_list vs list → All (CitesWell new) made → new ≡ fill old vs → IsReadIn kind text old new made
other_read kind text old new vs list made b e h pieces once reads cites grown =
    let is = other_is kind text b e h in
    record {
      items = reads ∙ pieces ∙ sym is;
      cites = cites;
      filled = grown ∙ ap (fill old) once ∙ filled_once old (cited (pieces_of kind text)) ∙ ap (λ p. fill old (cited p)) (sym is);
    }
