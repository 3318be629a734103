-- Which limit comes first in the text is which limit the first item is over.
use Rattle.std.specs.Option.{option_or}
use Rattle.std.specs.Prelude.{chars, nat_le, nat_lt, option_map}
use Rattle.std.proofs.Common.{◌≡◌, ◌≤◌, ℕ, suc, ◌+◌, Bool, true, false, if◌then◌else◌, List, [], ◌∷◌, ◌++◌, length, map, Option, Some, None, refl, sym, ap, ◌∙◌, subst, arith}
use Rattle.std.proofs.lemmas.Bool.{le-leb, leb-false, lt-leb, lt-ltb, ltb-false, ltb-true}
use Rattle.std.proofs.lemmas.List.{length-append}
use Rattle.ve_base.specs.Empty.{empty_head}
use Rattle.ve_base.specs.Limits.{max_marks, max_open_kinds}
use Rattle.ve_base.specs.declared.head.Head.{Head}
use Rattle.ve_base.specs.declared.marks.Mark.{Mark}
use Rattle.ve_kinds.specs.Table.{is_content_branch, is_flow, is_inline_leaf}
use Rattle.ve_kinds.specs.Tags.{kind_of_tag}
use Rattle.ve_kinds.specs.declared.kind.Kind.{Kind}
use Rattle.ve_kinds.specs.declared.kind.Kind.TheVariants.{P, Ref}
use Rattle.model_items.specs.declared.plain_item.PlainItem.{PlainItem}
use Rattle.model_items.specs.declared.plain_item.PlainItem.TheVariants.{Char, Closing}
use Rattle.model_spelling.specs.Forest.{Forest, spelling}
use Rattle.model_spelling.specs.Grammar.{Attr as Spelled, Comment, start_text, token_text}
use Rattle.model_page.specs.Convert.{element_made, element_source, group_made, in_flow, inside_of, inside_piece, leaf_made, made_of, marked_around, marks_at, words_before}
use Rattle.model_page.specs.Elements.{is_white}
use Rattle.model_page.specs.Fit.{Annotation, Around, Branch, Content, Fit, Flow, Leaf, Structural, Whole, around_in, fit_of, group_kind, has_child, is_generated, note_kind}
use Rattle.model_page.specs.Heads.{attrs_of, characters, head_with, whole_head}
use Rattle.model_page.specs.Limits.{TooDeep, TooManyMarks, deep_at, limit_of, marked_at}
use Rattle.model_page.specs.Parts.{Ended, Group, Note, Parent, Parts, Single, Words, source_of}
use Rattle.model_page.specs.Pieces.{Made, Owner, Piece, Progress, before_run, chars_piece, in_run, joined_pieces, leaf, leaf_before, no_piece, node, paragraph_before, past, run_closed, run_dropped, run_ended, source_span, with_white}
use Rattle.model_page.specs.ReferenceNodes.{RefNode, ref_of}
use Rattle.model_page_write.specs.Written.{is_empty}
use Rattle.model_page_law.proofs.InlinedLemmas.{is_white-parts}
use Rattle.model_page_law.proofs.KindFits.{FitStands, Sane, fit_stands}
use Rattle.model_page_law.proofs.MarkedLemmas.{FitsContent, FitsContent-kind, Texted, inline-whole_kind}
use Rattle.model_page_law.proofs.ShapeLemmas.{Fine-made_of, Shaped, Shaped-chars, Shaped-inside_piece, Shaped-node, Shaped-none}
use Rattle.model_page_law.proofs.TileLemmas.{run_ended-source}
use Rattle.model_limit_law.specs.Items.{OfKinds, OfMarks, first_over, which}
use Rattle.model_limit_law.proofs.CountLemmas.{FitsIn, InlineIn, NotContent, branch_outside, fits_in, group_inline, leaf_inline, note_inline, ref_inline, whole_inline}
use Rattle.model_limit_law.proofs.FirstLemmas.{one_limit, some_same}
use Rattle.model_limit_law.proofs.LaidLemmas.{Laid, Within, deep_within, ended_none, fits, inner_fits, laid_ended, laid_inside, laid_made, one_within, run_laid, wider}
use Rattle.model_limit_law.proofs.OrderLemmas.{Below, From, Same, over_kept, same_after, same_chars, same_joined, same_leaf, same_node, which_assoc}
use Rattle.model_limit_law.proofs.PlaceLemmas.{MayMark, limit_by, may_mark}
use Rattle.model_limit_law.proofs.BoundLemmas.{In, in_either, in_wider, marked_in}

-- ---- few marks, and too many

few_more : (around : Around) (name : List ℕ) (attrs : List Spelled) → nat_lt (length (marks_at around)) max_marks ≡ true → nat_le (length (marks_at (marked_around around name attrs))) max_marks ≡ true
few_more around name attrs h =
    let low = ltb-true (length (marks_at around)) max_marks h in
    let m : Mark = record { tag = chars name; attrs = attrs_of attrs } in
    let long : length (marks_at around ++ m ∷ []) ≡ length (marks_at around) + 1 = length-append (marks_at around) (m ∷ []) in
    le-leb (length (marks_at around ++ m ∷ [])) max_marks (omega (arith, low, long))

many_more : (marks : List Mark) (m : Mark) → max_marks ≤ length marks → nat_le (length (marks ++ m ∷ [])) max_marks ≡ false
many_more marks m low =
    let long : length (marks ++ m ∷ []) ≡ length marks + 1 = length-append marks (m ∷ []) in
    lt-leb (length (marks ++ m ∷ [])) max_marks (omega (arith, low, long))

few_in : (kind : Kind) → nat_le (length (marks_at (around_in kind))) max_marks ≡ true
few_in kind = by (is_content_branch kind) (is_flow kind)
  where
    by : (b c : Bool) → nat_le (length (marks_at (if b then Content [] else (if c then Flow kind else Structural kind)))) max_marks ≡ true
    by true c = refl
    by false true = refl
    by false false = refl

char_first : (d : ℕ) (marks : List Mark) (text : List ℕ) (ys : List PlainItem) → nat_le (length marks) max_marks ≡ false → is_empty text ≡ false → first_over d (map (λ c. Char c marks) text ++ ys) ≡ Some OfMarks
char_first d marks [] ys many e = cc
char_first d marks (c ∷ text) ys many e = ap (λ b. if b then first_over d (map (λ x. Char x marks) text ++ ys) else Some OfMarks) many

leaf_first : (d : ℕ) (w : Progress) (kind : Kind) (head : Head) (marks : List Mark) (source : List ℕ) (owners : List Owner) (m : Made) → nat_le (length marks) max_marks ≡ false → is_inline_leaf kind ≡ true →
    first_over d (leaf_before w kind head marks source owners m).run.items ≡ Some OfMarks
leaf_first d w kind head marks source owners m many inline =
    let piece = leaf kind head marks (source_span w source) in
    ap (λ b. first_over d (if b then in_run piece source owners m else before_run (past w source owners) piece owners m).run.items) inline
    ∙ ap (λ b. if b then (if nat_lt d max_open_kinds then first_over (suc d) (Closing kind [] ∷ m.run.items) else Some OfKinds) else Some OfMarks) many

group_first : (d : ℕ) (marks : List Mark) (nodes : Forest) (later : Progress → Made) (w : Progress) (r : Option RefNode) → nat_le (length marks) max_marks ≡ false →
    first_over d (group_made (Content marks) nodes later w r).run.items ≡ Some OfMarks
group_first d marks nodes later w (Some r) many = leaf_first d w Ref r.head marks (spelling nodes) r.owners (later (past w (spelling nodes) r.owners)) many refl
group_first d marks nodes later w None many =
    leaf_first d w (group_kind (Content marks) nodes) (whole_head (spelling nodes)) marks (spelling nodes) [] (later (past w (spelling nodes) [])) many (inline-whole_kind (is_generated nodes))

single_first : (d : ℕ) (marks : List Mark) (attrs : List Spelled) (source : List ℕ) (later : Progress → Made) (w : Progress) (children : Parts) (fit : Fit) → FitsContent children fit → nat_le (length marks) max_marks ≡ false →
    first_over d (leaf_made (Content marks) attrs source later w fit).run.items ≡ Some OfMarks
single_first d marks attrs source later w children (Leaf kind) f many = leaf_first d w kind (head_with attrs) marks source [] (later (past w source [])) many f
single_first d marks attrs source later w children (Whole kind) f many = leaf_first d w kind (whole_head source) marks source [] (later (past w source [])) many f
single_first d marks attrs source later w children Annotation f many = leaf_first d w (note_kind (Content marks)) (whole_head source) marks source [] (later (past w source [])) many refl
single_first d marks attrs source later w children (Branch kind) f many = leaf_first d w (note_kind (Content marks)) (whole_head source) marks source [] (later (past w source [])) many refl

-- the first item inside of too many marks has too many
first_is : (parts : Parts) → has_child parts ≡ true → Texted parts → (marks : List Mark) → nat_le (length marks) max_marks ≡ false → (d : ℕ) (w : Progress) → first_over d (made_of (Content marks) parts w).run.items ≡ Some OfMarks
first_is Ended c t marks many d w = cc
first_is (Words text later) c t marks many d w = char_first d marks (characters text) (made_of (Content marks) later (past w text [])).run.items many t.0
first_is (Note text later) c t marks many d w = single_first d marks [] (token_text (Comment text)) (made_of (Content marks) later) w Ended (Whole (note_kind (Content marks))) refl many
first_is (Group nodes later) c t marks many d w = group_first d marks nodes (made_of (Content marks) later) w (ref_of w (Content marks) nodes) many
first_is (Single name attrs source later) c t marks many d w =
    single_first d marks attrs source (made_of (Content marks) later) w Ended (fit_of (Content marks) name Ended) (FitsContent-kind name Ended (kind_of_tag name)) many
first_is (Parent name attrs children later) c t marks many d w =
    by (fit_of (Content marks) name children) (FitsContent-kind name children (kind_of_tag name)) (λ h. first_is children h t.0)
  where
    by : (fit : Fit) → FitsContent children fit → (has_child children ≡ true → (ms : List Mark) → nat_le (length ms) max_marks ≡ false → (e : ℕ) (p : Progress) → first_over e (made_of (Content ms) children p).run.items ≡ Some OfMarks) →
        first_over d (element_made (Content marks) name attrs (element_source name attrs children) (λ a. made_of a children) (made_of (Content marks) later) w fit).run.items ≡ Some OfMarks
    by Annotation f inner =
        let m : Mark = record { tag = chars name; attrs = attrs_of attrs } in
        let inside = made_of (Content (marks ++ m ∷ [])) children (inside_of w name attrs) in
        let high = leb-false (length marks) max_marks many in
        over_kept d inside.run.items (made_of (Content marks) later (past w (element_source name attrs children) inside.owners)).run.items OfMarks
        (inner f (marks ++ m ∷ []) (many_more marks m (omega (arith, high))) d (inside_of w name attrs))
    by (Branch kind) f inner = absurd f
    by (Leaf kind) f inner = single_first d marks attrs (element_source name attrs children) (made_of (Content marks) later) w children (Leaf kind) f many
    by (Whole kind) f inner = single_first d marks attrs (element_source name attrs children) (made_of (Content marks) later) w children (Whole kind) f many

-- ---- what is made, with the position over the limit on marks

-- a run in a flow parent stands in a paragraph
abbrev run_depth : Around → ℕ → ℕ
run_depth (Content marks) d = d
run_depth (Flow kind) d = suc d
run_depth (Structural kind) d = suc d

abbrev Quiet : Around → Made → Option ℕ → Option ℕ → Type 0
Quiet (Content marks) m run later = later ≡ None
Quiet (Flow kind) m run later = is_white m.source ≡ true → run ≡ None
Quiet (Structural kind) m run later = run ≡ None

-- The position over the limit is in the run or in what comes later, and each tells what its first
-- item is over.
record Told (around : Around) (d low : ℕ) (m : Made) (marked : Option ℕ) : Type 0 where
  run_marks : Option ℕ
  later_marks : Option ℕ
  split : marked ≡ option_or run_marks later_marks
  run : Same (run_depth around d) m.run run_marks
  later : Same d m.later later_marks
  run_in : In low (low + length m.source) run_marks
  later_from : From (low + length m.source) later_marks
  quiet : Quiet around m run_marks later_marks

from_either : (low : ℕ) (a b : Option ℕ) → From low a → From low b → From low (option_or a b)
from_either low None b f g = g
from_either low (Some x) b f g = f

from_in : (low lower high : ℕ) (o : Option ℕ) → lower ≤ low → In low high o → From lower o
from_in low lower high o l f = λ n e. let p = f n e in omega (arith, l, p.0)

below_in : (low high higher : ℕ) (o : Option ℕ) → high ≤ higher → In low high o → Below higher o
below_in low high higher o h f = λ n e. let p = f n e in omega (arith, h, p.1)

from_lower : (low lower : ℕ) (o : Option ℕ) → lower ≤ low → From low o → From lower o
from_lower low lower o l f = λ n e. let p = f n e in omega (arith, l, p)

told_from : (around : Around) (d low : ℕ) (m : Made) (marked : Option ℕ) → Told around d low m marked → From low marked
told_from around d low m marked t =
    subst (From low) (sym t.split)
    (from_either low t.run_marks t.later_marks (from_in low low (low + length m.source) t.run_marks (omega arith) t.run_in) (from_lower (low + length m.source) low t.later_marks (omega arith) t.later_from))

quiet_white : (around : Around) (m : Made) (run later : Option ℕ) → NotContent around → Quiet around m run later → is_white m.source ≡ true → run ≡ None
quiet_white (Content marks) m run later n q = absurd n
quiet_white (Flow kind) m run later n q = q
quiet_white (Structural kind) m run later n q = λ white. q

deeper : (around : Around) (d : ℕ) → NotContent around → run_depth around d ≡ suc d
deeper (Content marks) d n = absurd n
deeper (Flow kind) d n = refl
deeper (Structural kind) d n = refl

-- where the run is over
told_ended : (around : Around) (d high : ℕ) (source : List ℕ) (w : Progress) (m : Made) (marked : Option ℕ) → NotContent around → m.source ≡ source → Told around d w.at m marked → Laid w.at high m → Shaped m.run →
    Same d (run_ended source w m).later marked
told_ended around d high [] w m marked n e t l s =
    subst (Same d m.later) (sym (t.split ∙ ap (λ r. option_or r t.later_marks) (quiet_white around m t.run_marks t.later_marks n t.quiet (ap is_white e)))) t.later
told_ended around d high (b ∷ bs) w m marked n e t l s = by (is_white (b ∷ bs)) refl
  where
    by : (c : Bool) → is_white (b ∷ bs) ≡ c → Same d (if c then with_white (chars (b ∷ bs)) (run_dropped m) else paragraph_before (source_span w (b ∷ bs)) m).later marked
    by true white =
        same_after d (chars (b ∷ bs)) m.later marked
        (subst (Same d m.later) (sym (t.split ∙ ap (λ r. option_or r t.later_marks) (quiet_white around m t.run_marks t.later_marks n t.quiet (ap is_white e ∙ white)))) t.later)
    by false colored =
        let mid = w.at + length m.source in
        let span = source_span w (b ∷ bs) in
        let paragraph = node P empty_head [] true span m.run [] in
        let run : Same (suc d) m.run t.run_marks = subst (λ k. Same k m.run t.run_marks) (deeper around d n) t.run in
        let spans : Within w.at mid (span ∷ m.run.spans) = ((omega arith, omega arith), l.run) in
        subst (Same d (joined_pieces paragraph m.later)) (sym t.split)
        (same_joined d mid paragraph m.later t.run_marks t.later_marks (Shaped-node P empty_head [] true span m.run [] s)
        (λ k f. (deep_within d paragraph.items w.at mid paragraph.spans spans k f).1)
        (below_in w.at mid mid t.run_marks (omega arith) t.run_in)
        (λ k f. (deep_within d m.later.items mid high m.later.spans l.later k f).0)
        t.later_from
        (same_node d P empty_head true span m.run [] t.run_marks s (from_in w.at w.at mid t.run_marks (omega arith) t.run_in) run)
        t.later)

-- what a branch holds
told_inside : (around : Around) (d high : ℕ) (w : Progress) (m : Made) (marked : Option ℕ) → Told around d w.at m marked → Laid w.at high m → Shaped m.run → Same d (inside_piece around w m).later marked
told_inside (Content marks) d high w m marked t l s = subst (Same d m.run) (sym (t.split ∙ ap (option_or t.run_marks) t.quiet ∙ none_after t.run_marks)) t.run
  where
    none_after : (o : Option ℕ) → option_or o None ≡ o
    none_after None = refl
    none_after (Some n) = refl
told_inside (Flow kind) d high w m marked t l s = told_ended (Flow kind) d high m.source w m marked tt refl t l s
told_inside (Structural kind) d high w m marked t l s = subst (Same d m.later) (sym (t.split ∙ ap (λ r. option_or r t.later_marks) t.quiet)) t.later

-- what a run takes in is not whitespace, or over no limit
abbrev Plain : Around → List ℕ → Option ℕ → Type 0
Plain (Content marks) source taken = Unit {0}
Plain (Flow kind) source taken = is_white source ≡ true → taken ≡ None
Plain (Structural kind) source taken = taken ≡ None

run_quiet : (around : Around) (piece : Piece) (source : List ℕ) (owners : List Owner) (m : Made) (taken run later : Option ℕ) → Plain around source taken → Quiet around m run later →
    Quiet around (in_run piece source owners m) (option_or taken run) later
run_quiet (Content marks) piece source owners m taken run later p q = q
run_quiet (Flow kind) piece source owners m taken run later p q = λ white.
    let parts = is_white-parts source m.source white in
    (λ i. option_or (p parts.0 i) (q parts.1 i))
run_quiet (Structural kind) piece source owners m taken run later p q = (λ i. option_or (p i) (q i))

told_in_run : (around : Around) (d low high : ℕ) (piece : Piece) (source : List ℕ) (owners : List Owner) (m : Made) (taken marked : Option ℕ) → Shaped piece → Within low (low + length source) piece.spans →
    Same (run_depth around d) piece taken → In low (low + length source) taken → Plain around source taken → Told around d (low + length source) m marked → Laid (low + length source) high m →
    Told around d low (in_run piece source owners m) (option_or taken marked)
told_in_run around d low high piece source owners m taken marked s spans same bound plain t l =
    let mid = low + length source in
    let long = length-append source m.source in
    record {
      run_marks = option_or taken t.run_marks;
      later_marks = t.later_marks;
      split = ap (option_or taken) t.split ∙ sym (which_assoc taken t.run_marks t.later_marks);
      run =
          same_joined (run_depth around d) mid piece m.run taken t.run_marks s
          (λ k f. (deep_within (run_depth around d) piece.items low mid piece.spans spans k f).1)
          (below_in low mid mid taken (omega arith) bound)
          (λ k f. (deep_within (run_depth around d) m.run.items mid (mid + length m.source) m.run.spans l.run k f).0)
          (from_in mid mid (mid + length m.source) t.run_marks (omega arith) t.run_in)
          same t.run;
      later = t.later;
      run_in =
          in_either low (low + length (source ++ m.source)) taken t.run_marks
          (in_wider low low mid (low + length (source ++ m.source)) taken (omega arith) (omega (arith, long)) bound)
          (in_wider mid low (mid + length m.source) (low + length (source ++ m.source)) t.run_marks (omega arith) (omega (arith, long)) t.run_in);
      later_from = from_lower (mid + length m.source) (low + length (source ++ m.source)) t.later_marks (omega (arith, long)) t.later_from;
      quiet = run_quiet around piece source owners m taken t.run_marks t.later_marks plain t.quiet;
    }

none_quiet : (around : Around) (m : Made) (later : Option ℕ) → NotContent around → Quiet around m None later
none_quiet (Content marks) m later n = absurd n
none_quiet (Flow kind) m later n = λ white. refl
none_quiet (Structural kind) m later n = refl

told_before : (around : Around) (d high : ℕ) (w : Progress) (piece : Piece) (source : List ℕ) (added owners : List Owner) (m : Made) (taken marked : Option ℕ) → NotContent around → Shaped piece →
    Within w.at (w.at + length source) piece.spans → Same d piece taken → In w.at (w.at + length source) taken → Told around d (w.at + length source) m marked → Laid (w.at + length source) high m → Shaped m.run →
    Told around d w.at (before_run (past w source added) piece owners m) (option_or taken marked)
told_before around d high w piece source added owners m taken marked n s spans same bound t l shaped =
    let mid = w.at + length source in
    let after = past w source added in
    let closed = run_closed after m in
    let none : length closed.source ≡ 0 = ap length (run_ended-source m.source after m) in
    record {
      run_marks = None;
      later_marks = option_or taken marked;
      split = refl;
      run = subst (λ (p : Piece). Same (run_depth around d) p None) (sym (ended_none m.source after m)) refl;
      later =
          same_joined d mid piece closed.later taken marked s
          (λ k f. (deep_within d piece.items w.at mid piece.spans spans k f).1)
          (below_in w.at mid mid taken (omega arith) bound)
          (λ k f. (deep_within d closed.later.items mid high closed.later.spans (laid_ended high m.source after m refl l) k f).0)
          (told_from around d mid m marked t)
          same (told_ended around d high m.source after m marked n refl t l shaped);
      run_in = λ k f. absurd (never k f);
      later_from =
          from_either (w.at + length closed.source) taken marked
          (from_in w.at (w.at + length closed.source) mid taken (omega (arith, none)) bound)
          (from_lower mid (w.at + length closed.source) marked (omega (arith, none)) (told_from around d mid m marked t));
      quiet = none_quiet around (before_run after piece owners m) (option_or taken marked) n;
    }
  where
    never : (k : ℕ) → ◌≡◌ {A = Option ℕ} None (Some k) → ⊥
    never k f = cc

-- ---- one part

none_in : (low high : ℕ) → In low high None
none_in low high = λ n e. cc

none_plain : (around : Around) (source : List ℕ) → Plain around source None
none_plain (Content marks) source = tt
none_plain (Flow kind) source = λ white. refl
none_plain (Structural kind) source = refl

told_chosen : (around : Around) (d low : ℕ) (marked : Option ℕ) (c : Bool) (a b : Made) → Told around d low a marked → Told around d low b marked → Told around d low (if c then a else b) marked
told_chosen around d low marked true a b f g = f
told_chosen around d low marked false a b f g = g

told_leaf : (around : Around) (d high : ℕ) (w : Progress) (kind : Kind) (head : Head) (source : List ℕ) (owners : List Owner) (m : Made) (marked : Option ℕ) → nat_le (length (marks_at around)) max_marks ≡ true → InlineIn around kind →
    Told around d (w.at + length source) m marked → Laid (w.at + length source) high m → Shaped m.run → Told around d w.at (leaf_before w kind head (marks_at around) source owners m) marked
told_leaf (Content marks) d high w kind head source owners m marked few inline t l s =
    let piece = leaf kind head marks (source_span w source) in
    subst (λ b. Told (Content marks) d w.at (if b then in_run piece source owners m else before_run (past w source owners) piece owners m) marked) (sym inline)
    (told_in_run (Content marks) d w.at high piece source owners m None marked (Shaped-node kind head marks false (source_span w source) no_piece [] Shaped-none) (one_within w source)
    (same_leaf d kind head marks (source_span w source) few) (none_in w.at (w.at + length source)) tt t l)
told_leaf (Flow k) d high w kind head source owners m marked few inline t l s =
    let piece = leaf kind head [] (source_span w source) in
    let shaped = Shaped-node kind head [] false (source_span w source) no_piece [] Shaped-none in
    told_chosen (Flow k) d w.at marked (is_inline_leaf kind) _ _
    (told_in_run (Flow k) d w.at high piece source owners m None marked shaped (one_within w source) (same_leaf (suc d) kind head [] (source_span w source) refl) (none_in w.at (w.at + length source)) (λ white. refl) t l)
    (told_before (Flow k) d high w piece source owners owners m None marked tt shaped (one_within w source) (same_leaf d kind head [] (source_span w source) refl) (none_in w.at (w.at + length source)) t l s)
told_leaf (Structural k) d high w kind head source owners m marked few inline t l s =
    let piece = leaf kind head [] (source_span w source) in
    let shaped = Shaped-node kind head [] false (source_span w source) no_piece [] Shaped-none in
    told_chosen (Structural k) d w.at marked (is_inline_leaf kind) _ _
    (told_in_run (Structural k) d w.at high piece source owners m None marked shaped (one_within w source) (same_leaf (suc d) kind head [] (source_span w source) refl) (none_in w.at (w.at + length source)) refl t l)
    (told_before (Structural k) d high w piece source owners owners m None marked tt shaped (one_within w source) (same_leaf d kind head [] (source_span w source) refl) (none_in w.at (w.at + length source)) t l s)

told_words : (around : Around) (d low high : ℕ) (text : List ℕ) (m : Made) (marked : Option ℕ) → nat_le (length (marks_at around)) max_marks ≡ true → Told around d (low + length text) m marked → Laid (low + length text) high m →
    Told around d low (words_before around text m) marked
told_words (Content marks) d low high text m marked few t l =
    told_in_run (Content marks) d low high (chars_piece marks (characters text)) text [] m None marked (Shaped-chars marks (characters text)) tt (same_chars d marks (characters text) few) (none_in low (low + length text)) tt t l
told_words (Flow kind) d low high text m marked few t l =
    told_in_run (Flow kind) d low high (chars_piece [] (characters text)) text [] m None marked (Shaped-chars [] (characters text)) tt (same_chars (suc d) [] (characters text) refl) (none_in low (low + length text)) (λ white. refl) t l
told_words (Structural kind) d low high text m marked few t l = record {
  run_marks = t.run_marks;
  later_marks = t.later_marks;
  split = t.split;
  run = t.run;
  later = same_after d (chars text) m.later t.later_marks t.later;
  run_in = subst (In low (low + length m.source)) (sym t.quiet) (none_in low (low + length m.source));
  later_from = from_lower (low + length text + length m.source) (low + length m.source) t.later_marks (omega arith) t.later_from;
  quiet = t.quiet;
}

-- what comes after a source, with all that is known of it
record Follows (around : Around) (d low high : ℕ) (m : Made) (marked : Option ℕ) : Type 0 where
  told : Told around d low m marked
  laid : Laid low high m
  shaped : Shaped m.run

told_group : (around : Around) (d high : ℕ) (nodes : Forest) (later : Progress → Made) (w : Progress) (marked : Option ℕ) (r : Option RefNode) → nat_le (length (marks_at around)) max_marks ≡ true →
    ((owners : List Owner) → Follows around d (w.at + length (spelling nodes)) high (later (past w (spelling nodes) owners)) marked) → Told around d w.at (group_made around nodes later w r) marked
told_group around d high nodes later w marked (Some r) few h =
    let f = h r.owners in
    told_leaf around d high w Ref r.head (spelling nodes) r.owners (later (past w (spelling nodes) r.owners)) marked few (ref_inline around) f.told f.laid f.shaped
told_group around d high nodes later w marked None few h =
    let f = h [] in
    told_leaf around d high w (group_kind around nodes) (whole_head (spelling nodes)) (spelling nodes) [] (later (past w (spelling nodes) [])) marked few (group_inline around nodes) f.told f.laid f.shaped

told_single : (around : Around) (d high : ℕ) (attrs : List Spelled) (source : List ℕ) (later : Progress → Made) (w : Progress) (children : Parts) (marked : Option ℕ) (fit : Fit) → FitsIn around children fit →
    nat_le (length (marks_at around)) max_marks ≡ true → Follows around d (w.at + length source) high (later (past w source [])) marked → Told around d w.at (leaf_made around attrs source later w fit) marked
told_single around d high attrs source later w children marked (Leaf kind) i few f =
    told_leaf around d high w kind (head_with attrs) source [] (later (past w source [])) marked few (leaf_inline around children kind i) f.told f.laid f.shaped
told_single around d high attrs source later w children marked (Whole kind) i few f =
    told_leaf around d high w kind (whole_head source) source [] (later (past w source [])) marked few (whole_inline around children kind i) f.told f.laid f.shaped
told_single around d high attrs source later w children marked Annotation i few f =
    told_leaf around d high w (note_kind around) (whole_head source) source [] (later (past w source [])) marked few (note_inline around) f.told f.laid f.shaped
told_single around d high attrs source later w children marked (Branch kind) i few f =
    told_leaf around d high w (note_kind around) (whole_head source) source [] (later (past w source [])) marked few (note_inline around) f.told f.laid f.shaped

-- ---- all parts

abbrev AreTold : Parts → Type 0
AreTold parts =
    (around : Around) → Sane around → nat_le (length (marks_at around)) max_marks ≡ true → (d high : ℕ) (w : Progress) → w.at + length (source_of parts) ≤ high → Told around d w.at (made_of around parts w) (marked_at around parts w.at)

marks_plain : (around : Around) (source : List ℕ) (taken : Option ℕ) → FitStands around Annotation → is_white source ≡ false → Plain around source taken
marks_plain (Content marks) source taken f c = tt
marks_plain (Flow kind) source taken f c = λ white. absurd (let e : true ≡ false = sym white ∙ c in cc)
marks_plain (Structural kind) source taken f c = absurd f

-- where as many marks are open as may be, the element is where the first item gets its 65th
full_same : (d low high : ℕ) (p : Piece) → Within (suc low) high p.spans → first_over d p.items ≡ Some OfMarks → Same d p (Some low)
full_same d low high p spans e = by (deep_at d p.items p.spans) refl ∙ sym e
  where
    by : (o : Option ℕ) → deep_at d p.items p.spans ≡ o → option_map which (one_limit (deep_at d p.items p.spans) (Some low)) ≡ Some OfMarks
    by None f = ap (λ o. option_map which (one_limit o (Some low))) f
    by (Some n) f =
        let bound = deep_within d p.items (suc low) high p.spans spans n f in
        ap (λ o. option_map which (one_limit o (Some low))) f
        ∙ ap (λ c. option_map which (if c then Some (TooManyMarks low) else Some (TooDeep n))) (lt-ltb low n (omega (arith, bound.0)))

told_element : (around : Around) (name : List ℕ) (attrs : List Spelled) (children later : Parts) (d high : ℕ) (w : Progress) (fit : Fit) → FitStands around fit → FitsIn around children fit → MayMark children fit → Texted children →
    nat_le (length (marks_at around)) max_marks ≡ true → AreTold children →
    ((owners : List Owner) → Follows around d (w.at + length (element_source name attrs children)) high (made_of around later (past w (element_source name attrs children) owners))
    (marked_at around later (w.at + length (element_source name attrs children)))) →
    Told around d w.at (element_made around name attrs (element_source name attrs children) (λ a. made_of a children) (made_of around later) w fit)
    (limit_by around name attrs children later w.at (w.at + length (start_text name attrs false)) (w.at + length (element_source name attrs children)) fit)
told_element around name attrs children later d high w Annotation f i mark t few g h = by (nat_lt (length (marks_at around)) max_marks) refl
  where
    by : (b : Bool) → nat_lt (length (marks_at around)) max_marks ≡ b →
        Told around d w.at (element_made around name attrs (element_source name attrs children) (λ a. made_of a children) (made_of around later) w Annotation)
        (if b
        then option_or (marked_at (marked_around around name attrs) children (w.at + length (start_text name attrs false))) (marked_at around later (w.at + length (element_source name attrs children)))
        else Some w.at)
    by true e =
        let a = marked_around around name attrs in
        let p = inside_of w name attrs in
        let end = w.at + length (element_source name attrs children) in
        let inside = made_of a children p in
        let room = inner_fits w.at end name attrs children (omega arith) in
        let l = laid_made children a tt p end room in
        let inner = told_inside a (run_depth around d) end p inside (marked_at a children p.at) (g a tt (few_more around name attrs e) (run_depth around d) end p room) l (Fine-made_of a children p).run in
        let next = h inside.owners in
        told_in_run around d w.at high inside.run (element_source name attrs children) inside.owners (made_of around later (past w (element_source name attrs children) inside.owners)) (marked_at a children p.at)
        (marked_at around later end) (Fine-made_of a children p).run (wider p.at w.at end end inside.run.spans (omega arith) (omega arith) (run_laid p.at end inside l)) inner
        (in_wider p.at w.at (p.at + length (source_of children)) end (marked_at a children p.at) (omega arith) room (marked_in children a p.at))
        (marks_plain around (element_source name attrs children) (marked_at a children p.at) f refl) next.told next.laid
    by false e =
        let a = marked_around around name attrs in
        let m : Mark = record { tag = chars name; attrs = attrs_of attrs } in
        let p = inside_of w name attrs in
        let end = w.at + length (element_source name attrs children) in
        let inside = made_of a children p in
        let room = inner_fits w.at end name attrs children (omega arith) in
        let l = laid_made children a tt p end room in
        let spans = run_laid p.at end inside l in
        let many = many_more (marks_at around) m (ltb-false (length (marks_at around)) max_marks e) in
        let next = h inside.owners in
        told_in_run around d w.at high inside.run (element_source name attrs children) inside.owners (made_of around later (past w (element_source name attrs children) inside.owners)) (Some w.at)
        (marked_at around later end) (Fine-made_of a children p).run (wider p.at w.at end end inside.run.spans (omega arith) (omega arith) spans)
        (full_same (run_depth around d) w.at end inside.run (wider p.at (suc w.at) end end inside.run.spans (omega arith) (omega arith) spans) (first_is children mark t (marks_at around ++ m ∷ []) many (run_depth around d) p))
        (λ n k. let same = some_same w.at n k in (omega (arith, same), omega (arith, same)))
        (marks_plain around (element_source name attrs children) (Some w.at) f refl) next.told next.laid
told_element around name attrs children later d high w (Branch kind) f i mark t few g h =
    let source = element_source name attrs children in
    let a = around_in kind in
    let p = inside_of w name attrs in
    let end = w.at + length source in
    let made = made_of a children p in
    let inside = inside_piece a p made in
    let room = inner_fits w.at end name attrs children (omega arith) in
    let l = laid_made children a f.2 p end room in
    let inner = told_inside a (suc d) end p made (marked_at a children p.at) (g a f.2 (few_in kind) (suc d) end p room) l (Fine-made_of a children p).run in
    let shaped = Shaped-inside_piece a p made (Fine-made_of a children p) in
    let bound = in_wider p.at w.at (p.at + length (source_of children)) end (marked_at a children p.at) (omega arith) room (marked_in children a p.at) in
    let block = node kind (head_with attrs) [] false (source_span w source) inside.later inside.pre in
    let next = h inside.owners in
    told_before around d high w block source inside.owners inside.owners (made_of around later (past w source inside.owners)) (marked_at a children p.at) (marked_at around later end) (branch_outside around children kind i)
    (Shaped-node kind (head_with attrs) [] false (source_span w source) inside.later inside.pre shaped)
    ((omega arith, omega arith), wider p.at w.at end end inside.later.spans (omega arith) (omega arith) (laid_inside end a p made l))
    (same_node d kind (head_with attrs) false (source_span w source) inside.later inside.pre (marked_at a children p.at) shaped (from_in w.at w.at end (marked_at a children p.at) (omega arith) bound) inner)
    bound next.told next.laid next.shaped
told_element around name attrs children later d high w (Leaf kind) f i mark t few g h =
    told_single around d high attrs (element_source name attrs children) (made_of around later) w children (marked_at around later (w.at + length (element_source name attrs children))) (Leaf kind) i few (h [])
told_element around name attrs children later d high w (Whole kind) f i mark t few g h =
    told_single around d high attrs (element_source name attrs children) (made_of around later) w children (marked_at around later (w.at + length (element_source name attrs children))) (Whole kind) i few (h [])

ended_told : (around : Around) (d : ℕ) (w : Progress) → Told around d w.at (made_of around Ended w) None
ended_told around d w = record {
  run_marks = None;
  later_marks = None;
  split = refl;
  run = refl;
  later = refl;
  run_in = none_in w.at (w.at + 0);
  later_from = λ n e. cc;
  quiet = by around;
}
  where
    by : (a : Around) → Quiet a (made_of a Ended w) None None
    by (Content marks) = refl
    by (Flow kind) = λ white. refl
    by (Structural kind) = refl

note_fits_in : (around : Around) → FitsIn around Ended (Whole (note_kind around))
note_fits_in (Content marks) = refl
note_fits_in (Flow kind) = tt
note_fits_in (Structural kind) = tt

follows : (later : Parts) (around : Around) (d high : ℕ) (p : Progress) → Sane around → nat_le (length (marks_at around)) max_marks ≡ true → p.at + length (source_of later) ≤ high →
    Told around d p.at (made_of around later p) (marked_at around later p.at) → Follows around d p.at high (made_of around later p) (marked_at around later p.at)
follows later around d high p s few room t = record { told = t; laid = laid_made later around s p high room; shaped = (Fine-made_of around later p).run }

told_made : (parts : Parts) → Texted parts → AreTold parts
told_made Ended t around s few d high w room = ended_told around d w
told_made (Words text later) t around s few d high w room =
    let p = past w text [] in
    let rest = (fits w.at high text (source_of later) room).1 in
    told_words around d w.at high text (made_of around later p) (marked_at around later p.at) few (told_made later t.1 around s few d high p rest) (laid_made later around s p high rest)
told_made (Note text later) t around s few d high w room =
    let source = token_text (Comment text) in
    let p = past w source [] in
    let rest = (fits w.at high source (source_of later) room).1 in
    told_single around d high [] source (made_of around later) w Ended (marked_at around later p.at) (Whole (note_kind around)) (note_fits_in around) few
    (follows later around d high p s few rest (told_made later t around s few d high p rest))
told_made (Group nodes later) t around s few d high w room =
    let source = spelling nodes in
    let rest = (fits w.at high source (source_of later) room).1 in
    told_group around d high nodes (made_of around later) w (marked_at around later (w.at + length source)) (ref_of w around nodes) few
    (λ owners. follows later around d high (past w source owners) s few rest (told_made later t around s few d high (past w source owners) rest))
told_made (Single name attrs source later) t around s few d high w room =
    let p = past w source [] in
    let rest = (fits w.at high source (source_of later) room).1 in
    told_single around d high attrs source (made_of around later) w Ended (marked_at around later p.at) (fit_of around name Ended) (fits_in around name Ended) few
    (follows later around d high p s few rest (told_made later t around s few d high p rest))
told_made (Parent name attrs children later) t around s few d high w room =
    let source = element_source name attrs children in
    let rest = (fits w.at high source (source_of later) room).1 in
    told_element around name attrs children later d high w (fit_of around name children) (fit_stands around s name children) (fits_in around name children) (may_mark around name children) t.0 few (told_made children t.0)
    (λ owners. follows later around d high (past w source owners) s few rest (told_made later t.1 around s few d high (past w source owners) rest))

-- what stands in a flow parent
pub told_flow : (kind : Kind) → Sane (Flow kind) → (parts : Parts) → Texted parts → (d : ℕ) (w : Progress) → option_map which (limit_of d (Flow kind) parts w.at (in_flow kind parts w)) ≡ first_over d (in_flow kind parts w).later.items
told_flow kind s parts t d w =
    let m = made_of (Flow kind) parts w in
    let high = w.at + length (source_of parts) in
    told_ended (Flow kind) d high m.source w m (marked_at (Flow kind) parts w.at) tt refl (told_made parts t (Flow kind) s refl d high w (omega arith)) (laid_made parts (Flow kind) s w high (omega arith)) (Fine-made_of (Flow kind) parts w).run
