-- Runs, part by part: what so many parts are, and what one more does.
use Rattle.std.proofs.Common.{◌≡◌, ◌⊎◌, inl, inr, ℕ, zero, suc, ◌+◌, ◌-◌, ◌<◌, ◌≤◌, Bool, true, false, not, ◌&&◌, ◌||◌, List, [], ◌∷◌, ◌++◌, length, drop, Some, refl, sym, ap, ◌∙◌, subst, arith, append_assoc, append-nil}
use Rattle.std.specs.Prelude.{slice_get}
use Rattle.std.specs.List.{list_all}
use Rattle.std.proofs.lemmas.List.{length-append}
use Rattle.std.proofs.lemmas.List.Folds.{list_all-append}
use Rattle.model_spelling.specs.Grammar as g
use Rattle.model_spelling.specs.Grammar.{Attr, Comment, token_text, start_text, end_text}
use Rattle.model_spelling.specs.Forest.{Forest, Nothing, Text, Remark, Void, RawElement, Element, starts_with_text, spelling, then_forest}
use Rattle.model_spelling.specs.ForestNodes.{ForestNode, forest_size}
use Rattle.model_spelling.proofs.ForestLaws.{spelling_then}
use Rattle.model_page.specs.Elements.{is_white, is_white_char}
use Rattle.model_page.specs.Parts.{Parts, Ended, Words, Note, Group, Single, Parent, parts_of, source_of, with_held}
use Rattle.model_page.specs.Fit.{Flow, has_inline_tags}
use Rattle.model_page.specs.Fit as model
use Rattle.model_page.specs.Tags.{is_inline_tag}
use Rattle.model_page.specs.Convert.{element_source}
use Rattle.ve_kinds.specs.declared.kind.Kind.{Kind}
use Rattle.ve_html_scan.specs.Shown.{ShowsToken}
use Rattle.ve_html_scan.specs.declared.token.Token.{Token}
use Rattle.ve_html_tree.specs.declared.node.Node.{Node}
use Rattle.ve_classify.specs.Standing.{Stands, has_node, token_white}
use Rattle.ve_classify.specs.Fits.{first_fit, same_fit, element_fit, group_fit, IsFit, parent_of}
use Rattle.ve_classify.specs.declared.around.Fit.{Fit}
use Rattle.ve_classify.specs.declared.around.Fit.TheVariants as fit
use Rattle.ve_classify.proofs.StandLemmas.{first_of, first_token}
use Rattle.ve_classify.specs.FirstPart.{has_part, later_of, first_source, take_parts, part_nodes}
use Rattle.ve_classify.specs.Places.{StandsIn, PartEnds, PartsTo, AfterParts, IsPartEnd}
use Rattle.ve_classify.proofs.PartSource.{parted}
use Rattle.ve_classify.proofs.PartLemmas.{part_split, some_part, all_parts, some_after, none_after}
use Rattle.ve_classify.specs.Runs.{then_parts, is_run, starts_block}
use Rattle.ve_classify.specs.Units.{Whole, IsInRun, LaterParts, RunTo, WholeRun, IsRunAt}

-- ---- so many parts, and one more

pub parts_more : (m : ℕ) (p q r : Parts) → LaterParts m p q → has_part q ≡ true → later_of q ≡ r → LaterParts (suc m) p r
parts_more zero p q r e h l = (ap has_part e ∙ h, ap later_of e ∙ l)
parts_more (suc m) p q r s h l = (s.0, parts_more m (later_of p) q r s.1 h l)

first_taken : (p : Parts) → has_part p ≡ true → source_of (take_parts 1 p) ≡ first_source p
first_taken Ended h = absurd cc
first_taken (Words text rest) h = append-nil text
first_taken (Note text rest) h = append-nil (token_text (Comment text))
first_taken (Group nodes rest) h = append-nil (spelling nodes)
first_taken (Single name attrs source rest) h = append-nil source
first_taken (Parent name attrs children rest) h = append-nil (element_source name attrs children)

-- the source of one part more
pub taken_source : (m : ℕ) (p q : Parts) → LaterParts m p q → has_part q ≡ true → source_of (take_parts (suc m) p) ≡ source_of (take_parts m p) ++ first_source q
taken_source zero p q e h = first_taken p (ap has_part e ∙ h) ∙ ap first_source e
taken_source (suc m) Ended q s h = let none : false ≡ true = s.0 in absurd cc
taken_source (suc m) (Words text rest) q s h = ap (λ (x : List ℕ). text ++ x) (taken_source m rest q s.1 h) ∙ sym (append_assoc text (source_of (take_parts m rest)) (first_source q))
taken_source (suc m) (Note text rest) q s h =
    ap (λ (x : List ℕ). token_text (Comment text) ++ x) (taken_source m rest q s.1 h) ∙ sym (append_assoc (token_text (Comment text)) (source_of (take_parts m rest)) (first_source q))
taken_source (suc m) (Group nodes rest) q s h =
    ap (λ (x : List ℕ). spelling nodes ++ x) (taken_source m rest q s.1 h) ∙ sym (append_assoc (spelling nodes) (source_of (take_parts m rest)) (first_source q))
taken_source (suc m) (Single name attrs source rest) q s h =
    ap (λ (x : List ℕ). source ++ x) (taken_source m rest q s.1 h) ∙ sym (append_assoc source (source_of (take_parts m rest)) (first_source q))
taken_source (suc m) (Parent name attrs children rest) q s h =
    ap (λ (x : List ℕ). element_source name attrs children ++ x) (taken_source m rest q s.1 h) ∙ sym (append_assoc (element_source name attrs children) (source_of (take_parts m rest)) (first_source q))

and_once : (b : Bool) → (b && true) ≡ not (not b)
and_once true = refl
and_once false = refl

and_assoc : (a b c : Bool) → (a && (b && c)) ≡ ((a && b) && c)
and_assoc true b c = refl
and_assoc false b c = refl

first_runs : (p : Parts) → has_part p ≡ true → is_run (take_parts 1 p) ≡ not (starts_block p)
first_runs Ended h = absurd cc
first_runs (Words text rest) h = refl
first_runs (Note text rest) h = refl
first_runs (Group nodes rest) h = and_once (has_inline_tags nodes)
first_runs (Single name attrs source rest) h = and_once (is_inline_tag name)
first_runs (Parent name attrs children rest) h = and_once (is_inline_tag name)

-- one part more is a run where it is a part of one
pub taken_runs : (m : ℕ) (p q : Parts) → LaterParts m p q → has_part q ≡ true → is_run (take_parts (suc m) p) ≡ (is_run (take_parts m p) && not (starts_block q))
taken_runs zero p q e h = first_runs p (ap has_part e ∙ h) ∙ ap (λ (x : Parts). not (starts_block x)) e
taken_runs (suc m) Ended q s h = let none : false ≡ true = s.0 in absurd cc
taken_runs (suc m) (Words text rest) q s h = taken_runs m rest q s.1 h
taken_runs (suc m) (Note text rest) q s h = refl
taken_runs (suc m) (Group nodes rest) q s h = ap (λ (x : Bool). has_inline_tags nodes && x) (taken_runs m rest q s.1 h) ∙ and_assoc (has_inline_tags nodes) (is_run (take_parts m rest)) (not (starts_block q))
taken_runs (suc m) (Single name attrs source rest) q s h = ap (λ (x : Bool). is_inline_tag name && x) (taken_runs m rest q s.1 h) ∙ and_assoc (is_inline_tag name) (is_run (take_parts m rest)) (not (starts_block q))
taken_runs (suc m) (Parent name attrs children rest) q s h = ap (λ (x : Bool). is_inline_tag name && x) (taken_runs m rest q s.1 h) ∙ and_assoc (is_inline_tag name) (is_run (take_parts m rest)) (not (starts_block q))

-- so many parts, and those after them
pub taken_split : (m : ℕ) (p q : Parts) → LaterParts m p q → p ≡ then_parts (take_parts m p) q
taken_split zero p q e = e
taken_split (suc m) Ended q s = let none : false ≡ true = s.0 in absurd cc
taken_split (suc m) (Words text rest) q s = ap (λ (x : Parts). Words text x) (taken_split m rest q s.1)
taken_split (suc m) (Note text rest) q s = ap (λ (x : Parts). Note text x) (taken_split m rest q s.1)
taken_split (suc m) (Group nodes rest) q s = ap (λ (x : Parts). Group nodes x) (taken_split m rest q s.1)
taken_split (suc m) (Single name attrs source rest) q s = ap (λ (x : Parts). Single name attrs source x) (taken_split m rest q s.1)
taken_split (suc m) (Parent name attrs children rest) q s = ap (λ (x : Parts). Parent name attrs children x) (taken_split m rest q s.1)

steps_more : (m : ℕ) (f a b : Forest) → AfterParts m f a → has_node a ≡ true → a ≡ then_forest (part_nodes a) b → AfterParts (suc m) f b
steps_more zero f a b e h s = subst (λ (x : Forest). AfterParts 1 x b) (sym e) (b, h, s, refl)
steps_more (suc m) f a b p h s = (p.0, p.1, p.2, steps_more m p.0 a b p.3 h s)

-- ---- whitespace

-- a text that begins with a tag is not whitespace
tagged : (source rest more : List ℕ) → source ++ rest ≡ 60 ∷ more → 0 < length source → is_white source ≡ false
tagged [] rest more e n = absurd (omega (arith, n))
tagged (b ∷ bs) rest more e n = let same : b ≡ 60 = cc in rw same refl

-- nodes that begin with no text have a source
some_source : (f k after : Forest) → f ≡ then_forest k after → 0 < forest_size k → starts_with_text f ≡ false → 0 < length (spelling k)
some_source f Nothing after e n t = absurd (omega (arith, n))
some_source f (Text text k) after e n t = let text_first : starts_with_text f ≡ true = ap starts_with_text e in absurd cc
some_source f (Remark text k) after e n t = omega arith
some_source f (Void name attrs slash k) after e n t = omega arith
some_source f (RawElement name attrs text k) after e n t = omega arith
some_source f (Element name attrs children k) after e n t = omega arith

-- the source of the first part, and what follows it
record SourceSplit (f : Forest) : Type 0 where
  after : Forest
  is : spelling f ≡ first_source (parts_of f) ++ spelling after
  some : starts_with_text f ≡ false → 0 < length (first_source (parts_of f))

part_source_is : (f : Forest) → has_node f ≡ true → SourceSplit f
part_source_is f h =
    let p = part_split f h in
    record {
      after = p.after;
      is = ap spelling p.is ∙ spelling_then (part_nodes f) p.after ∙ ap (λ (x : List ℕ). x ++ spelling p.after) (sym p.source);
      some = λ t. subst (λ (x : List ℕ). 0 < length x) (sym p.source) (some_source f (part_nodes f) p.after p.is (some_part f h) t);
    }

-- whether the first part is whitespace, by its first token
white_by : (f : Forest) (source rest : List ℕ) → has_node f ≡ true → spelling f ≡ source ++ rest → (starts_with_text f ≡ false → 0 < length source) → source ≡ first_source (parts_of f) → token_white (first_token f) ≡ is_white source
white_by Nothing source rest h e n s = absurd cc
white_by (Text text later) source rest h e n s = ap is_white (sym s)
white_by (Remark text later) source rest h e n s = sym (tagged source rest _ (sym e) (n refl))
white_by (Void name attrs slash later) source rest h e n s = sym (tagged source rest _ (sym e) (n refl))
white_by (RawElement name attrs text later) source rest h e n s = sym (tagged source rest _ (sym e) (n refl))
white_by (Element name attrs children later) source rest h e n s = sym (tagged source rest _ (sym e) (n refl))

-- ---- whether a part is one of a run

not_inline : (f : model.Fit) → same_fit f ≡ fit.Inline → ⊥
not_inline model.Annotation e = cc
not_inline (model.Leaf k) e = cc
not_inline (model.Branch k) e = cc
not_inline (model.Whole k) e = cc

-- what is answered by a fit, of a part that is one of a run or is not
abbrev Answers : Fit → Bool → Bool → Type 0
Answers f b run = (f ≡ fit.Inline → b ≡ true) → ((f ≡ fit.Inline → ⊥) → b ≡ false) → b ≡ run

group_answers : (k : Kind) (nodes : Forest) (i b : Bool) → has_inline_tags nodes ≡ i → Answers (group_fit (Flow k) nodes) b (not (not (has_inline_tags nodes)))
group_answers k nodes true b e is_so is_not = is_so (rw e refl) ∙ sym (ap (λ (x : Bool). not (not x)) e)
group_answers k nodes false b e is_so is_not =
    is_not (λ q. let w : fit.Whole (model.group_kind (Flow k) nodes) ≡ fit.Inline = sym (rw e refl) ∙ q in cc) ∙ sym (ap (λ (x : Bool). not (not x)) e)

element_answers : (k : Kind) (name : List ℕ) (children : Parts) (i b : Bool) → is_inline_tag name ≡ i → Answers (element_fit (Flow k) name children) b (not (not (is_inline_tag name)))
element_answers k name children true b e is_so is_not = is_so (rw e refl) ∙ sym (ap (λ (x : Bool). not (not x)) e)
element_answers k name children false b e is_so is_not =
    is_not (λ q. let w : same_fit (model.fit_of (Flow k) name children) ≡ fit.Inline = sym (rw e refl) ∙ q in not_inline (model.fit_of (Flow k) name children) w) ∙ sym (ap (λ (x : Bool). not (not x)) e)

pub answers : (k : Kind) (p : Parts) (b : Bool) → has_part p ≡ true → Answers (first_fit (Flow k) p) b (not (starts_block p))
answers k Ended b h = absurd cc
answers k (Words text rest) b h = λ is_so is_not. is_so refl
answers k (Note text rest) b h = λ is_so is_not. is_not (λ e. cc)
answers k (Group nodes rest) b h = group_answers k nodes (has_inline_tags nodes) b refl
answers k (Single name attrs source rest) b h = element_answers k name Ended (is_inline_tag name) b refl
answers k (Parent name attrs children rest) b h = element_answers k name children (is_inline_tag name) b refl

-- the clause, of what is answered by the fit
pub in_run : (nodes : List Node) (n : ℕ) (k : Kind) (r : Fit) (b : Bool) → ((f : Forest) (at : ℕ) (more : List ForestNode) → Stands nodes n at f more → has_node f ≡ true → r ≡ first_fit (Flow k) (parts_of f)) → (r ≡ fit.Inline → b ≡ true) → ((r ≡ fit.Inline → ⊥) → b ≡ false) → IsInRun nodes n b
in_run nodes n k r b is is_so is_not = λ f at more s some.
    let e = is f at more s some in
    answers k (parts_of f) b (parted f some) (λ q. is_so (e ∙ q)) (λ q. is_not (λ x. q (sym e ∙ x)))

-- ---- the loop

-- a part of siblings that reach up to a node and a byte
pub all_to : (f : Forest) (n at to byte : ℕ) → Whole f n at to byte → (m : ℕ) × PartsTo f n at to byte m
all_to f n at to byte w =
    let all = all_parts f in
    (all.0, record { after = Nothing; steps = all.1; to_is = omega (arith, w.to_is); byte_is = omega (arith, w.byte_is) })

part_whole : (text : List ℕ) (nodes : List Node) (n at : ℕ) (f : Forest) (more : List ForestNode) (end byte to last : ℕ) → (p : PartEnds text nodes n at f more end byte) → Whole f n at to last → Whole p.after end byte to last
part_whole text nodes n at f more end byte to last p w = record { to_is = omega (arith, p.count_is, w.to_is); byte_is = omega (arith, p.length_is, w.byte_is) }

-- whether the first part is whitespace, by its token
first_white : (text : List ℕ) (nodes : List Node) (n at : ℕ) (f : Forest) (more : List ForestNode) (end byte : ℕ) (x : Node) (b : Bool) → StandsIn text nodes n at f more → has_node f ≡ true → PartEnds text nodes n at f more end byte → slice_get nodes n ≡ Some x →
    ((k : g.Token) → ShowsToken x.token k → b ≡ token_white k) → b ≡ is_white (first_source (parts_of f))
first_white text nodes n at f more end byte x b s some p is asks =
    let first = first_of nodes n at f more some s.stands.shown in
    let same : first.node ≡ x = cc (first.is, is) in
    let b_is = asks (first_token f) (subst (λ (y : Node). ShowsToken y.token (first_token f)) same first.token) in
    let split = part_source_is f some in
    b_is ∙ white_by f (first_source (parts_of f)) (spelling split.after) some split.is split.some refl

-- what was read of a run so far
pub record SoFar (text : List ℕ) (nodes : List Node) (n at : ℕ) (f : Forest) (more : List ForestNode) (to last end byte : ℕ) (white : Bool) : Type 0 where
  pub run : RunTo text nodes n at f more end byte white
  pub whole : Whole run.run.after end byte to last

abbrev pub IsSoFar : List Node → ℕ → ℕ → ℕ → ℕ → ℕ → Bool → Type 0
IsSoFar nodes n to last end byte white =
    (text : List ℕ) (f : Forest) (at : ℕ) (more : List ForestNode) → StandsIn text nodes n at f more → Whole f n at to last
    → starts_block (parts_of f) ≡ false → SoFar text nodes n at f more to last end byte white

not_false : (b : Bool) → b ≡ false → not b ≡ true
not_false true e = absurd cc
not_false false e = refl

no_block : (f : Forest) → starts_block (parts_of f) ≡ false → has_node f ≡ true
no_block Nothing e = absurd cc
no_block (Text text rest) e = refl
no_block (Remark text rest) e = refl
no_block (Void name attrs slash rest) e = refl
no_block (RawElement name attrs text rest) e = refl
no_block (Element name attrs children rest) e = refl

-- the first part of a run
pub begins : (nodes : List Node) (n to last end byte : ℕ) (white : Bool) (x : Node) → IsPartEnd nodes n to last end byte → slice_get nodes n ≡ Some x → ((k : g.Token) → ShowsToken x.token k → white ≡ token_white k) → IsSoFar nodes n to last end byte white
begins nodes n to last end byte white x part is asks = λ text f at more s w inline.
    let some = no_block f inline in
    let m = all_to f n at to last w in
    let p = part text f at m.0 more s m.1 in
    let has = parted f some in
    record {
      run = record {
        parts = 1;
        run = record { after = p.after; steps = (p.after, some, p.split, refl); to_is = p.count_is; byte_is = p.length_is };
        stands = p.stands;
        is = first_runs (parts_of f) has ∙ not_false (starts_block (parts_of f)) inline;
        later = (has, p.parts);
        white_is = first_white text nodes n at f more end byte x white s some p is asks ∙ ap is_white (sym (first_taken (parts_of f) has));
      };
      whole = part_whole text nodes n at f more end byte to last p w;
    }

-- one part more
pub goes_on : (nodes : List Node) (n to last end byte next after : ℕ) (white inline is_text : Bool) (x : Node) → end < to → IsSoFar nodes n to last end byte white → IsInRun nodes end inline → inline ≡ true → IsPartEnd nodes end to last next after → slice_get nodes end ≡ Some x →
    ((k : g.Token) → ShowsToken x.token k → is_text ≡ token_white k) → (new : Bool) → new ≡ (white && is_text) → IsSoFar nodes n to last next after new
goes_on nodes n to last end byte next after white inline is_text x lt so_far asks is_so part is token new both = λ text f at more s w first.
    let l = so_far text f at more s w first in
    let r = l.run in
    let a : Forest = r.run.after in
    let some = some_after a end to lt (sym l.whole.to_is) in
    let m = all_to a end byte to last l.whole in
    let p = part text a byte m.0 more r.stands m.1 in
    let has = parted a some in
    let here : not (starts_block (parts_of a)) ≡ true = sym (asks a byte more r.stands.stands some) ∙ is_so in
    let text_is : is_text ≡ is_white (first_source (parts_of a)) = first_white text nodes end byte a more next after x is_text r.stands some p is token in
    record {
      run = record {
        parts = suc r.parts;
        run = record {
          after = p.after;
          steps = steps_more r.parts f a p.after r.run.steps some p.split;
          to_is = omega (arith, r.run.to_is, p.count_is);
          byte_is = omega (arith, r.run.byte_is, p.length_is);
        };
        stands = p.stands;
        is = taken_runs r.parts (parts_of f) (parts_of a) r.later has ∙ ap (λ (b : Bool). b && not (starts_block (parts_of a))) r.is ∙ here;
        later = parts_more r.parts (parts_of f) (parts_of a) (parts_of p.after) r.later has p.parts;
        white_is = both ∙ ap (λ (b : Bool). b && is_text) r.white_is ∙ ap (λ (b : Bool). is_white (source_of (take_parts r.parts (parts_of f))) && b) text_is
            ∙ sym (list_all-append is_white_char (source_of (take_parts r.parts (parts_of f))) (first_source (parts_of a))) ∙ sym (ap is_white (taken_source r.parts (parts_of f) (parts_of a) r.later has));
      };
      whole = part_whole text nodes end byte a more next after to last p l.whole;
    }

ended_block : (f : Forest) → f ≡ Nothing → starts_block (parts_of f) ≡ true
ended_block f e = ap (λ (x : Forest). starts_block (parts_of x)) e

not_not : (b : Bool) → not b ≡ false → b ≡ true
not_not true e = refl
not_not false e = absurd cc

-- the run is over: its parent ends, or a block begins
pub run_ends : (nodes : List Node) (n to last end byte : ℕ) (white : Bool) → IsSoFar nodes n to last end byte white → ((a : Forest) (text : List ℕ) (more : List ForestNode) → StandsIn text nodes end byte a more → Whole a end byte to last → starts_block (parts_of a) ≡ true) → IsRunAt nodes n to last end byte white
run_ends nodes n to last end byte white so_far over = λ text f at more s w first.
    let l = so_far text f at more s w first in
    record {
      so_far = l.run;
      split = taken_split l.run.parts (parts_of f) (parts_of l.run.run.after) l.run.later;
      next = over l.run.run.after text more l.run.stands l.whole;
    }

pub over_at_end : (nodes : List Node) (to last end byte : ℕ) → to ≤ end → (a : Forest) (text : List ℕ) (more : List ForestNode) → StandsIn text nodes end byte a more → Whole a end byte to last → starts_block (parts_of a) ≡ true
over_at_end nodes to last end byte le a text more s w = ended_block a (none_after a end to le (sym w.to_is))

pub over_at_block : (nodes : List Node) (to last end byte : ℕ) (inline : Bool) → end < to → IsInRun nodes end inline → inline ≡ false → (a : Forest) (text : List ℕ) (more : List ForestNode) → StandsIn text nodes end byte a more → Whole a end byte to last → starts_block (parts_of a) ≡ true
over_at_block nodes to last end byte inline lt asks is_not a text more s w =
    let some = some_after a end to lt (sym w.to_is) in
    not_not (starts_block (parts_of a)) (sym (asks a byte more s.stands some) ∙ is_not)

pub both_true : (white text new : Bool) → white ≡ true → new ≡ text → new ≡ (white && text)
both_true white text new t e = e ∙ sym (ap (λ (b : Bool). b && text) t)

pub both_false : (white text new : Bool) → white ≡ false → new ≡ white → new ≡ (white && text)
both_false white text new f e = e ∙ f ∙ sym (ap (λ (b : Bool). b && text) f)
