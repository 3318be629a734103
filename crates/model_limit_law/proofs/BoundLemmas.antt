-- Where a limit on marks lies in the text.
use Rattle.std.specs.Option.{option_or}
use Rattle.std.specs.Prelude.{nat_lt}
use Rattle.std.proofs.Common.{◌≡◌, ◌<◌, ◌≤◌, ℕ, ◌+◌, Bool, true, false, if◌then◌else◌, List, ◌++◌, length, Option, Some, None, arith}
use Rattle.std.proofs.lemmas.List.{length-append}
use Rattle.ve_base.specs.Limits.{max_marks}
use Rattle.model_spelling.specs.Forest.{spelling}
use Rattle.model_spelling.specs.Grammar.{Attr as Spelled, Comment, start_text, token_text}
use Rattle.model_page.specs.Convert.{element_source, marked_around, marks_at}
use Rattle.model_page.specs.Fit.{Annotation, Around, Branch, Fit, Leaf, Whole, around_in, fit_of}
use Rattle.model_page.specs.Limits.{marked_at}
use Rattle.model_page.specs.Parts.{Ended, Group, Note, Parent, Parts, Single, Words, source_of}
use Rattle.model_limit_law.proofs.FirstLemmas.{some_same}
use Rattle.model_limit_law.proofs.PlaceLemmas.{limit_by}
use Rattle.model_limit_law.proofs.LaidLemmas.{inner_fits}

abbrev pub In : ℕ → ℕ → Option ℕ → Type 0
In low high o = (n : ℕ) → o ≡ Some n → (low ≤ n) × (n < high)

pub in_either : (low high : ℕ) (a b : Option ℕ) → In low high a → In low high b → In low high (option_or a b)
in_either low high None b f g = g
in_either low high (Some x) b f g = f

pub in_wider : (low lower high higher : ℕ) (o : Option ℕ) → lower ≤ low → high ≤ higher → In low high o → In lower higher o
in_wider low lower high higher o l h f = λ n e. let p = f n e in (omega (arith, l, p.0), omega (arith, h, p.1))

abbrev pub AreIn : Parts → Type 0
AreIn parts = (around : Around) (at : ℕ) → In at (at + length (source_of parts)) (marked_at around parts at)

element_in : (around : Around) (name : List ℕ) (attrs : List Spelled) (children later : Parts) (at high : ℕ) (fit : Fit) → AreIn children → at + length (element_source name attrs children) ≤ high →
    In (at + length (element_source name attrs children)) high (marked_at around later (at + length (element_source name attrs children))) →
    In at high (limit_by around name attrs children later at (at + length (start_text name attrs false)) (at + length (element_source name attrs children)) fit)
element_in around name attrs children later at high fit g room rest = by fit
  where
    later_in : In at high (marked_at around later (at + length (element_source name attrs children)))
    later_in = in_wider (at + length (element_source name attrs children)) at high high (marked_at around later (at + length (element_source name attrs children))) (omega arith) (omega arith) rest

    inner_in : (a : Around) → In at high (marked_at a children (at + length (start_text name attrs false)))
    inner_in a =
        let k = inner_fits at (at + length (element_source name attrs children)) name attrs children (omega arith) in
        in_wider (at + length (start_text name attrs false)) at (at + length (start_text name attrs false) + length (source_of children)) high (marked_at a children (at + length (start_text name attrs false)))
        (omega arith) (omega (arith, k, room)) (g a (at + length (start_text name attrs false)))

    by : (f : Fit) → In at high (limit_by around name attrs children later at (at + length (start_text name attrs false)) (at + length (element_source name attrs children)) f)
    by Annotation = marks (nat_lt (length (marks_at around)) max_marks)
      where
        marks : (b : Bool) → In at high (
            if b
            then option_or (marked_at (marked_around around name attrs) children (at + length (start_text name attrs false))) (marked_at around later (at + length (element_source name attrs children)))
            else Some at)
        marks true = in_either at high _ _ (inner_in (marked_around around name attrs)) later_in
        marks false = λ n e. let same = some_same at n e in (omega (arith, same), omega (arith, same, room))
    by (Branch kind) = in_either at high _ _ (inner_in (around_in kind)) later_in
    by (Leaf kind) = later_in
    by (Whole kind) = later_in

later_part : (at : ℕ) (source rest : List ℕ) (o : Option ℕ) → In (at + length source) (at + length source + length rest) o → In at (at + length (source ++ rest)) o
later_part at source rest o f =
    let long = length-append source rest in
    in_wider (at + length source) at (at + length source + length rest) (at + length (source ++ rest)) o (omega arith) (omega (arith, long)) f

pub marked_in : (parts : Parts) → AreIn parts
marked_in Ended around at = λ n e. cc
marked_in (Words text later) around at = later_part at text (source_of later) (marked_at around later (at + length text)) (marked_in later around (at + length text))
marked_in (Note text later) around at =
    let source = token_text (Comment text) in later_part at source (source_of later) (marked_at around later (at + length source)) (marked_in later around (at + length source))
marked_in (Group nodes later) around at =
    let source = spelling nodes in later_part at source (source_of later) (marked_at around later (at + length source)) (marked_in later around (at + length source))
marked_in (Single name attrs source later) around at = later_part at source (source_of later) (marked_at around later (at + length source)) (marked_in later around (at + length source))
marked_in (Parent name attrs children later) around at =
    let source = element_source name attrs children in
    let long = length-append source (source_of later) in
    element_in around name attrs children later at (at + length (source ++ source_of later)) (fit_of around name children) (marked_in children) (omega (arith, long))
    (in_wider (at + length source) (at + length source) (at + length source + length (source_of later)) (at + length (source ++ source_of later)) (marked_at around later (at + length source)) (omega arith) (omega (arith, long))
    (marked_in later around (at + length source)))
