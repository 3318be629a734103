-- The words that are read off the items of a lawful list are those of its tree.
use Rattle.std.proofs.Common.{◌≡◌, ℕ, zero, suc, ◌+◌, ◌<◌, false, List, [], ◌∷◌, ◌++◌, ◌-◌, length, take, drop, drop-drop, take-append-drop, slice_range, map, replicate, refl, sym, ap, ◌∙◌, arith, append_assoc, append-nil}
use Rattle.ve_kinds.specs.declared.kind.Kind.TheVariants.{Root}
use Rattle.ve_base.specs.declared.value.Value.{Value}
use Rattle.model_items.specs.declared.item.Item.{Item}
use Rattle.model_items.specs.declared.item.Item.TheVariants.{Char, Opening, Closing}
use Rattle.model_items.specs.Law.{Lawful}
use Rattle.model_items.specs.Plain.{plain_list}
use Rattle.model_items.specs.Tree.{Forest, Empty, Run, Branch, tree_of, Shape, Letter, Begin, End, shape_of, shapes, begins_with_run, HasWholeRuns}
use Rattle.model_items.proofs.OnlyLemmas.{tree_has_whole_runs, tree_reads_no_values}
use Rattle.model_items.proofs.TreeLemmas.{tree_spells}
use Rattle.model_world.specs.declared.shown.TreeWord.{TreeWord}
use Rattle.model_world.specs.declared.shown.TreeWord.TheVariants as tree
use Rattle.model_world.specs.Shown.{forest_words, tree_words}
use Rattle.ve_tree.specs.IsTree.{unvalued}
use Rattle.ve_answers.specs.Words.{run_words, words_after}

-- ---- by shapes

abbrev shape_words : ℕ → List Shape → List TreeWord
shape_words count [] = run_words count
shape_words count (Letter ∷ later) = shape_words (suc count) later
shape_words count (Begin kind ∷ later) = run_words count ++ tree.Begin kind ∷ shape_words 0 later
shape_words count (End kind ∷ later) = run_words count ++ tree.End ∷ shape_words 0 later

by_shapes : (values : List Value) (count : ℕ) (items : List Item) → words_after count items ≡ shape_words count (map shape_of (plain_list values items))
by_shapes values count [] = refl
by_shapes values count (Char ch marks ∷ items) = by_shapes values (suc count) items
by_shapes values count (Opening kind generated head marks pre origin ∷ items) = ap (λ ws. run_words count ++ tree.Begin kind ∷ ws) (by_shapes values 0 items)
by_shapes values count (Closing kind pre ∷ items) = ap (λ ws. run_words count ++ tree.End ∷ ws) (by_shapes values 0 items)

letters : (count n : ℕ) (later : List Shape) → shape_words n (replicate count Letter ++ later) ≡ shape_words (n + count) later
letters zero n later = ap (λ m. shape_words m later) (omega arith)
letters (suc count) n later = letters count (suc n) later ∙ ap (λ m. shape_words m later) (omega arith)

-- no character comes first
abbrev NoLetter : List Shape → Type 0
NoLetter [] = Unit {0}
NoLetter (Letter ∷ later) = ⊥
NoLetter (Begin kind ∷ later) = Unit {0}
NoLetter (End kind ∷ later) = Unit {0}

run_ends : (n : ℕ) (later : List Shape) → NoLetter later → shape_words n later ≡ run_words n ++ shape_words 0 later
run_ends n [] none = sym (append-nil (run_words n))
run_ends n (Letter ∷ later) none = absurd none
run_ends n (Begin kind ∷ later) none = refl
run_ends n (End kind ∷ later) none = refl

no_run : (f : Forest) (rest : List Shape) → begins_with_run f ≡ false → NoLetter rest → NoLetter (shapes f ++ rest)
no_run Empty rest e none = none
no_run (Run count later) rest e none = absurd (cc)
no_run (Branch kind inside later) rest e none = tt

some_run : (count : ℕ) → 0 < count → run_words count ≡ tree.Run count ∷ []
some_run zero some = absurd (omega (arith, some))
some_run (suc count) some = refl

forest_is : (f : Forest) (rest : List Shape) → HasWholeRuns f → NoLetter rest → shape_words 0 (shapes f ++ rest) ≡ forest_words f ++ shape_words 0 rest
forest_is Empty rest whole none = refl
forest_is (Run count later) rest whole none =
    ap (shape_words 0) (append_assoc (replicate count Letter) (shapes later) rest)
    ∙ letters count 0 (shapes later ++ rest)
    ∙ ap (λ m. shape_words m (shapes later ++ rest)) (omega arith)
    ∙ run_ends count (shapes later ++ rest) (no_run later rest whole.1 none)
    ∙ ap (λ ws. ws ++ shape_words 0 (shapes later ++ rest)) (some_run count whole.0)
    ∙ ap (λ ws. tree.Run count ∷ ws) (forest_is later rest whole.2 none)
forest_is (Branch kind inside later) rest whole none =
    ap (λ s. tree.Begin kind ∷ shape_words 0 s) (append_assoc (shapes inside) (End kind ∷ shapes later) rest)
    ∙ ap (λ ws. tree.Begin kind ∷ ws) (forest_is inside (End kind ∷ shapes later ++ rest) whole.0 tt)
    ∙ ap (λ ws. tree.Begin kind ∷ (forest_words inside ++ tree.End ∷ ws)) (forest_is later rest whole.1 none)
    ∙ ap (λ ws. tree.Begin kind ∷ ws) (sym (append_assoc (forest_words inside) (tree.End ∷ forest_words later) (shape_words 0 rest)))

pub words_are : (values : List Value) (items : List Item) → Lawful (unvalued items) → words_after 0 items ≡ forest_words (tree_of (plain_list values items))
words_are values items lawful =
    let f = tree_of (unvalued items) in
    by_shapes [] 0 items
    ∙ ap (shape_words 0) (sym (tree_spells (unvalued items) lawful) ∙ sym (append-nil (shapes f)))
    ∙ forest_is f [] (tree_has_whole_runs (unvalued items)) tt
    ∙ append-nil (forest_words f)
    ∙ ap forest_words (tree_reads_no_values [] values items)

-- ---- pieces, and the whole

pub piece_read : (items piece : List Item) (at : ℕ) → piece ≡ slice_range items at (at + length piece) → drop at items ≡ piece ++ drop (at + length piece) items
piece_read items piece at is =
    let count : at + length piece - at ≡ length piece = omega arith in
    sym (take-append-drop (length piece) (drop at items))
    ∙ ap (λ l. l ++ drop (length piece) (drop at items)) (sym (is ∙ ap (λ n. take n (drop at items)) count))
    ∙ ap (λ l. piece ++ l) (drop-drop (length piece) at items)

pub all_words : (values : List Value) (items : List Item) (none first read all : List TreeWord) → Lawful (unvalued items) → none ≡ [] → first ≡ none ++ tree.Begin Root ∷ [] →
    read ≡ first ++ words_after 0 items → all ≡ read ++ tree.End ∷ [] → all ≡ tree_words (tree_of (plain_list values items))
all_words values items none first read all lawful empty begun reads ended =
    ended
    ∙ ap (λ ws. ws ++ tree.End ∷ []) (reads ∙ (λ i. (begun ∙ ap (λ ws. ws ++ tree.Begin Root ∷ []) empty) i ++ words_are values items lawful i))
