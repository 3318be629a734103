-- Runs, by the item at a position.
use Rattle.std.proofs.Common.{◌≡◌, ℕ, ◌+◌, Bool, true, false, List, [], ◌∷◌, drop, refl, sym, ap, ◌∙◌, Option, Some, None}
use Rattle.std.specs.Prelude.{◌&&◌, ◌||◌, not}
use Rattle.std.specs.List.{slice_get}
use Rattle.ve_base.specs.declared.value.Value.{Value}
use Rattle.ve_base.specs.declared.value.ValueId.{ValueId}
use Rattle.ve_kinds.specs.declared.kind.Kind.{Kind}
use Rattle.model_items.specs.declared.item.Item.{Item}
use Rattle.model_items.specs.declared.item.Item.TheVariants.{Char, Opening, Closing}
use Rattle.model_items.specs.Plain.{value_at, head_in, marks_in, CitesMarks}
use Rattle.model_page.specs.Elements.{is_white_char}
use Rattle.model_page_write.specs.Nodes.{Nodes, Letter, Node, NodesEnding, Start, first_outer}
use Rattle.model_page_write.specs.Written.{is_empty, has_content, all_stay_inline}
use Rattle.ve_write.specs.Siblings.{View, ending_at, Ends, is_end}
use Rattle.ve_write.specs.After.{Follows}
use Rattle.ve_write.specs.declared.ends.After.{After}
use Rattle.ve_write.proofs.SiblingLemmas.{found_at, char_here, opening_here, node_later, none_here, start_of}
use Rattle.ve_write.specs.Bare.{stays_of, is_run_in, spelled_at, IsPassed, IsRunAt}
use Rattle.ve_write.specs.declared.run.Step.{Step}

-- ---- tests

regroup : (s a b h : Bool) → (s || ((a || b) || h)) ≡ ((s || (a || b)) || h)
regroup true a b h = refl
regroup false true b h = refl
regroup false false true h = refl
regroup false false false h = refl

or_true : (s : Bool) → (s || true) ≡ true
or_true true = refl
or_true false = refl

ended : (s : Bool) → ((s || false) && true) ≡ s
ended true = refl
ended false = refl

-- ---- passing one item

pub char_passed : (values : List Value) (items : List Item) (at : ℕ) (ch : ℕ) (marks : Option ValueId) (seen content next : Bool) → slice_get items at ≡ Some (Char ch marks) →
    content ≡ (not (is_white_char ch) || not (is_empty (marks_in (value_at values marks)))) → next ≡ (seen || content) → IsPassed values items at seen (Some (record { at = at + 1; seen = next }))
char_passed values items at ch marks seen content next found is joined bodies =
    let v : View = record { values = values; bodies = bodies } in
    let later = (ending_at v items (at + 1)).here in
    let a = not (is_white_char ch) in
    let b = not (is_empty (marks_in (value_at values marks))) in
    ap (λ (x : NodesEnding). is_run_in seen x.here) (char_here v items at ch marks (found_at items at _ found))
    ∙ ap (λ c. c && all_stay_inline later) (regroup seen a b (has_content later))
    ∙ ap (λ c. is_run_in (seen || c) later) (sym is)
    ∙ ap (λ c. is_run_in c later) (sym joined)

leaf_run : (seen stays : Bool) (later : Nodes) → stays ≡ true → ((seen || true) && (stays && all_stay_inline later)) ≡ is_run_in true later
leaf_run seen stays later passes = ap (λ c. c && (stays && all_stay_inline later)) (or_true seen) ∙ ap (λ c. c && all_stay_inline later) passes

leaf_stops : (seen stays : Bool) (later : Nodes) → stays ≡ false → ((seen || true) && (stays && all_stay_inline later)) ≡ false
leaf_stops seen stays later fails = ap (λ c. c && (stays && all_stay_inline later)) (or_true seen) ∙ ap (λ c. c && all_stay_inline later) fails

leaf_here : (values : List Value) (items : List Item) (at : ℕ) (kind : Kind) (generated : Bool) (head marks pre : Option ValueId) (origin : Option ℕ) (seen : Bool) (bodies : _) →
    slice_get items at ≡ Some (Opening kind generated head marks pre origin) →
    is_run_in seen (spelled_at values items at bodies).here
    ≡ ((seen || true) && (stays_of kind (marks_in (value_at values marks)) (head_in (value_at values head)).raw && all_stay_inline (first_outer (spelled_at values items (at + 1) bodies).outer).later))
leaf_here values items at kind generated head marks pre origin seen bodies found =
    ap (λ (x : NodesEnding). is_run_in seen x.here) (opening_here (record { values = values; bodies = bodies }) items at kind generated head marks pre origin (found_at items at _ found))

pub leaf_passed : (values : List Value) (items : List Item) (at : ℕ) (kind : Kind) (generated : Bool) (head marks pre : Option ValueId) (origin : Option ℕ) (seen stays : Bool) (end : ℕ) (after : After) →
    slice_get items at ≡ Some (Opening kind generated head marks pre origin) → stays ≡ stays_of kind (marks_in (value_at values marks)) (head_in (value_at values head)).raw → stays ≡ true →
    Ends items (at + 1) end → Follows items end after → IsPassed values items at seen (Some (record { at = after.at; seen = true }))
leaf_passed values items at kind generated head marks pre origin seen stays end after found is passes ends follows bodies =
    let v : View = record { values = values; bodies = bodies } in
    leaf_here values items at kind generated head marks pre origin seen bodies found
    ∙ leaf_run seen _ (first_outer (ending_at v items (at + 1)).outer).later (sym is ∙ passes)
    ∙ ap (is_run_in true) (node_later items (at + 1) end after ends follows v)

pub leaf_stopped : (values : List Value) (items : List Item) (at : ℕ) (kind : Kind) (generated : Bool) (head marks pre : Option ValueId) (origin : Option ℕ) (seen stays : Bool) →
    slice_get items at ≡ Some (Opening kind generated head marks pre origin) → stays ≡ stays_of kind (marks_in (value_at values marks)) (head_in (value_at values head)).raw → stays ≡ false →
    IsPassed values items at seen None
leaf_stopped values items at kind generated head marks pre origin seen stays found is fails bodies =
    leaf_here values items at kind generated head marks pre origin seen bodies found ∙ leaf_stops seen _ (first_outer (spelled_at values items (at + 1) bodies).outer).later (sym is ∙ fails)

-- ---- where it ends

pub run_done : (values : List Value) (items : List Item) (from at : ℕ) (seen : Bool) → is_end (drop at items) ≡ true →
    ((bodies : _) → is_run_in false (spelled_at values items from bodies).here ≡ is_run_in seen (spelled_at values items at bodies).here) → IsRunAt values items from seen
run_done values items from at seen h so bodies =
    sym (so bodies ∙ ap (is_run_in seen) (none_here (record { values = values; bodies = bodies }) items at h) ∙ ended seen)
