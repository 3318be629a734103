-- Which nodes of a list are bare, whatever bodies references carry.
use Rattle.std.specs.Prelude.{◌≡◌, ℕ, Bool, false, not, ◌&&◌, ◌||◌, List, Option, Some, None}
use Rattle.ve_base.specs.declared.marks.Mark.{Mark}
use Rattle.ve_base.specs.declared.value.Value.{Value}
use Rattle.ve_kinds.specs.declared.kind.Kind.{Kind}
use Rattle.ve_kinds.specs.declared.kind.Kind.TheVariants.{AlienInline, TransInline}
use Rattle.ve_kinds.specs.Table.{kind_same}
use Rattle.model_items.specs.declared.item.Item.{Item}
use Rattle.model_page.specs.References.{Body}
use Rattle.model_page_write.specs.Nodes.{Nodes, Empty, Letter, Node, NodesEnding, first_outer}
use Rattle.model_page_write.specs.Written.{all_stay_inline, has_content, is_bare, is_empty, reads_inline, white_after}
use Rattle.ve_write.specs.Siblings.{View, ending_at}
use Rattle.ve_write.specs.declared.run.Step.{Step}

-- the siblings of the items from a position on, where references carry these bodies
abbrev pub spelled_at : List Value → List Item → ℕ → (ℕ → Option Body) → NodesEnding
spelled_at values items at bodies = ending_at (record { values = values; bodies = bodies }) items at

-- whether the node that comes first is bare
abbrev pub bare_in : Bool → List ℕ → Nodes → Bool
bare_in before closing Empty = false
bare_in before closing (Letter c marks later) = false
bare_in before closing (Node s inside pre later) = is_bare before s inside (white_after later closing)

-- whether the node at a position is bare; the first argument says whether the sibling before it is
abbrev pub IsBareAt : List Value → List Item → Bool → ℕ → Bool → Type 0
IsBareAt values items before at bare =
    (bodies : ℕ → Option Body) →
    let e = spelled_at values items at bodies in
    bare ≡ bare_in before (first_outer e.outer).pre e.here

-- ---- private functions

-- no whitespace stands at a position among siblings
abbrev pub IsTightAt : List Value → List Item → ℕ → Bool → Type 0
IsTightAt values items at tight =
    (bodies : ℕ → Option Body) →
    let e = spelled_at values items at bodies in
    tight ≡ is_empty (white_after e.here (first_outer e.outer).pre)

-- an inline leaf with this source reads as a part of a run again
abbrev pub stays_of : Kind → List Mark → List ℕ → Bool
stays_of kind marks raw = not (kind_same kind TransInline || kind_same kind AlienInline) || not (is_empty marks) || reads_inline raw

-- some content was seen or is still to come, and all leaves to come stay in the run
abbrev pub is_run_in : Bool → Nodes → Bool
is_run_in seen nodes = (seen || has_content nodes) && all_stay_inline nodes

abbrev pub IsRunAt : List Value → List Item → ℕ → Bool → Type 0
IsRunAt values items at run = (bodies : ℕ → Option Body) → run ≡ is_run_in false (spelled_at values items at bodies).here

-- whether it is a run doesn't change when an item is passed; it is none where nothing is given
abbrev pub IsPassed : List Value → List Item → ℕ → Bool → Option Step → Type 0
IsPassed values items at seen None = (bodies : ℕ → Option Body) → is_run_in seen (spelled_at values items at bodies).here ≡ false
IsPassed values items at seen (Some step) =
    (bodies : ℕ → Option Body) →
    is_run_in seen (spelled_at values items at bodies).here ≡ is_run_in step.seen (spelled_at values items step.at bodies).here
