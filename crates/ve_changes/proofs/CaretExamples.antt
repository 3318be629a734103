-- A paragraph with a line break between two characters: what may be selected there, and what is
-- erased.
use Rattle.std.proofs.Common.{◌≡◌, List, [], ◌∷◌, None, false, Ok, Err, refl}
use Rattle.ve_kinds.specs.declared.kind.Kind.TheVariants.{P, Br, InternalList}
use Rattle.model_items.specs.declared.item.Item.{Item}
use Rattle.model_items.specs.declared.item.Item.TheVariants as item
use Rattle.model_items.specs.declared.plain_item.PlainItem.{PlainItem}
use Rattle.model_items.specs.Plain.{plain_list}
use Rattle.model_edit.specs.declared.selection.Dir.TheVariants.{Back, Ahead}
use Rattle.model_edit.specs.declared.selection.By.TheVariants.{Cluster, Word}
use Rattle.model_edit.specs.Translate.{between}
use Rattle.model_world.specs.declared.refusal.Refusal.TheVariants.{BadOffset, Edge, NotContent}
use Rattle.ve_changes.specs.Carets.{range_to_erase, selection_between}

-- <p>a<br>b</p>
abbrev written : List Item
written =
    item.Opening P false None None None None
    ∷ item.Char 97 None
    ∷ item.Opening Br false None None None None
    ∷ item.Closing Br None
    ∷ item.Char 98 None
    ∷ item.Closing P None
    ∷ item.Opening InternalList false None None None None
    ∷ item.Closing InternalList None
    ∷ []

abbrev page : List PlainItem
page = plain_list [] written

-- ends may stand anywhere but past the list and inside the line break
both_ends : selection_between page 5 0 ≡ Ok (between 5 0)
both_ends = refl

the_lists_end : selection_between page 8 8 ≡ Ok (between 8 8)
the_lists_end = refl

past_the_list : selection_between page 1 9 ≡ Err (BadOffset 9)
past_the_list = refl

inside_the_break : selection_between page 3 1 ≡ Err (BadOffset 3)
inside_the_break = refl

-- of two bad ends the anchor is named
the_anchor_first : selection_between page 9 3 ≡ Err (BadOffset 9)
the_anchor_first = refl

-- a selection is erased as it stands, and a caret goes over the line break whole
a_selection : range_to_erase page (between 4 1) Ahead Word ≡ Ok (between 4 1)
a_selection = refl

over_the_break : range_to_erase page (between 2 2) Ahead Cluster ≡ Ok (between 2 4)
over_the_break = refl

back_over_the_break : range_to_erase page (between 4 4) Back Word ≡ Ok (between 4 2)
back_over_the_break = refl

-- nothing stands before the paragraph's first character, and no character outside of it
at_the_edge : range_to_erase page (between 1 1) Back Cluster ≡ Err (Edge 1)
at_the_edge = refl

no_content : range_to_erase page (between 0 0) Ahead Cluster ≡ Err (NotContent 0)
no_content = refl
