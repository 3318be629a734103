-- Where a selection may stand, and what is erased.
use Rattle.std.specs.Prelude.{◌≡◌, ℕ, if◌then◌else◌, List, [], Result, Ok, Err}
use Rattle.model_items.specs.declared.plain_item.PlainItem.{PlainItem}
use Rattle.model_edit.specs.declared.selection.Selection.{Selection}
use Rattle.model_edit.specs.declared.selection.Dir.{Dir}
use Rattle.model_edit.specs.declared.selection.By.{By}
use Rattle.model_edit.specs.Translate.{between}
use Rattle.model_world.specs.Answers.{Asked, Outcome, request_outcome, erased_or_no, is_no_end, refusal_outcome, replica_of, selection_outcome, site_items, to_erase}
use Rattle.model_world.specs.declared.command.Request.TheVariants as request
use Rattle.model_world.specs.declared.refusal.Refusal.{Refusal}
use Rattle.model_world.specs.declared.refusal.Refusal.TheVariants.{BadOffset}

-- the selection between two offsets; or the first of them that is past the list or inside a leaf,
-- the anchor before the focus
abbrev pub selection_between : List PlainItem → (anchor focus : ℕ) → Result Selection Refusal
selection_between items anchor focus =
    if is_no_end items anchor then Err (BadOffset anchor)
    else (if is_no_end items focus then Err (BadOffset focus)
    else Ok (between anchor focus))

-- the range to erase: the selection, or from the caret to its next position; no values are read
abbrev pub range_to_erase : List PlainItem → Selection → Dir → By → Result Selection Refusal
range_to_erase items selection dir by = to_erase (record { items = items; store = []; selection = selection }) dir by

-- ---- the model answers so

abbrev pub selected_or_no : Asked → Result Selection Refusal → Outcome
selected_or_no a (Err refusal) = refusal_outcome refusal
selected_or_no a (Ok s) = selection_outcome a s

-- The selection may be made, or is refused so.
abbrev pub SelectIsAsked : Type 0
SelectIsAsked = (a : Asked) (anchor focus : ℕ) →
    request_outcome a (request.Select anchor focus) ≡ selected_or_no a (selection_between (site_items a) anchor focus)

-- The range to erase is that of the site's items, or is refused so.
abbrev pub EraseIsAsked : Type 0
EraseIsAsked = (a : Asked) (dir : Dir) (by : By) →
    request_outcome a (request.Erase dir by) ≡ erased_or_no a (range_to_erase (site_items a) (replica_of a).selection dir by)
