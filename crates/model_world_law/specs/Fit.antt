-- Promises of the layers below the world. Lines are read as written, and completed from the page that
-- was opened. Their commands give transactions that are reduced and put in names apart. Pages open as
-- sound lists.
use Rattle.std.specs.Prelude.{◌≡◌, ◌<◌, ℕ, true, List, [], ◌∷◌, length, Ok, IsUtf8}
use Rattle.model_items.specs.declared.plain_item.PlainItem.{PlainItem}
use Rattle.model_change.specs.Attributes.{AllNamesApart}
use Rattle.model_change.specs.Transaction.{Transaction, all_inserted, is_reduced, InsertedApart}
use Rattle.model_page.specs.PageItems.{Opened}
use Rattle.model_edit.specs.Tables.{row_in, row_out, col_in, col_out}
use Rattle.model_edit.specs.Lists.{indent, outdent}
use Rattle.model_edit_law.specs.ApartLaws.{PlanApart}
use Rattle.model_site_law.specs.Sound.{Sound}
use Rattle.model_world.specs.declared.edit_command.OpWords.{OpWords}
use Rattle.model_world.specs.declared.edit_command.OpWords.TheVariants as op
use Rattle.model_world.specs.declared.edit_command.EditCommand.{EditCommand}
use Rattle.model_world.specs.declared.edit_command.EditCommand.TheVariants as change
use Rattle.model_world.specs.declared.command.Request.{Request}
use Rattle.model_world.specs.declared.command.Request.TheVariants as request
use Rattle.model_world.specs.declared.command.Command.TheVariants.{Ask}
use Rattle.model_world.specs.Operations.{words_are_normal}
use Rattle.model_world.specs.Commands.{command}
use Rattle.model_world.specs.Completed.{completed}
use Rattle.model_world.specs.Edits.{change_of}
use Rattle.model_world.specs.Opening.{open_page}
use Rattle.model_site_law.specs.ItemLaws.{AllPass}
use Rattle.model_world_law.specs.Standing.{OpsRead, OpsStand, PlanOfElements, may_stand}

-- ---- what reading a line makes sure of

-- no inserted opening has two attributes of one name
abbrev pub OpsApart : List OpWords → Type 0
OpsApart [] = Unit {0}
OpsApart (op.Retain count ∷ ops) = OpsApart ops
OpsApart (op.Remove count insert ∷ ops) = AllNamesApart insert × OpsApart ops
OpsApart (op.Attr name to ∷ ops) = OpsApart ops

-- operations are in normal form, and what is put in has distinct names, and may stand
abbrev pub IsWritten : EditCommand → Type 0
IsWritten (change.Apply ops) = (words_are_normal ops ≡ true) × OpsApart ops × OpsStand ops
IsWritten (change.Wrap from to plan) = PlanApart plan × PlanOfElements plan
IsWritten _ = Unit {0}

abbrev pub AllWritten : List EditCommand → Type 0
AllWritten [] = Unit {0}
AllWritten (c ∷ cs) = IsWritten c × AllWritten cs

-- and typed text is not empty
abbrev pub RequestWritten : Request → Type 0
RequestWritten (request.Edit c) = IsWritten c
RequestWritten (request.Batch cmds) = AllWritten cmds
RequestWritten (request.TypeText text) = 0 < length text
RequestWritten _ = Unit {0}

-- The same of a change as a line writes it, but that a leaf that no tag spells may have an origin in
-- place of its head. No line writes a change whose origin is bad.
abbrev pub IsRead : EditCommand → Type 0
IsRead (change.Apply ops) = (words_are_normal ops ≡ true) × OpsApart ops × OpsRead ops
IsRead (change.Wrap from to plan) = PlanApart plan × PlanOfElements plan
IsRead (change.NoOrigin origin) = ⊥
IsRead _ = Unit {0}

abbrev pub AllRead : List EditCommand → Type 0
AllRead [] = Unit {0}
AllRead (c ∷ cs) = IsRead c × AllRead cs

abbrev pub RequestRead : Request → Type 0
RequestRead (request.Edit c) = IsRead c
RequestRead (request.Batch cmds) = AllRead cmds
RequestRead (request.TypeText text) = 0 < length text
RequestRead _ = Unit {0}

abbrev pub LinesAreWritten : Type 0
LinesAreWritten = (line : List ℕ) (asked : Request) (k : ℕ) → command line ≡ Ok (Ask asked k) → RequestRead asked

-- Completed from a page that opened, of which all items may stand, it is well written.
abbrev pub CompletedFit : Type 0
CompletedFit = (opened : List PlainItem) (c : EditCommand) → Sound opened → AllPass may_stand opened → IsRead c → IsWritten (completed opened c)

-- ---- what the layers below make of it

pub record Fit (t : Transaction) : Type 0 where
  pub reduced : is_reduced t ≡ true
  pub apart : InsertedApart t

-- a well-written change gives such a transaction on every sound list
abbrev pub ChangesFit : Type 0
ChangesFit = (items : List PlainItem) (c : EditCommand) (t : Transaction) → IsWritten c → Sound items → change_of items c ≡ Ok t → Fit t

-- so do rows, columns and moved list items
pub record MovesFit : Type 0 where
  pub row_in : (items : List PlainItem) (at row : ℕ) (t : Transaction) → Sound items → row_in items at row ≡ Ok t → Fit t
  pub row_out : (items : List PlainItem) (at row : ℕ) (t : Transaction) → Sound items → row_out items at row ≡ Ok t → Fit t
  pub col_in : (items : List PlainItem) (at column : ℕ) (t : Transaction) → Sound items → col_in items at column ≡ Ok t → Fit t
  pub col_out : (items : List PlainItem) (at column : ℕ) (t : Transaction) → Sound items → col_out items at column ≡ Ok t → Fit t
  pub indent : (items : List PlainItem) (at : ℕ) (t : Transaction) → Sound items → indent items at ≡ Ok t → Fit t
  pub outdent : (items : List PlainItem) (at : ℕ) (t : Transaction) → Sound items → outdent items at ≡ Ok t → Fit t

-- and a page that opens gives a sound list
abbrev pub PagesAreSound : Type 0
PagesAreSound = (page : List ℕ) (o : Opened) → open_page page ≡ Ok o → Sound o.items

-- ---- and which items

-- all that the transaction inserts may stand
abbrev pub InsertsStanding : Transaction → Type 0
InsertsStanding t = AllPass may_stand (all_inserted t)

-- So it is where the list's items may stand: of each well-written change,
abbrev pub ChangesStand : Type 0
ChangesStand = (items : List PlainItem) (c : EditCommand) (t : Transaction) → IsWritten c → Sound items → AllPass may_stand items →
    change_of items c ≡ Ok t → InsertsStanding t

-- and of rows, columns and moved list items.
pub record MovesStand : Type 0 where
  pub row_in : (items : List PlainItem) (at row : ℕ) (t : Transaction) → Sound items → row_in items at row ≡ Ok t → InsertsStanding t
  pub row_out : (items : List PlainItem) (at row : ℕ) (t : Transaction) → Sound items → row_out items at row ≡ Ok t → InsertsStanding t
  pub col_in : (items : List PlainItem) (at column : ℕ) (t : Transaction) → Sound items → col_in items at column ≡ Ok t → InsertsStanding t
  pub col_out : (items : List PlainItem) (at column : ℕ) (t : Transaction) → Sound items → col_out items at column ≡ Ok t → InsertsStanding t
  pub indent : (items : List PlainItem) (at : ℕ) (t : Transaction) → Sound items → indent items at ≡ Ok t → InsertsStanding t
  pub outdent : (items : List PlainItem) (at : ℕ) (t : Transaction) → Sound items → outdent items at ≡ Ok t → InsertsStanding t

-- A page that opens and is UTF-8 has such items.
abbrev pub PagesStand : Type 0
PagesStand = (page : List ℕ) (o : Opened) → IsUtf8 o.page → open_page page ≡ Ok o → AllPass may_stand o.items

-- all of this
pub record LayersFit : Type 0 where
  pub changes_stand : ChangesStand
  pub moves_stand : MovesStand
  pub pages_stand : PagesStand
  pub lines : LinesAreWritten
  pub completed : CompletedFit
  pub changes : ChangesFit
  pub moves : MovesFit
  pub pages : PagesAreSound
