-- Text as pieces, with the marks of what stands to the left.
use Rattle.std.specs.Prelude.{◌≡◌, ℕ, List, All, Option, Result, slice_get}
use Rattle.std.specs.Str.{chars}
use Rattle.ve_base.specs.declared.value.Value.{Value}
use Rattle.ve_base.specs.declared.value.ValueId.{ValueId}
use Rattle.model_items.specs.declared.item.Item.{Item}
use Rattle.model_items.specs.Plain.{plain_list, CitesMarks, CitesWell, marks_in, value_at}
use Rattle.model_edit.specs.Insert.{marks_of, marks_before, text_pieces, text_insertion, plain_text_insertion}
use Rattle.model_change.specs.Transaction.{Transaction}
use Rattle.model_edit.specs.Causes.{BuildCause}
use Rattle.ve_offsets.specs.declared.doc.Doc.{Doc}
use Rattle.ve_offsets.specs.Docs.{page_items}

-- The cited number is that of the marks of the item at the position, over every list of values.
pub record MarksAreCited (items : List Item) (at : ℕ) (id : Option ValueId) : Type 0 where
  pub marks : (values : List Value) → marks_in (value_at values id) ≡ marks_of (slice_get (plain_list values items) at)
  pub cites : (values : List Value) → All (CitesWell values) items → CitesMarks values id

-- The cited number is that of the marks to the left of the offset, over every list of values.
pub record AreMarksBefore (items : List Item) (at : ℕ) (id : Option ValueId) : Type 0 where
  pub marks : (values : List Value) → marks_in (value_at values id) ≡ marks_before (plain_list values items) at
  pub cites : (values : List Value) → All (CitesWell values) items → CitesMarks values id

-- the characters of a text with the marks that are cited, over every list of values
abbrev pub AreLetters : Option ValueId → List ℕ → List Item → Type 0
AreLetters marks text items = (values : List Value) → plain_list values items ≡ text_pieces (marks_in (value_at values marks)) text

abbrev pub LettersCite : Option ValueId → List Item → Type 0
LettersCite marks items = (values : List Value) → CitesMarks values marks → All (CitesWell values) items

-- the meaning of inserting a text into a page, where the text is bytes
abbrev pub text_meant : Doc → ℕ → List ℕ → Result Transaction BuildCause
text_meant doc at text = text_insertion (page_items doc) at (chars text)

abbrev pub plain_text_meant : Doc → ℕ → List ℕ → Result Transaction BuildCause
plain_text_meant doc at text = plain_text_insertion (page_items doc) at (chars text)
