-- Items with the positions of their sources, as they are put together from the end of a page to its
-- beginning.
use Rattle.std.specs.Prelude.{ℕ, ◌+◌, Bool, true, false, List, [], ◌∷◌, ◌++◌, length, map, None, if◌then◌else◌, chars}
use Rattle.ve_base.specs.declared.marks.Mark.{Mark}
use Rattle.ve_base.specs.declared.head.RefKey.{RefKey}
use Rattle.ve_base.specs.declared.head.Head.{Head}
use Rattle.ve_base.specs.Empty.{empty_head}
use Rattle.ve_kinds.specs.declared.kind.Kind.{Kind}
use Rattle.ve_kinds.specs.declared.kind.Kind.TheVariants.{P}
use Rattle.model_items.specs.declared.plain_item.PlainItem.{PlainItem}
use Rattle.model_items.specs.declared.plain_item.PlainItem.TheVariants.{Char, Opening, Closing}
use Rattle.model_page.specs.Elements.{is_white}
use Rattle.ve_kinds.specs.Table.{is_inline_leaf}

-- ---- what conversion makes, and where it stands

-- bytes of the page
pub record SourceSpan : Type 0 where
  pub from : ℕ
  pub to : ℕ

-- items, and the spans of their openings in order
pub record Piece : Type 0 where
  pub items : List PlainItem
  pub spans : List SourceSpan

-- a reference that owns its body: the byte where it starts, its key, and the text of its body
pub record Owner : Type 0 where
  pub at : ℕ
  pub key : RefKey
  pub html : List ℕ

-- The conversion of siblings: the items of the run that they begin with, and its source; the items
-- after it; the whitespace after these; and the owners among them.
pub record Made : Type 0 where
  pub run : Piece
  pub source : List ℕ
  pub later : Piece
  pub pre : List ℕ
  pub owners : List Owner

-- How far conversion is: the byte, the owners before it, and whether references are editable here.
pub record Progress : Type 0 where
  pub at : ℕ
  pub owners : List Owner
  pub editable : Bool

-- after this source with these owners
abbrev pub past : Progress → List ℕ → List Owner → Progress
past place source owners = record { at = place.at + length source; owners = place.owners ++ owners; editable = place.editable }

abbrev pub source_span : Progress → List ℕ → SourceSpan
source_span place source = record { from = place.at; to = place.at + length source }

-- ---- pieces

abbrev pub no_piece : Piece
no_piece = record { items = []; spans = [] }

abbrev pub joined_pieces : Piece → Piece → Piece
joined_pieces a b = record { items = a.items ++ b.items; spans = a.spans ++ b.spans }

-- a node: its opening, what is in it, and its closing after this whitespace
abbrev pub node : Kind → Head → List Mark → Bool → SourceSpan → Piece → List ℕ → Piece
node kind head marks generated span inside pre = record {
  items = Opening kind head marks [] None generated ∷ inside.items ++ Closing kind pre ∷ [];
  spans = span ∷ inside.spans;
}

abbrev pub leaf : Kind → Head → List Mark → SourceSpan → Piece
leaf kind head marks span = node kind head marks false span no_piece []

abbrev pub chars_piece : List Mark → List ℕ → Piece
chars_piece marks text = record { items = map (λ c. Char c marks) text; spans = [] }

-- ---- whitespace before an item

abbrev pub item_after : List ℕ → PlainItem → PlainItem
item_after white (Opening kind head marks pre origin generated) = Opening kind head marks (white ++ pre) origin generated
item_after white (Closing kind pre) = Closing kind (white ++ pre)
item_after white (Char c marks) = Char c marks

abbrev pub items_after : List ℕ → List PlainItem → List PlainItem
items_after white [] = []
items_after white (item ∷ items) = item_after white item ∷ items

-- where there are no items, the whitespace stays
abbrev pub white_left : List ℕ → List PlainItem → List ℕ → List ℕ
white_left white [] pre = white ++ pre
white_left white (item ∷ items) pre = pre

-- whitespace before: it belongs to the first item, or stands after what there is
abbrev pub with_white : List ℕ → Made → Made
with_white white made = record made {
  later = record { items = items_after white made.later.items; spans = made.later.spans };
  pre = white_left white made.later.items made.pre;
}

-- ---- runs

abbrev pub run_dropped : Made → Made
run_dropped made = record made { run = no_piece; source = [] }

-- the run becomes a generated paragraph of this span
abbrev pub paragraph_before : SourceSpan → Made → Made
paragraph_before span made = record made {
  run = no_piece;
  source = [];
  later = joined_pieces (node P empty_head [] true span made.run []) made.later;
}

-- the run of this source is over: there was none, it was whitespace alone, or it becomes a
-- paragraph
abbrev pub run_ended : List ℕ → Progress → Made → Made
run_ended [] place made = run_dropped made
run_ended (b ∷ bs) place made =
    if is_white (b ∷ bs)
    then with_white (chars (b ∷ bs)) (run_dropped made)
    else paragraph_before (source_span place (b ∷ bs)) made

-- a run that begins at the position is over
abbrev pub run_closed : Progress → Made → Made
run_closed place made = run_ended made.source place made

-- one more part of a run or of content before
abbrev pub in_run : Piece → List ℕ → List Owner → Made → Made
in_run piece source owners made = record made {
  run = joined_pieces piece made.run;
  source = source ++ made.source;
  owners = owners ++ made.owners;
}

-- a block before; the position is the one after it
abbrev pub before_run : Progress → Piece → List Owner → Made → Made
before_run place piece owners made =
    let closed = run_closed place made in
    record closed { later = joined_pieces piece closed.later; owners = owners ++ closed.owners }

-- a leaf before what is made after it
abbrev pub leaf_before : Progress → Kind → Head → List Mark → List ℕ → List Owner → Made → Made
leaf_before place kind head marks source owners made =
    if is_inline_leaf kind
    then in_run (leaf kind head marks (source_span place source)) source owners made
    else before_run (past place source owners) (leaf kind head marks (source_span place source)) owners made
