-- The items of every list, as far as a line can write them exactly: what `data` shows of them can be
-- put back.
use Rattle.std.specs.Prelude.{◌≡◌, ◌<◌, ◌≤◌, ◌-◌, ℕ, Bool, true, not, ◌&&◌, ◌||◌, List, [], ◌∷◌, ◌++◌, drop, encode_utf8_all, length, slice_range, take, IsUtf8, Option, Some, None, Ok, is_some, nat_lt, slice_get}
use Rattle.std.specs.List.{AllByRecursion, list_all, list_any}
use Rattle.std.specs.Str.{all_scalars}
use Rattle.ve_base.specs.Limits.{max_items, max_values}
use Rattle.ve_base.specs.declared.attrs.Attr.{Attr}
use Rattle.ve_base.specs.declared.marks.Mark.{Mark}
use Rattle.ve_base.specs.declared.head.Head.{Head}
use Rattle.ve_kinds.specs.declared.kind.Kind.TheVariants.{P}
use Rattle.ve_kinds.specs.Table.{is_element, kind_same}
use Rattle.model_spelling.specs.Grammar.{is_barred, is_attr_name}
use Rattle.model_items.specs.declared.plain_item.PlainItem.{PlainItem}
use Rattle.model_items.specs.declared.plain_item.PlainItem.TheVariants.{Char, Opening, Closing}
use Rattle.model_items.specs.Same.{head_same}
use Rattle.model_edit.specs.declared.wrap_plan.Shape.{Shape}
use Rattle.model_page.specs.Elements.{is_white}
use Rattle.model_page.specs.PageItems.{Opened}
use Rattle.model_site.specs.Refused.{edit_cause}
use Rattle.model_site.specs.Session.{Member, Session}
use Rattle.model_site_law.specs.ItemLaws.{AllPass, AttrsPass, attr_of}
use Rattle.model_world.specs.Attributes.{are_apart, holds_whole, is_mark}
use Rattle.model_world.specs.Commands.{command}
use Rattle.model_world.specs.ItemWords.{may_close, may_open}
use Rattle.model_world.specs.World.{Closed, Open, world_after}
use Rattle.model_world.specs.declared.command.Command.TheVariants.{Ask}
use Rattle.model_world.specs.declared.command.Request.{Request}
use Rattle.model_world.specs.declared.command.Request.TheVariants as request
use Rattle.model_world.specs.declared.edit_command.EditCommand.{EditCommand}
use Rattle.model_world.specs.declared.edit_command.EditCommand.TheVariants as change
use Rattle.model_world.specs.declared.edit_command.OpWords.{OpWords}
use Rattle.model_world.specs.declared.edit_command.OpWords.TheVariants as op
use Rattle.model_world_law.specs.ShownLaws.{plain_head}
use Rattle.model_world_law.specs.PutBack.{IsPut, is_outer}

-- characters, and neither U+0000 nor U+000D
abbrev pub is_text : List ℕ → Bool
is_text text = all_scalars text && not (list_any is_barred (encode_utf8_all text))

abbrev pub is_attr : Attr → Bool
is_attr a = is_text a.name && is_attr_name a.name && is_text a.value

-- it doesn't say that an element is kept whole
abbrev pub is_head_attr : Attr → Bool
is_head_attr a = is_attr a && not (holds_whole a)

abbrev pub is_spelled_mark : Mark → Bool
is_spelled_mark m = is_text m.tag && list_all is_attr m.attrs && are_apart m.attrs

abbrev pub is_writable_mark : Mark → Bool
is_writable_mark m = is_spelled_mark m && is_mark true m

abbrev pub are_marks : List Mark → Bool
are_marks marks = list_all is_writable_mark marks

abbrev pub is_whitespace : List ℕ → Bool
is_whitespace pre = is_text pre && is_white pre

-- attributes and nothing else
abbrev pub is_plain_head : Head → Bool
is_plain_head head = head_same head (plain_head head.attrs) && list_all is_head_attr head.attrs

abbrev pub is_origin : Option ℕ → Bool
is_origin None = true
is_origin (Some n) = nat_lt n 4294967296

-- a line can write it, but for brackets of the internal list and its items, and for a leaf that no
-- tag spells and that has no origin
abbrev pub is_writable : PlainItem → Bool
is_writable (Char c marks) = is_text (c ∷ []) && are_marks marks
is_writable (Opening kind head marks pre origin generated) =
    are_marks marks
    && (not (is_outer kind)
    || ((not (is_element kind) || is_plain_head head)
    && is_whitespace pre
    && may_open kind marks pre
    && is_origin origin
    && (not generated || kind_same kind P)))
is_writable (Closing kind pre) = not (is_outer kind) || (is_whitespace pre && may_close kind pre)

-- of these `data` says all that `apply` needs
abbrev pub is_shown_whole : PlainItem → Bool
is_shown_whole (Char c marks) = true
is_shown_whole (Opening kind head marks pre origin generated) = is_outer kind && (is_element kind || is_some origin)
is_shown_whole (Closing kind pre) = is_outer kind

-- ---- what a change puts in

abbrev pub ShapesAreWritable : List Shape → Type 0
ShapesAreWritable shapes = AllByRecursion (λ (s : Shape). list_all is_head_attr s.attrs ≡ true) shapes

abbrev pub OpsAreWritable : List OpWords → Type 0
OpsAreWritable [] = Unit {0}
OpsAreWritable (op.Retain count ∷ ops) = OpsAreWritable ops
OpsAreWritable (op.Remove count insert ∷ ops) = AllPass is_writable insert × OpsAreWritable ops
OpsAreWritable (op.Attr name to ∷ ops) = AttrsPass is_attr (attr_of name to) × OpsAreWritable ops

abbrev pub ChangeIsWritable : EditCommand → Type 0
ChangeIsWritable (change.Text at text marks) = is_text text ≡ true
ChangeIsWritable (change.Insert at html) = all_scalars html ≡ true
ChangeIsWritable (change.Mark from to mark) = is_spelled_mark mark ≡ true
ChangeIsWritable (change.Wrap from to plan) = ShapesAreWritable plan.wrap_outer × ShapesAreWritable plan.wrap_each
ChangeIsWritable (change.Attr at name to) = AttrsPass is_attr (attr_of name to)
ChangeIsWritable (change.Apply ops) = OpsAreWritable ops
ChangeIsWritable _ = Unit {0}

abbrev pub RequestIsWritable : Request → Type 0
RequestIsWritable (request.Edit c) = ChangeIsWritable c
RequestIsWritable (request.Batch cmds) = AllByRecursion ChangeIsWritable cmds
RequestIsWritable (request.TypeText text) = is_text text ≡ true
RequestIsWritable _ = Unit {0}

-- So is what a line asks.
abbrev pub LinesAreWritable : Type 0
LinesAreWritable = (line : List ℕ) (asked : Request) (k : ℕ) → command line ≡ Ok (Ask asked k) → RequestIsWritable asked

-- ---- the laws

-- Whatever the lines, a line can write each item of each site's list, where the page is UTF-8.
abbrev pub EveryItemIsWritable : Type 0
EveryItemIsWritable = (lines : List (List ℕ)) (page : Opened) (w : Session) (k : ℕ) (m : Member) → world_after Closed lines ≡ Open page w → slice_get w.members k ≡ Some m →
    IsUtf8 page.page → AllPass is_writable m.site.replica.items

-- So a range of which `data` says all can be put back: the list stays, and the change is performed,
-- where the store is within its limit.
abbrev pub WorldsPutBack : Type 0
WorldsPutBack = (lines : List (List ℕ)) (page : Opened) (w : Session) (k : ℕ) (m : Member) (from to : ℕ) → world_after Closed lines ≡ Open page w → slice_get w.members k ≡ Some m →
    IsUtf8 page.page →
    let items = m.site.replica.items in
    let range = slice_range items from to in
    length items ≤ max_items → from < to → to ≤ length items → AllPass is_shown_whole range →
    (p : IsPut page.items items range from (to - from) items) × (length m.site.replica.store ≤ max_values → edit_cause p.t m.site.replica ≡ None)

-- Put elsewhere, just these items come to stand there.
abbrev pub WorldsPutElsewhere : Type 0
WorldsPutElsewhere = (lines : List (List ℕ)) (page : Opened) (w : Session) (k : ℕ) (m : Member) (from to at : ℕ) → world_after Closed lines ≡ Open page w → slice_get w.members k ≡ Some m →
    IsUtf8 page.page →
    let items = m.site.replica.items in
    let range = slice_range items from to in
    length items ≤ max_items → from < to → to ≤ length items → at ≤ length items → AllPass is_shown_whole range →
    IsPut page.items items range at 0 (take at items ++ (range ++ drop at items))
