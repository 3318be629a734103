-- The words of a script: the names of members, of kinds, and of what is wrong with a page.
use Rattle.std.specs.Prelude.{ℕ, List, codes}
use Rattle.ve_kinds.specs.declared.kind.Kind.{Kind}
use Rattle.ve_kinds.specs.declared.kind.Kind.TheVariants as kind
use Rattle.model_items.specs.declared.offset_class.OffsetClass.{OffsetClass}
use Rattle.model_items.specs.declared.offset_class.OffsetClass.TheVariants as class
use Rattle.model_spelling.specs.declared.scan_fault.ScanWhat.{ScanWhat}
use Rattle.model_spelling.specs.declared.scan_fault.ScanWhat.TheVariants as what
use Rattle.model_page.specs.Tags.{tag_of}
use Rattle.model_world.specs.declared.field.Field.{Field}
use Rattle.model_world.specs.declared.field.Field.TheVariants as field
use Rattle.model_world.specs.declared.refusal.HtmlWord.{HtmlWord}
use Rattle.model_world.specs.declared.refusal.HtmlWord.TheVariants as word

-- the member's name in a line
abbrev pub field_name : Field → List ℕ
field_name field.Do = codes "do"
field_name field.Page = codes "page"
field_name field.Sites = codes "sites"
field_name field.Site = codes "site"
field_name field.From = codes "from"
field_name field.To = codes "to"
field_name field.At = codes "at"
field_name field.Text = codes "text"
field_name field.Marks = codes "marks"
field_name field.Html = codes "html"
field_name field.Depth = codes "depth"
field_name field.Tag = codes "tag"
field_name field.Attrs = codes "attrs"
field_name field.UnwrapOuter = codes "unwrap_outer"
field_name field.WrapOuter = codes "wrap_outer"
field_name field.UnwrapEach = codes "unwrap_each"
field_name field.WrapEach = codes "wrap_each"
field_name field.Kind = codes "kind"
field_name field.Name = codes "name"
field_name field.Exact = codes "exact"
field_name field.Ops = codes "ops"
field_name field.Cmds = codes "cmds"
field_name field.Anchor = codes "anchor"
field_name field.Focus = codes "focus"
field_name field.Dir = codes "dir"
field_name field.By = codes "by"
field_name field.Keep = codes "keep"
field_name field.Row = codes "row"
field_name field.Column = codes "column"
field_name field.Entry = codes "entry"
field_name field.Live = codes "live"

-- an element kind has the name of its tag
abbrev pub kind_name : Kind → List ℕ
kind_name kind.Root = codes "root"
kind_name kind.InternalList = codes "internal_list"
kind_name kind.InternalItem = codes "internal_item"
kind_name kind.TransBlock = codes "trans_block"
kind_name kind.AlienBlock = codes "alien_block"
kind_name kind.Ref = codes "ref"
kind_name kind.TransInline = codes "trans_inline"
kind_name kind.AlienInline = codes "alien_inline"
kind_name element = tag_of element

abbrev pub class_name : OffsetClass → List ℕ
class_name class.Content = codes "content"
class_name class.Structural = codes "structural"
class_name class.Inside = codes "inside"

abbrev pub scan_word : ScanWhat → List ℕ
scan_word what.BadTag = codes "bad_tag"
scan_word what.BadAttribute = codes "bad_attribute"
scan_word what.DuplicateAttribute = codes "duplicate_attribute"
scan_word what.TooManyAttributes = codes "too_many_attributes"
scan_word what.BadReference = codes "bad_reference"
scan_word what.BadChar = codes "bad_char"
scan_word what.UnclosedTag = codes "unclosed_tag"
scan_word what.UnclosedComment = codes "unclosed_comment"
scan_word what.UnclosedRaw = codes "unclosed_raw"
scan_word what.Doctype = codes "doctype"
scan_word what.NoBody = codes "no_body"

abbrev pub html_word : HtmlWord → List ℕ
html_word (word.Scan what) = scan_word what
html_word word.Mismatched = codes "mismatched"
html_word word.Unclosed = codes "unclosed"
html_word word.Stray = codes "stray"
html_word word.TooDeep = codes "too_deep"
