-- The items of a page: those of its body with their origins, and then the internal list with the
-- reference bodies.
use Rattle.std.specs.Prelude.{ℕ, suc, true, false, List, [], ◌∷◌, ◌++◌, Option, Some, None, take, drop, ◌-◌, Result, Ok, Err, flat_map}
use Rattle.model_spelling.specs.declared.scan_fault.ScanFault.{ScanFault}
use Rattle.model_spelling.specs.Forest.{Forest, Nothing}
use Rattle.model_spelling.specs.Page.{body_at}
use Rattle.ve_kinds.specs.declared.kind.Kind.TheVariants.{Root, InternalList, InternalItem}
use Rattle.ve_base.specs.declared.head.Head.{Head}
use Rattle.ve_base.specs.declared.head.RefKey.{RefKey}
use Rattle.model_items.specs.declared.plain_item.PlainItem.{PlainItem}
use Rattle.model_items.specs.declared.plain_item.PlainItem.TheVariants.{Char, Opening, Closing}
use Rattle.model_spelling.specs.Parsed.{forest_of}
use Rattle.model_page.specs.Parts.{parts_of}
use Rattle.ve_base.specs.Empty.{empty_head}
use Rattle.model_page.specs.Pieces.{SourceSpan, Owner, Made}
use Rattle.model_page.specs.Convert.{in_flow}

-- each opening has the next number
abbrev pub with_origins : ℕ → List PlainItem → List PlainItem
with_origins k [] = []
with_origins k (Opening kind head marks pre origin generated ∷ items) =
    Opening kind head marks pre (Some k) generated ∷ with_origins (suc k) items
with_origins k (Closing kind pre ∷ items) = Closing kind pre ∷ with_origins k items
with_origins k (Char c marks ∷ items) = Char c marks ∷ with_origins k items

-- an internal item says whose body it is
abbrev pub item_head : RefKey → Head
item_head key = record { tag = []; attrs = []; raw = []; reference = Some key; owner = false }

-- in a body no reference is editable
abbrev pub body_made : Forest → Made
body_made forest = in_flow InternalItem (parts_of forest) (record { at = 0; owners = []; editable = false })

-- the forest of a body, which an owner has checked
abbrev pub or_nothing : Option Forest → Forest
or_nothing (Some forest) = forest
or_nothing None = Nothing

-- the internal item of an owner, with its body
abbrev pub internal_item : Owner → List PlainItem
internal_item o =
    let body = body_made (or_nothing (forest_of o.html)) in
    Opening InternalItem (item_head o.key) [] [] None false ∷ body.later.items ++ Closing InternalItem body.pre ∷ []

-- the internal list, after the whitespace at the end of the page
abbrev pub internal_list : List ℕ → List Owner → List PlainItem
internal_list pre owners = Opening InternalList empty_head [] pre None false ∷ flat_map internal_item owners ++ Closing InternalList [] ∷ []

-- the conversion of a page's body; its first byte is `at`
abbrev pub page_made : ℕ → Forest → Made
page_made at forest = in_flow Root (parts_of forest) (record { at = at; owners = []; editable = true })

-- all items
abbrev pub items_of_page : Made → List PlainItem
items_of_page m = with_origins 0 m.later.items ++ internal_list m.pre m.owners

-- the bytes between two positions
abbrev pub slice : List ℕ → ℕ → ℕ → List ℕ
slice bytes from to = take (to - from) (drop from bytes)

-- a page as it is first read: its bytes, the bytes of its body, its items, and the spans of the
-- origins
pub record Opened : Type 0 where
  pub page : List ℕ
  pub body : SourceSpan
  pub items : List PlainItem
  pub spans : List SourceSpan

abbrev pub page_opened : List ℕ → SourceSpan → Made → Opened
page_opened page body m = record { page = page; body = body; items = items_of_page m; spans = m.later.spans }

abbrev pub opened_forest : List ℕ → SourceSpan → Option Forest → Option Opened
opened_forest page body None = None
opened_forest page body (Some forest) = Some (page_opened page body (page_made body.from forest))

abbrev pub opened_body : List ℕ → Result (ℕ × ℕ) ScanFault → Option Opened
opened_body page (Err f) = None
opened_body page (Ok body) = opened_forest page (record { from = body.0; to = body.1 }) (forest_of (slice page body.0 body.1))

-- none where the page has a fault
abbrev pub opened_page : List ℕ → Option Opened
opened_page page = opened_body page (body_at page)
