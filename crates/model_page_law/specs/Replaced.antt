-- A page with another body between its prefix and its suffix, as a page is that was edited and
-- written.
use Rattle.std.specs.Prelude.{◌≡◌, ℕ, ◌+◌, true, false, List, [], ◌++◌, length, take, drop, map, Some}
use Rattle.model_spelling.specs.Forest.{Forest, spelling, is_forest}
use Rattle.model_items.specs.declared.plain_item.PlainItem.{PlainItem}
use Rattle.model_items.specs.Law.{Lawful}
use Rattle.model_page.specs.PageItems.{Opened, opened_page, page_opened, page_made}
use Rattle.model_page_write.specs.Nodes.{carried_nodes, carried_items}
use Rattle.model_page_write.specs.Written.{blocks}
use Rattle.model_page_write.specs.PageText.{fresh, page_writer, write}
use Rattle.model_page_law.specs.Formed.{AreFormed}
use Rattle.model_page_law.specs.ReadBack.{without_origin}
use Rattle.model_page_law.specs.WritesFresh.{KeepsNoneOf}
use Rattle.ve_base.specs.Limits.{max_open_elements}
use Rattle.model_page.specs.Pieces.{SourceSpan}

-- the prefix of an opened page before its body, this text, and the suffix after the body
abbrev pub with_body_text : Opened → List ℕ → List ℕ
with_body_text o text = take o.body.from o.page ++ text ++ drop o.body.to o.page

-- the page of this forest, between them
abbrev pub opened_again : Opened → Forest → Opened
opened_again o f =
    let body : SourceSpan = record { from = o.body.from; to = o.body.from + length (spelling f) } in
    page_opened (with_body_text o (spelling f)) body (page_made o.body.from f)

-- It opens, and its body is the text: prefix and suffix are found again.
abbrev pub BodyIsReplaced : Type 0
BodyIsReplaced =
    (page : List ℕ) (o : Opened) (f : Forest) → opened_page page ≡ Some o → is_forest max_open_elements f ≡ true →
    opened_page (with_body_text o (spelling f)) ≡ Some (opened_again o f)

-- So the page that any list gives opens with what the forest of the written body is converted to.
abbrev pub WrittenOpens : Type 0
WrittenOpens = (page : List ℕ) (o : Opened) (items : List PlainItem) (f : Forest) → opened_page page ≡ Some o →
    is_forest max_open_elements f ≡ true → spelling f ≡ blocks (page_writer o) false [] (carried_nodes (carried_items items)) →
    opened_page (write o items) ≡ Some (opened_again o f)

-- A lawful list of the form of which no node is kept. The page that it gives, prefix and suffix and
-- all, is read back as the list, up to origins and the flag generated.
abbrev pub WrittenIsReadBack : Type 0
WrittenIsReadBack = (page : List ℕ) (o : Opened) (items : List PlainItem) (f : Forest) → opened_page page ≡ Some o →
    Lawful items → AreFormed items → KeepsNoneOf (page_writer o) (carried_nodes (carried_items items)) →
    is_forest max_open_elements f ≡ true → spelling f ≡ fresh items →
    (opened_page (write o items) ≡ Some (opened_again o f)) × (map without_origin (opened_again o f).items ≡ map without_origin items)
