-- A page that was opened, and is written with the items that it has, is that page, byte for byte.
use Rattle.std.specs.Prelude.{◌≡◌, ℕ, ◌+◌, true, List, ◌++◌, length, Some, None, Ok, IsUtf8}
use Rattle.model_spelling.specs.Forest.{Forest, Spells, spelling, is_forest}
use Rattle.model_spelling.specs.Page.{body_at, page_fault}
use Rattle.model_page.specs.PageItems.{slice, Opened, page_opened, opened_page, page_made}
use Rattle.model_page_write.specs.PageText.{write}
use Rattle.ve_base.specs.Limits.{max_open_elements}
use Rattle.model_page.specs.Pieces.{SourceSpan}

-- ---- which pages open, and as what

-- A page opens where it has no fault.
abbrev pub FaultlessOpens : Type 0
FaultlessOpens = (page : List ℕ) → page_fault page ≡ None → (o : Opened) × (opened_page page ≡ Some o)

-- A page that opens has no fault.
abbrev pub OpenedIsFaultless : Type 0
OpenedIsFaultless = (page : List ℕ) (o : Opened) → opened_page page ≡ Some o → page_fault page ≡ None

-- A page whose body a forest spells opens with what that forest is converted to. At most one forest
-- spells it.
abbrev pub OpensAsItsForest : Type 0
OpensAsItsForest = (page : List ℕ) (from to : ℕ) (f : Forest) → body_at page ≡ Ok (from, to) → Spells (slice page from to) f →
    opened_page page ≡ Some (page_opened page (record { from = from; to = to }) (page_made from f))

-- ---- every page is written as itself

-- Every page that opens is written as itself: groups, references, whole documents and all.
abbrev pub OpenedIsWrittenBack : Type 0
OpenedIsWrittenBack = (page : List ℕ) (o : Opened) → IsUtf8 page → opened_page page ≡ Some o → write o o.items ≡ page

-- the page of this prefix, body and suffix, as it is first read
abbrev pub opened_as : List ℕ → Forest → List ℕ → Opened
opened_as prefix f suffix =
    let body : SourceSpan = record { from = length prefix; to = length prefix + length (spelling f) } in
    page_opened (prefix ++ (spelling f ++ suffix)) body (page_made (length prefix) f)

-- So is every forest that may be spelled, between any prefix and any suffix.
abbrev pub SpelledIsWrittenBack : Type 0
SpelledIsWrittenBack = (prefix suffix : List ℕ) (f : Forest) → is_forest max_open_elements f ≡ true → IsUtf8 (spelling f) →
    write (opened_as prefix f suffix) (opened_as prefix f suffix).items ≡ prefix ++ (spelling f ++ suffix)
