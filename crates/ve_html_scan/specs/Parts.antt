-- Results of the functions over the bytes of a text.
use Rattle.std.specs.Prelude.{◌≡◌, ℕ, ◌+◌, ◌-◌, ◌++◌, List, Bool, not, ◌==◌, IsTrue, Result, Ok, Err, slice_range, slice_index, ◌⊎◌, if◌then◌else◌, codes}
use Rattle.std.specs.List.{flat_map, list_all, AllByRecursion}
use Rattle.model_spelling.specs.declared.scan_fault.ScanFault.{ScanFault}
use Rattle.ve_html_scan.specs.declared.runs.Close.{Close}
use Rattle.ve_html_scan.specs.declared.runs.Close.TheVariants as closes
use Rattle.ve_html_scan.specs.declared.tags.StartPlaces.{StartPlaces}
use Rattle.model_spelling.specs.Grammar as g
use Rattle.model_spelling.specs.Reading.{attrs_from}

abbrev pub closing_text : Close → List ℕ
closing_text closes.Comment = g.comment_close
closing_text (closes.Raw name) = g.end_text name.now

abbrev pub close_text : Bool → List ℕ
close_text slash = if slash then codes "/>" else codes ">"

abbrev pub IsQuote : ℕ → Type 0
IsQuote q = (q ≡ 34) ⊎ (q ≡ 39)

-- An attribute whose parts can be told apart where it is spelled.
pub record IsSpelled (a : g.Attr) : Type 0 where
  pub name : IsTrue (g.is_attr_name a.name)
  pub quote : IsQuote a.quote
  pub value : IsTrue (list_all (λ b. not (b == a.quote)) a.value)

abbrev pub AreSpelled : List g.Attr → Type 0
AreSpelled attrs = AllByRecursion IsSpelled attrs

-- The result of a function, seen by view, is what reading gives.
abbrev pub Finds : {A B : Type 0} → (A → B) → Result A ScanFault → Result B ScanFault → Type 0
Finds view (Ok x) read = read ≡ Ok (view x)
Finds view (Err f) read = read ≡ Err f

-- the start tag whose parts end at these positions
abbrev pub start_view : List ℕ → ℕ → StartPlaces → g.Token × ℕ
start_view text tag p = (g.Start (slice_range text (tag + 1) p.name_to) (attrs_from tag p.name_to text) p.slash, p.to)

-- the text after the name of a start tag whose parts end at these positions
abbrev pub after_name : List ℕ → ℕ → StartPlaces → List ℕ
after_name text tag p = flat_map g.attr_text (attrs_from tag p.name_to text) ++ close_text p.slash

-- the length of the name that begins after the space at position and ends at to, and the quote of
-- its value
abbrev pub head_view : List ℕ → ℕ → ℕ → ℕ × ℕ
head_view text place to = (to - (place + 1), slice_index text (to + 1))
