-- A page that is opened, or why it is not. The causes come in this order. The first is the page's
-- length, and the second the first fault of its spelling. Next is the first position over the
-- limits on nesting and marks; then come the numbers of items and of values.
use Rattle.std.specs.Prelude.{ℕ, nat_lt, true, false, if◌then◌else◌, List, [], length, Option, Some, None, Result, Ok, Err}
use Rattle.ve_base.specs.declared.value.Value.{Value}
use Rattle.model_spelling.specs.declared.scan_fault.ScanFault.{ScanFault}
use Rattle.model_spelling.specs.Faults.{ForestFault, Scan, fault_of}
use Rattle.model_spelling.specs.Parsed.{forest_of}
use Rattle.model_spelling.specs.Page.{body_at, fault_in_page}
use Rattle.model_change.specs.Store.{cited, fill}
use Rattle.model_page.specs.PageItems.{Opened, page_opened, page_made, slice, or_nothing}
use Rattle.model_page.specs.Limits.{Limit, page_limit}
use Rattle.ve_base.specs.Limits.{max_page, max_items, max_values}

pub data OpenFault : Type 0 where
  PageTooLong : (bytes : ℕ) → OpenFault
  BadPage : (fault : ForestFault) → OpenFault
  OverLimit : (limit : Limit) → OpenFault
  TooManyItems : (count : ℕ) → OpenFault
  StoreFull : OpenFault

-- the values of a page that was just opened: what its items cite, each once, in order
abbrev pub values_of : Opened → List Value
values_of o = fill [] (cited o.items)

-- the first position of an opened page that is over the limits on nesting and marks
abbrev pub limit_in : Opened → Option Limit
limit_in o = page_limit o.body.from (or_nothing (forest_of (slice o.page o.body.from o.body.to)))

-- at most 2^22 items and 2^20 values
abbrev pub if_small : Opened → Result Opened OpenFault
if_small o =
    if nat_lt max_items (length o.items) then Err (TooManyItems (length o.items))
    else if nat_lt max_values (length (values_of o)) then Err StoreFull
    else Ok o

abbrev pub if_within : Opened → Result Opened OpenFault
if_within o = elim (limit_in o) [ Some limit ↦ Err (OverLimit limit) | None ↦ if_small o ]

-- the body, where it is spelled; a fault names its byte in the page
abbrev pub read_body : List ℕ → Result (ℕ × ℕ) ScanFault → Result Opened OpenFault
read_body page (Err f) = Err (BadPage (Scan f))
read_body page (Ok body) =
    let text = slice page body.0 body.1 in
    elim (fault_of text) [
      | Some f ↦ Err (BadPage (fault_in_page body.0 f))
      | None ↦ if_within (page_opened page (record { from = body.0; to = body.1 }) (page_made body.0 (or_nothing (forest_of text))))
    ]

-- a page, of at most 2^22 bytes
abbrev pub read_page : List ℕ → Result Opened OpenFault
read_page page = elim (nat_lt max_page (length page)) [
  | true ↦ Err (PageTooLong (length page))
  | false ↦ read_body page (body_at page)
]
