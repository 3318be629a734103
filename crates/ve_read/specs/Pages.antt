-- Promises of a page that was read, and of one that was refused.
use Rattle.std.specs.Prelude.{◌≡◌, ℕ, List, All, Option, Some, None, Result, Ok, Err}
use Rattle.model_items.specs.Plain.{plain_list, CitesWell}
use Rattle.model_spelling.specs.Faults.{ForestFault, Scan, Mismatched, Unclosed, Stray, TooDeep}
use Rattle.model_page.specs.Limits as limit
use Rattle.model_page.specs.PageItems.{Opened}
use Rattle.model_page.specs.OpenPage.{OpenFault, PageTooLong, BadPage, OverLimit, TooManyItems, StoreFull, values_of, read_page}
use Rattle.ve_html_tree.specs.declared.fault.HtmlFault.{HtmlFault}
use Rattle.ve_html_tree.specs.declared.fault.HtmlFault.TheVariants as html
use Rattle.ve_origin.specs.Origins.{source_span, spans}
use Rattle.ve_reader.specs.ReadSoFar.{node_rows}
use Rattle.ve_read.specs.declared.fault.ReadFault.{ReadFault}
use Rattle.ve_read.specs.declared.fault.ReadFault.TheVariants as fault
use Rattle.ve_read.specs.declared.pages.PageRead.{PageRead}

-- ---- a page that was read

-- the page as it was opened, by what was made of it
abbrev pub opened_by : List ℕ → PageRead → Opened
opened_by text p = record { page = text; body = source_span p.body; items = plain_list p.values p.list.items; spans = spans p.rows }

-- It is the page that the model opens, over the values that its items cite, each once and in order.
pub record IsReadPage (text : List ℕ) (p : PageRead) : Type 0 where
  pub opens : read_page text ≡ Ok (opened_by text p)
  pub values : p.values ≡ values_of (opened_by text p)
  pub cites : All (CitesWell p.values) p.list.items

-- each row has the positions of its node: those of the openings in order, for as long as there are
-- spans
abbrev pub HasPlaces : PageRead → Type 0
HasPlaces p = p.rows ≡ node_rows 0 (plain_list p.values p.list.items) (spans p.rows)

-- ---- a page that was refused

-- the fault of its spelling; want of memory is none
abbrev pub spelled_fault : HtmlFault → Option ForestFault
spelled_fault (html.Scan f) = Some (Scan f)
spelled_fault (html.Mismatched at) = Some (Mismatched at)
spelled_fault (html.Unclosed at) = Some (Unclosed at)
spelled_fault (html.Stray at) = Some (Stray at)
spelled_fault (html.TooDeep at) = Some (TooDeep at)
spelled_fault html.Memory = None

-- refused for this fault
abbrev pub IsBad : Option ForestFault → Result Opened OpenFault → Type 0
IsBad (Some f) read = read ≡ Err (BadPage f)
IsBad None read = ⊥

-- It is the model's refusal, with its byte in the page or its number, unless memory ran out.
abbrev pub IsRefusal : ReadFault → Result Opened OpenFault → Type 0
IsRefusal (fault.PageTooLong len) read = read ≡ Err (PageTooLong len)
IsRefusal (fault.Html f) read = IsBad (spelled_fault f) read
IsRefusal (fault.TooDeep at) read = read ≡ Err (OverLimit (limit.TooDeep at))
IsRefusal (fault.TooManyMarks at) read = read ≡ Err (OverLimit (limit.TooManyMarks at))
IsRefusal (fault.TooManyItems count) read = read ≡ Err (TooManyItems count)
IsRefusal fault.StoreFull read = read ≡ Err StoreFull
IsRefusal fault.Memory read = Unit {0}
