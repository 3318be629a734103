-- Where reading a body stops, as the page has it. These serve private functions.
use Rattle.std.specs.Prelude.{◌≡◌, ℕ, List, length, Option, Some, None, Result, Ok, Err}
use Rattle.model_spelling.specs.Faults.{ForestFault, fault_of}
use Rattle.model_spelling.specs.Parsed.{forest_of}
use Rattle.model_spelling.specs.Page.{fault_in_page_if_any}
use Rattle.model_page.specs.PageItems.{Opened, or_nothing}
use Rattle.model_page.specs.Limits.{Limit, TooDeep, TooManyMarks, page_limit}
use Rattle.model_page.specs.OpenPage.{if_small, values_of}
use Rattle.ve_read.specs.declared.fault.ReadFault.{ReadFault}
use Rattle.ve_read.specs.declared.fault.ReadFault.TheVariants as fault
use Rattle.ve_read.specs.Pages.{spelled_fault, IsRefusal}

-- ---- the spelling

abbrev pub HasFault : Option ForestFault → Option ForestFault → Type 0
HasFault (Some f) first = first ≡ Some f
HasFault None first = ⊥

abbrev pub IsFault : ReadFault → Option ForestFault → Type 0
IsFault (fault.Html f) first = HasFault (spelled_fault f) first
IsFault fault.Memory first = Unit {0}
IsFault (fault.PageTooLong len) first = ⊥
IsFault (fault.TooDeep at) first = ⊥
IsFault (fault.TooManyMarks at) first = ⊥
IsFault (fault.TooManyItems count) first = ⊥
IsFault fault.StoreFull first = ⊥

-- ---- limits on nesting and marks

abbrev pub IsOver : ReadFault → Option Limit → Type 0
IsOver (fault.TooDeep at) limit = limit ≡ Some (TooDeep at)
IsOver (fault.TooManyMarks at) limit = limit ≡ Some (TooManyMarks at)
IsOver fault.Memory limit = Unit {0}
IsOver (fault.PageTooLong len) limit = ⊥
IsOver (fault.Html f) limit = ⊥
IsOver (fault.TooManyItems count) limit = ⊥
IsOver fault.StoreFull limit = ⊥

-- an `Ok` is within the limits, and an `Err` names the limit that is passed
abbrev pub Within : {A : Type 0} → Result A ReadFault → Option Limit → Type 0
Within (Ok x) limit = limit ≡ None
Within (Err e) limit = IsOver e limit

-- ---- a body

-- the first position of the page that is over a limit, where its body has this text and begins at
-- this byte
abbrev pub limit_from : ℕ → List ℕ → Option Limit
limit_from from text = page_limit from (or_nothing (forest_of text))

-- the spelling of the body, or else a limit
abbrev pub RefusesBody : ReadFault → ℕ → List ℕ → Type 0
RefusesBody (fault.Html f) from text = HasFault (spelled_fault f) (fault_in_page_if_any from (fault_of text))
RefusesBody (fault.TooDeep at) from text = (fault_of text ≡ None) × (limit_from from text ≡ Some (TooDeep at))
RefusesBody (fault.TooManyMarks at) from text = (fault_of text ≡ None) × (limit_from from text ≡ Some (TooManyMarks at))
RefusesBody fault.Memory from text = Unit {0}
RefusesBody (fault.PageTooLong len) from text = ⊥
RefusesBody (fault.TooManyItems count) from text = ⊥
RefusesBody fault.StoreFull from text = ⊥

-- ---- sizes

-- the page is small enough, or this is why not
abbrev pub Sized : {A : Type 0} → Result A ReadFault → Opened → Type 0
Sized (Ok x) o = if_small o ≡ Ok o
Sized (Err e) o = IsRefusal e (if_small o)

-- the statement holds of whatever page has so many items and values
abbrev pub OfSize : {A : Type 0} → ℕ → ℕ → Result A ReadFault → Type 0
OfSize count values result = (o : Opened) → length o.items ≡ count → length (values_of o) ≡ values → Sized result o
