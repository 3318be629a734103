-- Opened pages are lawful; and why a page does not open.
use Rattle.std.specs.Prelude.{◌≡◌, ℕ, ◌≤◌, List, length, Some, None, Ok, Err}
use Rattle.model_spelling.specs.Forest.{Forest}
use Rattle.model_spelling.specs.Faults.{ForestFault}
use Rattle.model_spelling.specs.Page.{page_fault}
use Rattle.model_items.specs.Law.{Lawful}
use Rattle.model_page.specs.PageItems.{Opened, opened_page, page_made, items_of_page}
use Rattle.model_page.specs.Limits.{page_limit}
use Rattle.model_page.specs.OpenPage.{BadPage, values_of, limit_in, read_page}
use Rattle.ve_base.specs.Limits.{max_page, max_items, max_values}

-- The items of a forest that is within the limits are a lawful list, wherever the body begins.
abbrev pub LimitedIsLawful : Type 0
LimitedIsLawful = (at : ℕ) (f : Forest) → page_limit at f ≡ None → Lawful (items_of_page (page_made at f))

-- A page opens within all limits.
pub record IsWithin (page : List ℕ) (o : Opened) : Type 0 where
  pub opens : opened_page page ≡ Some o
  pub bytes : length page ≤ max_page
  pub limit : limit_in o ≡ None
  pub items : length o.items ≤ max_items
  pub values : length (values_of o) ≤ max_values

-- A page that is read opens within the limits,
abbrev pub ReadIsWithin : Type 0
ReadIsWithin = (page : List ℕ) (o : Opened) → read_page page ≡ Ok o → IsWithin page o

-- and is a lawful list;
abbrev pub ReadIsLawful : Type 0
ReadIsLawful = (page : List ℕ) (o : Opened) → read_page page ≡ Ok o → Lawful o.items

-- and what opens within the limits is read.
abbrev pub WithinIsRead : Type 0
WithinIsRead = (page : List ℕ) (o : Opened) → IsWithin page o → read_page page ≡ Ok o

-- A page is refused for its spelling with its first fault.
abbrev pub BadPageHasFault : Type 0
BadPageHasFault = (page : List ℕ) (fault : ForestFault) → read_page page ≡ Err (BadPage fault) → page_fault page ≡ Some fault
