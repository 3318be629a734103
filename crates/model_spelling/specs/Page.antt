-- The prefix of a page before its body, its body and its suffix after that, and the first fault of
-- a page. A page that begins with `<!doctype`, in any case of its letters, is whole; every other
-- page is all body.
use Rattle.std.specs.Prelude.{◌≡◌, ℕ, ◌+◌, ◌-◌, ◌<◌, Bool, true, false, ◌||◌, List, [], ◌∷◌, ◌++◌, length, take, drop, map, Option, Some, None, Result, Ok, Err, if◌then◌else◌, codes, bytes_eq}
use Rattle.std.specs.Option.{option_or}
use Rattle.std.specs.Char.{to_ascii_lowercase}
use Rattle.model_spelling.specs.declared.scan_fault.ScanFault.{ScanFault}
use Rattle.model_spelling.specs.declared.scan_fault.ScanWhat.TheVariants.{NoBody}
use Rattle.model_spelling.specs.Grammar.{Attr, begins_with, is_start, start_text}
use Rattle.model_spelling.specs.Reading.{◌>>=◌, fault, tag_at}
use Rattle.model_spelling.specs.Faults.{ForestFault, Scan, Mismatched, Unclosed, Stray, TooDeep, fault_of}

abbrev pub is_whole : List ℕ → Bool
is_whole page = bytes_eq (map to_ascii_lowercase (take 9 page)) (codes "<!doctype")

-- ---- where the body stands

-- the first position where what follows passes the test; at is the number of the first byte
unfoldable pub first_place : (List ℕ → Bool) → ℕ → List ℕ → Option ℕ
first_place test at [] = None
first_place test at (b ∷ bs) = if test (b ∷ bs) then Some at else first_place test (at + 1) bs

-- the last such position
unfoldable pub last_place : (List ℕ → Bool) → ℕ → List ℕ → Option ℕ
last_place test at [] = None
last_place test at (b ∷ bs) = option_or (last_place test (at + 1) bs) (if test (b ∷ bs) then Some at else None)

-- `<body`, and then a space or the end of the tag
abbrev pub starts_body : List ℕ → Bool
starts_body text = begins_with (codes "<body ") text || begins_with (codes "<body>") text

abbrev pub ends_body : List ℕ → Bool
ends_body text = begins_with (codes "</body>") text

abbrev pub or_no_body : {A : Type 0} → ℕ → Option A → Result A ScanFault
or_no_body at None = Err (fault at NoBody)
or_no_body at (Some x) = Ok x

-- The bytes of the body: the first, and the one after the last.
-- In a whole page the body stands between the first body start tag and the last `</body>` after it.
unfoldable pub body_at : List ℕ → Result (ℕ × ℕ) ScanFault
body_at page = if is_whole page then (do
  tag ← or_no_body 0 (first_place starts_body 0 page)
  start ← tag_at tag (drop (tag + 1) page)
  to ← or_no_body start.1 (last_place ends_body start.1 (drop start.1 page))
  Ok (start.1, to)) else Ok (0, length page)

-- ---- the three parts

pub record PageParts : Type 0 where
  pub prefix : List ℕ
  pub body : List ℕ
  pub suffix : List ℕ

-- a text cut at two positions
abbrev pub page_parts_at : ℕ → ℕ → List ℕ → PageParts
page_parts_at from to page = record { prefix = take from page; body = take (to - from) (drop from page); suffix = drop to page }

abbrev pub page_parts : List ℕ → Result PageParts ScanFault
page_parts page = body_at page >>= λ b. Ok (page_parts_at b.0 b.1 page)

-- ---- the first fault of a page

-- the fault of a text that begins at this byte of the page
abbrev pub fault_in_page : ℕ → ForestFault → ForestFault
fault_in_page from (Scan f) = Scan (fault (from + f.at) f.what)
fault_in_page from (Mismatched at) = Mismatched (from + at)
fault_in_page from (Unclosed at) = Unclosed (from + at)
fault_in_page from (Stray at) = Stray (from + at)
fault_in_page from (TooDeep at) = TooDeep (from + at)

abbrev pub fault_in_page_if_any : ℕ → Option ForestFault → Option ForestFault
fault_in_page_if_any from None = None
fault_in_page_if_any from (Some f) = Some (fault_in_page from f)

abbrev pub fault_between : List ℕ → Result (ℕ × ℕ) ScanFault → Option ForestFault
fault_between page (Err f) = Some (Scan f)
fault_between page (Ok b) = fault_in_page_if_any b.0 (fault_of (take (b.1 - b.0) (drop b.0 page)))

-- The fault of the three parts where they aren't there, else the body's, with its byte counted from
-- the start of the page.
unfoldable pub page_fault : List ℕ → Option ForestFault
page_fault page = fault_between page (body_at page)

-- ---- the body in other words

-- In a whole page the body begins after its start tag, and `</body>` follows it. No body starts
-- before that tag, and none ends after that `</body>`.
pub record IsBody (page : List ℕ) (from to : ℕ) : Type 0 where
  pub before : List ℕ
  pub attrs : List Attr
  pub body : List ℕ
  pub after : List ℕ
  pub page_is : page ≡ before ++ start_text (codes "body") attrs false ++ body ++ codes "</body>" ++ after
  pub allowed : is_start (codes "body") attrs false ≡ true
  pub from_is : from ≡ length before + length (start_text (codes "body") attrs false)
  pub to_is : to ≡ from + length body
  pub first : (n : ℕ) → n < length before → starts_body (drop n page) ≡ false
  pub last : (n : ℕ) → to < n → ends_body (drop n page) ≡ false
