-- The first fault of a text that no forest spells.
use Rattle.std.specs.Prelude.{ℕ, List, [], ◌∷◌, length, Option, Some, None, Result, Ok, Err, if◌then◌else◌, ◌==◌}
use Rattle.model_spelling.specs.declared.scan_fault.ScanFault.{ScanFault}
use Rattle.model_spelling.specs.Grammar.{name_same, Token, Start, End, Chars, Raw, Comment}
use Rattle.ve_kinds.specs.Tags.{is_void}
use Rattle.model_spelling.specs.Tokens.{Placed, tokens_of}
use Rattle.ve_base.specs.Limits.{max_open_elements}

-- Faults of a forest, each with the byte of its `<`. They are a fault of a token, an end tag that
-- isn't the innermost open element's, and an element that is open at the end. Others are an end tag
-- where nothing is open or of a void name, and an element within as many open ones as there may be.
pub data ForestFault : Type 0 where
  Scan : ScanFault → ForestFault
  Mismatched : ℕ → ForestFault
  Unclosed : ℕ → ForestFault
  Stray : ℕ → ForestFault
  TooDeep : ℕ → ForestFault

-- An open element: its name and the byte of its `<`. The innermost one stands first.
pub record OpenElement : Type 0 where
  pub name : List ℕ
  pub at : ℕ

-- at the end the innermost open element is unclosed
abbrev pub fault_at_end : List OpenElement → Option ScanFault → Option ForestFault
fault_at_end opened (Some f) = Some (Scan f)
fault_at_end [] None = None
fault_at_end (o ∷ os) None = Some (Unclosed o.at)

-- the elements that are open after a start tag, or after an end tag
abbrev pub after_start : List ℕ → ℕ → List OpenElement → Result (List OpenElement) ForestFault
after_start name at opened =
    if length opened == max_open_elements then Err (TooDeep at)
    else if is_void name then Ok opened
    else Ok (record { name = name; at = at } ∷ opened)

abbrev pub after_end : List ℕ → ℕ → List OpenElement → Result (List OpenElement) ForestFault
after_end name at [] = Err (Stray at)
after_end name at (o ∷ os) =
    if is_void name then Err (Stray at) else if name_same o.name name then Ok os else Err (Mismatched at)

-- the elements that are open after a token that starts at this byte
abbrev pub after_token : Token → ℕ → List OpenElement → Result (List OpenElement) ForestFault
after_token (Start name attrs slash) at opened = after_start name at opened
after_token (End name) at opened = after_end name at opened
after_token (Chars text) at opened = Ok opened
after_token (Raw text) at opened = Ok opened
after_token (Comment text) at opened = Ok opened

abbrev pub or_fault : {A : Type 0} → Result A ForestFault → (A → Option ForestFault) → Option ForestFault
or_fault (Err f) next = Some f
or_fault (Ok x) next = next x

-- The first fault of these tokens where these elements are open, and last comes after the tokens.
abbrev pub fault_in : Option ScanFault → List OpenElement → List Placed → Option ForestFault
fault_in last opened [] = fault_at_end opened last
fault_in last opened (t ∷ ts) = or_fault (after_token t.token t.from opened) (λ os. fault_in last os ts)

-- the first fault of a text; none where a forest spells it
unfoldable pub fault_of : List ℕ → Option ForestFault
fault_of text = let ts = tokens_of text in fault_in ts.fault [] ts.tokens
