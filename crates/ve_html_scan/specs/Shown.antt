-- Borrowed tokens of a text, and what they say.
use Rattle.std.specs.Prelude.{true, IsNone, IsSomeAnd, [], ◌∷◌, ◌≡◌, ℕ, ◌+◌, List, ◌++◌, Bool, drop, Option, Some, None, Result, Ok, Err, ◌<◌, length, IsCharBoundary, if◌then◌else◌}
use Rattle.std.specs.List.{flat_map, list_all}
use Rattle.model_spelling.specs.declared.scan_fault.ScanFault.{ScanFault}
use Rattle.ve_html_scan.specs.declared.token.Span.{Span}
use Rattle.ve_html_scan.specs.declared.attr_tokens.AttrToken.{AttrToken}
use Rattle.ve_html_scan.specs.declared.attr_tokens.AttrTokens.{AttrTokens}
use Rattle.ve_html_scan.specs.declared.token.Token.{Token}
use Rattle.ve_html_scan.specs.declared.token.Token.TheVariants as lent
use Rattle.model_spelling.specs.Grammar as g
use Rattle.model_spelling.specs.Reading as reading
use Rattle.model_spelling.specs.Reading.{Mode, Between, After, Failed, Step, token_at, attrs_from}
use Rattle.ve_kinds.specs.Tags.{is_raw}
use Rattle.ve_html_scan.specs.Parts.{close_text}

abbrev pub token_span : Token → Span
token_span (lent.StartTag name attrs span) = span
token_span (lent.EndTag name span) = span
token_span (lent.Chars text span) = span
token_span (lent.Raw text span) = span
token_span (lent.Comment text span) = span

-- These attributes are still to come, and then the end of the tag, with or without a `/`.
pub record ShowsAttrs (t : AttrTokens) (attrs : List g.Attr) (slash : Bool) : Type 0 where
  pub source : drop t.at t.source.now ≡ flat_map g.attr_text attrs ++ close_text slash
  pub allowed : list_all g.is_attr attrs ≡ true

-- the attribute a, which begins after the space at the byte at
pub record ShowsAttr (at : ℕ) (t : AttrToken) (a : g.Attr) : Type 0 where
  pub name : t.name.now ≡ a.name
  pub value : t.value.now ≡ a.value
  pub from : t.span.from ≡ at + 1
  pub to : t.span.to ≡ at + length (g.attr_text a)

-- the answers where these attributes are still to come: the first of them, and then the others
abbrev pub GivesAttr : List g.Attr → Bool → ℕ → Option AttrToken → AttrTokens → Type 0
GivesAttr [] slash at result after = IsNone result × ShowsAttrs after [] slash × (after.at ≡ at)
GivesAttr (a ∷ attrs) slash at result after =
    IsSomeAnd result (λ t. ShowsAttr at t a) × ShowsAttrs after attrs slash × (after.at ≡ at + length (g.attr_text a))

-- one call of an iterator over a tag's attributes
abbrev pub AttrsStep : AttrTokens → Option AttrToken → AttrTokens → Type 0
AttrsStep before result after =
    (attrs : List g.Attr) (slash : Bool) → ShowsAttrs before attrs slash → GivesAttr attrs slash before.at result after

abbrev pub ShowsToken : Token → g.Token → Type 0
ShowsToken (lent.StartTag name attrs span) (g.Start n attributes slash) =
    (name.now ≡ n) × ShowsAttrs attrs attributes slash × (attrs.at ≡ span.from + 1 + length n)
ShowsToken (lent.EndTag name span) (g.End n) = name.now ≡ n
ShowsToken (lent.Chars text span) (g.Chars t) = text.now ≡ t
ShowsToken (lent.Raw text span) (g.Raw t) = text.now ≡ t
ShowsToken (lent.Comment text span) (g.Comment t) = text.now ≡ t
ShowsToken _ _ = ⊥

-- the mode of a scanner after a token
abbrev pub mode_after_lent : Token → Mode
mode_after_lent (lent.StartTag name attrs span) = if is_raw name.now then After name.now else Between
mode_after_lent (lent.EndTag name span) = Between
mode_after_lent (lent.Chars text span) = Between
mode_after_lent (lent.Raw text span) = Between
mode_after_lent (lent.Comment text span) = Between

-- The token t, borrowed from the text from the byte at on, is what reading gives there.
pub record IsFound (text : List ℕ) (at : ℕ) (read : Step) (t : Token) : Type 0 where
  pub token : g.Token
  pub is : read ≡ Ok (Some (token, (token_span t).to))
  pub shows : ShowsToken t token
  pub from : (token_span t).from ≡ at
  pub some : at < (token_span t).to
  pub mode : mode_after_lent t ≡ reading.mode_after token
  pub boundary : IsCharBoundary text (token_span t).to

-- The answer for a text from the byte at is what reading gives.
abbrev pub Gives : List ℕ → ℕ → Result (Option Token) ScanFault → Step → Type 0
Gives text at (Ok None) read = read ≡ Ok None
Gives text at (Ok (Some t)) read = IsFound text at read t
Gives text at (Err f) read = read ≡ Err f

-- ---- a scanner

-- its text, where it stands in it, and what it waits for
pub record ScannerState : Type 0 where
  pub text : List ℕ
  pub at : ℕ
  pub mode : Mode

-- where a scanner stands after it gave this answer
abbrev pub scanner_after : Result (Option Token) ScanFault → ScannerState → ScannerState
scanner_after (Ok None) p = p
scanner_after (Ok (Some t)) p = record { text = p.text; at = (token_span t).to; mode = mode_after_lent t }
scanner_after (Err f) p = record { text = p.text; at = p.at; mode = Failed f }

-- the next step from this position
abbrev pub next_of : ScannerState → Step
next_of p = token_at p.mode p.at (drop p.at p.text)
