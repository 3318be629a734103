-- A text as its tokens, one after the other: what a token may be, what may follow it, and what is
-- read.
use Rattle.std.specs.Prelude.{◌≡◌, ℕ, zero, suc, ◌+◌, ◌-◌, ◌<◌, Bool, true, false, List, [], ◌∷◌, ◌++◌, length, drop, Option, Some, None, Ok, Err}
use Rattle.model_spelling.specs.declared.scan_fault.ScanFault.{ScanFault}
use Rattle.model_spelling.specs.Grammar.{Token, Start, End, Chars, Raw, Comment, token_text, end_text, is_tag_name, is_start, is_text, is_verbatim, comment_close}
use Rattle.model_spelling.specs.Reading.{Mode, Between, Step, mode_after, token_at}

-- ---- what stands between two tokens

-- Tokens that don't stand after a raw element's start tag.
abbrev pub is_token : Token → Bool
is_token (Start name attrs slash) = is_start name attrs slash
is_token (End name) = is_tag_name name
is_token (Chars text) = is_text text
is_token (Raw text) = false
is_token (Comment text) = is_verbatim comment_close text

-- nothing, or a text that begins with `<`
abbrev pub BeginsTag : List ℕ → Type 0
BeginsTag [] = Unit {0}
BeginsTag (b ∷ rest) = b ≡ 60

-- a text ends where a tag begins
abbrev pub MayFollow : Token → List ℕ → Type 0
MayFollow (Start name attrs slash) rest = Unit {0}
MayFollow (End name) rest = Unit {0}
MayFollow (Chars text) rest = BeginsTag rest
MayFollow (Raw text) rest = Unit {0}
MayFollow (Comment text) rest = Unit {0}

-- The token t, which ends before to, is what the text from the byte at begins with.
pub record IsTokenRead (at : ℕ) (text : List ℕ) (t : Token) (to : ℕ) : Type 0 where
  pub rest : List ℕ
  pub text_is : text ≡ token_text t ++ rest
  pub to_is : to ≡ at + length (token_text t)
  pub allowed : is_token t ≡ true
  pub follows : MayFollow t rest

-- The reading after the start tag of a raw element.
pub data RawRead (at : ℕ) (name text : List ℕ) (t : Token) (to : ℕ) : Type 0 where
  Inner : (inner rest : List ℕ) → t ≡ Raw inner → text ≡ inner ++ (end_text name ++ rest) → to ≡ at + length inner →
      0 < length inner → is_verbatim (end_text name) inner ≡ true → RawRead at name text t to
  Closing : (rest : List ℕ) → t ≡ End name → text ≡ end_text name ++ rest → to ≡ at + length (end_text name) → RawRead at name text t to

-- ---- all tokens of a text

-- All tokens from here, with the byte where each starts, and the fault after them, if there is one.
-- Each token takes a byte or more, so count, the number of bytes, is enough.
pub record Placed : Type 0 where
  pub token : Token
  pub from : ℕ
  pub to : ℕ

pub record Tokens : Type 0 where
  pub tokens : List Placed
  pub fault : Option ScanFault

abbrev pub with_placed : Placed → Tokens → Tokens
with_placed t ts = record { tokens = t ∷ ts.tokens; fault = ts.fault }

-- the tokens from the byte at, after one step, where more reads on
abbrev pub tokens_by : ℕ → (Token → ℕ → Tokens) → Step → Tokens
tokens_by at more (Err f) = record { tokens = []; fault = Some f }
tokens_by at more (Ok None) = record { tokens = []; fault = None }
tokens_by at more (Ok (Some t)) = with_placed (record { token = t.0; from = at; to = t.1 }) (more t.0 t.1)

unfoldable pub tokens_from : ℕ → Mode → ℕ → List ℕ → Tokens
tokens_from zero mode at text = record { tokens = []; fault = None }
tokens_from (suc count) mode at text =
    tokens_by at (λ token to. tokens_from count (mode_after token) to (drop (to - at) text)) (token_at mode at text)

abbrev pub tokens_of : List ℕ → Tokens
tokens_of text = tokens_from (length text + 1) Between 0 text

-- Reading from here gives these tokens, and then last, a fault or the end.
abbrev pub ReadsTokens : Mode → ℕ → List ℕ → List Placed → Option ScanFault → Type 0
ReadsTokens mode at text [] None = token_at mode at text ≡ Ok None
ReadsTokens mode at text [] (Some f) = token_at mode at text ≡ Err f
ReadsTokens mode at text (t ∷ ts) last =
    (token_at mode at text ≡ Ok (Some (t.token, t.to))) × (t.from ≡ at)
    × (rest : List ℕ) × (some : List ℕ) × (text ≡ some ++ rest) × (t.to ≡ at + length some) × (0 < length some)
    × ReadsTokens (mode_after t.token) t.to rest ts last
