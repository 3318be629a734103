-- The laws of the spelling, in words: what is read is spelled so, what is spelled so is read, and
-- at most one forest spells a text.
use Rattle.std.specs.Prelude.{◌≡◌, ℕ, ◌+◌, ◌≤◌, true, List, ◌∷◌, ◌++◌, length, Some, None, Ok}
use Rattle.model_spelling.specs.Grammar.{Token, End, Raw, token_text, end_text, is_tag_name, is_verbatim}
use Rattle.model_spelling.specs.Forest.{Forest, Spells, spelling, is_forest}
use Rattle.model_spelling.specs.Reading.{Between, After, token_at}
use Rattle.model_spelling.specs.Tokens.{is_token, MayFollow, IsTokenRead, RawRead}
use Rattle.model_spelling.specs.Faults.{fault_of}
use Rattle.model_spelling.specs.Parsed.{forest_of}
use Rattle.model_spelling.specs.Page.{PageParts, page_parts, is_whole, body_at, IsBody}
use Rattle.ve_base.specs.Limits.{max_open_elements}

-- ---- tokens

-- A text that is read as a token is spelled so.
abbrev pub ReadIsSpelled : Type 0
ReadIsSpelled = (at : ℕ) (text : List ℕ) (t : Token) (to : ℕ) → token_at Between at text ≡ Ok (Some (t, to)) → IsTokenRead at text t to

-- A text that is spelled as a token is read, whatever follows that may.
abbrev pub SpelledIsRead : Type 0
SpelledIsRead =
    (at : ℕ) (t : Token) (rest : List ℕ) → is_token t ≡ true → MayFollow t rest →
    token_at Between at (token_text t ++ rest) ≡ Ok (Some (t, at + length (token_text t)))

-- After the start tag of a raw element its raw text is read, with its end tag after it, or that end
-- tag alone.
abbrev pub RawReadIsSpelled : Type 0
RawReadIsSpelled =
    (at : ℕ) (name text : List ℕ) (t : Token) (to : ℕ) → is_tag_name name ≡ true → token_at (After name) at text ≡ Ok (Some (t, to)) →
    RawRead at name text t to

-- Raw text is read up to the first end tag of its element.
abbrev pub RawSpelledIsRead : Type 0
RawSpelledIsRead =
    (at : ℕ) (name : List ℕ) (b : ℕ) (bs rest : List ℕ) → is_verbatim (end_text name) (b ∷ bs) ≡ true →
    token_at (After name) at (b ∷ bs ++ (end_text name ++ rest)) ≡ Ok (Some (Raw (b ∷ bs), at + length (b ∷ bs)))

-- Empty raw text is no token.
abbrev pub EmptyRawIsNoToken : Type 0
EmptyRawIsNoToken =
    (at : ℕ) (name rest : List ℕ) → is_tag_name name ≡ true →
    token_at (After name) at (end_text name ++ rest) ≡ Ok (Some (End name, at + length (end_text name)))

-- ---- forests

-- A text without a fault is spelled by a forest.
abbrev pub FaultlessIsSpelled : Type 0
FaultlessIsSpelled = (text : List ℕ) → fault_of text ≡ None → (f : Forest) × Spells text f

-- A text that a forest spells has no fault, and is read as that forest.
abbrev pub SpelledIsFaultless : Type 0
SpelledIsFaultless = (text : List ℕ) (f : Forest) → Spells text f → (fault_of text ≡ None) × (forest_of text ≡ Some f)

-- At most one forest spells a text.
abbrev pub OneForestSpells : Type 0
OneForestSpells = (text : List ℕ) (f g : Forest) → Spells text f → Spells text g → f ≡ g

-- The spelling of a forest is read as that forest.
abbrev pub SpellingIsReadBack : Type 0
SpellingIsReadBack = (room : ℕ) (f : Forest) → room ≤ max_open_elements → is_forest room f ≡ true → forest_of (spelling f) ≡ Some f

-- The forest that a text is read as spells it.
abbrev pub ReadForestSpells : Type 0
ReadForestSpells = (text : List ℕ) (f : Forest) → forest_of text ≡ Some f → (spelling f ≡ text) × (is_forest max_open_elements f ≡ true)

-- ---- pages

-- The body lies in the page.
abbrev pub BodyInside : Type 0
BodyInside = (page : List ℕ) (from to : ℕ) → body_at page ≡ Ok (from, to) → (from ≤ to) × (to ≤ length page)

-- The three parts one after the other are the page.
abbrev pub PartsAreThePage : Type 0
PartsAreThePage = (page : List ℕ) (p : PageParts) → page_parts page ≡ Ok p → p.prefix ++ p.body ++ p.suffix ≡ page

-- The body that is found in a whole page is its body.
abbrev pub BodyIsFound : Type 0
BodyIsFound = (page : List ℕ) (from to : ℕ) → is_whole page ≡ true → body_at page ≡ Ok (from, to) → IsBody page from to

-- Its body in these words is found; so a whole page has at most one body.
abbrev pub BodyIsOnly : Type 0
BodyIsOnly = (page : List ℕ) (from to : ℕ) → is_whole page ≡ true → IsBody page from to → body_at page ≡ Ok (from, to)
