-- Which faults stand however the text goes on.
use Rattle.std.specs.Prelude.{◌≡◌, ℕ, Bool, true, false, ◌&&◌, not, List, [], ◌∷◌, ◌++◌, length, drop, map, Option, Some, None, nat_lt, codes, ◌⊎◌}
use Rattle.std.specs.Char.{to_ascii_lowercase}
use Rattle.model_spelling.specs.declared.scan_fault.ScanFault.{ScanFault}
use Rattle.model_spelling.specs.declared.scan_fault.ScanWhat.{ScanWhat}
use Rattle.model_spelling.specs.declared.scan_fault.ScanWhat.TheVariants.{BadTag, BadAttribute, DuplicateAttribute, TooManyAttributes, BadReference, BadChar, UnclosedTag, UnclosedComment, UnclosedRaw, Doctype, NoBody}
use Rattle.model_spelling.specs.Grammar.{begins_with, references, starts_reference}
use Rattle.model_spelling.specs.Reading.{fault, longest_prefix}
use Rattle.model_spelling.specs.Faults.{ForestFault, Scan, Mismatched, Unclosed, Stray, TooDeep, fault_of}

-- the text is `<!` and then a prefix of `doctype`, in any case of its letters, or all of it
abbrev pub is_doctype_prefix : List ℕ → Bool
is_doctype_prefix text = begins_with (60 ∷ 33 ∷ []) text && begins_with (map to_ascii_lowercase (drop 2 text)) (codes "doctype")

-- the text goes on after the longest prefix of a reference that it begins with
abbrev pub passes_reference : List ℕ → Bool
passes_reference text = nat_lt (longest_prefix references text) (length text)

-- Where the text from the fault's byte on is this, the fault isn't one of the text's end.
abbrev pub stands_by : ScanWhat → List ℕ → Bool
stands_by BadTag text = not (is_doctype_prefix text)
stands_by BadAttribute text = true
stands_by DuplicateAttribute text = true
stands_by TooManyAttributes text = true
stands_by BadReference text = passes_reference text
stands_by BadChar text = true
stands_by UnclosedTag text = false
stands_by UnclosedComment text = false
stands_by UnclosedRaw text = false
stands_by Doctype text = true
stands_by NoBody text = true

abbrev pub stands : List ℕ → ScanFault → Bool
stands text f = stands_by f.what (drop f.at text)

abbrev pub forest_stands : List ℕ → ForestFault → Bool
forest_stands text (Scan f) = stands text f
forest_stands text (Mismatched at) = true
forest_stands text (Unclosed at) = false
forest_stands text (Stray at) = true
forest_stands text (TooDeep at) = true

-- A fault that isn't one of the text's end stands, with the same byte, however the text goes on.
abbrev pub FaultStands : Type 0
FaultStands =
    (text more : List ℕ) (f : ForestFault) → fault_of text ≡ Some f → forest_stands text f ≡ true → fault_of (text ++ more) ≡ Some f

-- ---- what is unclosed can be made another fault, or none

abbrev pub is_open : ScanWhat → Bool
is_open BadTag = false
is_open BadAttribute = false
is_open DuplicateAttribute = false
is_open TooManyAttributes = false
is_open BadReference = false
is_open BadChar = false
is_open UnclosedTag = true
is_open UnclosedComment = true
is_open UnclosedRaw = true
is_open Doctype = false
is_open NoBody = false

abbrev pub is_unclosed : ForestFault → Bool
is_unclosed (Scan f) = is_open f.what
is_unclosed (Mismatched at) = false
is_unclosed (Unclosed at) = true
is_unclosed (Stray at) = false
is_unclosed (TooDeep at) = false

-- A fault of the unclosed kinds doesn't stand: with U+0000 after the text it is another one.
abbrev pub UnclosedGoes : Type 0
UnclosedGoes = (text : List ℕ) (f : ForestFault) → is_unclosed f ≡ true → fault_of (text ++ (0 ∷ [])) ≡ Some f → ⊥

-- ---- what is one of the end goes

-- However the text goes on, this is its fault.
abbrev pub Lasts : List ℕ → ForestFault → Type 0
Lasts text f = (more : List ℕ) → fault_of (text ++ more) ≡ Some f

-- With some text after it, it has another fault, or none.
abbrev pub MayGo : List ℕ → ForestFault → Type 0
MayGo text f = (more : List ℕ) × (fault_of (text ++ more) ≡ Some f → ⊥)

-- Each fault stands however the text goes on, or it is one of the text's end, and goes.
abbrev pub LastsOrMayGo : Type 0
LastsOrMayGo =
    (text : List ℕ) (f : ForestFault) → fault_of text ≡ Some f →
    ((forest_stands text f ≡ true) × Lasts text f) ⊎ ((forest_stands text f ≡ false) × MayGo text f)

-- no fault, or only that an element isn't closed yet
abbrev pub is_left_open : Option ForestFault → Bool
is_left_open None = true
is_left_open (Some (Scan f)) = false
is_left_open (Some (Mismatched at)) = false
is_left_open (Some (Unclosed at)) = true
is_left_open (Some (Stray at)) = false
is_left_open (Some (TooDeep at)) = false

-- A cut reference can be completed: where the rest of a reference follows, no fault is left, or
-- only that an element isn't closed yet.
abbrev pub CutReferenceGoes : Type 0
CutReferenceGoes = (text : List ℕ) (at : ℕ) → fault_of text ≡ Some (Scan (fault at BadReference)) → passes_reference (drop at text) ≡ false
    → (more : List ℕ) × (starts_reference (drop at (text ++ more)) ≡ true) × (is_left_open (fault_of (text ++ more)) ≡ true)

-- A cut doctype becomes a whole one: where its rest follows, the fault is that of a doctype.
abbrev pub CutDoctypeGoes : Type 0
CutDoctypeGoes = (text : List ℕ) (at : ℕ) → fault_of text ≡ Some (Scan (fault at BadTag)) → is_doctype_prefix (drop at text) ≡ true
    → (more : List ℕ) × (fault_of (text ++ more) ≡ Some (Scan (fault at Doctype)))
