-- Forming groups keeps the source.
use Rattle.std.proofs.Common.{◌≡◌, ℕ, Bool, true, false, if◌then◌else◌, ◌&&◌, List, [], ◌++◌, Option, refl, ap, ◌∙◌, append_assoc}
use Rattle.std.proofs.lemmas.List.{append-nil}
use Rattle.model_spelling.specs.Grammar.{Comment, token_text, start_text, end_text}
use Rattle.model_spelling.specs.Forest.{Forest, Nothing, Text, Remark, Void, RawElement, Element, spelling}
use Rattle.model_page.specs.Elements.{is_white, about_of, is_held}
use Rattle.model_page.specs.Parts.{Parts, Ended, Words, Note, Group, Single, Parent, about_in, is_shared, with_held, parts_of, source_of}
use Rattle.ve_classify.specs.PartLaws.{PartsKeepSource}

-- an element before nodes is spelled by this text and then theirs
abbrev pub StartsWith : (Forest → Forest) → List ℕ → Type 0
StartsWith element text = (nodes : Forest) → spelling (element nodes) ≡ text ++ spelling nodes

alone : (element : Forest → Forest) (text : List ℕ) → StartsWith element text → spelling (element Nothing) ≡ text
alone element text h = h Nothing ∙ append-nil text

joins : (element : Forest → Forest) (text : List ℕ) → StartsWith element text → (nodes : Forest) (rest : List ℕ) → spelling (element nodes) ++ rest ≡ text ++ (spelling nodes ++ rest)
joins element text h nodes rest = ap (λ s. s ++ rest) (h nodes) ∙ append_assoc text (spelling nodes) rest

chosen : (c : Bool) (a b : Parts) (text : List ℕ) → source_of a ≡ text → source_of b ≡ text → source_of (if c then a else b) ≡ text
chosen true a b text e f = e
chosen false a b text e f = f

pub with_held-source : (about : Option (List ℕ)) (element : Forest → Forest) (text : List ℕ) → StartsWith element text →
    (parts : Parts) → source_of (with_held about element parts) ≡ text ++ source_of parts
with_held-source about element text h Ended = ap (λ s. s ++ []) (alone element text h)
with_held-source about element text h (Words t Ended) = ap (λ s. s ++ (t ++ [])) (alone element text h)
with_held-source about element text h (Words t (Words u later)) = ap (λ s. s ++ (t ++ (u ++ source_of later))) (alone element text h)
with_held-source about element text h (Words t (Note u later)) = ap (λ s. s ++ (t ++ source_of (Note u later))) (alone element text h)
with_held-source about element text h (Words t (Group nodes later)) =
    chosen (is_white t && is_shared about (about_in nodes)) _ _ (text ++ (t ++ (spelling nodes ++ source_of later)))
    (joins element text h (Text t nodes) (source_of later) ∙ ap (λ s. text ++ s) (append_assoc t (spelling nodes) (source_of later)))
    (ap (λ s. s ++ (t ++ (spelling nodes ++ source_of later))) (alone element text h))
with_held-source about element text h (Words t (Single name attrs source later)) = ap (λ s. s ++ (t ++ (source ++ source_of later))) (alone element text h)
with_held-source about element text h (Words t (Parent name attrs children later)) = ap (λ s. s ++ (t ++ source_of (Parent name attrs children later))) (alone element text h)
with_held-source about element text h (Note t later) = ap (λ s. s ++ source_of (Note t later)) (alone element text h)
with_held-source about element text h (Group nodes later) =
    chosen (is_shared about (about_in nodes)) _ _ (text ++ (spelling nodes ++ source_of later))
    (joins element text h nodes (source_of later))
    (ap (λ s. s ++ (spelling nodes ++ source_of later)) (alone element text h))
with_held-source about element text h (Single name attrs source later) = ap (λ s. s ++ (source ++ source_of later)) (alone element text h)
with_held-source about element text h (Parent name attrs children later) = ap (λ s. s ++ source_of (Parent name attrs children later)) (alone element text h)

pub parts_of-source : (f : Forest) → source_of (parts_of f) ≡ spelling f
parts_of-source Nothing = refl
parts_of-source (Text text rest) = ap (λ s. text ++ s) (parts_of-source rest)
parts_of-source (Remark text rest) = ap (λ s. token_text (Comment text) ++ s) (parts_of-source rest)
parts_of-source (Void name attrs slash rest) =
    chosen (is_held attrs) _ _ (start_text name attrs slash ++ spelling rest)
    (with_held-source (about_of attrs) (Void name attrs slash) (start_text name attrs slash) (λ nodes. refl) (parts_of rest) ∙ ap (λ s. start_text name attrs slash ++ s) (parts_of-source rest))
    (ap (λ s. start_text name attrs slash ++ s) (parts_of-source rest))
parts_of-source (RawElement name attrs text rest) =
    let source : List ℕ = start_text name attrs false ++ text ++ end_text name in
    chosen (is_held attrs) _ _ (spelling (RawElement name attrs text rest))
    (with_held-source (about_of attrs) (RawElement name attrs text) source (λ nodes. refl) (parts_of rest) ∙ ap (λ s. source ++ s) (parts_of-source rest))
    (ap (λ s. source ++ s) (parts_of-source rest))
parts_of-source (Element name attrs children rest) =
    let source : List ℕ = start_text name attrs false ++ spelling children ++ end_text name in
    chosen (is_held attrs) _ _ (spelling (Element name attrs children rest))
    (with_held-source (about_of attrs) (Element name attrs children) source (λ nodes. refl) (parts_of rest) ∙ ap (λ s. source ++ s) (parts_of-source rest))
    (ap (λ s. start_text name attrs false ++ s ++ end_text name ++ source_of (parts_of rest)) (parts_of-source children) ∙ ap (λ s. source ++ s) (parts_of-source rest))

pub parts_keep_source : PartsKeepSource
parts_keep_source = parts_of-source
