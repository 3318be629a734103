-- The parts of a UTF-8 text are UTF-8, and so is what they stand for.
use Rattle.std.proofs.Common.{◌≡◌, ℕ, Bool, true, false, ◌&&◌, if◌then◌else◌, List, ◌++◌, Option, refl, sym, ap, subst, IsUtf8}
use Rattle.std.proofs.lemmas.Str.{IsUtf8-append, IsUtf8-nil}
use Rattle.model_spelling.specs.Grammar.{Comment, token_text, start_text, end_text}
use Rattle.model_spelling.specs.Forest.{Forest, Nothing, Text, Remark, Void, RawElement, Element, spelling, is_forest}
use Rattle.model_spelling.specs.Utf8.{NodesUtf8}
use Rattle.model_spelling.proofs.Proved.{law_decodes_utf8, law_forest_utf8}
use Rattle.model_page.specs.Elements.{is_white, about_of, is_held}
use Rattle.model_page.specs.Parts.{Parts, Ended, Words, Note, Group, Single, Parent, about_in, is_shared, with_held, parts_of}
use Rattle.model_page.specs.Convert.{element_source}
use Rattle.model_page_law.proofs.Premises.{AllUtf8}
use Rattle.model_page_law.proofs.SourceLemmas.{Prefix, parts_of-source}

-- each text and each source is UTF-8
abbrev pub PartsUtf8 : Parts → Type 0
PartsUtf8 Ended = Unit {0}
PartsUtf8 (Words text later) = IsUtf8 text × PartsUtf8 later
PartsUtf8 (Note text later) = IsUtf8 (token_text (Comment text)) × PartsUtf8 later
PartsUtf8 (Group nodes later) = IsUtf8 (spelling nodes) × PartsUtf8 later
PartsUtf8 (Single name attrs source later) = IsUtf8 source × PartsUtf8 later
PartsUtf8 (Parent name attrs children later) = IsUtf8 (element_source name attrs children) × PartsUtf8 children × PartsUtf8 later

chosen : (c : Bool) (a b : Parts) → PartsUtf8 a → PartsUtf8 b → PartsUtf8 (if c then a else b)
chosen true a b f g = f
chosen false a b f g = g

-- an element of this source before nodes
led : (element : Forest → Forest) (source : List ℕ) → Prefix element source → IsUtf8 source → (nodes : Forest) → IsUtf8 (spelling nodes) → IsUtf8 (spelling (element nodes))
led element source h u nodes v = subst IsUtf8 (sym (h nodes)) (IsUtf8-append source (spelling nodes) u v)

alone : (element : Forest → Forest) (source : List ℕ) → Prefix element source → IsUtf8 source → IsUtf8 (spelling (element Nothing))
alone element source h u = led element source h u Nothing IsUtf8-nil

PartsUtf8-with_held : (about : Option (List ℕ)) (element : Forest → Forest) (source : List ℕ) → Prefix element source → IsUtf8 source → (parts : Parts) → PartsUtf8 parts → PartsUtf8 (with_held about element parts)
PartsUtf8-with_held about element source h u Ended p = (alone element source h u, p)
PartsUtf8-with_held about element source h u (Words t Ended) p = (alone element source h u, p)
PartsUtf8-with_held about element source h u (Words t (Words s later)) p = (alone element source h u, p)
PartsUtf8-with_held about element source h u (Words t (Note s later)) p = (alone element source h u, p)
PartsUtf8-with_held about element source h u (Words t (Group nodes later)) p =
    chosen (is_white t && is_shared about (about_in nodes)) _ _
    (led element source h u (Text t nodes) (IsUtf8-append t (spelling nodes) p.0 p.1.0), p.1.1)
    (alone element source h u, p)
PartsUtf8-with_held about element source h u (Words t (Single name attrs text later)) p = (alone element source h u, p)
PartsUtf8-with_held about element source h u (Words t (Parent name attrs children later)) p = (alone element source h u, p)
PartsUtf8-with_held about element source h u (Note t later) p = (alone element source h u, p)
PartsUtf8-with_held about element source h u (Group nodes later) p =
    chosen (is_shared about (about_in nodes)) _ _ (led element source h u nodes p.0, p.1) (alone element source h u, p)
PartsUtf8-with_held about element source h u (Single name attrs text later) p = (alone element source h u, p)
PartsUtf8-with_held about element source h u (Parent name attrs children later) p = (alone element source h u, p)

pub PartsUtf8-parts_of : (f : Forest) → NodesUtf8 f → PartsUtf8 (parts_of f)
PartsUtf8-parts_of Nothing u = tt
PartsUtf8-parts_of (Text text rest) u = (u.0, PartsUtf8-parts_of rest u.1)
PartsUtf8-parts_of (Remark text rest) u = (u.0, PartsUtf8-parts_of rest u.1)
PartsUtf8-parts_of (Void name attrs slash rest) u =
    let later = PartsUtf8-parts_of rest u.1 in
    chosen (is_held attrs) _ _
    (PartsUtf8-with_held (about_of attrs) (Void name attrs slash) (start_text name attrs slash) (λ nodes. refl) u.0 (parts_of rest) later)
    (u.0, later)
PartsUtf8-parts_of (RawElement name attrs text rest) u =
    let later = PartsUtf8-parts_of rest u.1 in
    chosen (is_held attrs) _ _
    (PartsUtf8-with_held (about_of attrs) (RawElement name attrs text) (start_text name attrs false ++ text ++ end_text name) (λ nodes. refl) u.0 (parts_of rest) later)
    (u.0, later)
PartsUtf8-parts_of (Element name attrs children rest) u =
    let later = PartsUtf8-parts_of rest u.2 in
    let same : element_source name attrs (parts_of children) ≡ start_text name attrs false ++ spelling children ++ end_text name = ap (λ s. start_text name attrs false ++ s ++ end_text name) (parts_of-source children) in
    chosen (is_held attrs) _ _
    (PartsUtf8-with_held (about_of attrs) (Element name attrs children) (start_text name attrs false ++ spelling children ++ end_text name) (λ nodes. refl) u.0 (parts_of rest) later)
    (subst IsUtf8 (sym same) u.0, PartsUtf8-parts_of children u.1, later)

AllUtf8-PartsUtf8 : (parts : Parts) → PartsUtf8 parts → AllUtf8 parts
AllUtf8-PartsUtf8 Ended p = tt
AllUtf8-PartsUtf8 (Words text later) p = (law_decodes_utf8 text p.0, AllUtf8-PartsUtf8 later p.1)
AllUtf8-PartsUtf8 (Note text later) p = AllUtf8-PartsUtf8 later p.1
AllUtf8-PartsUtf8 (Group nodes later) p = (p.0, AllUtf8-PartsUtf8 later p.1)
AllUtf8-PartsUtf8 (Single name attrs source later) p = (p.0, AllUtf8-PartsUtf8 later p.1)
AllUtf8-PartsUtf8 (Parent name attrs children later) p = (p.0, AllUtf8-PartsUtf8 children p.1, AllUtf8-PartsUtf8 later p.2)

-- of a forest that is spelled as UTF-8
pub all_utf8 : (f : Forest) → is_forest 200 f ≡ true → IsUtf8 (spelling f) → AllUtf8 (parts_of f)
all_utf8 f h u = AllUtf8-PartsUtf8 (parts_of f) (PartsUtf8-parts_of f (law_forest_utf8 200 f h u))
