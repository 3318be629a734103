-- The texts and tags of a forest that is UTF-8 are ones that a line may write.
use Rattle.std.proofs.Common.{◌≡◌, ℕ, zero, suc, Bool, true, false, not, ◌&&◌, if◌then◌else◌, List, [], ◌∷◌, ◌++◌, Option, refl, sym, subst, append_assoc, IsUtf8}
use Rattle.std.specs.Prelude.{codes, flat_map}
use Rattle.std.proofs.lemmas.Bool.{and_parts, not-true}
use Rattle.std.proofs.lemmas.List.{append-nil}
use Rattle.ve_kinds.specs.Tags.{is_raw, is_void}
use Rattle.model_spelling.specs.Forest.{Element, Forest, Nothing, RawElement, Remark, Text, Void, is_forest, spelling, starts_with_text}
use Rattle.model_spelling.specs.Grammar.{Attr as Spelled, attr_text, comment_close, end_text, is_start, is_text as is_token_text, is_verbatim, start_text}
use Rattle.model_spelling.specs.Utf8.{NodesUtf8}
use Rattle.model_page.specs.Elements.{about_of, is_held, is_white}
use Rattle.model_page.specs.Heads.{characters}
use Rattle.model_page.specs.Parts.{Ended, Group, Note, Parent, Parts, Single, Words, about_in, is_shared, parts_of, with_held}
use Rattle.model_page_law.proofs.OneLemmas.{is_start-parts}
use Rattle.model_page_law.proofs.PageRefers.{AttrsUtf8, attrs_utf8}
use Rattle.model_world_law.specs.Writable.{is_text}
use Rattle.model_world_law.proofs.WritableTags.{TagPasses, tag_passes}
use Rattle.model_world_law.proofs.WritableTexts.{token_text_passes}

abbrev pub PartsPass : Parts → Type 0
PartsPass Ended = Unit {0}
PartsPass (Words text later) = (is_text (characters text) ≡ true) × PartsPass later
PartsPass (Note text later) = PartsPass later
PartsPass (Group nodes later) = PartsPass later
PartsPass (Single name attrs source later) = TagPasses name attrs × PartsPass later
PartsPass (Parent name attrs children later) = TagPasses name attrs × (is_void name ≡ false) × PartsPass children × PartsPass later

-- ---- groups

chosen : (c : Bool) (a b : Parts) → PartsPass a → (c ≡ false → PartsPass b) → PartsPass (if c then a else b)
chosen true a b f g = f
chosen false a b f g = g refl

held_passes : (about : Option (List ℕ)) (element : Forest → Forest) (parts : Parts) → PartsPass parts → PartsPass (with_held about element parts)
held_passes about element Ended p = p
held_passes about element (Words t Ended) p = p
held_passes about element (Words t (Words u later)) p = p
held_passes about element (Words t (Note u later)) p = p
held_passes about element (Words t (Group nodes later)) p = chosen (is_white t && is_shared about (about_in nodes)) (Group (element (Text t nodes)) later) (Group (element Nothing) (Words t (Group nodes later))) p.1 (λ e. p)
held_passes about element (Words t (Single name attrs source later)) p = p
held_passes about element (Words t (Parent name attrs children later)) p = p
held_passes about element (Note t later) p = p
held_passes about element (Group nodes later) p = chosen (is_shared about (about_in nodes)) (Group (element nodes) later) (Group (element Nothing) (Group nodes later)) p (λ e. p)
held_passes about element (Single name attrs source later) p = p
held_passes about element (Parent name attrs children later) p = p

-- ---- forests

slashed_right : (a f g r : List ℕ) → ((a ++ f) ++ g) ++ r ≡ a ++ (f ++ (g ++ r))
slashed_right a f g r = simp append_assoc

tag_utf8 : (name : List ℕ) (attrs : List Spelled) (slash : Bool) (rest : List ℕ) → is_start name attrs slash ≡ true → IsUtf8 (start_text name attrs slash ++ rest) → AttrsUtf8 attrs
tag_utf8 name attrs slash rest h u =
    attrs_utf8 attrs (60 ∷ name) ((if slash then codes "/>" else codes ">") ++ rest) (is_start-parts name attrs slash h).1
    (subst IsUtf8 (slashed_right (60 ∷ name) (flat_map attr_text attrs) (if slash then codes "/>" else codes ">") rest) u)

pub parts_pass : (room : ℕ) (f : Forest) → is_forest room f ≡ true → NodesUtf8 f → PartsPass (parts_of f)
parts_pass room Nothing h u = tt
parts_pass room (Text text rest) h u =
    let p = and_parts (is_token_text text && not (starts_with_text rest)) (is_forest room rest) h in
    (token_text_passes text u.0 (and_parts (is_token_text text) (not (starts_with_text rest)) p.0).0, parts_pass room rest p.1 u.1)
parts_pass room (Remark text rest) h u = parts_pass room rest (and_parts (is_verbatim comment_close text) (is_forest room rest) h).1 u.1
parts_pass zero (Void name attrs slash rest) h u = cc
parts_pass (suc room) (Void name attrs slash rest) h u =
    let p = and_parts (is_void name && is_start name attrs slash) (is_forest (suc room) rest) h in
    let start = (and_parts (is_void name) (is_start name attrs slash) p.0).1 in
    let later = parts_pass (suc room) rest p.1 u.1 in
    chosen (is_held attrs) _ _ (held_passes (about_of attrs) (Void name attrs slash) (parts_of rest) later)
    (λ e. (tag_passes name attrs slash start e (tag_utf8 name attrs slash [] start (subst IsUtf8 (sym (append-nil (start_text name attrs slash))) u.0)), later))
parts_pass zero (RawElement name attrs text rest) h u = cc
parts_pass (suc room) (RawElement name attrs text rest) h u =
    let p = and_parts (is_raw name && is_start name attrs false && is_verbatim (end_text name) text) (is_forest (suc room) rest) h in
    let q = and_parts (is_raw name && is_start name attrs false) (is_verbatim (end_text name) text) p.0 in
    let start = (and_parts (is_raw name) (is_start name attrs false) q.0).1 in
    let later = parts_pass (suc room) rest p.1 u.1 in
    chosen (is_held attrs) _ _ (held_passes (about_of attrs) (RawElement name attrs text) (parts_of rest) later)
    (λ e. (tag_passes name attrs false start e (tag_utf8 name attrs false (text ++ end_text name) start (subst IsUtf8 (append_assoc (start_text name attrs false) text (end_text name)) u.0)), later))
parts_pass zero (Element name attrs children rest) h u = cc
parts_pass (suc room) (Element name attrs children rest) h u =
    let p = and_parts (not (is_void name) && not (is_raw name) && is_start name attrs false && is_forest room children) (is_forest (suc room) rest) h in
    let q = and_parts (not (is_void name) && not (is_raw name) && is_start name attrs false) (is_forest room children) p.0 in
    let r = and_parts (not (is_void name) && not (is_raw name)) (is_start name attrs false) q.0 in
    let other = not-true (is_void name) (and_parts (not (is_void name)) (not (is_raw name)) r.0).0 in
    let later = parts_pass (suc room) rest p.1 u.2 in
    chosen (is_held attrs) _ _ (held_passes (about_of attrs) (Element name attrs children) (parts_of rest) later)
    (λ e. (
      tag_passes name attrs false r.1 e (tag_utf8 name attrs false (spelling children ++ end_text name) r.1 (subst IsUtf8 (append_assoc (start_text name attrs false) (spelling children) (end_text name)) u.0)),
      other,
      parts_pass room children q.1 u.1,
      later,
    ))
