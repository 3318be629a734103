-- The parts of a spelled forest read as parts of a run again, and have content where they are not
-- white.
use Rattle.std.proofs.Common.{◌≡◌, ℕ, zero, suc, ◌-◌, ◌≤◌, Bool, true, false, not, ◌&&◌, ◌||◌, if◌then◌else◌, List, [], ◌∷◌, ◌++◌, length, Option, refl, sym, ap, ◌∙◌, subst, arith, inl, inr}
use Rattle.std.proofs.lemmas.List.{append-nil}
use Rattle.std.proofs.lemmas.Bool.{and_parts, and_from, cases_Bool}
use Rattle.std.proofs.lemmas.Str.{encodes-IsAscii, encodes-chars}
use Rattle.std.specs.Prelude.{chars, encode_utf8_all, IsUtf8, unwrap_or, option_map}
use Rattle.model_spelling.specs.Grammar.{start_text, end_text, begins_with, is_text, is_start, is_verbatim, comment_close}
use Rattle.ve_kinds.specs.Tags.{is_void, is_raw}
use Rattle.model_spelling.specs.Forest.{Forest, Nothing, Text, Remark, Void, RawElement, Element, spelling, is_forest, starts_with_text}
use Rattle.model_spelling.specs.Written.{meanings, prefix_of, decoded_from, decoded}
use Rattle.model_page.specs.Elements.{is_white_char, is_white, about_of, is_held}
use Rattle.model_spelling.specs.Parsed.{forest_of}
use Rattle.model_page.specs.Parts.{Parts, Ended, Words, Note, Group, Single, Parent, about_in, is_shared, with_held, parts_of}
use Rattle.model_page.specs.Tags.{is_inline_tag}
use Rattle.model_page.specs.Fit.{some_element}
use Rattle.model_page.specs.Heads.{characters}
use Rattle.model_page.specs.Convert.{element_source}
use Rattle.model_page_write.specs.Written.{is_empty, is_inline_source, reads_inline, has_content}
use Rattle.model_page_law.proofs.Premises.{ReadsBack, AllUtf8}
use Rattle.model_page_law.proofs.SourceLemmas.{parts_of-source}
use Rattle.model_page_law.proofs.ShapeLemmas.{letters}
use Rattle.model_page_law.proofs.TileLemmas.{white-IsAscii}
use Rattle.model_page_law.proofs.MarkedLemmas.{Texted}
use Rattle.model_page_law.proofs.BareLemmas.{Inlined}

-- ---- what groups are made of

-- elements, and white texts
abbrev pub Gathered : Forest → Type 0
Gathered Nothing = Unit {0}
Gathered (Text text rest) = (is_white text ≡ true) × Gathered rest
Gathered (Remark text rest) = ⊥
Gathered (Void name attrs slash rest) = Gathered rest
Gathered (RawElement name attrs text rest) = Gathered rest
Gathered (Element name attrs children rest) = Gathered rest

pub record IsGroup (room : ℕ) (nodes : Forest) : Type 0 where
  pub spelled : is_forest room nodes ≡ true
  pub begins : starts_with_text nodes ≡ false
  pub gathered : Gathered nodes

-- the source of one element
pub record IsAlone (room : ℕ) (name source : List ℕ) : Type 0 where
  pub element : Forest
  pub spelled : is_forest room element ≡ true
  pub is_source : spelling element ≡ source
  pub inline : is_inline_tag name ≡ true → is_inline_source element ≡ true

abbrev pub Faithful : ℕ → Parts → Type 0
Faithful room Ended = Unit {0}
Faithful room (Words text later) = (is_text text ≡ true) × Faithful room later
Faithful room (Note text later) = Faithful room later
Faithful room (Group nodes later) = IsGroup room nodes × Faithful room later
Faithful room (Single name attrs source later) = IsAlone room name source × Faithful room later
Faithful room (Parent name attrs children later) = IsAlone room name (element_source name attrs children) × Faithful (room - 1) children × Faithful room later

Faithful-chosen : (room : ℕ) (c : Bool) (a b : Parts) → (c ≡ true → Faithful room a) → Faithful room b → Faithful room (if c then a else b)
Faithful-chosen room true a b f g = f refl
Faithful-chosen room false a b f g = g

-- an element may stand before such nodes
pub record MayLead (room : ℕ) (element : Forest → Forest) : Type 0 where
  pub spelled : (nodes : Forest) → is_forest room nodes ≡ true → is_forest room (element nodes) ≡ true
  pub begins : (nodes : Forest) → starts_with_text (element nodes) ≡ false
  pub gathered : (nodes : Forest) → Gathered nodes → Gathered (element nodes)

led : (room : ℕ) (element : Forest → Forest) → MayLead room element → (nodes : Forest) → is_forest room nodes ≡ true → Gathered nodes → IsGroup room (element nodes)
led room element m nodes h g = record { spelled = m.spelled nodes h; begins = m.begins nodes; gathered = m.gathered nodes g }

nothing-spelled : (room : ℕ) → is_forest room Nothing ≡ true
nothing-spelled zero = refl
nothing-spelled (suc room) = refl

text-spelled : (room : ℕ) (t : List ℕ) (nodes : Forest) → is_text t ≡ true → starts_with_text nodes ≡ false → is_forest room nodes ≡ true → is_forest room (Text t nodes) ≡ true
text-spelled zero t nodes h b f = and_from (is_text t && not (starts_with_text nodes)) _ (and_from (is_text t) _ h (ap not b)) f
text-spelled (suc room) t nodes h b f = and_from (is_text t && not (starts_with_text nodes)) _ (and_from (is_text t) _ h (ap not b)) f

Faithful-with_held : (room : ℕ) (about : Option (List ℕ)) (element : Forest → Forest) → MayLead room element → (parts : Parts) → Faithful room parts → Faithful room (with_held about element parts)
Faithful-with_held room about element m Ended f = (led room element m Nothing (nothing-spelled room) tt, tt)
Faithful-with_held room about element m (Words t Ended) f = (led room element m Nothing (nothing-spelled room) tt, f)
Faithful-with_held room about element m (Words t (Words u later)) f = (led room element m Nothing (nothing-spelled room) tt, f)
Faithful-with_held room about element m (Words t (Note u later)) f = (led room element m Nothing (nothing-spelled room) tt, f)
Faithful-with_held room about element m (Words t (Group nodes later)) f =
    Faithful-chosen room (is_white t && is_shared about (about_in nodes)) _ _
    (λ h. (led room element m (Text t nodes) (text-spelled room t nodes f.0 f.1.0.begins f.1.0.spelled) ((and_parts (is_white t) (is_shared about (about_in nodes)) h).0, f.1.0.gathered), f.1.1))
    (led room element m Nothing (nothing-spelled room) tt, f)
Faithful-with_held room about element m (Words t (Single name attrs source later)) f = (led room element m Nothing (nothing-spelled room) tt, f)
Faithful-with_held room about element m (Words t (Parent name attrs children later)) f = (led room element m Nothing (nothing-spelled room) tt, f)
Faithful-with_held room about element m (Note t later) f = (led room element m Nothing (nothing-spelled room) tt, f)
Faithful-with_held room about element m (Group nodes later) f =
    Faithful-chosen room (is_shared about (about_in nodes)) _ _
    (λ h. (led room element m nodes f.0.spelled f.0.gathered, f.1))
    (led room element m Nothing (nothing-spelled room) tt, f)
Faithful-with_held room about element m (Single name attrs source later) f = (led room element m Nothing (nothing-spelled room) tt, f)
Faithful-with_held room about element m (Parent name attrs children later) f = (led room element m Nothing (nothing-spelled room) tt, f)

inline-alone : (b : Bool) → b ≡ true → (b && true) ≡ true
inline-alone true h = refl
inline-alone false h = h

pub Faithful-parts_of : (room : ℕ) (f : Forest) → is_forest room f ≡ true → Faithful room (parts_of f)
Faithful-parts_of room Nothing h = tt
Faithful-parts_of room (Text text rest) h =
    let p = and_parts (is_text text && not (starts_with_text rest)) (is_forest room rest) h in
    ((and_parts (is_text text) (not (starts_with_text rest)) p.0).0, Faithful-parts_of room rest p.1)
Faithful-parts_of room (Remark text rest) h = Faithful-parts_of room rest (and_parts (is_verbatim comment_close text) (is_forest room rest) h).1
Faithful-parts_of zero (Void name attrs slash rest) h = cc
Faithful-parts_of (suc room) (Void name attrs slash rest) h =
    let p = and_parts (is_void name && is_start name attrs slash) (is_forest (suc room) rest) h in
    Faithful-chosen (suc room) (is_held attrs) _ _
    (λ e. Faithful-with_held (suc room) (about_of attrs) (Void name attrs slash)
    (record { spelled = λ nodes g. and_from _ (is_forest (suc room) nodes) p.0 g; begins = λ nodes. refl; gathered = λ nodes g. g })
    (parts_of rest) (Faithful-parts_of (suc room) rest p.1)) (
      record {
        element = Void name attrs slash Nothing;
        spelled = and_from _ true p.0 refl;
        is_source = append-nil (start_text name attrs slash);
        inline = λ e. inline-alone (is_inline_tag name) e;
      },
      Faithful-parts_of (suc room) rest p.1,
    )
Faithful-parts_of zero (RawElement name attrs text rest) h = cc
Faithful-parts_of (suc room) (RawElement name attrs text rest) h =
    let p = and_parts (is_raw name && is_start name attrs false && is_verbatim (end_text name) text) (is_forest (suc room) rest) h in
    Faithful-chosen (suc room) (is_held attrs) _ _
    (λ e. Faithful-with_held (suc room) (about_of attrs) (RawElement name attrs text)
    (record { spelled = λ nodes g. and_from _ (is_forest (suc room) nodes) p.0 g; begins = λ nodes. refl; gathered = λ nodes g. g })
    (parts_of rest) (Faithful-parts_of (suc room) rest p.1)) (
      record {
        element = RawElement name attrs text Nothing;
        spelled = and_from _ true p.0 refl;
        is_source = append-nil (start_text name attrs false ++ text ++ end_text name);
        inline = λ e. inline-alone (is_inline_tag name) e;
      },
      Faithful-parts_of (suc room) rest p.1,
    )
Faithful-parts_of zero (Element name attrs children rest) h = cc
Faithful-parts_of (suc room) (Element name attrs children rest) h =
    let p = and_parts (not (is_void name) && not (is_raw name) && is_start name attrs false && is_forest room children) (is_forest (suc room) rest) h in
    let q = and_parts (not (is_void name) && not (is_raw name) && is_start name attrs false) (is_forest room children) p.0 in
    let less : suc room - 1 ≡ room = omega arith in
    Faithful-chosen (suc room) (is_held attrs) _ _
    (λ e. Faithful-with_held (suc room) (about_of attrs) (Element name attrs children)
    (record { spelled = λ nodes g. and_from _ (is_forest (suc room) nodes) p.0 g; begins = λ nodes. refl; gathered = λ nodes g. g })
    (parts_of rest) (Faithful-parts_of (suc room) rest p.1)) (
      record {
        element = Element name attrs children Nothing;
        spelled = and_from _ true p.0 refl;
        is_source = append-nil (start_text name attrs false ++ spelling children ++ end_text name) ∙ ap (λ s. start_text name attrs false ++ s ++ end_text name) (sym (parts_of-source children));
        inline = λ e. inline-alone (is_inline_tag name) e;
      },
      subst (λ r. Faithful r (parts_of children)) (sym less) (Faithful-parts_of room children q.1),
      Faithful-parts_of (suc room) rest p.1,
    )

-- ---- decoding keeps what is not white, and what is not empty

pub is_white-parts : (a b : List ℕ) → is_white (a ++ b) ≡ true → (is_white a ≡ true) × (is_white b ≡ true)
is_white-parts [] b h = (refl, h)
is_white-parts (c ∷ cs) b h =
    let p = and_parts (is_white_char c) (is_white (cs ++ b)) h in
    let q = is_white-parts cs b p.1 in
    (and_from (is_white_char c) (is_white cs) p.0 q.0, q.1)

-- each meaning is a character that is not white
abbrev NoWhite : List (List ℕ × List ℕ) → Type 0
NoWhite [] = Unit {0}
NoWhite (m ∷ ms) = (is_white m.1 ≡ false) × (is_empty m.1 ≡ false) × NoWhite ms

meanings-NoWhite : NoWhite meanings
meanings-NoWhite = (refl, refl, (refl, refl, (refl, refl, (refl, refl, (refl, refl, (refl, refl, tt))))))

Prefix : Type 0
Prefix = List ℕ × List ℕ

chosen_prefix : (c : Bool) (m n : List ℕ × List ℕ) → is_white m.1 ≡ false → is_white (if c then m else n).1 ≡ true → (if c then m else n) ≡ n
chosen_prefix true m n h g = absurd (let e : true ≡ false = sym g ∙ h in cc)
chosen_prefix false m n h g = refl

prefix-white : (ms : List (List ℕ × List ℕ)) → NoWhite ms → (b : ℕ) (bs : List ℕ) → is_white (prefix_of ms b bs).1 ≡ true → prefix_of ms b bs ≡ (b ∷ [], b ∷ [])
prefix-white [] h b bs g = refl
prefix-white (m ∷ ms) h b bs g =
    let e = chosen_prefix (begins_with m.0 (b ∷ bs)) m (prefix_of ms b bs) h.0 g in
    e ∙ prefix-white ms h.2 b bs (ap (λ f. is_white f.1) (sym e) ∙ g)

prefix-nonempty : (ms : List (List ℕ × List ℕ)) → NoWhite ms → (b : ℕ) (bs : List ℕ) → is_empty (prefix_of ms b bs).1 ≡ false
prefix-nonempty [] h b bs = refl
prefix-nonempty (m ∷ ms) h b bs = chosen_nonempty (begins_with m.0 (b ∷ bs)) m (prefix_of ms b bs) h.1 (prefix-nonempty ms h.2 b bs)
  where
    chosen_nonempty : (c : Bool) (m n : List ℕ × List ℕ) → is_empty m.1 ≡ false → is_empty n.1 ≡ false → is_empty (if c then m else n).1 ≡ false
    chosen_nonempty true m n h g = h
    chosen_nonempty false m n h g = g

decoded-white : (bs : List ℕ) → is_white (decoded_from 0 bs) ≡ true → is_white bs ≡ true
unfolding decoded_from
decoded-white [] h = refl
decoded-white (b ∷ bs) h =
    let m = prefix_of meanings b bs in
    let p = is_white-parts m.1 (decoded_from (length m.0 - 1) bs) h in
    let e = prefix-white meanings meanings-NoWhite b bs p.0 in
    let first : is_white (b ∷ []) ≡ true = ap (λ f. is_white f.1) (sym e) ∙ p.0 in
    let rest : is_white (decoded_from 0 bs) ≡ true = ap (λ f. is_white (decoded_from (length f.0 - 1) bs)) (sym e) ∙ p.1 in
    and_from (is_white_char b) (is_white bs) (and_parts (is_white_char b) true first).0 (decoded-white bs rest)

nonempty-append : (a b : List ℕ) → is_empty a ≡ false → is_empty (a ++ b) ≡ false
nonempty-append [] b h = cc
nonempty-append (c ∷ cs) b h = refl

decoded-nonempty : (bs : List ℕ) → is_text bs ≡ true → is_empty (decoded bs) ≡ false
unfolding decoded_from
decoded-nonempty [] h = cc
decoded-nonempty (b ∷ bs) h =
    let m = prefix_of meanings b bs in nonempty-append m.1 (decoded_from (length m.0 - 1) bs) (prefix-nonempty meanings meanings-NoWhite b bs)

encodes-nonempty : (cs d : List ℕ) → encode_utf8_all cs ≡ d → is_empty d ≡ false → is_empty cs ≡ false
encodes-nonempty [] d e h = ap is_empty e ∙ h
encodes-nonempty (c ∷ cs) d e h = refl

pub characters-nonempty : (text : List ℕ) → IsUtf8 (decoded text) → is_text text ≡ true → is_empty (characters text) ≡ false
characters-nonempty text u h = encodes-nonempty (characters text) (decoded text) (encodes-chars (decoded text) u) (decoded-nonempty text h)

characters-white : (text : List ℕ) → IsUtf8 (decoded text) → is_white (characters text) ≡ true → is_white text ≡ true
characters-white text u h =
    let same : decoded text ≡ characters text = sym (encodes-chars (decoded text) u) ∙ encodes-IsAscii (characters text) (white-IsAscii (characters text) h) in
    decoded-white text (ap is_white same ∙ h)

has_content-letters : (cs : List ℕ) → has_content (letters [] cs) ≡ not (is_white cs)
has_content-letters [] = refl
has_content-letters (c ∷ cs) = either (is_white_char c) (is_white cs) (has_content (letters [] cs)) (has_content-letters cs)
  where
    either : (w x r : Bool) → r ≡ not x → (not w || false || r) ≡ not (w && x)
    either true x r e = e
    either false x r e = refl

pub text-content : (text : List ℕ) → IsUtf8 (decoded text) → is_white text ≡ false → has_content (letters [] (characters text)) ≡ true
text-content text u h =
    has_content-letters (characters text)
    ∙ elim (cases_Bool (is_white (characters text))) [
      | inl white ↦ absurd (let e : true ≡ false = sym (characters-white text u white) ∙ h in cc)
      | inr other ↦ ap not other
    ]

-- ---- sources read as parts of a run

or_false_parts : (a b : Bool) → (a || b) ≡ false → (a ≡ false) × (b ≡ false)
or_false_parts true b h = cc
or_false_parts false b h = (refl, h)

not_false : (a : Bool) → not a ≡ false → a ≡ true
not_false true h = refl
not_false false h = cc

not_true : (a : Bool) → not a ≡ true → a ≡ false
not_true true h = cc
not_true false h = refl

gathered-inline : (nodes : Forest) → Gathered nodes → some_element (λ name attrs. not (is_inline_tag name)) nodes ≡ false → is_inline_source nodes ≡ true
gathered-inline Nothing g h = refl
gathered-inline (Text text rest) g h = and_from (is_white text) (is_inline_source rest) g.0 (gathered-inline rest g.1 h)
gathered-inline (Remark text rest) g h = absurd g
gathered-inline (Void name attrs slash rest) g h =
    let p = or_false_parts (not (is_inline_tag name)) (some_element (λ name attrs. not (is_inline_tag name)) rest) h in
    and_from (is_inline_tag name) (is_inline_source rest) (not_false (is_inline_tag name) p.0) (gathered-inline rest g p.1)
gathered-inline (RawElement name attrs text rest) g h =
    let p = or_false_parts (not (is_inline_tag name)) (some_element (λ name attrs. not (is_inline_tag name)) rest) h in
    and_from (is_inline_tag name) (is_inline_source rest) (not_false (is_inline_tag name) p.0) (gathered-inline rest g p.1)
gathered-inline (Element name attrs children rest) g h =
    let p = or_false_parts (not (is_inline_tag name)) (some_element (λ name attrs. not (is_inline_tag name)) rest) h in
    and_from (is_inline_tag name) (is_inline_source rest) (not_false (is_inline_tag name) p.0) (gathered-inline rest g p.1)

source-inline : ReadsBack → (room : ℕ) → room ≤ 200 → (f : Forest) (source : List ℕ) → is_forest room f ≡ true → spelling f ≡ source → IsUtf8 source →
    is_inline_source f ≡ true → reads_inline (chars source) ≡ true
source-inline reads room le f source h e u inline =
    ap (λ s. unwrap_or (option_map is_inline_source (forest_of s)) false) (encodes-chars source u ∙ sym e)
    ∙ ap (λ o. unwrap_or (option_map is_inline_source o) false) (reads room f le h)
    ∙ inline

Texted-Faithful : (room : ℕ) (parts : Parts) → Faithful room parts → AllUtf8 parts → Texted parts
Texted-Faithful room Ended f u = tt
Texted-Faithful room (Words text later) f u = (characters-nonempty text u.0 f.0, Texted-Faithful room later f.1 u.1)
Texted-Faithful room (Note text later) f u = Texted-Faithful room later f u
Texted-Faithful room (Group nodes later) f u = Texted-Faithful room later f.1 u.1
Texted-Faithful room (Single name attrs source later) f u = Texted-Faithful room later f.1 u.1
Texted-Faithful room (Parent name attrs children later) f u = (Texted-Faithful (room - 1) children f.1 u.1, Texted-Faithful room later f.2 u.2)

alone-inline : ReadsBack → (room : ℕ) → room ≤ 200 → (name source : List ℕ) → IsAlone room name source → IsUtf8 source → is_inline_tag name ≡ true → reads_inline (chars source) ≡ true
alone-inline reads room le name source a u h = source-inline reads room le a.element source a.spelled a.is_source u (a.inline h)

Inlined-Faithful : ReadsBack → (room : ℕ) → room ≤ 200 → (parts : Parts) → Faithful room parts → AllUtf8 parts → Inlined parts
Inlined-Faithful reads room le Ended f u = tt
Inlined-Faithful reads room le (Words text later) f u = ((λ h. text-content text u.0 h), Inlined-Faithful reads room le later f.1 u.1)
Inlined-Faithful reads room le (Note text later) f u = Inlined-Faithful reads room le later f u
Inlined-Faithful reads room le (Group nodes later) f u = (
  (λ h. source-inline reads room le nodes (spelling nodes) f.0.spelled refl u.0
      (gathered-inline nodes f.0.gathered (not_true (some_element (λ name attrs. not (is_inline_tag name)) nodes) h))),
  Inlined-Faithful reads room le later f.1 u.1,
)
Inlined-Faithful reads room le (Single name attrs source later) f u = (alone-inline reads room le name source f.0 u.0, Inlined-Faithful reads room le later f.1 u.1)
Inlined-Faithful reads room le (Parent name attrs children later) f u = (
  alone-inline reads room le name (element_source name attrs children) f.0 u.0,
  Texted-Faithful (room - 1) children f.1 u.1,
  Inlined-Faithful reads room le later f.2 u.2,
)

pub Inlined-parts_of : ReadsBack → (f : Forest) → is_forest 200 f ≡ true → AllUtf8 (parts_of f) → Inlined (parts_of f)
Inlined-parts_of reads f h u = Inlined-Faithful reads 200 (omega arith) (parts_of f) (Faithful-parts_of 200 f h) u
