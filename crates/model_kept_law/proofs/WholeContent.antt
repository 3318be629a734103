-- Content in which leaves are kept, by their tags or whole, is read as that content, in a paragraph
-- that has its tags.
use Rattle.std.proofs.Common.{◌≡◌, ℕ, Bool, true, false, not, ◌&&◌, ◌||◌, ◌==◌, List, [], ◌∷◌, ◌++◌, length, take, map, refl, sym, ap, ◌∙◌, subst, append_assoc, arith}
use Rattle.std.proofs.lemmas.List.{append-nil}
use Rattle.std.proofs.lemmas.Bool.{and_parts}
use Rattle.std.proofs.lemmas.Grind.{common_steps}
use Rattle.std.specs.Prelude.{chars, encode_utf8_all, unwrap_or}
use Rattle.std.specs.Char.{IsScalar}
use Rattle.model_spelling.specs.Forest.{Forest, Nothing, Text, Remark, Void, RawElement, Element, spelling}
use Rattle.model_spelling.specs.Written.{canon_attrs, attr_bytes, decoded_from}
use Rattle.ve_kinds.specs.declared.kind.Kind.TheVariants.{P}
use Rattle.ve_base.specs.declared.marks.Mark.{Mark}
use Rattle.model_items.specs.declared.plain_item.PlainItem.TheVariants.{Char}
use Rattle.model_page.specs.Elements.{is_white_char, is_white, is_held}
use Rattle.model_page.specs.Parts.{Parts, Ended, Words, Note, Group, Single, Parent, parts_of}
use Rattle.model_page.specs.Fit.{has_child}
use Rattle.model_page.specs.Heads.{characters}
use Rattle.model_page_write.specs.Nodes.{Start, Nodes, Empty, Letter, Node, node_items}
use Rattle.model_page_write.specs.Written.{is_empty, letter, marks_changed, Writer, leaf_text, content}
use Rattle.model_page_law.specs.Formed.{ArePlainMarks}
use Rattle.model_page_law.proofs.FormedNodes.{MarksMean}
use Rattle.model_page_law.proofs.NeatForests.{without, Neat}
use Rattle.model_page_law.proofs.BlockText.{followed_by}
use Rattle.model_page_law.proofs.BlockReads.{white_chars}
use Rattle.model_page_law.proofs.EscapeLemmas.{decoded-byte, decoded-nil, letters_back}
use Rattle.model_page_law.proofs.ContentLemmas.{Levels, with_text, closes, changes, leaf_items, content_items, Reads, ReadsLevels, AtMarks, Reads-text, length-closes, parts_if_false, child-text}
use Rattle.model_page_law.proofs.ContentText.{levels_text}
use Rattle.model_page_law.proofs.CleanLemmas.{content-Sound, without-append}
use Rattle.model_kept_law.specs.Readable.{is_one_part, shares_about, is_apart}
use Rattle.model_kept_law.proofs.ApartParts.{Apart}
use Rattle.model_kept_law.proofs.JoinedParts.{joined, Clear, parts_followed, joined_apart, one_neat}
use Rattle.model_kept_law.proofs.LeafParts.{ContentPart, content_leaf}
use Rattle.model_kept_law.proofs.LevelTexts.{prefix_text, spelling-with_text, closes-text, changes-text, changes-level}
use Rattle.model_kept_law.proofs.WrittenBlocks.{spelling-followed_by}
use Rattle.model_kept_law.proofs.MarkedLevels.{plain_tag, plain_marks, Reads-nothing, at_level, closes-ReadsLevels, changes-AtMarks, take_whole, Lasts, LevelsOf, closes_of, changes_of, Free, closes_free, changes_free}

-- ---- the source of a leaf

-- how a leaf of content is spelled: one part that reads as it
pub record Sourced (s : Start) (inside : Nodes) (pre : List ℕ) (later : Nodes) (text : List ℕ) : Type 0 where
  pub forest : Forest
  pub is : text ≡ spelling forest
  pub neat : Neat forest
  pub part : is_one_part (parts_of forest) ≡ true
  pub apart : Apart (parts_of forest)
  pub reads : ContentPart (parts_of forest) s.kind s.head
  pub clear : (q : Parts) → ((g : Forest) → is_apart g later ≡ true → Clear g q) → Clear forest q
  pub shows : (g : Forest) → is_apart g (Node s inside pre later) ≡ true → (q : Parts) (t : List ℕ) → Clear g (joined (parts_of forest) q) × Clear g (Words t (joined (parts_of forest) q))

abbrev text_of : Writer → Start → Nodes → List ℕ → List ℕ
text_of w s inside pre = unwrap_or (w.original s (node_items s inside pre)) (leaf_text w s s.kind)

-- what the proof needs of content
abbrev pub IsSourced : Writer → Nodes → Type 0
IsSourced w Empty = Unit {0}
IsSourced w (Letter c marks later) = IsScalar c × ArePlainMarks marks × IsSourced w later
IsSourced w (Node s inside pre later) = ArePlainMarks s.marks × Sourced s inside pre later (text_of w s inside pre) × IsSourced w later

-- ---- the forest

abbrev put_levels : (w : Writer) (n : Nodes) → IsSourced w n → List Mark → Levels
put_levels w Empty l opened = closes opened (record { here = Nothing; outer = [] })
put_levels w (Letter c marks later) l opened = let e = put_levels w later l.2 marks in changes opened marks (record { here = with_text (letter c) e.here; outer = e.outer })
put_levels w (Node s inside pre later) l opened = let e = put_levels w later l.2 s.marks in changes opened s.marks (record { here = followed_by l.1.forest e.here; outer = e.outer })

-- ---- its text

closing-text : (w : Writer) (opened : List Mark) → content w opened Empty ≡ levels_text opened (put_levels w Empty tt opened).here (put_levels w Empty tt opened).outer
closing-text w [] = refl
closing-text w (m ∷ ms) = sym (closes-text (m ∷ ms) (m ∷ ms) 0 (record { here = Nothing; outer = [] }) refl refl)

put-text : MarksMean → (w : Writer) (n : Nodes) (l : IsSourced w n) (opened : List Mark) →
    (content w opened n ≡ levels_text opened (put_levels w n l opened).here (put_levels w n l opened).outer) × (length (put_levels w n l opened).outer ≡ length opened)
put-text mean w Empty l opened = (closing-text w opened, (let k = length-closes opened (record { here = Nothing; outer = [] }) in omega (arith, k)))
put-text mean w (Letter c marks later) l opened =
    let e : Levels = put_levels w later l.2 marks in
    let r = put-text mean w later l.2 marks in
    let e2 : Levels = record { here = with_text (letter c) e.here; outer = e.outer } in (
      ap (λ s. marks_changed opened marks ++ letter c ++ s) r.0
          ∙ append_assoc (marks_changed opened marks) (letter c) (levels_text marks e.here e.outer)
          ∙ ap (λ s. marks_changed opened marks ++ s) (sym (prefix_text marks e.here e2.here e.outer (letter c) (spelling-with_text (letter c) e.here)))
          ∙ sym (changes-text mean opened marks e2 r.1),
      changes-level mean opened marks e2 r.1,
    )
put-text mean w (Node s inside pre later) l opened =
    let e : Levels = put_levels w later l.2 s.marks in
    let r = put-text mean w later l.2 s.marks in
    let part : List ℕ = spelling l.1.forest in
    let e2 : Levels = record { here = followed_by l.1.forest e.here; outer = e.outer } in (
      (λ i. marks_changed opened s.marks ++ l.1.is i ++ r.0 i)
          ∙ append_assoc (marks_changed opened s.marks) part (levels_text s.marks e.here e.outer)
          ∙ ap (λ x. marks_changed opened s.marks ++ x) (sym (prefix_text s.marks e.here e2.here e.outer part (spelling-followed_by l.1.forest e.here)))
          ∙ sym (changes-text mean opened s.marks e2 r.1),
      changes-level mean opened s.marks e2 r.1,
    )

-- ---- what joins it

not_ampersand : (c : ℕ) → is_white_char c ≡ true → (c == 38) ≡ false
not_ampersand c h = grind (arith, common_steps)

decoded-blank : (text : List ℕ) → is_white text ≡ true → decoded_from 0 text ≡ text
decoded-blank [] h = decoded-nil
decoded-blank (c ∷ cs) h = let p = and_parts (is_white_char c) (is_white cs) h in decoded-byte c cs (not_ampersand c p.0) ∙ ap (λ s. c ∷ s) (decoded-blank cs p.1)

characters-blank : (text : List ℕ) → is_white text ≡ true → characters text ≡ text
characters-blank text h = ap chars (decoded-blank text h) ∙ white_chars text h

false_of : (b : Bool) → (b ≡ true → ⊥) → b ≡ false
false_of true h = absurd (h refl)
false_of false h = refl

opposite : (b : Bool) → b ≡ true → b ≡ false → ⊥
opposite b e f = cc

-- a character that is no whitespace is not spelled as whitespace
letter_solid : (c : ℕ) (t : List ℕ) → IsScalar c → is_white_char c ≡ false → is_white (letter c ++ t) ≡ false
letter_solid c t is h = false_of (is_white (letter c ++ t)) (λ e.
    let same : letter c ++ t ≡ c ∷ characters t = sym (characters-blank (letter c ++ t) e) ∙ letters_back c t is in
    let p = and_parts (is_white_char c) (is_white (characters t)) (ap is_white (sym same) ∙ e) in
    opposite (is_white_char c) p.0 h)

white_more : (a t : List ℕ) (b : Bool) → (is_white t && b) ≡ false → (is_white (a ++ t) && b) ≡ false
white_more [] t b e = e
white_more (x ∷ a) t b e = and_later (is_white_char x) (is_white (a ++ t)) b (white_more a t b e)
  where
    and_later : (x y b : Bool) → (y && b) ≡ false → ((x && y) && b) ≡ false
    and_later true y b e = e
    and_later false y b e = refl

-- words before
longer_clear : (g : Forest) (a t : List ℕ) (q : Parts) → Clear g (Words t q) → Clear g (Words (a ++ t) q)
longer_clear g a t Ended c = tt
longer_clear g a t (Words u later) c = tt
longer_clear g a t (Note u later) c = tt
longer_clear g a t (Group nodes later) c = white_more a t (shares_about g nodes) c
longer_clear g a t (Single name attrs source later) c = tt
longer_clear g a t (Parent name attrs children later) c = tt

solid_clear : (g : Forest) (t : List ℕ) (q : Parts) → is_white t ≡ false → Clear g (Words t q)
solid_clear g t Ended e = tt
solid_clear g t (Words u later) e = tt
solid_clear g t (Note u later) e = tt
solid_clear g t (Group nodes later) e = ap (λ b. b && shares_about g nodes) e
solid_clear g t (Single name attrs source later) e = tt
solid_clear g t (Parent name attrs children later) e = tt

white_free : (g : Forest) (a : List ℕ) (f : Forest) → Free g f → Free g (with_text a f)
white_free g a (Text t rest) h = (longer_clear g a t (parts_of rest) h.0, (λ u. tt))
white_free g a Nothing h = (h.1 a, (λ u. tt))
white_free g a (Remark t rest) h = (h.1 a, (λ u. tt))
white_free g a (Void name attrs slash rest) h = (h.1 a, (λ u. tt))
white_free g a (RawElement name attrs t rest) h = (h.1 a, (λ u. tt))
white_free g a (Element name attrs children rest) h = (h.1 a, (λ u. tt))

solid_free : (g : Forest) (a : List ℕ) (f : Forest) → ((t : List ℕ) → is_white (a ++ t) ≡ false) → Free g (with_text a f)
solid_free g a (Text t rest) h = (solid_clear g (a ++ t) (parts_of rest) (h t), (λ u. tt))
solid_free g a Nothing h = (tt, (λ u. tt))
solid_free g a (Remark t rest) h = (tt, (λ u. tt))
solid_free g a (Void name attrs slash rest) h = (solid_clear g a (parts_of (Void name attrs slash rest)) (ap is_white (sym (append-nil a)) ∙ h []), (λ u. tt))
solid_free g a (RawElement name attrs t rest) h = (solid_clear g a (parts_of (RawElement name attrs t rest)) (ap is_white (sym (append-nil a)) ∙ h []), (λ u. tt))
solid_free g a (Element name attrs children rest) h = (solid_clear g a (parts_of (Element name attrs children rest)) (ap is_white (sym (append-nil a)) ∙ h []), (λ u. tt))

letter_free : (g : Forest) (c : ℕ) (later : Nodes) (f : Forest) → IsScalar c → (b : Bool) → is_white_char c ≡ b → (is_apart g later ≡ true → Free g f) → (not b || is_apart g later) ≡ true → Free g (with_text (letter c) f)
letter_free g c later f is true e h a = white_free g (letter c) f (h a)
letter_free g c later f is false e h a = solid_free g (letter c) f (λ t. letter_solid c t is e)

-- ---- its levels

abbrev Well : Forest → Type 0
Well f = Neat f × Apart (parts_of f)

well_lasts : Lasts Well
well_lasts = record {
  nothing = (tt, tt);
  mark = λ m inside rest p c i r. ((((plain_tag m p).0, i.0, r.0)), subst Apart (sym (parts_if_false (is_held (canon_attrs (map attr_bytes m.attrs))) _ (Parent (encode_utf8_all m.tag) (canon_attrs (map attr_bytes m.attrs)) (parts_of inside) (parts_of rest)) (plain_tag m p).1)) (i.1, r.1));
}

-- the text of a character may be spelled
letter_neat : (c : ℕ) → IsScalar c → (is_empty (letter c) ≡ false) × (without 60 (letter c) ≡ true)
letter_neat c is = let k = (content-Sound P (Letter c [] Empty) [] (is, tt, tt)).0.clean in (k.0, k.1)

nonempty-append : (a b : List ℕ) → is_empty a ≡ false → is_empty (a ++ b) ≡ false
nonempty-append [] b h = cc
nonempty-append (x ∷ a) b h = refl

text_well : (text : List ℕ) (f : Forest) → is_empty text ≡ false → without 60 text ≡ true → Well f → Well (with_text text f)
text_well text (Text t rest) e h w = ((nonempty-append text t e, without-append 60 text t h w.0.1, w.0.2, w.0.3), w.1)
text_well text Nothing e h w = ((e, h, refl, w.0), w.1)
text_well text (Remark t rest) e h w = ((e, h, refl, w.0), w.1)
text_well text (Void name attrs slash rest) e h w = ((e, h, refl, w.0), w.1)
text_well text (RawElement name attrs t rest) e h w = ((e, h, refl, w.0), w.1)
text_well text (Element name attrs children rest) e h w = ((e, h, refl, w.0), w.1)

-- one part holds something, whatever follows
one_child : (p q : Parts) → is_one_part p ≡ true → has_child (joined p q) ≡ true
one_child Ended q h = cc
one_child (Words text later) q h = cc
one_child (Note text later) q h = refl
one_child (Group nodes later) q h = refl
one_child (Single name attrs source later) q h = refl
one_child (Parent name attrs children later) q h = refl

record PutLevels (marks : List Mark) (n : Nodes) (e : Levels) : Type 0 where
  at : AtMarks marks e (content_items n)
  well : LevelsOf Well e
  free : (g : Forest) → is_apart g n ≡ true → Free g e.here

put-levels : MarksMean → (w : Writer) (n : Nodes) (l : IsSourced w n) (opened : List Mark) → PutLevels opened n (put_levels w n l opened)
put-levels mean w Empty l opened =
    let e : Levels = record { here = Nothing; outer = [] } in
    record {
      at = record {
        reads = closes-ReadsLevels opened opened e [] (Reads-nothing []);
        level = let k = length-closes opened e in omega (arith, k);
      };
      well = closes_of Well well_lasts opened e ((tt, tt), tt);
      free = λ g a. closes_free g opened e (tt, (λ t. tt));
    }
put-levels mean w (Letter c marks later) l opened =
    let e : Levels = put_levels w later l.2 marks in
    let r = put-levels mean w later l.2 marks in
    let e2 : Levels = record { here = with_text (letter c) e.here; outer = e.outer } in
    let whole : take (length e.outer) marks ≡ marks = take_whole marks (length e.outer) r.at.level in
    let k = letter_neat c l.0 in
    record {
      at = changes-AtMarks mean opened marks e2 (Char c marks ∷ content_items later) (plain_marks marks l.1) (child-text (letter c) e.here) (record {
        reads =
            subst (λ m. ReadsLevels marks (with_text (letter c) e.here) e.outer (Char c m ∷ content_items later)) whole
            (at_level marks e.here (with_text (letter c) e.here) e.outer (content_items later) (Char c (take (length e.outer) marks) ∷ [])
            (λ zs h. Reads-text letters_back c l.0 (take (length e.outer) marks) e.here zs h) r.at.reads);
        level = r.at.level;
      });
      well = changes_of Well well_lasts opened marks e2 l.1 (child-text (letter c) e.here) (text_well (letter c) e.here k.0 k.1 r.well.0, r.well.1);
      free = λ g a. changes_free g opened marks e2 l.1 (letter_free g c later e.here l.0 (is_white_char c) refl (r.free g) a);
    }
put-levels mean w (Node s inside pre later) l opened =
    let e : Levels = put_levels w later l.2 s.marks in
    let r = put-levels mean w later l.2 s.marks in
    let own = l.1 in
    let f : Forest = own.forest in
    let e2 : Levels = record { here = followed_by f e.here; outer = e.outer } in
    let clear : Clear f (parts_of e.here) = own.clear (parts_of e.here) (λ g a. (r.free g a).0) in
    let together : parts_of (followed_by f e.here) ≡ joined (parts_of f) (parts_of e.here) = parts_followed f e.here clear in
    let child : has_child (parts_of e2.here) ≡ true = ap has_child together ∙ one_child (parts_of f) (parts_of e.here) own.part in
    let whole : take (length e.outer) s.marks ≡ s.marks = take_whole s.marks (length e.outer) r.at.level in
    record {
      at = changes-AtMarks mean opened s.marks e2 (leaf_items s (content_items later)) (plain_marks s.marks l.0) child (record {
        reads =
            at_level s.marks e.here e2.here e.outer (content_items later) (leaf_items s [])
            (λ zs h. subst (λ m. Reads m e2.here (leaf_items s zs)) (sym whole) (content_leaf s.marks f e.here s.kind s.head zs own.reads together (subst (λ m. Reads m e.here zs) whole h))) r.at.reads;
        level = r.at.level;
      });
      well = changes_of Well well_lasts opened s.marks e2 l.0 child (
        (one_neat f e.here own.part own.neat r.well.0.0, subst Apart (sym together) (joined_apart (parts_of f) (parts_of e.here) own.apart r.well.0.1)),
        r.well.1,
      );
      free = λ g a. changes_free g opened s.marks e2 l.0 (
        subst (Clear g) (sym together) (own.shows g a (parts_of e.here) []).0,
        (λ t. subst (λ x. Clear g (Words t x)) (sym together) (own.shows g a (parts_of e.here) t).1),
      );
    }

-- ---- content as a writer writes it

-- the forest of content, in an element
pub record ContentRead (w : Writer) (n : Nodes) : Type 0 where
  pub forest : Forest
  pub spells : spelling forest ≡ content w [] n
  pub neat : Neat forest
  pub apart : Apart (parts_of forest)
  pub reads : Reads [] forest (content_items n)

pub content_read : MarksMean → (w : Writer) (n : Nodes) → IsSourced w n → ContentRead w n
content_read mean w n l =
    let e : Levels = put_levels w n l [] in
    let t = put-text mean w n l [] in
    let r = put-levels mean w n l [] in
    record {
      forest = e.here;
      spells = sym (t.0 ∙ text_alone e.here e.outer t.1);
      neat = r.well.0.0;
      apart = r.well.0.1;
      reads = reads_alone e.here e.outer r.at.level r.at.reads;
    }
  where
    text_alone : (here : Forest) (outer : List Forest) → length outer ≡ 0 → levels_text [] here outer ≡ spelling here
    text_alone here [] l = refl
    text_alone here (o ∷ outer) l = cc

    reads_alone : (here : Forest) (outer : List Forest) → length outer ≡ 0 → ReadsLevels [] here outer (content_items n) → Reads [] here (content_items n)
    reads_alone here [] l r = r
    reads_alone here (o ∷ outer) l r = cc
