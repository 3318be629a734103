-- Tests of texts and tags.
use Rattle.std.proofs.Common.{◌≡◌, ℕ, ◌+◌, ◌<◌, Bool, true, false, ◌&&◌, nat_lt, List, [], ◌∷◌, length, drop, get_or, refl, sym, ap, ◌∙◌}
use Rattle.std.specs.List.{list_all}
use Rattle.std.specs.Str.{bytes_eq, chars, encode_utf8_all, IsAscii}
use Rattle.std.proofs.lemmas.Str.{encodes-IsAscii, chars-IsAscii}
use Rattle.std.proofs.lemmas.Str.Ascii.{IsAscii-nil, IsAscii-cons}
use Rattle.std.proofs.lemmas.Bool.{and_parts, ltb-true}
use Rattle.std.proofs.lemmas.Bool.Decides.{same_from_decides}
use Rattle.std.proofs.lemmas.List.{at_drop_more}
use Rattle.std.proofs.lemmas.Slice.Eq.{bytes_eq-Decides}
use Rattle.ve_kinds.specs.Tags.{annotation_tags, is_one_of}

-- ---- characters, one at a time

pub fails_here : (p : ℕ → Bool) (at ch : ℕ) (text : List ℕ) → (at < length text) × (ch ≡ get_or text at ch) → p ch ≡ false → list_all p (drop at text) ≡ false
fails_here p at ch text turn other =
    at_drop_more (list_all p) text at ch turn.0 ∙ ap (λ d. p d && list_all p (drop (at + 1) text)) (sym turn.1) ∙ ap (λ b. b && list_all p (drop (at + 1) text)) other

pub holds_here : (p : ℕ → Bool) (at ch : ℕ) (text : List ℕ) → (at < length text) × (ch ≡ get_or text at ch) → p ch ≡ true → list_all p (drop at text) ≡ list_all p (drop (at + 1) text)
holds_here p at ch text turn so =
    at_drop_more (list_all p) text at ch turn.0 ∙ ap (λ d. p d && list_all p (drop (at + 1) text)) (sym turn.1) ∙ ap (λ b. b && list_all p (drop (at + 1) text)) so

-- ---- tags

one_tag : (tag bytes text : List ℕ) → encode_utf8_all tag ≡ tag → chars tag ≡ tag → chars bytes ≡ text → bytes ≡ encode_utf8_all text → bytes_eq tag bytes ≡ bytes_eq tag text
one_tag tag bytes text encoded decoded is spelled =
    same_from_decides (bytes_eq tag bytes) (bytes_eq tag text)
    (λ t. decoded_same ((bytes_eq-Decides tag bytes).0 t), λ e. (bytes_eq-Decides tag bytes).1 (encoded_same e))
    (bytes_eq-Decides tag text) where
      decoded_same : tag ≡ bytes → tag ≡ text
      decoded_same e = sym decoded ∙ ap chars e ∙ is

      encoded_same : tag ≡ text → tag ≡ bytes
      encoded_same e = sym encoded ∙ ap encode_utf8_all e ∙ sym spelled

small : ℕ → Bool
small b = nat_lt b 128

ascii : (tag : List ℕ) → list_all small tag ≡ true → IsAscii tag
unfolding small
ascii [] h = IsAscii-nil
ascii (b ∷ bs) h = let p = and_parts (small b) (list_all small bs) h in IsAscii-cons b bs (ltb-true b 128 p.0) (ascii bs p.1)

among : (tags : List (List ℕ)) (bytes text : List ℕ) → list_all (list_all small) tags ≡ true → chars bytes ≡ text → bytes ≡ encode_utf8_all text → is_one_of tags bytes ≡ is_one_of tags text
among [] bytes text h is spelled = refl
among (tag ∷ tags) bytes text h is spelled =
    let p = and_parts (list_all small tag) (list_all (list_all small) tags) h in
    let a = ascii tag p.0 in
    rw (one_tag tag bytes text (encodes-IsAscii tag a) (chars-IsAscii tag a) is spelled, among tags bytes text p.1 is spelled) refl

tags_are_small : list_all (list_all small) annotation_tags ≡ true
unfolding small
tags_are_small = refl

-- a tag is one of marks by its characters as by its bytes
pub tag_by_chars : (bytes text : List ℕ) → chars bytes ≡ text → bytes ≡ encode_utf8_all text → is_one_of annotation_tags bytes ≡ is_one_of annotation_tags text
tag_by_chars bytes text is spelled = among annotation_tags bytes text tags_are_small is spelled
