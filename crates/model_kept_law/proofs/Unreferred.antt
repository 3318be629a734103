-- Where no element of a forest is of the type of references, none of its groups is one.
use Rattle.std.proofs.Common.{◌≡◌, ℕ, Bool, true, false, ◌&&◌, ◌||◌, if◌then◌else◌, List, Option, None, refl, ap}
use Rattle.model_spelling.specs.Grammar.{Attr as Spelled}
use Rattle.model_spelling.specs.Forest.{Forest, Nothing, Text, Remark, Void, RawElement, Element}
use Rattle.model_page.specs.Elements.{is_white, about_of, is_held, has_type, is_reference_type}
use Rattle.model_page.specs.Parts.{Parts, Ended, Words, Note, Group, Single, Parent, about_in, is_shared, with_held, parts_of}
use Rattle.model_page.specs.Fit.{Around, Flow, Structural, Content}
use Rattle.model_page.specs.Pieces.{Progress}
use Rattle.model_page.specs.ReferenceNodes.{RefNode, may_be_reference}
use Rattle.model_kept_law.specs.Readable.{names_reference}
use Rattle.model_kept_law.proofs.ApartParts.{Unreferred, Apart}

or_left : (a b : Bool) → (a || b) ≡ false → a ≡ false
or_left true b e = cc
or_left false b e = refl

or_right : (a b : Bool) → (a || b) ≡ false → b ≡ false
or_right true b e = cc
or_right false b e = e

no_reference : (a b t c : Bool) → t ≡ false → (a && b && t && c) ≡ false
no_reference true true t c e = ap (λ x. x && c) e
no_reference true false t c e = refl
no_reference false b t c e = refl

may_not : (place : Progress) (around : Around) (name : List ℕ) (attrs : List Spelled) → has_type is_reference_type attrs ≡ false → may_be_reference place around name attrs ≡ false
may_not place (Structural parent) name attrs e = refl
may_not place (Flow parent) name attrs e = no_reference place.editable _ (has_type is_reference_type attrs) _ e
may_not place (Content marks) name attrs e = no_reference place.editable _ (has_type is_reference_type attrs) _ e

if_false : (c : Bool) (x : Option RefNode) → c ≡ false → (if c then x else None) ≡ None
if_false true x e = cc
if_false false x e = refl

element_none : (name : List ℕ) (attrs : List Spelled) (children rest : Forest) → has_type is_reference_type attrs ≡ false → Unreferred (Element name attrs children rest)
element_none name attrs children Nothing e place around = if_false (may_be_reference place around name attrs) _ (may_not place around name attrs e)
element_none name attrs children (Text text rest) e place around = refl
element_none name attrs children (Remark text rest) e place around = refl
element_none name attrs children (Void n a slash rest) e place around = refl
element_none name attrs children (RawElement n a text rest) e place around = refl
element_none name attrs children (Element n a inner rest) e place around = refl

-- ---- held elements

abbrev Never : (Forest → Forest) → Type 0
Never element = (nodes : Forest) → Unreferred (element nodes)

chosen : (c : Bool) (a b : Parts) → Apart a → Apart b → Apart (if c then a else b)
chosen true a b f g = f
chosen false a b f g = g

with_held-apart : (about : Option (List ℕ)) (element : Forest → Forest) → Never element → (parts : Parts) → Apart parts → Apart (with_held about element parts)
with_held-apart about element h Ended a = (h Nothing, a)
with_held-apart about element h (Words t Ended) a = (h Nothing, a)
with_held-apart about element h (Words t (Words u later)) a = (h Nothing, a)
with_held-apart about element h (Words t (Note u later)) a = (h Nothing, a)
with_held-apart about element h (Words t (Group nodes later)) a = chosen (is_white t && is_shared about (about_in nodes)) _ _ (h (Text t nodes), a.1) (h Nothing, a)
with_held-apart about element h (Words t (Single name attrs source later)) a = (h Nothing, a)
with_held-apart about element h (Words t (Parent name attrs children later)) a = (h Nothing, a)
with_held-apart about element h (Note t later) a = (h Nothing, a)
with_held-apart about element h (Group nodes later) a = chosen (is_shared about (about_in nodes)) _ _ (h nodes, a.1) (h Nothing, a)
with_held-apart about element h (Single name attrs source later) a = (h Nothing, a)
with_held-apart about element h (Parent name attrs children later) a = (h Nothing, a)

pub unreferred_apart : (f : Forest) → names_reference f ≡ false → Apart (parts_of f)
unreferred_apart Nothing e = tt
unreferred_apart (Text text rest) e = unreferred_apart rest e
unreferred_apart (Remark text rest) e = unreferred_apart rest e
unreferred_apart (Void name attrs slash rest) e =
    let r = unreferred_apart rest (or_right (has_type is_reference_type attrs) (names_reference rest) e) in
    chosen (is_held attrs) _ _ (with_held-apart (about_of attrs) (Void name attrs slash) (λ nodes place around. refl) (parts_of rest) r) r
unreferred_apart (RawElement name attrs text rest) e =
    let r = unreferred_apart rest (or_right (has_type is_reference_type attrs) (names_reference rest) e) in
    chosen (is_held attrs) _ _ (with_held-apart (about_of attrs) (RawElement name attrs text) (λ nodes place around. refl) (parts_of rest) r) r
unreferred_apart (Element name attrs children rest) e =
    let first = or_left (has_type is_reference_type attrs || names_reference children) (names_reference rest) e in
    let own = or_left (has_type is_reference_type attrs) (names_reference children) first in
    let r = unreferred_apart rest (or_right (has_type is_reference_type attrs || names_reference children) (names_reference rest) e) in
    let i = unreferred_apart children (or_right (has_type is_reference_type attrs) (names_reference children) first) in
    chosen (is_held attrs) _ _ (with_held-apart (about_of attrs) (Element name attrs children) (λ nodes. element_none name attrs children nodes own) (parts_of rest) r) (i, r)
