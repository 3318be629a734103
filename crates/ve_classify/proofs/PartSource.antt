-- Texts one after the other, and that a forest with a node has a part.
use Rattle.std.proofs.Common.{◌≡◌, ℕ, ◌+◌, Bool, true, false, List, ◌++◌, length, drop, Option, refl, sym, ap, ◌∙◌, append_assoc, if◌then◌else◌}
use Rattle.std.proofs.Math.Seq.{drop-append_seam}
use Rattle.std.proofs.lemmas.List.{drop-drop}
use Rattle.model_spelling.specs.Forest.{Forest, Nothing, Text, Remark, Void, RawElement, Element}
use Rattle.model_spelling.specs.ForestNodes.{forest_size}
use Rattle.model_page.specs.Elements.{is_held, about_of}
use Rattle.model_page.specs.Parts.{Parts, with_held, parts_of}
use Rattle.ve_classify.specs.Standing.{has_node}
use Rattle.ve_classify.proofs.GroupLemmas.{FirstElement, begun, void_first, raw_first, element_first}
use Rattle.ve_classify.specs.FirstPart.{has_part}

pub regroup : (s c e r b : List ℕ) → s ++ c ++ e ++ r ++ b ≡ s ++ (c ++ (e ++ r ++ b))
regroup s c e r b =
    ap (λ x. x ++ r ++ b) (append_assoc s c e) ∙ ap (λ x. x ++ b) (append_assoc s (c ++ e) r) ∙ append_assoc s (c ++ e ++ r) b
    ∙ ap (λ x. s ++ (x ++ b)) (append_assoc c e r) ∙ ap (λ x. s ++ x) (append_assoc c (e ++ r) b)

pub after_start : (text start rest : List ℕ) (at : ℕ) → drop at text ≡ start ++ rest → drop (at + length start) text ≡ rest
after_start text start rest at e = sym (drop-drop (length start) at text) ∙ ap (drop (length start)) e ∙ drop-append_seam start rest

-- a forest with a node has a part
held_part : (about : Option (List ℕ)) (element : Forest → Forest) (n : ℕ) → FirstElement element about n → (p other : Parts) (h : Bool) → has_part other ≡ true → has_part (if h then with_held about element p else other) ≡ true
held_part about element n f p other true e = let b = begun about element n f p in ap has_part b.is
held_part about element n f p other false e = e

pub parted : (f : Forest) → has_node f ≡ true → has_part (parts_of f) ≡ true
parted Nothing e = absurd cc
parted (Text text rest) e = refl
parted (Remark text rest) e = refl
parted (Void name attrs slash rest) e = held_part (about_of attrs) (Void name attrs slash) 1 (void_first name attrs slash) (parts_of rest) _ (is_held attrs) refl
parted (RawElement name attrs text rest) e = held_part (about_of attrs) (RawElement name attrs text) (forest_size (RawElement name attrs text Nothing)) (raw_first name attrs text) (parts_of rest) _ (is_held attrs) refl
parted (Element name attrs children rest) e = held_part (about_of attrs) (Element name attrs children) (1 + forest_size children) (element_first name attrs children) (parts_of rest) _ (is_held attrs) refl
