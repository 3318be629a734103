-- The attributes of a start tag, one after the other.
use Rattle.std.proofs.Common.{◌≡◌, ℕ, ◌≤◌, List, [], ◌∷◌, ◌++◌, length, take, map, sym, ap, ◌∙◌}
use Rattle.std.specs.List.{flat_map}
use Rattle.std.proofs.lemmas.List.{take_all, append-nil}
use Rattle.std.proofs.lemmas.List.Folds.{flat_map-map}
use Rattle.ve_base.specs.declared.attrs.Attr.{Attr}
use Rattle.model_spelling.specs.Grammar.{attr_text}
use Rattle.model_spelling.specs.Written.{canon_attr, attr_bytes, start_tag}
use Rattle.ve_html_write.specs.Tags.{attr_written}

start_is : (tag : List ℕ) (attrs : List Attr) → (60 ∷ tag ++ flat_map attr_written attrs) ++ 62 ∷ [] ≡ start_tag tag attrs
start_is tag attrs =
    ap (λ (l : List ℕ). (60 ∷ tag ++ l) ++ 62 ∷ []) (sym (flat_map-map attr_text canon_attr (map attr_bytes attrs) ∙ flat_map-map (λ p. attr_text (canon_attr p)) attr_bytes attrs))

pub start_done : (now before tag : List ℕ) (items attrs : List Attr) (i : ℕ) → now ≡ before ++ 62 ∷ [] → before ≡ 60 ∷ tag ++ flat_map attr_written (take i items) → length items ≤ i → items ≡ attrs → now ≡ start_tag tag attrs
start_done now before tag items attrs i e f le same =
    let all : take i items ≡ attrs = take_all i items le ∙ same in
    e ∙ ap (λ (l : List ℕ). l ++ 62 ∷ []) f ∙ ap (λ (l : List Attr). (60 ∷ tag ++ flat_map attr_written l) ++ 62 ∷ []) all ∙ start_is tag attrs

pub start_begun : (now before none spelled tag : List ℕ) → now ≡ before ++ spelled → before ≡ none ++ 60 ∷ [] → none ≡ [] → spelled ≡ tag → now ≡ 60 ∷ tag ++ []
start_begun now before none spelled tag e f n s =
    e ∙ ap (λ (l : List ℕ). l ++ spelled) (f ∙ ap (λ (l : List ℕ). l ++ 60 ∷ []) n) ∙ ap (λ (l : List ℕ). 60 ∷ l) (s ∙ sym (append-nil tag))
