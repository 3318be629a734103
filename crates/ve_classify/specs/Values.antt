-- Values as they are spelled, and what `typeof` is asked for.
use Rattle.std.specs.Prelude.{◌≡◌, ℕ, Bool, List, [], ◌∷◌, Option, Some, None, if◌then◌else◌, bytes_eq, codes}
use Rattle.model_spelling.specs.Grammar.{Attr, begins_with}
use Rattle.model_page.specs.Elements.{is_generator, is_reference_type, is_transclusion}
use Rattle.ve_html_scan.specs.Shown.{ShowsAttrs}
use Rattle.ve_html_scan.specs.declared.attr_tokens.AttrTokens.{AttrTokens}
use Rattle.ve_classify.specs.declared.types.TypeTest.{TypeTest}
use Rattle.ve_classify.specs.declared.types.TypeTest.TheVariants as ask

-- the answer holds of the attributes that tokens show
abbrev pub OfAttrs : {A : Type 0} → AttrTokens → (List Attr → A) → A → Type 0
OfAttrs tokens ask result = (attrs : List Attr) (slash : Bool) → ShowsAttrs tokens attrs slash → result ≡ ask attrs

-- the value of the attribute of this name, as it is spelled
abbrev pub spelled_value : List ℕ → List Attr → Option (List ℕ)
spelled_value name [] = None
spelled_value name (a ∷ attrs) = if bytes_eq a.name name then Some a.value else spelled_value name attrs

-- the answer of a test for a word
abbrev pub answer_of_test : TypeTest → List ℕ → Bool
answer_of_test ask.Held word = begins_with (codes "mw:") word
answer_of_test ask.Generator word = is_generator word
answer_of_test ask.Reference word = is_reference_type word
answer_of_test ask.Transclusion word = is_transclusion word
