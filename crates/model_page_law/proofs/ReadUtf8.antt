-- Each string of a value that is read from UTF-8 is UTF-8.
use Rattle.std.proofs.Common.{◌≡◌, ℕ, List, [], ◌∷◌, Option, Some, None, refl, subst, IsUtf8}
use Rattle.std.specs.Prelude.{option_and_then, IfSome}
use Rattle.json.specs.Token.{Token}
use Rattle.json.specs.Lex.{tokens}
use Rattle.json.specs.Json.{Json, if_last, value}
use Rattle.json.specs.Tree.{json_tokens}
use Rattle.json.proofs.Unique.Spelling.{value-json_tokens_back}
use Rattle.serde_json.specs.Read.{of_json, max_depth, read}
use Rattle.model_page_law.specs.Strings.{AllStrings}
use Rattle.model_page_law.proofs.LexLemmas.{TokensUtf8, tokens_utf8}
use Rattle.model_page_law.proofs.TreeLemmas.{JsonUtf8, split_utf8, json_utf8, of_json_utf8}

value_utf8 : (text : List ℕ) (j : Json) (rest : List Token) → IsUtf8 text → value max_depth (tokens text) ≡ Some (j, rest) → JsonUtf8 j
value_utf8 text j rest u e =
    let there = subst TokensUtf8 (value-json_tokens_back max_depth (tokens text) rest j e) (tokens_utf8 text u) in
    json_utf8 j (split_utf8 (json_tokens j) rest there).0

whole_utf8 : (o : Option (Json × List Token)) → ((j : Json) (rest : List Token) → o ≡ Some (j, rest) → JsonUtf8 j)
    → IfSome (option_and_then of_json (option_and_then (λ p. if_last p.0 p.1) o)) (AllStrings IsUtf8)
whole_utf8 None h = tt
whole_utf8 (Some (j, [])) h = of_json_utf8 j (h j [] refl)
whole_utf8 (Some (j, t ∷ rest)) h = tt

pub read_utf8 : (text : List ℕ) → IsUtf8 text → IfSome (read text) (AllStrings IsUtf8)
read_utf8 text u = whole_utf8 (value max_depth (tokens text)) (λ j rest e. value_utf8 text j rest u e)
