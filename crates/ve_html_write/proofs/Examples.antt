-- Tags as they are written, worked out.
use Rattle.std.proofs.Common.{◌≡◌, [], ◌∷◌, refl}
use Rattle.std.specs.Prelude.{codes}
use Rattle.std.proofs.Math.Utf8.{encode}
use Rattle.model_spelling.specs.Written.{escaped, start_tag}

-- no attributes
bare : start_tag (codes "p") [] ≡ codes "<p>"
bare = refl

-- a value with a quote, an `&` and U+00A0, and an empty one
two_values : start_tag (codes "a") (record { name = codes "href"; value = 34 ∷ 38 ∷ 160 ∷ [] } ∷ record { name = codes "id"; value = [] } ∷ []) ≡ codes "<a href=\"&quot;&amp;&nbsp;\" id=\"\">"
unfolding escaped encode
two_values = refl
