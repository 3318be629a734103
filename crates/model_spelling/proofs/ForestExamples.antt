-- A forest, its spelling and its nodes, and what is decoded and written, by computation.
use Rattle.std.proofs.Common.{◌≡◌, [], ◌∷◌, Some, refl, true, false, map}
use Rattle.std.specs.Prelude.{codes}
use Rattle.model_spelling.specs.Grammar.{is_letter, is_plaintext, name_same, is_barred, begins_with, starts_reference}
use Rattle.ve_kinds.specs.Tags.{is_void, is_raw}
use Rattle.model_spelling.specs.Reading.{reference_fault, run_end, verbatim_end, head_at, attr_at, attrs_at, start_after, end_at, comment_at, is_doctype, dash_at, markup_at, start_at, tag_at, between_at, token_at}
use Rattle.model_spelling.specs.Tokens.{tokens_from}
use Rattle.model_spelling.specs.Faults.{fault_of}
use Rattle.model_spelling.specs.Forest.{Forest, Nothing, Text, Void, RawElement, Element, spelling, is_forest}
use Rattle.model_spelling.specs.ForestNodes.{ForestNode, forest_nodes}
use Rattle.model_spelling.specs.Parsed.{forest_of}
use Rattle.model_spelling.specs.Written.{decoded, decoded_from, escaped, canon_start}

abbrev sample : Forest
sample = Element (codes "p") (record { name = codes "id"; value = codes "x"; quote = 34 } ∷ []) (Text (codes "a&amp;b") (Void (codes "br") [] true Nothing)) (RawElement (codes "style") [] (codes "x") Nothing)

sample_is_spelled : spelling sample ≡ codes "<p id=\"x\">a&amp;b<br/></p><style>x</style>"
sample_is_spelled = refl

sample_is_allowed : is_forest 200 sample ≡ true
unfolding fault_of tokens_from token_at between_at tag_at start_at markup_at dash_at is_doctype comment_at end_at start_after attrs_at attr_at head_at verbatim_end run_end reference_fault starts_reference is_letter is_plaintext name_same is_barred begins_with is_void is_raw
sample_is_allowed = refl

sample_is_read : forest_of (codes "<p id=\"x\">a&amp;b<br/></p><style>x</style>") ≡ Some sample
unfolding fault_of tokens_from token_at between_at tag_at start_at markup_at dash_at is_doctype comment_at end_at start_after attrs_at attr_at head_at verbatim_end run_end reference_fault starts_reference is_letter is_plaintext name_same is_barred begins_with is_void is_raw
sample_is_read = refl

-- the number past each node's subtree
sample_nexts : map (λ (r : ForestNode). r.next) (forest_nodes 0 0 sample) ≡ 3 ∷ 2 ∷ 3 ∷ 5 ∷ 5 ∷ []
sample_nexts = refl

-- where each node begins and ends, and its content
sample_spans : map (λ (r : ForestNode). r.from ∷ r.inner_from ∷ r.inner_to ∷ r.to ∷ []) (forest_nodes 0 0 sample) ≡ (0 ∷ 10 ∷ 22 ∷ 26 ∷ []) ∷ (10 ∷ 10 ∷ 17 ∷ 17 ∷ []) ∷ (17 ∷ 22 ∷ 22 ∷ 22 ∷ []) ∷ (26 ∷ 33 ∷ 34 ∷ 42 ∷ []) ∷ (33 ∷ 33 ∷ 34 ∷ 34 ∷ []) ∷ []
sample_spans = refl

-- the bytes 194 and 160 are U+00A0; what a reference gives is not read again
all_decoded : decoded (codes "a&lt;&nbsp;&apos;&amp;amp;b") ≡ 97 ∷ 60 ∷ 194 ∷ 160 ∷ codes "'&amp;b"
unfolding decoded_from begins_with
all_decoded = refl

-- in a text `"` stands for itself
escaped_in_both : map (λ in_value. escaped in_value (97 ∷ 60 ∷ 62 ∷ 194 ∷ 160 ∷ codes "&\"")) (false ∷ true ∷ []) ≡ codes "a&lt;&gt;&nbsp;&amp;\"" ∷ codes "a&lt;&gt;&nbsp;&amp;&quot;" ∷ []
unfolding escaped
escaped_in_both = refl

start_tag_is_written : canon_start (codes "a") ((codes "href", codes "?a&b") ∷ (codes "id", codes "x") ∷ []) ≡ codes "<a href=\"?a&amp;b\" id=\"x\">"
unfolding escaped
start_tag_is_written = refl
