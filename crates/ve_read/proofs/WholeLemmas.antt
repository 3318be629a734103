-- All that stands in a text, as siblings.
use Rattle.std.proofs.Common.{◌≡◌, ℕ, List, [], length, sym, ap, ◌∙◌, subst, arith, IsUtf8}
use Rattle.model_spelling.specs.ForestNodes.{forest_nodes, forest_size}
use Rattle.model_spelling.proofs.ForestLaws.{length_forest_nodes}
use Rattle.model_spelling.proofs.Proved.{law_only}
use Rattle.model_page.specs.Parts.{Parts, parts_of}
use Rattle.model_page.specs.PageItems.{or_nothing}
use Rattle.ve_html_tree.specs.declared.node.Node.{Node}
use Rattle.ve_classify.proofs.StandLemmas.{shown_count}
use Rattle.ve_classify.proofs.TextLemmas.{forest_stands}
use Rattle.ve_classify.specs.Units.{Whole}
use Rattle.ve_read.specs.Places.{OfSiblings, SomeSiblings}
use Rattle.ve_read.specs.Forests.{AreNodesOf, parts_in}

whole : (text : List ℕ) (nodes : List Node) (n : ℕ) (found : AreNodesOf text nodes) → n ≡ length nodes → Whole found.0 0 0 n (length text)
whole text nodes n found e =
    let count : length nodes ≡ forest_size found.0 = shown_count nodes (forest_nodes 0 0 found.0) found.2 ∙ length_forest_nodes 0 0 found.0 in
    record { to_is = omega (arith, e, count); byte_is = omega (arith, ap length found.1.text_is) }

pub some_siblings : (text : List ℕ) (nodes : List Node) (n : ℕ) → IsUtf8 text → (found : AreNodesOf text nodes) → n ≡ length nodes → SomeSiblings text nodes 0 n (length text)
some_siblings text nodes n u found e =
    record { forest = found.0; at = 0; more = []; stands = forest_stands text nodes found.0 u found.1 found.2; whole = whole text nodes n found e }

-- what is said of them is said of the text's parts
pub of_text : (text : List ℕ) (nodes : List Node) (n : ℕ) (says : Parts → ℕ → Type 0) → IsUtf8 text → (found : AreNodesOf text nodes) → n ≡ length nodes
    → OfSiblings text nodes 0 n (length text) says → says (parts_in text) 0
of_text text nodes n says u found e h =
    subst (λ f. says (parts_of (or_nothing f)) 0) (sym (law_only text found.0 found.1).1)
    (h found.0 0 [] (forest_stands text nodes found.0 u found.1 found.2) (whole text nodes n found e))
