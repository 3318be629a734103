-- Taking a token, for every token of the grammar that it shows and every list of nodes of a forest
-- that the nodes show.
use Rattle.std.specs.Prelude.{◌≡◌, ℕ, List, Result, OnOk}
use Rattle.model_spelling.specs.Grammar as g
use Rattle.model_spelling.specs.Faults.{after_start, after_end, after_token}
use Rattle.model_spelling.specs.ForestNodes.{ForestNode}
use Rattle.ve_html_scan.specs.Shown.{ShowsToken, token_span}
use Rattle.ve_html_scan.specs.declared.token.Token.{Token}
use Rattle.ve_html_tree.specs.declared.fault.HtmlFault.{HtmlFault}
use Rattle.ve_html_tree.specs.declared.node.Node.{Node}
use Rattle.ve_html_tree.specs.declared.open.Opened.{Opened}
use Rattle.ve_html_tree.specs.Building.{Built, building, built_with}
use Rattle.ve_html_tree.specs.Nodes.{HasText, ShowNodes}
use Rattle.ve_html_tree.specs.Opened.{opens, open_node_numbers}
use Rattle.ve_html_tree.specs.Seen.{StepsTo}

-- the nodes of the forest after the token k, which t shows, where these were there before and those
-- of these numbers are open
abbrev pub built_after : Token → g.Token → List ForestNode → List ℕ → Built
built_after t k made numbers = built_with k (token_span t).from (token_span t).to (building made numbers)

-- It went on to the elements that are open after the token, or it met the token's fault.
abbrev pub TakesFaults : {A : Type 0} → Result A HtmlFault → Token → List Node → Opened → List Node → Opened → Type 0
TakesFaults result t old opened new opened_after =
    (k : g.Token) → ShowsToken t k → StepsTo result (opens new opened_after) (after_token k (token_span t).from (opens old opened))

-- The nodes show what the token makes of the nodes that they showed,
abbrev pub TakesNodes : {A : Type 0} → Result A HtmlFault → Token → List Node → Opened → List Node → Type 0
TakesNodes result t old opened new =
    (k : g.Token) (made : List ForestNode) → ShowsToken t k → HasText t k → ShowNodes old made →
    OnOk result (ShowNodes new (built_after t k made (open_node_numbers old opened)).nodes)

-- and those that it leaves open are linked.
abbrev pub TakesNumbers : {A : Type 0} → Result A HtmlFault → Token → List Node → Opened → List Node → Opened → Type 0
TakesNumbers result t old opened new opened_after =
    (k : g.Token) (made : List ForestNode) → ShowsToken t k → ShowNodes old made →
    OnOk result ((built_after t k made (open_node_numbers old opened)).open_ ≡ open_node_numbers new opened_after)

-- ---- one tag

-- A start tag with this name at the byte at: it went on to the elements that are open after it, or
-- it met its fault.
abbrev pub StartsElement : {A : Type 0} → Result A HtmlFault → List ℕ → ℕ → List Node → Opened → List Node → Opened → Type 0
StartsElement result name at old opened new opened_after = StepsTo result (opens new opened_after) (after_start name at (opens old opened))

-- an end tag
abbrev pub EndsElement : {A : Type 0} → Result A HtmlFault → List ℕ → ℕ → List Node → Opened → List Node → Opened → Type 0
EndsElement result name at old opened new opened_after = StepsTo result (opens new opened_after) (after_end name at (opens old opened))
