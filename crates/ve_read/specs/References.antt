-- Groups that are references: what is claimed for one, and what it becomes. These serve private
-- functions.
use Rattle.std.specs.Prelude.{◌≡◌, ℕ, ◌+◌, List, Option, None, option_map, is_some}
use Rattle.model_spelling.specs.Grammar.{Attr}
use Rattle.model_spelling.specs.Forest.{Forest, Nothing, Element, spelling}
use Rattle.model_spelling.specs.ForestNodes.{ForestNode, forest_size}
use Rattle.ve_base.specs.declared.head.RefKey.{RefKey}
use Rattle.ve_kinds.specs.declared.kind.Kind.TheVariants.{Ref}
use Rattle.model_page.specs.Parts.{Parts, Group, parts_of}
use Rattle.model_page.specs.Fit.{Content}
use Rattle.model_page.specs.Pieces.{Piece, leaf}
use Rattle.model_page.specs.ReferenceNodes.{RefNode, ref_of}
use Rattle.model_page.specs.Limits.{Limit}
use Rattle.ve_html_tree.specs.declared.node.Node.{Node}
use Rattle.ve_classify.specs.Standing.{Stands}
use Rattle.ve_reader.specs.Leaves.{head_of_ref}
use Rattle.ve_classify.specs.Places.{StandsIn}
use Rattle.ve_reader.specs.declared.owners.Claim.{Claim}
use Rattle.ve_reader.specs.declared.reader.NewOwner.{NewOwner}
use Rattle.ve_reader.specs.ReadSoFar.{ReadSoFar, place_in, with_piece, owned_at}
use Rattle.ve_reader.specs.Stops.{deep_in}

-- the key and the text of the body that is owned, if one is
abbrev pub new_owner : RefKey → Option (List ℕ) → Option NewOwner
new_owner key html = option_map (λ text. record { key = key; html = text }) html

-- the reference that an element at a byte is by its claim
abbrev pub claimed_node : ℕ → List ℕ → List Attr → Forest → Claim → RefNode
claimed_node at name attrs children claim = record {
  head = head_of_ref name (spelling children) claim.key (is_some claim.html) attrs;
  owners = owned_at at (new_owner claim.key claim.html);
}

-- and the one that a group is
abbrev pub claimed_group : ℕ → Forest → Option Claim → Option RefNode
claimed_group at (Element name attrs children Nothing) claim = option_map (claimed_node at name attrs children) claim
claimed_group at group claim = None

-- its leaf, up to a byte
abbrev pub ref_leaf : ℕ → ℕ → RefNode → ReadSoFar → Piece
ref_leaf at byte reference r = leaf Ref reference.head r.marks (record { from = at; to = byte })

-- it is read, as the claim says
abbrev pub ReadsClaim : Claim → ℕ → ReadSoFar → ReadSoFar → List ℕ → List Attr → Forest → ℕ → Type 0
ReadsClaim claim byte old new name attrs children at =
    let reference = claimed_node at name attrs children claim in new ≡ with_piece (ref_leaf at byte reference old) reference.owners old

-- where that is too deep
abbrev pub claim_limit : Claim → ℕ → ReadSoFar → List ℕ → List Attr → Forest → ℕ → Option Limit
claim_limit claim byte r name attrs children at = deep_in r (ref_leaf at byte (claimed_node at name attrs children claim) r)

-- the statement holds of the element that stands at a node, whatever element it is
abbrev pub OfElement : List ℕ → List Node → ℕ → (List ℕ → List Attr → Forest → ℕ → Type 0) → Type 0
OfElement text nodes n says =
    (name : List ℕ) (attrs : List Attr) (children rest : Forest) (at : ℕ) (more : List ForestNode)
    → StandsIn text nodes n at (Element name attrs children rest) more → says name attrs children at

-- a claim is made for one element
abbrev pub IsForElement : Forest → Option Claim → Type 0
IsForElement (Element name attrs children Nothing) claim = Unit {0}
IsForElement group claim = claim ≡ None

-- the claim for the group at a node, whatever siblings stand there: with it, the group is the
-- reference that the model says
abbrev pub IsClaimed : ReadSoFar → List Node → ℕ → ℕ → Option Claim → Type 0
IsClaimed r nodes n end claim =
    (f group : Forest) (later : Parts) (at : ℕ) (more : List ForestNode) → Stands nodes n at f more → parts_of f ≡ Group group later
    → end ≡ n + forest_size group
    → (ref_of (place_in r at) (Content r.marks) group ≡ claimed_group at group claim) × IsForElement group claim
