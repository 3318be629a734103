-- Worked examples of what is read of a page, and answers of reading that are none.
use Rattle.std.proofs.Common.{◌≡◌, ℕ, true, false, List, [], ◌∷◌, ◌+◌, length, Some, None, Ok, Err, refl, arith}
use Rattle.std.specs.Prelude.{Bool, codes, is_some, nat_lt}
use Rattle.model_spelling.specs.Grammar.{Attr}
use Rattle.model_spelling.specs.Forest.{Forest, Nothing, Text, Element, spelling}
use Rattle.model_spelling.specs.ForestNodes.{ForestNode}
use Rattle.ve_base.specs.Empty.{empty_head}
use Rattle.ve_base.specs.Limits.{max_items}
use Rattle.ve_base.specs.declared.head.Key.TheVariants.{Auto}
use Rattle.ve_base.specs.declared.head.RefKey.{RefKey}
use Rattle.ve_kinds.specs.declared.kind.Kind.{Kind}
use Rattle.ve_kinds.specs.declared.kind.Kind.TheVariants.{P, Div, Root, AlienBlock, TransInline}
use Rattle.model_items.specs.declared.plain_item.PlainItem.TheVariants.{Char, Opening, Closing}
use Rattle.model_page.proofs.OnLiterals.{page_on_literals}
use Rattle.model_page.specs.Fit.{Flow, Structural, Content}
use Rattle.model_page.specs.Heads.{whole_head}
use Rattle.model_page.specs.OpenPage.{TooManyItems, if_small, values_of}
use Rattle.model_page.specs.PageItems.{Opened}
use Rattle.model_page.specs.Parts.{Parts, Ended, Words, Note, Group, Parent}
use Rattle.model_page.specs.ReferenceNodes.{ref_of}
use Rattle.ve_html_tree.specs.declared.node.Node.{Node}
use Rattle.ve_classify.specs.Places.{PartsTo}
use Rattle.ve_classify.specs.Units.{Whole}
use Rattle.ve_reader.specs.ReadSoFar.{ReadSoFar, nothing_read, place_in}
use Rattle.ve_reader.specs.declared.owners.Claim.{Claim}
use Rattle.ve_reader.specs.declared.purpose.Purpose.TheVariants as purpose
use Rattle.ve_read.specs.Blocks.{with_blocks, with_paragraph, with_siblings}
use Rattle.ve_read.specs.Content.{with_whole}
use Rattle.ve_read.specs.Fragments.{pieces_of}
use Rattle.ve_read.specs.References.{IsForElement, claimed_group, claimed_node}
use Rattle.ve_read.specs.Units.{IsRun}

abbrev attr_ : List ℕ → List ℕ → Attr
attr_ name value = record { name = name; value = value; quote = 34 }

-- two kinds are open in a body
abbrev opened : ReadSoFar
opened = record { purpose = purpose.Body; depth = 2; items = []; marks = []; rows = []; owners = [] }

abbrev comment : Parts
comment = Note (codes "b") Ended

-- ---- blocks

-- refuses a branch without the whitespace before it
a_branch_has_its_whitespace : (with_blocks (codes " ") (Flow Root) (Parent (codes "div") [] Ended Ended) 0 opened).items ≡ Opening Div empty_head [] (codes " ") None false ∷ Closing Div [] ∷ []
unfolding page_on_literals
a_branch_has_its_whitespace = refl

-- refuses whitespace that is dropped, and a leaf without its source
whitespace_goes_to_what_follows : (with_siblings (Flow Root) (Words (codes " ") comment) 0 opened).items
    ≡ Opening AlienBlock (whole_head (codes "<!--b-->")) [] (codes " ") None false ∷ Closing AlienBlock [] ∷ []
unfolding page_on_literals
whitespace_goes_to_what_follows = refl

-- refuses a branch that ends without the whitespace after the last node in it
whitespace_at_the_end_stays : (with_siblings (Flow Root) (Parent (codes "div") [] (Note (codes "b") (Words (codes " ") Ended)) Ended) 0 opened).items
    ≡ Opening Div empty_head [] [] None false ∷ Opening AlienBlock (whole_head (codes "<!--b-->")) [] [] None false ∷ Closing AlienBlock [] ∷ Closing Div (codes " ") ∷ []
unfolding page_on_literals
whitespace_at_the_end_stays = refl

-- refuses a paragraph that is named by the end of its first node
a_paragraph_has_its_bytes : (with_paragraph (Words (codes "ab") Ended) 3 (nothing_read purpose.Page)).rows ≡ record { span = record { from = 3; to = 5 }; from = 0; to = 4 } ∷ []
unfolding page_on_literals
a_paragraph_has_its_bytes = refl

-- a structural parent has no run
no_run_stands_in_a_list : (text : List ℕ) (nodes : List Node) (kind : Kind) (n at : ℕ) (f : Forest) (more : List ForestNode) (end byte : ℕ) → IsRun text nodes (Structural kind) n at f more end byte → ⊥
no_run_stands_in_a_list text nodes kind n at f more end byte h = let e : Structural kind ≡ Flow h.kind = h.flow in cc

abbrev letter : Forest
letter = Text (codes "a") Nothing

-- the letter in `<p>a</p>` doesn't end where the end tag does, as a child among blocks and as a
-- part of content
no_child_has_the_end_tag : Whole letter 1 3 2 8 → ⊥
no_child_has_the_end_tag h = let e : 4 ≡ 8 = h.byte_is in omega (arith, e)

no_part_has_the_end_tag : PartsTo letter 1 3 2 8 1 → ⊥
no_part_has_the_end_tag h = let e : 4 ≡ 8 + length (spelling h.after) = h.byte_is in omega (arith, e)

-- ---- groups and references

abbrev held : List ℕ → Forest → Forest
held name rest = Element name (attr_ (codes "about") (codes "x") ∷ []) Nothing rest

-- refuses a group that ends with its first element
a_group_has_all_its_bytes : (with_whole TransInline (Group (held (codes "b") (held (codes "i") Nothing)) Ended) 0 (nothing_read purpose.Page)).rows
    ≡ record { span = record { from = 0; to = 34 }; from = 0; to = 2 } ∷ []
unfolding page_on_literals
a_group_has_all_its_bytes = refl

abbrev citation : Forest → Forest
citation rest = Element (codes "sup") (attr_ (codes "typeof") (codes "mw:Extension/ref") ∷ attr_ (codes "data-mw") (codes "{&quot;attrs&quot;:{&quot;name&quot;:&quot;n&quot;}}") ∷ []) Nothing rest

abbrev is_reference : ReadSoFar → Forest → Bool
is_reference r group = is_some (ref_of (place_in r 0) (Content []) group)

a_page_has_references : is_reference (nothing_read purpose.Page) (citation Nothing) ≡ true
unfolding page_on_literals
a_page_has_references = refl

-- refuses a reference in a fragment: no claim is right there
a_fragment_has_none : is_reference (nothing_read purpose.Fragment) (citation Nothing) ≡ false
unfolding page_on_literals
a_fragment_has_none = refl

every_claim_is_a_reference : (claim : Claim) → is_some (claimed_group 0 (citation Nothing) (Some claim)) ≡ true
every_claim_is_a_reference claim = refl

-- nothing is claimed for a group of two
no_claim_is_for_two : (claim : Claim) → IsForElement (citation (citation Nothing)) (Some claim) → ⊥
no_claim_is_for_two claim h = let e : Some claim ≡ None = h in cc

abbrev key_0 : RefKey
key_0 = record { group = []; key = Auto 0 }

abbrev owning : Claim
owning = record { key = key_0; html = Some (codes "x") }

-- refuses a body that is left out, and a reference that owns none
a_body_is_owned : (claimed_node 5 (codes "sup") [] Nothing owning).owners ≡ record { at = 5; key = key_0; html = codes "x" } ∷ []
unfolding page_on_literals
a_body_is_owned = refl

its_reference_is_the_owner : (claimed_node 5 (codes "sup") [] Nothing owning).head.owner ≡ true
its_reference_is_the_owner = refl

-- ---- fragments

-- refuses a fragment that is read in the root, whatever is open
letters_are_content_in_a_paragraph : pieces_of P (codes "ab") ≡ Char 97 [] ∷ Char 98 [] ∷ []
unfolding page_on_literals
letters_are_content_in_a_paragraph = refl

-- ---- sizes

-- refuses a refusal of as many items as there may be
as_many_items_as_may_be : (o : Opened) → length o.items ≡ max_items → length (values_of o) ≡ 0 → if_small o ≡ Ok o
as_many_items_as_may_be o items values = rw items (rw values refl)

-- refuses a page for its values where it has too many items
items_are_judged_first : (o : Opened) → nat_lt max_items (length o.items) ≡ true → if_small o ≡ Err (TooManyItems (length o.items))
items_are_judged_first o many = rw many refl
