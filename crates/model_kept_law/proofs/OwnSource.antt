-- The source of a node that holds nothing that is kept whole: a void element, an element, or a run.
use Rattle.std.proofs.Common.{◌≡◌, ℕ, Bool, true, false, List, [], ◌++◌}
use Rattle.model_spelling.specs.Grammar.{Attr as Spelled, start_text, end_text}
use Rattle.model_spelling.specs.Forest.{Forest, spelling}
use Rattle.ve_kinds.specs.declared.kind.Kind.{Kind}
use Rattle.ve_kinds.specs.Table.{is_element}
use Rattle.ve_base.specs.declared.head.Head.{Head}
use Rattle.model_items.specs.declared.plain_item.PlainItem.{PlainItem}
use Rattle.model_page.specs.Elements.{is_white, is_held}
use Rattle.model_page.specs.Parts.{parts_of}
use Rattle.model_page.specs.Tags.{tag_of}
use Rattle.model_page.specs.Fit.{around_in, is_convertible}
use Rattle.model_page.specs.Heads.{head_with}
use Rattle.model_page.specs.Pieces.{Progress}
use Rattle.model_page.specs.Convert.{inside_piece, made_of}
use Rattle.model_page_law.proofs.NeatForests.{NeatAttrs, NeatTag, Neat}
use Rattle.model_page_law.proofs.ContentLemmas.{Reads}
use Rattle.model_page_law.proofs.BlockReads.{Loose}
use Rattle.model_kept_law.proofs.FitFacts.{Small}
use Rattle.model_kept_law.proofs.ApartParts.{Apart}

-- a leaf br or img
pub record OwnLeaf (kind : Kind) (head : Head) (source : List ℕ) : Type 0 where
  pub small : Small kind
  pub attrs : List Spelled
  pub slash : Bool
  pub is : source ≡ start_text (tag_of kind) attrs slash
  pub attrs_are : NeatAttrs attrs
  pub free : is_held attrs ≡ false
  pub head_is : head_with attrs ≡ head

-- a branch: wherever it stands, these items are in it
pub record OwnBlock (kind : Kind) (head : Head) (inside : List PlainItem) (pre source : List ℕ) : Type 0 where
  pub attrs : List Spelled
  pub inner : Forest
  pub is : source ≡ start_text (tag_of kind) attrs false ++ spelling inner ++ end_text (tag_of kind)
  pub element : is_element kind ≡ true
  pub tag : NeatTag false (tag_of kind) attrs
  pub free : is_held attrs ≡ false
  pub head_is : head_with attrs ≡ head
  pub neat : Neat inner
  pub apart : Apart (parts_of inner)
  pub convertible : is_convertible kind (parts_of inner) ≡ true
  pub later : (w : Progress) → (inside_piece (around_in kind) w (made_of (around_in kind) (parts_of inner) w)).later.items ≡ inside
  pub white : (w : Progress) → (inside_piece (around_in kind) w (made_of (around_in kind) (parts_of inner) w)).pre ≡ pre

-- a generated paragraph: a run of content
pub record OwnRun (inside : List PlainItem) (source : List ℕ) : Type 0 where
  pub run : Forest
  pub is : source ≡ spelling run
  pub neat : Neat run
  pub loose : (k : Kind) → Loose k run
  pub apart : Apart (parts_of run)
  pub reads : Reads [] run inside
  pub solid : is_white source ≡ false
