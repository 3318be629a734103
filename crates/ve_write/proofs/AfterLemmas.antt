-- The rest of a list after a node, by the item at its end.
use Rattle.std.proofs.Common.{◌≡◌, ℕ, ◌+◌, List, [], ◌∷◌, drop, sym, ap, subst, ◌∙◌, None, Some, Option, Bool, true, false}
use Rattle.std.specs.List.{slice_get}
use Rattle.ve_base.specs.declared.value.ValueId.{ValueId}
use Rattle.ve_kinds.specs.declared.kind.Kind.{Kind}
use Rattle.ve_base.specs.declared.value.Value.{Value}
use Rattle.model_items.specs.Plain.{CitesWell, CitesWhite}
use Rattle.ve_write.specs.Siblings.{AllCite}
use Rattle.model_items.specs.declared.item.Item.{Item}
use Rattle.model_items.specs.declared.item.Item.TheVariants.{Char, Opening, Closing}
use Rattle.model_page_write.specs.Nodes.{NodesEnding, first_outer}
use Rattle.ve_write.specs.Siblings.{is_end}
use Rattle.ve_write.specs.After.{Follows}
use Rattle.ve_write.proofs.SiblingLemmas.{found_at}
use Rattle.ve_write.proofs.SiblingLemmas.{closing_here, nothing_here}

pub after_item : (items : List Item) (end : ℕ) (kind : Kind) (pre : Option ValueId) → drop end items ≡ Closing kind pre ∷ drop (end + 1) items → Follows items end (record { pre = pre; at = end + 1 })
after_item items end kind pre e = record {
  pre = λ v. ap (λ (x : NodesEnding). (first_outer x.outer).pre) (closing_here v items end kind pre e);
  later = λ v. ap (λ (x : NodesEnding). (first_outer x.outer).later) (closing_here v items end kind pre e);
  outer = λ v. ap (λ (x : NodesEnding). drop 1 x.outer) (closing_here v items end kind pre e);
}

pub after_list : (items : List Item) (end : ℕ) → drop end items ≡ [] → Follows items end (record { pre = None; at = end })
after_list items end e = record {
  pre = λ v. ap (λ (x : NodesEnding). (first_outer x.outer).pre) (nothing_here v items end e);
  later = λ v. ap (λ (x : NodesEnding). (first_outer x.outer).later) (nothing_here v items end e) ∙ sym (ap (λ (x : NodesEnding). x.here) (nothing_here v items end e));
  outer = λ v. ap (λ (x : NodesEnding). drop 1 x.outer) (nothing_here v items end e) ∙ sym (ap (λ (x : NodesEnding). x.outer) (nothing_here v items end e));
}

pub closing_ends : (items : List Item) (at : ℕ) (item : Item) (kind : Kind) (pre : Option ValueId) → slice_get items at ≡ Some item → item ≡ Closing kind pre → is_end (drop at items) ≡ true
closing_ends items at item kind pre found is = ap is_end (found_at items at item found) ∙ ap (λ x. is_end (x ∷ drop (at + 1) items)) is

pub after_closing : (items : List Item) (end : ℕ) (item : Item) (kind : Kind) (pre : Option ValueId) → slice_get items end ≡ Some item → item ≡ Closing kind pre → Follows items end (record { pre = pre; at = end + 1 })
after_closing items end item kind pre found is = after_item items end kind pre (found_at items end item found ∙ ap (λ x. x ∷ drop (end + 1) items) is)

pub no_char : (items : List Item) (at : ℕ) (item : Item) (ch : ℕ) (marks : Option ValueId) → slice_get items at ≡ Some item → item ≡ Char ch marks → is_end (drop at items) ≡ true → ⊥
no_char items at item ch marks found is ends = let f : false ≡ true = sym (ap is_end (found_at items at item found) ∙ ap (λ x. is_end (x ∷ drop (at + 1) items)) is) ∙ ends in cc

pub no_opening : (items : List Item) (at : ℕ) (item : Item) (kind : Kind) (generated : Bool) (head marks pre : Option ValueId) (origin : Option ℕ) → slice_get items at ≡ Some item →
    item ≡ Opening kind generated head marks pre origin → is_end (drop at items) ≡ true → ⊥
no_opening items at item kind generated head marks pre origin found is ends =
    let f : false ≡ true = sym (ap is_end (found_at items at item found) ∙ ap (λ x. is_end (x ∷ drop (at + 1) items)) is) ∙ ends in cc

pub after_cites : (values : List Value) (items : List Item) (at : ℕ) (item : Item) (kind : Kind) (pre : Option ValueId) → AllCite values items → slice_get items at ≡ Some item → item ≡ Closing kind pre → CitesWhite values pre
after_cites values items at item kind pre all found is = subst (CitesWell values) is (all at item found)
