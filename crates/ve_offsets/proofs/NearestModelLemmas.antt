-- The content offset that the search finds is the model's.
use Rattle.std.proofs.Common.{◌≡◌, ℕ, Bool, true, false, if◌then◌else◌, Option, Some, None, IfSome, List, [], ◌∷◌, map, take, drop, refl, sym, ap, ◌∙◌, arith}
use Rattle.std.specs.Prelude.{IfNone}
use Rattle.std.proofs.lemmas.List.{length-map}
use Rattle.ve_kinds.specs.Table.{is_content_branch, is_leaf}
use Rattle.model_items.specs.declared.item.Item.{Item}
use Rattle.model_items.specs.declared.plain_item.PlainItem.{PlainItem}
use Rattle.model_items.specs.declared.offset_class.OffsetClass.{OffsetClass}
use Rattle.model_items.specs.declared.offset_class.OffsetClass.TheVariants.{Content, Structural, Inside}
use Rattle.model_items.specs.Plain.{plain}
use Rattle.model_items.specs.Law.{top}
use Rattle.model_items.specs.Tree.{Open, place_with, opens_after, class_in, class_at}
use Rattle.model_items.specs.Offsets as model
use Rattle.model_items.proofs.NearestLemmas as lemmas
use Rattle.ve_tree.specs.IsTree.{unvalued}
use Rattle.ve_offsets.specs.Classes.{IsContent}
use Rattle.ve_offsets.specs.Nearest.{IsNearestContent, HasNoContent}

kind_is : (opens : List Open) (at : ℕ) (rest : List PlainItem) → (place_with opens at rest).kind ≡ top (map (λ (node : Open). node.kind) opens)
kind_is [] at rest = refl
kind_is (x ∷ outer) at rest = refl

branch_in : (branch leaf : Bool) → ◌≡◌ {A = OffsetClass} (if branch then Content else (if leaf then Inside else Structural)) Content → branch ≡ true
branch_in true leaf h = refl
branch_in false true h = cc
branch_in false false h = cc

same_class : (items : List PlainItem) (o : ℕ) → class_at items o ≡ class_in (model.kind_at items o)
same_class items o = ap class_in (kind_is (opens_after [] 0 (take o items)) o (drop o items))

pub content_there : (items : List Item) (o : ℕ) → IsContent items o → model.is_content (unvalued items) o ≡ true
content_there items o h =
    branch_in (is_content_branch (model.kind_at (unvalued items) o)) (is_leaf (model.kind_at (unvalued items) o)) (sym (same_class (unvalued items) o) ∙ h)

content_here : (items : List Item) (o : ℕ) → model.is_content (unvalued items) o ≡ true → IsContent items o
content_here items o h =
    same_class (unvalued items) o
    ∙ ap (λ branch. if branch then Content else (if is_leaf (model.kind_at (unvalued items) o) then Inside else Structural)) h

pub no_content : (items : List Item) (o : ℕ) → (IsContent items o → ⊥) → model.is_content (unvalued items) o ≡ false
no_content items o none = by_test (model.is_content (unvalued items) o) refl
  where
    by_test : (t : Bool) → model.is_content (unvalued items) o ≡ t → model.is_content (unvalued items) o ≡ false
    by_test true e = absurd (none (content_here items o e))
    by_test false e = e

pub nearest_is : (items : List Item) (o : ℕ) (r : Option ℕ) → IfSome r (λ p. IsNearestContent items o p) → IfNone r (HasNoContent items) → r ≡ model.nearest_content (unvalued items) o
nearest_is items o (Some p) found none =
    let long = length-map items (plain []) in
    sym (lemmas.nearest_is_only (unvalued items) o p (record {
      within = omega (arith, found.within, long);
      content = content_there items p found.content;
      none_nearer = λ q within content. found.nearest q (omega (arith, within, long)) (content_here items q content);
      lowest = λ q within content same. found.lowest q (omega (arith, within, long)) (content_here items q content) same;
    }))
nearest_is items o None found none =
    let long = length-map items (plain []) in
    sym (lemmas.none_is_only (unvalued items) o (λ q within. no_content items q (none q (omega (arith, within, long)))))
