-- The pass over the operations that makes the splices, step by step.
use Rattle.std.proofs.Common.{◌≡◌, ◌≤◌, ◌<◌, ◌^◌, ℕ, suc, ◌+◌, ◌-◌, true, false, not, List, [], ◌∷◌, ◌++◌, length, take, drop, get_or, slice_get, All, Option, Some, None, is_some, refl, sym, ap, ◌∙◌, subst, append_assoc, arith}
use Rattle.std.proofs.lemmas.Bool.{and_parts, not-true}
use Rattle.std.proofs.lemmas.List.{map-append, length-map, length-drop, take-map, drop-map, drop-drop, drop_all, take_all}
use Rattle.std.proofs.lemmas.List.Elements.{All-append, All-nil}
use Rattle.std.proofs.Math.Seq.{take-add}
use Rattle.ve_base.specs.declared.head.Head.{Head}
use Rattle.ve_base.specs.declared.value.Value.{Value}
use Rattle.model_items.specs.declared.item.Item.{Item}
use Rattle.model_items.specs.declared.plain_item.PlainItem.{PlainItem}
use Rattle.model_items.specs.declared.plain_item.PlainItem.TheVariants.{Char, Opening, Closing}
use Rattle.model_items.specs.Plain.{plain, plain_list, CitesWell}
use Rattle.model_items.specs.Same.{text_same, option_same}
use Rattle.model_items.proofs.SameLemmas.{Means-text_same, Means-option_same}
use Rattle.ve_kinds.specs.Table.{is_element}
use Rattle.model_change.specs.Attributes.{AttrChange, value_of, is_reserved, item_changed, allows}
use Rattle.model_change.specs.Transaction.{Retain, Transaction, edited, is_reduced}
use Rattle.model_change.specs.Transaction as model
use Rattle.model_change.specs.Fault.{Applies}
use Rattle.model_change.specs.Join.{active_range}
use Rattle.model_change.specs.Store.{fill, head_if, changed_heads}
use Rattle.model_change.proofs.Fits.{parts_of_Applies}
use Rattle.ve_tx.specs.declared.op.Op.{Op}
use Rattle.ve_tx.specs.declared.op.Op.TheVariants as op
use Rattle.ve_tx.specs.declared.splice.Splice.{Splice}
use Rattle.ve_tx.specs.Changed.{IsOver, brought_count}
use Rattle.ve_tx.specs.Checked.{change_of}
use Rattle.ve_tx.specs.Cites.{OperationCites, TxCites}
use Rattle.ve_tx.specs.Making.{Extends, item_with_head, first_headed, IsOpening, MayHead, IsSettled}
use Rattle.ve_tx.specs.Operation.{with_position, with_positions, operation_by_value, by_value, IsNormal}
use Rattle.ve_tx.specs.Spliced.{spliced_by, LieBetween, come_count, AllCite}
use Rattle.ve_tx.proofs.TurnedLemmas.{with_positions-at, length-with_positions}
use Rattle.ve_tx.proofs.ValuesLemmas.{extends_itself, plain-extended, list-extended, all-extended, unkept_cites}
use Rattle.ve_tx.proofs.CheckLemmas.{cites-at}
use Rattle.ve_tx.proofs.ChangeLemmas.{normal-reduced, normal-old}
use Rattle.ve_tx.proofs.MakingLemmas.{All-at, All-take, All-drop, drop-at}
use Rattle.ve_tx.proofs.SplicedLemmas.{lie-push, spliced-on, spliced-past, cite-push, cite-extended}
use Rattle.ve_tx.proofs.PlacesLemmas.{HasSplices, has-none, has-between, has-past, has-settled, has-replaced, has-headed, has-over, has-count}
use Rattle.ve_tx.proofs.MadeLemmas.{IsMade, BeginsOpen, counts_some, first_headed-none, take-first_headed, drop-first_headed, made-none, made-within, made-retain, made-replace, made-attribute, made-allows, made-all, made-below, made-inside}

-- before the operation i, with these splices made
pub record Stage (values : List Value) (ops : List Op) (kept : List (Option ℕ)) (items : List Item) (now : List Value) (splices : List Splice) (at : ℕ) (head : Option Head) (i : ℕ) : Type 0 where
  pub made : IsMade
      values
      (plain_list values items)
      (edited (by_value values (with_positions ops kept)) (plain_list values items))
      (fill values (changed_heads (by_value values (with_positions ops kept)) (plain_list values items)))
      now
      (spliced_by (take at items) splices)
      at
      head
      (by_value values (drop i (with_positions ops kept)))
  pub has : HasSplices (by_value values (with_positions ops kept)) splices at (is_some head) (by_value values (drop i (with_positions ops kept)))
  pub cite : AllCite now splices

pub stage-same : (values : List Value) (ops : List Op) (kept : List (Option ℕ)) (items : List Item) (S S' : List Value) (splices splices' : List Splice) (at at' : ℕ) (head head' : Option Head) (i : ℕ) →
    S' ≡ S → splices' ≡ splices → at' ≡ at → head' ≡ head → Stage values ops kept items S splices at head i → Stage values ops kept items S' splices' at' head' i
stage-same values ops kept items S S' splices splices' at at' head head' i e f g h stage =
    let F : List Value → List Splice → ℕ → Option Head → Type 0 = λ s m a d. Stage values ops kept items s m a d i in
    subst (λ s. F s splices' at' head') (sym e) (subst (λ m. F S m at' head') (sym f) (subst (λ a. F S splices a head') (sym g) (subst (λ d. F S splices at d) (sym h) stage)))

-- once all operations are passed
pub record IsAllMade (values : List Value) (t : Transaction) (list : List Item) (now : List Value) (splices : List Splice) : Type 0 where
  pub changed : plain_list now (spliced_by list splices) ≡ edited t (plain_list values list)
  pub range : IsOver (active_range t) splices
  pub within : LieBetween 0 (length list) splices
  pub count : come_count splices ≤ brought_count t
  pub store : now ≡ fill values (changed_heads t (plain_list values list))

-- items are put behind those made so far, over values that have grown
grown-by : (old new : List Value) → Extends old new → (made all items : List Item) → All (CitesWell old) made → all ≡ made ++ items → All (CitesWell new) items →
    All (CitesWell new) all × (plain_list new all ≡ plain_list old made ++ plain_list new items)
grown-by old new extends made all items listed is cites =
    let P : List Item → Type 0 = All (CitesWell new) in (
      subst P (sym is) (All-append (CitesWell new) made items (all-extended old new extends made listed) cites),
      ap (plain_list new) is ∙ map-append (plain new) made items ∙ ap (λ l. l ++ plain_list new items) (list-extended old new extends made listed),
    )

-- what an allowed change says of the head
allowed_head : (c : AttrChange) (head : Head) (p : PlainItem) → allows c (item_with_head (Some head) p) ≡ true → (value_of c.name head.attrs ≡ c.from) × (is_reserved c.name ≡ false)
allowed_head c head (Char ch marks) h = cc
allowed_head c head (Closing kind pre) h = cc
allowed_head c head (Opening kind other marks pre origin generated) h =
    let p = and_parts (is_element kind) _ h in
    let q = and_parts (option_same text_same (value_of c.name head.attrs) c.from) (not (is_reserved c.name)) p.1 in
    ((Means-option_same text_same Means-text_same).equal (value_of c.name head.attrs) c.from q.0, not-true (is_reserved c.name) q.1)

opening_headed : (head : Option Head) (p q : PlainItem) → q ≡ p → (is_some head ≡ true → IsOpening p) → MayHead head q
opening_headed None p q e h = tt
opening_headed (Some head) p q e h = subst IsOpening (sym e) (h refl)

-- the items from a position on, cut behind the first one
headed-parts : (head : Option Head) (n at : ℕ) (items : List PlainItem) → 0 < n →
    first_headed head (take n (drop at items)) ≡ take 1 (first_headed head (drop at items)) ++ take (n - 1) (drop (at + 1) items)
headed-parts head n at items some =
    let all : n ≡ 1 + (n - 1) = omega arith in
    take-first_headed head n (drop at items) ∙ ap (λ k. take k (first_headed head (drop at items))) all ∙ take-add 1 (n - 1) (first_headed head (drop at items))
    ∙ ap (λ l. take 1 (first_headed head (drop at items)) ++ take (n - 1) l) (drop-first_headed head 1 (drop at items) (omega arith) ∙ drop-drop 1 at items)

one-long : (head : Option Head) (at : ℕ) (items : List PlainItem) → at < length items → length (take 1 (first_headed head (drop at items))) ≡ 1
one-long head at items below = by (drop at items) (length-drop at items)
  where
    by : (left : List PlainItem) → length left ≡ length items - at → length (take 1 (first_headed head left)) ≡ 1
    by [] e = absurd (omega arith)
    by (item ∷ left) e = refl

module _ (S0 : List Value) (ops : List Op) (kept : List (Option ℕ)) (list : List Item) (listed : All (CitesWell S0) list)
    (cites : TxCites S0 (with_positions ops kept)) (normal : IsNormal (with_positions ops kept))
    (applies : Applies (by_value S0 (with_positions ops kept)) (plain_list S0 list)) where
  reduced : is_reduced (by_value S0 (with_positions ops kept)) ≡ true
  reduced = normal-reduced (by_value S0 (with_positions ops kept)) (normal S0)

  long : length (plain_list S0 list) ≡ length list
  long = length-map list (plain S0)

  -- a machine can count with the length of the list
  pub list-counts : length list ≤ 2 ^ 60
  list-counts =
      let same = (parts_of_Applies (by_value S0 (with_positions ops kept)) (plain_list S0 list) applies).0 in
      let all = normal-old (by_value S0 (with_positions ops kept)) (normal S0) in
      let l = long in
      omega arith

  pub stage-first : (splices : List Splice) → splices ≡ [] → Stage S0 ops kept list S0 splices 0 None 0
  stage-first splices none =
      subst (λ l. Stage S0 ops kept list S0 l 0 None 0) (sym none) (record {
        made = made-none S0 (by_value S0 (with_positions ops kept)) (plain_list S0 list) reduced applies;
        has = has-none (by_value S0 (with_positions ops kept)) reduced;
        cite = All-nil (λ (s : Splice). All (CitesWell S0) s.items);
      })

  module _ (S : List Value) (splices : List Splice) (at : ℕ) (head : Option Head) (i : ℕ) (stage : Stage S0 ops kept list S splices at head i) where
    pub stage-at : at ≤ length list
    stage-at =
        let w = made-within S0 (plain_list S0 list) _ _ S _ at head _ stage.made in
        let l = long in
        omega arith

    pub stage-listed : All (CitesWell S) list
    stage-listed = all-extended S0 S stage.made.extends list listed

    pub stage-cites : (x : Item) → slice_get list at ≡ Some x → CitesWell S x
    stage-cites x here = All-at S list at x stage-listed here

    same_list : plain_list S list ≡ plain_list S0 list
    same_list = list-extended S0 S stage.made.extends list listed

    same_item : (x : Item) → slice_get list at ≡ Some x → plain S x ≡ plain S0 x
    same_item x here = plain-extended S0 S stage.made.extends x (All-at S0 list at x listed here)

    pub stage-below : is_some head ≡ true → at < length list
    stage-below some =
        let b = made-below S0 (plain_list S0 list) _ _ S _ at head _ stage.made some in
        let l = long in
        omega arith

    pub stage-opening : (x : Item) → slice_get list at ≡ Some x → MayHead head (plain S x)
    stage-opening x here =
        opening_headed head (plain S0 x) (plain S x) (same_item x here)
        (λ some. subst BeginsOpen (drop-at S0 list at x here) (stage.made.opening some).0)

    -- once all operations are passed
    pub stage-end : length ops ≤ i → (IsMade S0 (plain_list S0 list) (edited (by_value S0 (with_positions ops kept)) (plain_list S0 list))
        (fill S0 (changed_heads (by_value S0 (with_positions ops kept)) (plain_list S0 list))) S (spliced_by (take at list) splices) at head [])
        × HasSplices (by_value S0 (with_positions ops kept)) splices at (is_some head) []
    stage-end done =
        let none : by_value S0 (drop i (with_positions ops kept)) ≡ [] = ap (by_value S0) (drop_all i (with_positions ops kept) (omega (arith, length-with_positions ops kept))) in
        (subst (IsMade S0 (plain_list S0 list) _ _ S _ at head) none stage.made, subst (HasSplices _ splices at (is_some head)) none stage.has)

    pub stage-all : length ops ≤ i → IsAllMade S0 (by_value S0 (with_positions ops kept)) list S splices
    stage-all done = by head (stage-end done)
      where
        by : (h : Option Head) → (IsMade S0 (plain_list S0 list) (edited (by_value S0 (with_positions ops kept)) (plain_list S0 list))
            (fill S0 (changed_heads (by_value S0 (with_positions ops kept)) (plain_list S0 list))) S (spliced_by (take at list) splices) at h [])
            × HasSplices (by_value S0 (with_positions ops kept)) splices at (is_some h) [] → IsAllMade S0 (by_value S0 (with_positions ops kept)) list S splices
        by (Some h) p = absurd (p.0.opening refl).1
        by None p =
            let both = made-all S0 (plain_list S0 list) _ _ S (spliced_by (take at list) splices) at None p.0 in
            let l = long in
            let there : at ≡ length list = omega (arith, p.0.fits) in
            let cut : take at list ≡ list = take_all at list (omega arith) in
            record {
              changed = ap (λ m. plain_list S (spliced_by m splices)) (sym cut) ∙ both.0;
              range = has-over (by_value S0 (with_positions ops kept)) splices at p.1;
              within = subst (λ n. LieBetween 0 n splices) there (has-between (by_value S0 (with_positions ops kept)) splices at false [] p.1);
              count = has-count (by_value S0 (with_positions ops kept)) splices at p.1;
              store = both.1;
            }

    module _ (o : Op) (within : i < length ops) (is : o ≡ get_or ops i o) where
      next_is : (p : Op) → o ≡ p → by_value S0 (drop i (with_positions ops kept))
          ≡ operation_by_value S0 (with_position p (get_or kept i None)) ∷ by_value S0 (drop (i + 1) (with_positions ops kept))
      next_is p e =
          let after : suc i ≡ i + 1 = omega arith in
          ap (by_value S0) (with_positions-at i ops kept o within)
          ∙ ap (λ q. operation_by_value S0 (with_position q (get_or kept i None)) ∷ by_value S0 (drop (suc i) (with_positions ops kept))) (sym is ∙ e)
          ∙ ap (λ j. operation_by_value S0 (with_position p (get_or kept i None)) ∷ by_value S0 (drop j (with_positions ops kept))) after

      turn : (p : Op) → o ≡ p → IsMade S0 (plain_list S0 list) (edited (by_value S0 (with_positions ops kept)) (plain_list S0 list))
          (fill S0 (changed_heads (by_value S0 (with_positions ops kept)) (plain_list S0 list))) S (spliced_by (take at list) splices) at head
          (operation_by_value S0 (with_position p (get_or kept i None)) ∷ by_value S0 (drop (i + 1) (with_positions ops kept)))
      turn p e = subst (IsMade S0 (plain_list S0 list) _ _ S _ at head) (next_is p e) stage.made

      turn_has : (p : Op) → o ≡ p → HasSplices (by_value S0 (with_positions ops kept)) splices at (is_some head)
          (operation_by_value S0 (with_position p (get_or kept i None)) ∷ by_value S0 (drop (i + 1) (with_positions ops kept)))
      turn_has p e = subst (HasSplices _ splices at (is_some head)) (next_is p e) stage.has

      between : LieBetween 0 at splices
      between = has-between _ splices at (is_some head) _ stage.has

      pub stage-passes : (count : ℕ) → o ≡ op.Retain count → at + count ≤ length list
      stage-passes count e =
          let f = (turn (op.Retain count) e).fits in
          let l = long in
          omega arith

      abbrev T : Transaction
      T = by_value S0 (with_positions ops kept)

      abbrev left_over : Transaction
      left_over = by_value S0 (drop (i + 1) (with_positions ops kept))

      -- the first items that stay, or those behind a first one
      stay_cite : (S' : List Value) → Extends S S' → (from n : ℕ) → All (CitesWell S') (take n (drop from list))
      stay_cite S' more from n = all-extended S S' more (take n (drop from list)) (All-take S n (drop from list) (All-drop S from list stage-listed))

      stay_plain : (S' : List Value) → Extends S S' → (from n : ℕ) → plain_list S' (take n (drop from list)) ≡ take n (drop from (plain_list S0 list))
      stay_plain S' more from n =
          list-extended S S' more (take n (drop from list)) (All-take S n (drop from list) (All-drop S from list stage-listed))
          ∙ sym (take-map (plain S) n (drop from list)) ∙ ap (take n) (sym (drop-map (plain S) from list)) ∙ ap (λ l. take n (drop from l)) same_list

      retain-plain : (count : ℕ) → IsMade S0 (plain_list S0 list) (edited T (plain_list S0 list)) (fill S0 (changed_heads T (plain_list S0 list))) S (spliced_by (take at list) splices) at None
          (Retain count ∷ left_over) → HasSplices T splices at false (Retain count ∷ left_over) → LieBetween 0 at splices → Stage S0 ops kept list S splices (at + count) None (i + 1)
      retain-plain count m has lie =
          let same = extends_itself S in
          let grown = spliced-past list at count splices lie stage-at in
          let both = grown-by S S same (spliced_by (take at list) splices) (spliced_by (take (at + count) list) splices) (take count (drop at list)) m.cites grown (stay_cite S same at count) in
          record {
            made = made-retain S0 (plain_list S0 list) _ _ S _ at None count left_over S (spliced_by (take (at + count) list) splices) m same both.0
                (both.1 ∙ ap (λ l. plain_list S (spliced_by (take at list) splices) ++ l) (stay_plain S same at count ∙ sym (first_headed-none (take count (drop at (plain_list S0 list)))))) refl;
            has = has-past T splices at count left_over has;
            cite = stage.cite;
          }

      retain-headed : (count : ℕ) (h : Head) (S' : List Value) (items : List Item) → Extends S S' → All (CitesWell S') items → plain_list S' items ≡ take 1 (first_headed (Some h) (drop at (plain_list S0 list))) →
          S' ≡ fill S (head_if true (first_headed (Some h) (drop at (plain_list S0 list)))) →
          IsMade S0 (plain_list S0 list) (edited T (plain_list S0 list)) (fill S0 (changed_heads T (plain_list S0 list))) S (spliced_by (take at list) splices) at (Some h) (Retain count ∷ left_over) →
          HasSplices T splices at true (Retain count ∷ left_over) → LieBetween 0 at splices →
          Stage S0 ops kept list S' (splices ++ record { at = at; removed = 1; items = items } ∷ []) (at + count) None (i + 1)
      retain-headed count h S' items more cited is stored m has lie =
          let some : 0 < count = counts_some count left_over m.reduced in
          let old = plain_list S0 list in
          let made = spliced_by (take at list) splices in
          let all : List Splice = splices ++ record { at = at; removed = 1; items = items } ∷ [] in
          let l = long in
          let below : at < length old = made-below S0 old _ _ S made at (Some h) (Retain count ∷ left_over) m refl in
          let one : length items ≡ 1 = sym (length-map items (plain S')) ∙ ap length is ∙ one-long (Some h) at old below in
          let rest = take (count - 1) (drop (at + 1) list) in
          let sum : at + count ≡ at + 1 + (count - 1) = omega arith in
          let lies : LieBetween 0 (at + 1) all = lie-push 0 at (at + 1) splices (record { at = at; removed = 1; items = items }) lie (omega arith) (omega arith) in
          let grown : spliced_by (take (at + count) list) all ≡ made ++ (items ++ rest) =
          ap (λ n. spliced_by (take n list) all) sum ∙ spliced-past list (at + 1) (count - 1) all lies (omega arith)
          ∙ ap (λ xs. xs ++ rest) (spliced-on list at 1 items splices lie (omega arith)) ∙ append_assoc made items rest in
          let both = grown-by S S' more made (spliced_by (take (at + count) list) all) (items ++ rest) m.cites grown
          (All-append (CitesWell S') items rest cited (stay_cite S' more (at + 1) (count - 1))) in
          let whole : plain_list S' (items ++ rest) ≡ first_headed (Some h) (take count (drop at old)) =
          map-append (plain S') items rest ∙ ap (λ xs. xs ++ plain_list S' rest) is
          ∙ ap (λ xs. take 1 (first_headed (Some h) (drop at old)) ++ xs) (stay_plain S' more (at + 1) (count - 1)) ∙ sym (headed-parts (Some h) count at old some) in
          record {
            made = made-retain S0 old _ _ S made at (Some h) count left_over S' (spliced_by (take (at + count) list) all) m more both.0 (both.1 ∙ ap (λ xs. plain_list S made ++ xs) whole) stored;
            has = has-settled T splices at count left_over items some one has;
            cite = cite-push S' splices (record { at = at; removed = 1; items = items }) (cite-extended S S' more splices stage.cite) cited;
          }

      pub stage-retain : (count : ℕ) (S' : List Value) (splices' : List Splice) → o ≡ op.Retain count → Extends S S' → IsSettled S S' list at head splices splices' →
          S' ≡ fill S (head_if (is_some head) (first_headed head (drop at (plain_list S list)))) → Stage S0 ops kept list S' splices' (at + count) None (i + 1)
      stage-retain count S' splices' e more settled stored =
          by head settled (subst (λ l. S' ≡ fill S (head_if (is_some head) (first_headed head (drop at l)))) same_list stored) (turn (op.Retain count) e) (turn_has (op.Retain count) e)
        where
          lie : LieBetween 0 at splices
          lie = between

          by : (h : Option Head) → IsSettled S S' list at h splices splices' → S' ≡ fill S (head_if (is_some h) (first_headed h (drop at (plain_list S0 list)))) →
              IsMade S0 (plain_list S0 list) (edited T (plain_list S0 list)) (fill S0 (changed_heads T (plain_list S0 list))) S (spliced_by (take at list) splices) at h (Retain count ∷ left_over) →
              HasSplices T splices at (is_some h) (Retain count ∷ left_over) → Stage S0 ops kept list S' splices' (at + count) None (i + 1)
          by None is stored_is m has =
              subst (λ xs. Stage S0 ops kept list S' xs (at + count) None (i + 1)) (sym is)
              (subst (λ s. Stage S0 ops kept list s splices (at + count) None (i + 1)) (sym stored_is) (retain-plain count m has lie))
          by (Some h) is stored_is m has =
              let F : List Splice → Type 0 = λ xs. Stage S0 ops kept list S' xs (at + count) None (i + 1) in
              subst F (sym is.1)
              (retain-headed count h S' is.0 more is.2 (is.3 ∙ ap (λ l. take 1 (first_headed (Some h) (drop at l))) same_list) stored_is m has lie)

      pub stage-long : (removed inserted : List Item) (count : ℕ) → o ≡ op.Replace removed inserted → count ≡ length removed → at + count ≤ length list
      stage-long removed inserted count e same =
          let f = (turn (op.Replace removed inserted) e).fits in
          let l = long in
          let m = length-map removed (plain S0) in
          omega arith

      pub stage-replace : (removed inserted : List Item) (items : List Item) (splices' : List Splice) (count : ℕ) → o ≡ op.Replace removed inserted → items ≡ inserted → count ≡ length removed →
          splices' ≡ splices ++ record { at = at; removed = count; items = items } ∷ [] → Stage S0 ops kept list S splices' (at + count) head (i + 1)
      stage-replace removed inserted items splices' count e same count_is splices_are =
          let P : Op → Type 0 = λ q. OperationCites S0 (with_position q None) in
          let both = subst P e (cites-at S0 ops i o within is (unkept_cites S0 ops kept cites)) in
          let F : List Splice → Type 0 = λ xs. Stage S0 ops kept list S xs (at + count) head (i + 1) in
          subst F (sym splices_are)
          (by head (turn (op.Replace removed inserted) e) (turn_has (op.Replace removed inserted) e) both.1)
        where
          lie : LieBetween 0 at splices
          lie = between

          splice : Splice
          splice = record { at = at; removed = count; items = items }

          ends : at + count ≤ length list
          ends = stage-long removed inserted count e count_is

          by : (h : Option Head) →
              IsMade S0 (plain_list S0 list) (edited T (plain_list S0 list)) (fill S0 (changed_heads T (plain_list S0 list))) S (spliced_by (take at list) splices) at h
              (model.Replace (plain_list S0 removed) (plain_list S0 inserted) ∷ left_over) →
              HasSplices T splices at (is_some h) (model.Replace (plain_list S0 removed) (plain_list S0 inserted) ∷ left_over) → All (CitesWell S0) inserted →
              Stage S0 ops kept list S (splices ++ splice ∷ []) (at + count) h (i + 1)
          by (Some h) m has cited = absurd (m.opening refl).1
          by None m has cited =
              let P : List Item → Type 0 = All (CitesWell S) in
              let into : All (CitesWell S) items = subst P (sym same) (all-extended S0 S m.extends inserted cited) in
              record {
                made = made-replace S0 (plain_list S0 list) _ _ S _ at None removed inserted left_over (spliced_by (take (at + count) list) (splices ++ splice ∷ [])) (at + count) m cited
                    (spliced-on list at count items splices lie ends ∙ ap (λ l. spliced_by (take at list) splices ++ l) same) (ap (λ n. at + n) count_is);
                has = has-replaced T splices at (plain_list S0 removed) (plain_list S0 inserted) left_over items count (at + count)
                    (ap length same ∙ sym (length-map inserted (plain S0))) (count_is ∙ sym (length-map removed (plain S0))) (ap (λ n. at + n) (count_is ∙ sym (length-map removed (plain S0)))) has;
                cite = cite-push S splices splice stage.cite into;
              }

      pub stage-inside : (name : List ℕ) (from to : Option (List ℕ)) → o ≡ op.Attribute name from to → at < length list
      stage-inside name from to e =
          let w = made-inside S0 (plain_list S0 list) _ _ S _ at head _ _ (turn (op.Attribute name from to) e) in
          let l = long in
          omega arith

      pub stage-allowed : (name : List ℕ) (from to : Option (List ℕ)) (x : Item) (present : Head) → o ≡ op.Attribute name from to → slice_get list at ≡ Some x →
          item_with_head (Some present) (plain S x) ≡ item_with_head head (plain S x) → (value_of name present.attrs ≡ from) × (is_reserved name ≡ false)
      stage-allowed name from to x present e here now =
          let c = change_of name from to (get_or kept i None) in
          let may : allows c (item_with_head head (plain S0 x)) ≡ true =
          made-allows S0 (plain_list S0 list) _ _ S _ at head c _ (plain S0 x) _ (turn (op.Attribute name from to) e) (drop-at S0 list at x here) in
          let same : item_with_head (Some present) (plain S0 x) ≡ item_with_head head (plain S0 x) = subst (λ q. item_with_head (Some present) q ≡ item_with_head head q) (same_item x here) now in
          allowed_head c present (plain S0 x) (ap (allows c) same ∙ may)

      pub stage-attribute : (name : List ℕ) (from to : Option (List ℕ)) (x : Item) (present next : Head) (k : Option ℕ) → o ≡ op.Attribute name from to → slice_get list at ≡ Some x →
          item_with_head (Some present) (plain S x) ≡ item_with_head head (plain S x) → k ≡ get_or kept i None →
          ((item : PlainItem) → item_with_head (Some next) item ≡ item_changed (change_of name from to k) (item_with_head (Some present) item)) → Stage S0 ops kept list S splices at (Some next) (i + 1)
      stage-attribute name from to x present next k e here now kept_is changed =
          let c = change_of name from to (get_or kept i None) in
          let same : item_with_head (Some present) (plain S0 x) ≡ item_with_head head (plain S0 x) = subst (λ q. item_with_head (Some present) q ≡ item_with_head head q) (same_item x here) now in
          let next_head : item_with_head (Some next) (plain S0 x) ≡ item_changed c (item_with_head head (plain S0 x)) =
          changed (plain S0 x) ∙ ap (λ j. item_changed (change_of name from to j) (item_with_head (Some present) (plain S0 x))) kept_is ∙ ap (item_changed c) same in
          record {
            made = made-attribute S0 (plain_list S0 list) _ _ S _ at head c _ (plain S0 x) _ next (turn (op.Attribute name from to) e) (drop-at S0 list at x here) next_head;
            has = has-headed T splices at (is_some head) c left_over (turn_has (op.Attribute name from to) e);
            cite = stage.cite;
          }
