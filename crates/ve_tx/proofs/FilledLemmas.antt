-- The positions of removed attributes are found along the operations.
use Rattle.std.specs.Option.{option_or}
use Rattle.std.proofs.Common.{◌≡◌, ◌≤◌, ◌<◌, ℕ, zero, suc, ◌+◌, Bool, true, false, not, ◌==◌, if◌then◌else◌, List, [], ◌∷◌, ◌++◌, length, drop, map, slice_get, Option, Some, None, refl, sym, ap, subst, ◌∙◌, append_assoc, append-nil, arith}
use Rattle.std.proofs.lemmas.Bool.{and_parts, not-true}
use Rattle.std.specs.Prelude.{All, option_map}
use Rattle.std.proofs.lemmas.List.Elements.{All-nil, All-cons, All-head, All-tail}
use Rattle.std.proofs.lemmas.List.{map-append, drop_all, drop-drop}
use Rattle.ve_base.specs.declared.head.Head.{Head}
use Rattle.ve_base.specs.declared.value.Value.{Value}
use Rattle.ve_kinds.specs.Table.{is_element}
use Rattle.model_items.specs.declared.item.Item.{Item}
use Rattle.model_items.specs.declared.plain_item.PlainItem.{PlainItem}
use Rattle.model_items.specs.declared.plain_item.PlainItem.TheVariants.{Char, Opening, Closing}
use Rattle.model_items.specs.Plain.{plain, plain_list, CitesWell}
use Rattle.model_items.specs.Same.{text_same, option_same}
use Rattle.model_items.proofs.SameLemmas.{Means-text_same, Means-option_same}
use Rattle.model_change.specs.Attributes.{AttrChange, value_of, is_reserved, item_changed, allows, position_kept}
use Rattle.model_change.specs.Transaction.{Transaction, Retain, Replace, Attribute, old_length, on_first, is_normal}
use Rattle.model_change.specs.Transaction as model
use Rattle.model_change.specs.Fault.{mismatch_at, bad_attribute_at, first_allows, Applies}
use Rattle.model_change.specs.Inverse.{filled, first_filled, IsRestorable}
use Rattle.model_change.proofs.FilledLemmas.{filling_is_neutral}
use Rattle.model_change.specs.declared.tx_fault.TxFault.{TxFault}
use Rattle.model_change.specs.declared.tx_fault.TxFault.TheVariants.{BadLength, Mismatch, BadAttr}
use Rattle.ve_tx.specs.declared.op.Op.{Op}
use Rattle.ve_tx.specs.declared.op.Op.TheVariants as op
use Rattle.ve_tx.specs.Checked.{change_of}
use Rattle.ve_tx.specs.Filled.{is_attribute, items_past, op_filled, MayBeMade}
use Rattle.std.specs.List.{list_any}
use Rattle.ve_tx.specs.Making.{item_with_head, first_headed, standing, IsOpening}
use Rattle.ve_tx.specs.Normal.{are_normal}
use Rattle.ve_tx.specs.Cites.{OperationCites, TxCites}
use Rattle.ve_tx.specs.Operation.{Operation, with_position, with_positions, bare, operation_by_value, by_value, IsNormal}
use Rattle.ve_tx.specs.Operation as kept
use Rattle.ve_tx.proofs.NormalLemmas.{normal-bare}

-- past some items nothing is changed yet
first_none : (items : List PlainItem) → first_headed None items ≡ items
first_none [] = refl
first_none (item ∷ items) = refl

past_first : (head : Option Head) (count : ℕ) (items : List PlainItem) → 0 < count → drop count (first_headed head items) ≡ drop count items
past_first head zero items h = absurd (omega arith)
past_first head (suc count) [] h = refl
past_first head (suc count) (item ∷ items) h = refl

pub past_standing : (items : List PlainItem) (at count : ℕ) (head : Option Head) → 0 < count → standing items (at + count) None ≡ drop count (standing items at head)
past_standing items at count head some = first_none (drop (at + count) items) ∙ sym (drop-drop count at items) ∙ sym (past_first head count (drop at items) some)

here_first : (store : List Value) (items : List Item) (at : ℕ) (x : Item) → slice_get items at ≡ Some x →
    drop at (plain_list store items) ≡ plain store x ∷ drop (suc at) (plain_list store items)
here_first store [] at x h = cc
here_first store (y ∷ items) zero x h = let same : y ≡ x = cc in ap (λ z. plain store z ∷ plain_list store items) same
here_first store (y ∷ items) (suc at) x h = here_first store items at x h

-- what an allowed change says of the head
allowed_head : (c : AttrChange) (head : Head) (p : PlainItem) → allows c (item_with_head (Some head) p) ≡ true → IsOpening p × (value_of c.name head.attrs ≡ c.from) × (is_reserved c.name ≡ false)
allowed_head c head (Char ch marks) h = cc
allowed_head c head (Closing kind pre) h = cc
allowed_head c head (Opening kind other marks pre origin generated) h =
    let p = and_parts (is_element kind) _ h in
    let q = and_parts (option_same text_same (value_of c.name head.attrs) c.from) (not (is_reserved c.name)) p.1 in
    (tt, (Means-option_same text_same Means-text_same).equal (value_of c.name head.attrs) c.from q.0, not-true (is_reserved c.name) q.1)

-- an attribute operation at the cursor
module _ (store : List Value) (items : List Item) (at : ℕ) (head : Option Head) (x : Item) (present : Head) (o : Op) (kept : Option ℕ) {name : List ℕ} {from to : Option (List ℕ)}
    (is : o ≡ op.Attribute name from to) (here : slice_get items at ≡ Some x) (now : item_with_head (Some present) (plain store x) ≡ item_with_head head (plain store x)) where
  stands : standing (plain_list store items) at head ≡ item_with_head (Some present) (plain store x) ∷ drop (suc at) (plain_list store items)
  stands = ap (first_headed head) (here_first store items at x here) ∙ ap (λ p. p ∷ drop (suc at) (plain_list store items)) (sym now)

  by_value_is : operation_by_value store (with_position o kept) ≡ Attribute (change_of name from to kept)
  by_value_is = ap (λ p. operation_by_value store (with_position p kept)) is

  pub allowed_here : MayBeMade (operation_by_value store (with_position o kept)) (standing (plain_list store items) at head) →
      IsOpening (plain store x) × (value_of name present.attrs ≡ from) × (is_reserved name ≡ false)
  allowed_here h =
      let allowed : first_allows (change_of name from to kept) (standing (plain_list store items) at head) ≡ true =
      subst (λ p. MayBeMade p (standing (plain_list store items) at head)) by_value_is h in
      allowed_head (change_of name from to kept) present (plain store x) (ap (first_allows (change_of name from to kept)) (sym stands) ∙ allowed)

  pub passed_here : (next : Head) → ((p : PlainItem) → item_with_head (Some next) p ≡ item_changed (change_of name from to kept) (item_with_head (Some present) p)) →
      standing (plain_list store items) at (Some next) ≡ items_past (operation_by_value store (with_position o kept)) (standing (plain_list store items) at head)
  passed_here next changed =
      ap (first_headed (Some next)) (here_first store items at x here) ∙ ap (λ p. p ∷ drop (suc at) (plain_list store items)) (changed (plain store x))
      ∙ ap (on_first (item_changed (change_of name from to kept))) (sym stands) ∙ ap (λ p. items_past p (standing (plain_list store items) at head)) (sym by_value_is)

  pub filled_here : (position : Option ℕ) → position ≡ position_kept from to name kept (item_with_head (Some present) (plain store x)) →
      operation_by_value store (with_position o position) ≡ op_filled (operation_by_value store (with_position o kept)) (standing (plain_list store items) at head)
  filled_here position position_is =
      ap (λ p. operation_by_value store (with_position p position)) is ∙ ap (λ k. Attribute (change_of name from to k)) position_is
      ∙ ap (λ l. Attribute (first_filled (change_of name from to kept) l)) (sym stands) ∙ ap (λ p. op_filled p (standing (plain_list store items) at head)) (sym by_value_is)

-- the walk goes on after each operation
filled-next : (p : model.Op) (ops : Transaction) (items : List PlainItem) → filled (p ∷ ops) items ≡ op_filled p items ∷ filled ops (items_past p items)
filled-next (Retain count) ops items = refl
filled-next (Replace removed inserted) ops items = refl
filled-next (Attribute change) ops items = refl

bad-any : (m n : ℕ) (ops : Transaction) (items : List PlainItem) → bad_attribute_at m ops items ≡ None → bad_attribute_at n ops items ≡ None
bad-any m n [] items h = refl
bad-any m n (Retain count ∷ ops) items h = bad-any (m + count) (n + count) ops (drop count items) h
bad-any m n (Replace removed inserted ∷ ops) items h = bad-any (m + length removed) (n + length removed) ops (drop (length removed) items) h
bad-any m n (Attribute change ∷ ops) items h = by (first_allows change items) (bad-any m n ops (on_first (item_changed change) items)) h
  where
    by : (b : Bool) → (bad_attribute_at m ops (on_first (item_changed change) items) ≡ None → bad_attribute_at n ops (on_first (item_changed change) items) ≡ None) →
        (if b then bad_attribute_at m ops (on_first (item_changed change) items) else Some m) ≡ None →
        (if b then bad_attribute_at n ops (on_first (item_changed change) items) else Some n) ≡ None
    by true rest e = rest e
    by false rest e = cc

pub may-next : (p : model.Op) (ops : Transaction) (items : List PlainItem) → bad_attribute_at 0 (p ∷ ops) items ≡ None → MayBeMade p items
may-next (Retain count) ops items h = tt
may-next (Replace removed inserted) ops items h = tt
may-next (Attribute change) ops items h = by (first_allows change items) refl h
  where
    by : (b : Bool) → first_allows change items ≡ b → (if b then bad_attribute_at 0 ops (on_first (item_changed change) items) else Some 0) ≡ None → first_allows change items ≡ true
    by true e f = e
    by false e f = cc

bad-next : (p : model.Op) (ops : Transaction) (items : List PlainItem) → bad_attribute_at 0 (p ∷ ops) items ≡ None → bad_attribute_at 0 ops (items_past p items) ≡ None
bad-next (Retain count) ops items h = bad-any (0 + count) 0 ops (drop count items) h
bad-next (Replace removed inserted) ops items h = bad-any (0 + length removed) 0 ops (drop (length removed) items) h
bad-next (Attribute change) ops items h = by (first_allows change items) h
  where
    by : (b : Bool) → (if b then bad_attribute_at 0 ops (on_first (item_changed change) items) else Some 0) ≡ None → bad_attribute_at 0 ops (on_first (item_changed change) items) ≡ None
    by true e = e
    by false e = cc

-- before an operation, with the operations made so far
pub record Filling (store : List Value) (tx : List Operation) (L : List PlainItem) (i : ℕ) (made : List Operation) (items : List PlainItem) : Type 0 where
  pub fills : by_value store made ++ filled (by_value store (drop i tx)) items ≡ filled (by_value store tx) L
  pub allowed : bad_attribute_at 0 (by_value store (drop i tx)) items ≡ None

pub filling-first : (store : List Value) (tx : List Operation) (L : List PlainItem) → bad_attribute_at 0 (by_value store tx) L ≡ None → Filling store tx L 0 [] (standing L 0 None)
filling-first store tx L h =
    let same : standing L 0 None ≡ L = first_none L in
    record { fills = ap (filled (by_value store tx)) same; allowed = ap (bad_attribute_at 0 (by_value store tx)) same ∙ h }

pub filling-allowed : (store : List Value) (tx : List Operation) (L items : List PlainItem) (i : ℕ) (made : List Operation) (o : Operation) → drop i tx ≡ o ∷ drop (i + 1) tx →
    Filling store tx L i made items → MayBeMade (operation_by_value store o) items
filling-allowed store tx L items i made o part g =
    may-next (operation_by_value store o) (by_value store (drop (i + 1) tx)) items (ap (λ ops. bad_attribute_at 0 (by_value store ops) items) (sym part) ∙ g.allowed)

pub filling-next : (store : List Value) (tx : List Operation) (L items items' : List PlainItem) (i : ℕ) (made : List Operation) (o o' : Operation) → drop i tx ≡ o ∷ drop (i + 1) tx →
    items' ≡ items_past (operation_by_value store o) items → operation_by_value store o' ≡ op_filled (operation_by_value store o) items →
    Filling store tx L i made items → Filling store tx L (i + 1) (made ++ o' ∷ []) items'
filling-next store tx L items items' i made o o' part is done g =
    let rest = by_value store (drop (i + 1) tx) in
    let p = operation_by_value store o in
    record {
      fills =
          ap (λ l. l ++ filled rest items') (map-append (operation_by_value store) made (o' ∷ [])) ∙ append_assoc (by_value store made) (operation_by_value store o' ∷ []) (filled rest items')
          ∙ ap (λ q. by_value store made ++ q ∷ filled rest items') done ∙ ap (λ l. by_value store made ++ op_filled p items ∷ filled rest l) is
          ∙ ap (λ l. by_value store made ++ l) (sym (filled-next p rest items)) ∙ ap (λ ops. by_value store made ++ filled (by_value store ops) items) (sym part) ∙ g.fills;
      allowed = ap (bad_attribute_at 0 rest) is ∙ bad-next p rest items (ap (λ ops. bad_attribute_at 0 (by_value store ops) items) (sym part) ∙ g.allowed);
    }

pub filling-last : (store : List Value) (tx : List Operation) (L items : List PlainItem) (i : ℕ) (made : List Operation) → length tx ≤ i → Filling store tx L i made items →
    by_value store made ≡ filled (by_value store tx) L
filling-last store tx L items i made done g =
    sym (append-nil (by_value store made)) ∙ ap (λ ops. by_value store made ++ filled (by_value store ops) items) (sym (drop_all i tx done)) ∙ g.fills

-- no attribute operation is refused, where a transaction applies
pub applies-allowed : (t : Transaction) (items : List PlainItem) → Applies t items → bad_attribute_at 0 t items ≡ None
applies-allowed t items h = by_length (old_length t == length items) h
  where
    none_of : (o : Option ℕ) → option_map (λ at. BadAttr at) o ≡ None → o ≡ None
    none_of None e = refl
    none_of (Some at) e = cc

    by_mismatch : (o : Option TxFault) → option_or o (option_map (λ at. BadAttr at) (bad_attribute_at 0 t items)) ≡ None → bad_attribute_at 0 t items ≡ None
    by_mismatch None e = none_of (bad_attribute_at 0 t items) e
    by_mismatch (Some f) e = cc

    by_length : (b : Bool) →
        (if b then option_or (option_map (λ at. Mismatch at) (mismatch_at 0 t items)) (option_map (λ at. BadAttr at) (bad_attribute_at 0 t items)) else Some (BadLength (length items) (old_length t))) ≡ None →
        bad_attribute_at 0 t items ≡ None
    by_length true e = by_mismatch (option_map (λ at. Mismatch at) (mismatch_at 0 t items)) e
    by_length false e = cc

-- citing does not hang on positions
cites_bare : (values : List Value) (o o' : Operation) → bare o ≡ bare o' → OperationCites values o → OperationCites values o'
cites_bare values (kept.Retain count) (kept.Retain other) e h = tt
cites_bare values (kept.Retain count) (kept.Attribute change) e h = tt
cites_bare values (kept.Attribute change) (kept.Retain count) e h = tt
cites_bare values (kept.Attribute change) (kept.Attribute other) e h = tt
cites_bare values (kept.Retain count) (kept.Replace removed inserted) e h = cc
cites_bare values (kept.Attribute change) (kept.Replace removed inserted) e h = cc
cites_bare values (kept.Replace removed inserted) (kept.Retain count) e h = cc
cites_bare values (kept.Replace removed inserted) (kept.Attribute change) e h = cc
cites_bare values (kept.Replace removed inserted) (kept.Replace removed' inserted') e h =
    let r : removed ≡ removed' = cc in
    let i : inserted ≡ inserted' = cc in
    (subst (All (CitesWell values)) r h.0, subst (All (CitesWell values)) i h.1)

pub tx_cites_bare : (values : List Value) (tx tx' : List Operation) → map bare tx ≡ map bare tx' → TxCites values tx → TxCites values tx'
tx_cites_bare values [] [] e h = h
tx_cites_bare values [] (o' ∷ tx') e h = cc
tx_cites_bare values (o ∷ tx) [] e h = All-nil (OperationCites values)
tx_cites_bare values (o ∷ tx) (o' ∷ tx') e h =
    let first : bare o ≡ bare o' = cc in
    let rest : map bare tx ≡ map bare tx' = cc in
    let P = OperationCites values in
    All-cons P o' tx' (cites_bare values o o' first (All-head P o tx h)) (tx_cites_bare values tx tx' rest (All-tail P o tx h))

-- in normal form is the one where the other is
pub normal_filled : (values : List Value) (tx made : List Operation) → map bare made ≡ map bare tx → IsNormal tx → is_normal (by_value values made) ≡ true
normal_filled values tx made e h = normal-bare values made ∙ ap are_normal e ∙ sym (normal-bare values tx) ∙ h values

pub restorable_filled : (store : List Value) (tx made : List Operation) (items : List PlainItem) → by_value store made ≡ filled (by_value store tx) items → Applies (by_value store tx) items →
    IsRestorable (by_value store made) items
restorable_filled store tx made items e h = subst (λ t. IsRestorable t items) (sym e) (filling_is_neutral (by_value store tx) items h).restorable

-- operations without an attribute among them keep no position, and none is filled in
pub filled_unkept : (store : List Value) (ops : List Op) (positions : List (Option ℕ)) (items : List PlainItem) → list_any is_attribute ops ≡ false →
    by_value store (with_positions ops []) ≡ filled (by_value store (with_positions ops positions)) items
filled_unkept store [] positions items h = refl
filled_unkept store (op.Retain count ∷ ops) [] items h = ap (λ rest. model.Retain count ∷ rest) (filled_unkept store ops [] (drop count items) h)
filled_unkept store (op.Retain count ∷ ops) (k ∷ positions) items h = ap (λ rest. model.Retain count ∷ rest) (filled_unkept store ops positions (drop count items) h)
filled_unkept store (op.Replace removed inserted ∷ ops) [] items h =
    ap (λ rest. model.Replace (plain_list store removed) (plain_list store inserted) ∷ rest) (filled_unkept store ops [] (drop (length (plain_list store removed)) items) h)
filled_unkept store (op.Replace removed inserted ∷ ops) (k ∷ positions) items h =
    ap (λ rest. model.Replace (plain_list store removed) (plain_list store inserted) ∷ rest) (filled_unkept store ops positions (drop (length (plain_list store removed)) items) h)
filled_unkept store (op.Attribute name from to ∷ ops) positions items h = cc
