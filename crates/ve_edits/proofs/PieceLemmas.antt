-- The inserted items of the one transaction of some edits.
use Rattle.std.proofs.Common.{◌≡◌, ℕ, zero, suc, ◌+◌, ◌-◌, List, [], ◌∷◌, ◌++◌, length, take, drop, refl, sym, ap, ◌∙◌, append_assoc}
use Rattle.model_items.specs.declared.plain_item.PlainItem.{PlainItem}
use Rattle.model_change.specs.Transaction.{Retain, Replace, Attribute, Transaction, all_inserted}
use Rattle.model_edit.specs.Edits.{Edit, Change, Set, retaining, merged, replacing, setting, transaction_from, transaction_of}

-- what edits insert, one piece after the other
abbrev pub pieces : List Edit → List PlainItem
pieces [] = []
pieces (Change place count inserted ∷ edits) = inserted ++ pieces edits
pieces (Set place name to ∷ edits) = pieces edits

pub pieces-append : (xs ys : List Edit) → pieces (xs ++ ys) ≡ pieces xs ++ pieces ys
pieces-append [] ys = refl
pieces-append (Change place count inserted ∷ xs) ys = ap (λ l. inserted ++ l) (pieces-append xs ys) ∙ sym (append_assoc inserted (pieces xs) (pieces ys))
pieces-append (Set place name to ∷ xs) ys = pieces-append xs ys

inserted-retaining : (n : ℕ) (t : Transaction) → all_inserted (retaining n t) ≡ all_inserted t
inserted-retaining zero t = refl
inserted-retaining (suc n) [] = refl
inserted-retaining (suc n) (Retain count ∷ ops) = refl
inserted-retaining (suc n) (Replace removed inserted ∷ ops) = refl
inserted-retaining (suc n) (Attribute change ∷ ops) = refl

inserted-merged : (removed inserted : List PlainItem) (t : Transaction) → all_inserted (merged removed inserted t) ≡ inserted ++ all_inserted t
inserted-merged removed inserted [] = refl
inserted-merged removed inserted (Retain count ∷ ops) = refl
inserted-merged removed inserted (Attribute change ∷ ops) = refl
inserted-merged removed inserted (Replace next others ∷ ops) = append_assoc inserted others (all_inserted ops)

inserted-replacing : (removed inserted : List PlainItem) (t : Transaction) → all_inserted (replacing removed inserted t) ≡ inserted ++ all_inserted t
inserted-replacing [] [] t = refl
inserted-replacing [] (one ∷ inserted) t = inserted-merged [] (one ∷ inserted) t
inserted-replacing (one ∷ removed) inserted t = inserted-merged (one ∷ removed) inserted t

inserted-from : (at : ℕ) (items : List PlainItem) (edits : List Edit) → all_inserted (transaction_from at items edits) ≡ pieces edits
inserted-from at items [] = inserted-retaining (length items) []
inserted-from at items (Change place count inserted ∷ edits) =
    let rest = drop (place - at) items in
    let later = transaction_from (place + count) (drop count rest) edits in
    inserted-retaining (place - at) (replacing (take count rest) inserted later)
    ∙ inserted-replacing (take count rest) inserted later
    ∙ ap (λ v. inserted ++ v) (inserted-from (place + count) (drop count rest) edits)
inserted-from at items (Set place name to ∷ edits) =
    let rest = drop (place - at) items in
    inserted-retaining (place - at) (Attribute (setting name to rest) ∷ transaction_from place rest edits)
    ∙ inserted-from place rest edits

pub inserts_pieces : (items : List PlainItem) (edits : List Edit) → all_inserted (transaction_of items edits) ≡ pieces edits
inserts_pieces items edits = inserted-from 0 items edits
