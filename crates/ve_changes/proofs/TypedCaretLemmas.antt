-- Where the last character ends.
use Rattle.std.proofs.Common.{◌≡◌, ◌==◌, ℕ, suc, ◌+◌, if◌then◌else◌, List, [], ◌∷◌, ◌++◌, length, map, refl, sym, ap, ◌∙◌, subst, append_assoc, append-nil, arith, ◌-◌, Some, None, slice_get, get_or, take, ◌<◌}
use Rattle.std.proofs.lemmas.List.{map-append, length-append, length-map, take_more}
use Rattle.std.proofs.Math.Dec.{eqb-suc-zero}
use Rattle.ve_base.specs.declared.value.Value.{Value}
use Rattle.model_items.specs.declared.item.Item.{Item}
use Rattle.model_items.specs.declared.item.Item.TheVariants as item
use Rattle.model_items.specs.declared.plain_item.PlainItem.{PlainItem}
use Rattle.model_items.specs.declared.plain_item.PlainItem.TheVariants.{Char, Opening, Closing}
use Rattle.model_items.specs.Plain.{plain, plain_list}
use Rattle.model_change.specs.Inverse.{filled}
use Rattle.model_change.specs.Join.{first}
use Rattle.model_change.specs.Transaction.{Retain, Replace, Attribute, Transaction, all_inserted, edited}
use Rattle.model_site.specs.Replica.{all_filled}
use Rattle.model_world.specs.Answers.{after_text, to_last_char}
use Rattle.ve_tx.specs.declared.op.Op.{Op}
use Rattle.ve_tx.specs.Operation.{Operation, bare, by_value}
use Rattle.ve_tx.specs.Operation as tx
use Rattle.ve_changes.specs.declared.caret.Seen.{Seen}
use Rattle.ve_changes.specs.TypedCarets.{HasSeen, SeesMore, first_of, inserted_items}

-- ---- one item more at the end

-- how many items up to the last character, where there may be one after those
abbrev before_more : ℕ → ℕ
before_more n = if n == 0 then 0 else suc n

char_last : (items : List PlainItem) (ch : ℕ) (marks : _) → to_last_char (items ++ Char ch marks ∷ []) ≡ suc (length items)
char_last [] ch marks = refl
char_last (Char c m ∷ items) ch marks = ap suc (char_last items ch marks)
char_last (Opening kind head m pre origin generated ∷ items) ch marks = ap before_more (char_last items ch marks) ∙ one_more (length items)
  where
    one_more : (n : ℕ) → before_more (suc n) ≡ suc (suc n)
    one_more n = rw (eqb-suc-zero n) refl
char_last (Closing kind pre ∷ items) ch marks = ap before_more (char_last items ch marks) ∙ one_more (length items)
  where
    one_more : (n : ℕ) → before_more (suc n) ≡ suc (suc n)
    one_more n = rw (eqb-suc-zero n) refl

opening_last : (items : List PlainItem) (kind : _) (head : _) (marks : _) (pre : _) (origin : _) (generated : _) →
    to_last_char (items ++ Opening kind head marks pre origin generated ∷ []) ≡ to_last_char items
opening_last [] kind head marks pre origin generated = refl
opening_last (Char c m ∷ items) kind head marks pre origin generated = ap suc (opening_last items kind head marks pre origin generated)
opening_last (Opening k h m p o g ∷ items) kind head marks pre origin generated = ap before_more (opening_last items kind head marks pre origin generated)
opening_last (Closing k p ∷ items) kind head marks pre origin generated = ap before_more (opening_last items kind head marks pre origin generated)

closing_last : (items : List PlainItem) (kind : _) (pre : _) → to_last_char (items ++ Closing kind pre ∷ []) ≡ to_last_char items
closing_last [] kind pre = refl
closing_last (Char c m ∷ items) kind pre = ap suc (closing_last items kind pre)
closing_last (Opening k h m p o g ∷ items) kind pre = ap before_more (closing_last items kind pre)
closing_last (Closing k p ∷ items) kind pre = ap before_more (closing_last items kind pre)

counted : (before : List Item) (x : Item) (n m : ℕ) → n ≡ length before → m ≡ n + 1 → m ≡ length (before ++ x ∷ [])
counted before x n m e f = let l = length-append before (x ∷ []) in omega (arith, e, f, l)

pub sees_char : (seen : Seen) (ch : ℕ) (marks : _) (count : ℕ) → count ≡ seen.count + 1 → SeesMore seen (item.Char ch marks ∷ []) (record { count = count; last = count })
sees_char seen ch marks count e before s = record {
  count = counted before (item.Char ch marks) seen.count count s.count e;
  last = λ values.
      counted before (item.Char ch marks) seen.count count s.count e ∙ grown before (item.Char ch marks) ∙ ap suc (sym (length-map before (plain values)))
      ∙ sym (ap to_last_char (map-append (plain values) before (item.Char ch marks ∷ [])) ∙ char_last (plain_list values before) ch _);
}
  where
    grown : (before : List Item) (x : Item) → length (before ++ x ∷ []) ≡ suc (length before)
    grown before x = let l = length-append before (x ∷ []) in omega (arith, l)

pub sees_opening : (seen : Seen) (kind : _) (generated : _) (head marks pre : _) (origin : _) (count : ℕ) → count ≡ seen.count + 1 →
    SeesMore seen (item.Opening kind generated head marks pre origin ∷ []) (record { count = count; last = seen.last })
sees_opening seen kind generated head marks pre origin count e before s = record {
  count = counted before (item.Opening kind generated head marks pre origin) seen.count count s.count e;
  last = λ values.
      s.last values
      ∙ sym (ap to_last_char (map-append (plain values) before (item.Opening kind generated head marks pre origin ∷ [])) ∙ opening_last (plain_list values before) kind _ _ _ origin generated);
}

pub sees_closing : (seen : Seen) (kind : _) (pre : _) (count : ℕ) → count ≡ seen.count + 1 → SeesMore seen (item.Closing kind pre ∷ []) (record { count = count; last = seen.last })
sees_closing seen kind pre count e before s = record {
  count = counted before (item.Closing kind pre) seen.count count s.count e;
  last = λ values.
      s.last values ∙ sym (ap to_last_char (map-append (plain values) before (item.Closing kind pre ∷ [])) ∙ closing_last (plain_list values before) kind _);
}

-- ---- one piece after the other

pub sees_none : (seen : Seen) → SeesMore seen [] seen
sees_none seen before s = subst (λ l. HasSeen l seen) (sym (append-nil before)) s

sees_on : (first mid last : Seen) (xs ys : List Item) → SeesMore first xs mid → SeesMore mid ys last → SeesMore first (xs ++ ys) last
sees_on first mid last xs ys p q before s = subst (λ l. HasSeen l last) (append_assoc before xs ys) (q (before ++ xs) (p before s))

pub sees_next : (first mid next : Seen) (items : List Item) (i : ℕ) (x : Item) → i < length items → SeesMore first (take i items) mid → SeesMore mid (get_or items i x ∷ []) next →
    SeesMore first (take (i + 1) items) next
sees_next first mid next items i x inside p q = subst (λ l. SeesMore first l next) (sym (take_more items i x inside)) (sees_on first mid next (take i items) (get_or items i x ∷ []) p q)

pub seen_nothing : HasSeen [] (record { count = 0; last = 0 })
seen_nothing = record { count = refl; last = λ values. refl }

-- ---- operations and transactions

pub inserted_is : (values : List Value) (ops : List Operation) → all_inserted (by_value values ops) ≡ plain_list values (inserted_items (map bare ops))
inserted_is values [] = refl
inserted_is values (tx.Retain count ∷ ops) = inserted_is values ops
inserted_is values (tx.Replace removed inserted ∷ ops) =
    ap (λ l. plain_list values inserted ++ l) (inserted_is values ops) ∙ sym (map-append (plain values) inserted (inserted_items (map bare ops)))
inserted_is values (tx.Attribute change ∷ ops) = inserted_is values ops

pub first_is : (values : List Value) (ops : List Operation) → first_of (map bare ops) ≡ first (by_value values ops)
first_is values [] = refl
first_is values (tx.Retain count ∷ ops) = refl
first_is values (tx.Replace removed inserted ∷ ops) = refl
first_is values (tx.Attribute change ∷ ops) = refl

pub after_is : (tx : List Operation) (seen : Seen) (ops others : List Op) (passed at : ℕ) → ops ≡ map bare tx → others ≡ map bare tx → HasSeen (inserted_items ops) seen →
    passed ≡ first_of others → at ≡ passed + seen.last → (values : List Value) → at ≡ first (by_value values tx) + to_last_char (all_inserted (by_value values tx))
after_is tx seen ops others passed at e f s p h values =
    h ∙ ap (λ n. n + seen.last) (p ∙ ap first_of f ∙ first_is values tx)
    ∙ ap (λ n. first (by_value values tx) + n)
    (s.last values ∙ ap (λ l. to_last_char (plain_list values (inserted_items l))) e ∙ ap to_last_char (sym (inserted_is values tx)))

-- the last transaction is the one that tells
later : (x y z : List Operation) (xs : List (List Operation)) → slice_get (x ∷ y ∷ xs) (length (x ∷ y ∷ xs) - 1) ≡ Some z → slice_get (y ∷ xs) (length (y ∷ xs) - 1) ≡ Some z
later x y z xs h =
    let m : suc (suc (length xs)) - 1 ≡ suc (length xs) = omega arith in
    let n : suc (length xs) - 1 ≡ length xs = omega arith in
    subst (λ k. slice_get (y ∷ xs) k ≡ Some z) (sym n) (subst (λ k. slice_get (x ∷ y ∷ xs) k ≡ Some z) m h)

pub text_of_last : (values : List Value) (txs : List (List Operation)) (tx : List Operation) → slice_get txs (length txs - 1) ≡ Some tx →
    first (by_value values tx) + to_last_char (all_inserted (by_value values tx)) ≡ after_text (map (by_value values) txs)
text_of_last values [] tx e = cc
text_of_last values (t ∷ []) tx e = let same : t ≡ tx = cc in ap (λ o. first (by_value values o) + to_last_char (all_inserted (by_value values o))) (sym same)
text_of_last values (t ∷ u ∷ txs) tx e = text_of_last values (u ∷ txs) tx (later t u tx txs e)

last_is_some : (x : List Operation) (xs : List (List Operation)) → slice_get (x ∷ xs) (length xs) ≡ None → ⊥
last_is_some x [] e = cc
last_is_some x (y ∷ ys) e = last_is_some y ys e

pub text_of_none : (values : List Value) (txs : List (List Operation)) → slice_get txs (length txs - 1) ≡ None → 0 ≡ after_text (map (by_value values) txs)
text_of_none values [] e = refl
text_of_none values (t ∷ txs) e = let n : suc (length txs) - 1 ≡ length txs = omega arith in absurd (last_is_some t txs (subst (λ k. slice_get (t ∷ txs) k ≡ None) n e))

-- with positions filled in a text ends where it did
filled_inserts : (t : Transaction) (items : List PlainItem) → all_inserted (filled t items) ≡ all_inserted t
filled_inserts [] items = refl
filled_inserts (Retain count ∷ ops) items = filled_inserts ops _
filled_inserts (Replace removed inserted ∷ ops) items = ap (λ l. inserted ++ l) (filled_inserts ops _)
filled_inserts (Attribute change ∷ ops) items = filled_inserts ops _

filled_first : (t : Transaction) (items : List PlainItem) → first (filled t items) ≡ first t
filled_first [] items = refl
filled_first (Retain count ∷ ops) items = refl
filled_first (Replace removed inserted ∷ ops) items = refl
filled_first (Attribute change ∷ ops) items = refl

pub filled_text : (ts : List Transaction) (items : List PlainItem) → after_text (all_filled ts items) ≡ after_text ts
filled_text [] items = refl
filled_text (t ∷ []) items = ap (λ n. n + to_last_char (all_inserted (filled t items))) (filled_first t items) ∙ ap (λ l. first t + to_last_char l) (filled_inserts t items)
filled_text (t ∷ u ∷ ts) items = filled_text (u ∷ ts) (edited t items)
