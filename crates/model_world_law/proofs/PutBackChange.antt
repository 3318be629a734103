-- What was read of items that were shown is completed to these items, and so a range that is removed
-- and put back leaves the list as it is.
use Rattle.std.proofs.Common.{◌≡◌, ℕ, zero, suc, ◌+◌, ◌-◌, ◌<◌, ◌≤◌, nat_lt, Bool, true, false, not, ◌&&◌, ◌||◌, if◌then◌else◌, List, [], ◌∷◌, ◌++◌, length, map, take, drop, Option, Some, None, Result, Ok, Err, refl, sym, ap, ◌∙◌, arith}
use Rattle.std.specs.Prelude.{codes, option_and_then, option_map}
use Rattle.std.specs.List.{AllByRecursion}
use Rattle.std.proofs.lemmas.Bool.{and_parts, eq-eqb, lt-ltb}
use Rattle.std.proofs.lemmas.List.{append-nil, drop-drop, length-drop, length-map, length-take-le, take-append-drop}
use Rattle.serde_json.specs.Data.{Data, no_members, object, put}
use Rattle.ve_base.specs.declared.head.Head.{Head}
use Rattle.ve_kinds.specs.declared.kind.Kind.{Kind}
use Rattle.ve_kinds.specs.declared.kind.Kind.TheVariants.{P}
use Rattle.ve_kinds.specs.Table.{is_element, kind_same}
use Rattle.model_items.proofs.SameLemmas.{Means-head_same}
use Rattle.model_items.specs.Same.{head_same}
use Rattle.model_site_law.specs.ItemLaws.{AllPass}
use Rattle.model_items.specs.declared.plain_item.PlainItem.{PlainItem}
use Rattle.model_items.specs.declared.plain_item.PlainItem.TheVariants.{Char, Opening, Closing}
use Rattle.ve_base.specs.Limits.{max_items}
use Rattle.model_change.specs.Store.{brought, cited}
use Rattle.model_change.specs.Transaction.{Transaction, edited, old_length}
use Rattle.model_change.proofs.Fits.{Fits}
use Rattle.model_world.specs.declared.edit_command.OpWords.{OpWords}
use Rattle.model_world.specs.declared.edit_command.OpWords.TheVariants.{Retain, Remove}
use Rattle.model_world.specs.declared.edit_command.EditCommand.{EditCommand}
use Rattle.model_world.specs.declared.edit_command.EditCommand.TheVariants as change
use Rattle.model_world.specs.declared.refusal.Refusal.{Refusal}
use Rattle.model_world.specs.declared.refusal.Refusal.TheVariants.{BadLength}
use Rattle.model_world.specs.Completed.{all_completed, head_for, item_completed, op_completed, read_for}
use Rattle.model_world.specs.Edits.{change_of, needs, ops_on}
use Rattle.model_world.specs.Operations.{op_in, word_is_something, words_are_normal}
use Rattle.model_world.specs.ItemWords.{all_items_in}
use Rattle.model_world.specs.Shown.{items_shown, json_number}
use Rattle.model_world.specs.Values.{all_read, number_in, such_that}
use Rattle.model_world_law.specs.PutBack.{CanPutBack, IsPut, has_first, is_as_read, PutBackStays, retained_shown, without_head}
use Rattle.model_world_law.specs.ShownLaws.{plain_head}
use Rattle.model_page.proofs.OnLiterals.{page_on_literals}
use Rattle.model_world_law.proofs.ShownLemmas.{listed_back, passes}
use Rattle.model_world_law.proofs.PutBackLemmas.{exact_is_read, head_read}

-- ---- items completed

-- an element keeps its head, and of another leaf the page has it
found : (kind : Kind) (head : Head) (first : Kind × Head) → kind_same kind first.0 ≡ true → (is_element kind || head_same head first.1) ≡ true →
    head_for kind (head_read kind head) (Some first) ≡ Some head
found kind head first same own =
    ap (λ b. if b then Some (if is_element kind then head_read kind head else first.1) else None) same ∙ ap (λ (h : Head). Some h) (by (is_element kind) own)
  where
    by : (b : Bool) → (b || head_same head first.1) ≡ true → (if b then (if b then head else plain_head []) else first.1) ≡ head
    by true e = refl
    by false e = sym (Means-head_same.equal head first.1 e)

own_head : (kind : Kind) (head : Head) → (is_element kind || false) ≡ true → head_read kind head ≡ head
own_head kind head h = by (is_element kind) h
  where
    by : (b : Bool) → (b || false) ≡ true → (if b then head else plain_head []) ≡ head
    by true h = refl
    by false h = cc

one_back : (opened : List PlainItem) (item : PlainItem) → CanPutBack item → has_first opened item ≡ true → item_completed opened (without_head item) ≡ Ok item
one_back opened (Char c marks) p f = refl
one_back opened (Closing kind pre) p f = refl
one_back opened (Opening kind head marks pre None generated) p f =
    ap (λ (h : Head). Ok (Opening kind h marks pre None generated)) (own_head kind head (and_parts (not generated || kind_same kind P) (is_element kind || false) p.6).1)
one_back opened (Opening kind head marks pre (Some origin) generated) p f = by (read_for origin opened) f
  where
    by : (o : Option (Kind × Head)) → is_as_read kind head o ≡ true → (elim (head_for kind (head_read kind head) o) as (λ _. Result PlainItem ℕ) [
      | None ↦ Err origin
      | Some h ↦ Ok (Opening kind h marks pre (Some origin) generated)
    ]) ≡ Ok (Opening kind head marks pre (Some origin) generated)
    by None f = cc
    by (Some first) f =
        let q = and_parts (kind_same kind first.0) (is_element kind || head_same head first.1) f in
        ap (λ o. elim o as (λ _. Result PlainItem ℕ) [
          | None ↦ Err origin
          | Some h ↦ Ok (Opening kind h marks pre (Some origin) generated)
        ]) (found kind head first q.0 q.1)

all_back : (opened items : List PlainItem) → AllByRecursion CanPutBack items → AllPass (has_first opened) items →
    all_completed (item_completed opened) (map without_head items) ≡ Ok items
all_back opened [] p f = refl
all_back opened (x ∷ xs) p f =
    let last : PlainItem → Result (List PlainItem) ℕ → Result (List PlainItem) ℕ = λ done r. elim r as (λ _. Result (List PlainItem) ℕ) [
      | Err origin ↦ Err origin
      | Ok rest ↦ Ok (done ∷ rest)
    ] in
    ap (λ r. elim r as (λ _. Result (List PlainItem) ℕ) [
      | Err origin ↦ Err origin
      | Ok done ↦ last done (all_completed (item_completed opened) (map without_head xs))
    ]) (one_back opened x p.0 f.0)
    ∙ ap (last x) (all_back opened xs p.1 f.1)

-- ---- operations

abbrev retained : ℕ → List OpWords
retained zero = []
retained (suc n) = Retain (suc n) ∷ []

abbrev IsNumber : ℕ → Type 0
IsNumber n = nat_lt n 4294967296 ≡ true

number_back : (n : ℕ) → IsNumber n → number_in (json_number n) ≡ Some n
number_back n p = passes (λ k. nat_lt k 4294967296) n p

abbrev retain_shown : ℕ → Data
retain_shown n = object (put (codes "retain") (json_number n) no_members)

retain_back : (n : ℕ) → IsNumber n → op_in true (retain_shown n) ≡ Some (Retain n)
unfolding page_on_literals
retain_back n p = ap (option_map Retain) (number_back n p)

abbrev replaced_shown : ℕ → List PlainItem → Data
replaced_shown count range = object (put (codes "remove") (json_number count) (put (codes "insert") (items_shown range) no_members))

replaced_back : (count : ℕ) (range read : List PlainItem) → IsNumber count → all_items_in true (items_shown range) ≡ Some read →
    op_in true (replaced_shown count range) ≡ Some (Remove count read)
unfolding page_on_literals
replaced_back count range read p e =
    let last : ℕ → Option (List PlainItem) → Option OpWords = λ n o. option_and_then (λ items. Some (Remove n items)) o in
    ap (λ o. option_and_then (λ n. last n (all_items_in true (items_shown range))) o) (number_back count p) ∙ ap (last count) e

-- values that are read as these operations
abbrev Backs : List Data → List OpWords → Type 0
Backs values ops = all_read (op_in true) values ≡ Some ops

op_more : (json : Data) (values : List Data) (o : OpWords) (ops : List OpWords) → op_in true json ≡ Some o → Backs values ops → Backs (json ∷ values) (o ∷ ops)
op_more json values o ops h b =
    ap (λ x. option_and_then (λ y. option_map (λ ys. y ∷ ys) (all_read (op_in true) values)) x) h ∙ ap (option_map (λ ys. o ∷ ys)) b

retained_more : (n : ℕ) (values : List Data) (ops : List OpWords) → IsNumber n → Backs values ops → Backs (retained_shown n ++ values) (retained n ++ ops)
retained_more zero values ops p b = b
retained_more (suc n) values ops p b = op_more (retain_shown (suc n)) values (Retain (suc n)) ops (retain_back (suc n) p) b

retained_last : (n : ℕ) → IsNumber n → Backs (retained_shown n) (retained n)
retained_last zero p = refl
retained_last (suc n) p = op_more (retain_shown (suc n)) [] (Retain (suc n)) [] (retain_back (suc n) p) refl

-- ---- operations completed

retained_back : (opened : List PlainItem) (n : ℕ) (ops done : List OpWords) → all_completed (op_completed opened) ops ≡ Ok done →
    all_completed (op_completed opened) (retained n ++ ops) ≡ Ok (retained n ++ done)
retained_back opened zero ops done h = h
retained_back opened (suc n) ops done h = ap (λ r. elim r as (λ _. Result (List OpWords) ℕ) [
  | Err origin ↦ Err origin
  | Ok rest ↦ Ok (Retain (suc n) ∷ rest)
]) h

only_retained : (opened : List PlainItem) (n : ℕ) → all_completed (op_completed opened) (retained n) ≡ Ok (retained n)
only_retained opened zero = refl
only_retained opened (suc n) = refl

removed_back : (opened : List PlainItem) (count n : ℕ) (read items : List PlainItem) → all_completed (item_completed opened) read ≡ Ok items →
    all_completed (op_completed opened) (Remove count read ∷ retained n) ≡ Ok (Remove count items ∷ retained n)
removed_back opened count n read items h =
    let last : OpWords → Result (List OpWords) ℕ → Result (List OpWords) ℕ = λ done r. elim r as (λ _. Result (List OpWords) ℕ) [
      | Err origin ↦ Err origin
      | Ok rest ↦ Ok (done ∷ rest)
    ] in
    ap (λ r. elim (elim r as (λ _. Result OpWords ℕ) [
      | Err origin ↦ Err origin
      | Ok items ↦ Ok (Remove count items)
    ]) as (λ _. Result (List OpWords) ℕ) [
      | Err origin ↦ Err origin
      | Ok done ↦ last done (all_completed (op_completed opened) (retained n))
    ]) h
    ∙ ap (last (Remove count items)) (only_retained opened n)

-- ---- the list

needs_more : (n : ℕ) (ops : List OpWords) → needs (retained n ++ ops) ≡ n + needs ops
needs_more zero ops = omega arith
needs_more (suc n) ops = refl

needs_only : (n : ℕ) → needs (retained n) ≡ n
needs_only zero = refl
needs_only (suc n) = omega arith

edits_more : (n : ℕ) (ops : List OpWords) (items : List PlainItem) → edited (ops_on (retained n ++ ops) items) items ≡ take n items ++ edited (ops_on ops (drop n items)) (drop n items)
edits_more zero ops items = refl
edits_more (suc n) ops items = refl

edits_nothing : (n : ℕ) (items : List PlainItem) → edited (ops_on (retained n) items) items ≡ items
edits_nothing zero items = refl
edits_nothing (suc n) items = take-append-drop (suc n) items

past_taken : (n : ℕ) (items : List PlainItem) → drop (length (take n items)) items ≡ drop n items
past_taken zero items = refl
past_taken (suc n) [] = refl
past_taken (suc n) (item ∷ items) = past_taken n items

past_gone : (count n : ℕ) (range items : List PlainItem) → edited (ops_on (Remove count range ∷ retained n) items) items ≡ range ++ drop count items
past_gone count n range items =
    ap (λ xs. range ++ edited (ops_on (retained n) (drop count items)) xs) (past_taken count items)
    ∙ ap (λ xs. range ++ xs) (edits_nothing n (drop count items))

normal_from : (n count m : ℕ) (read : List PlainItem) → 0 < count + length read → words_are_normal (retained n ++ (Remove count read ∷ retained m)) ≡ true
normal_from n count m read some = by n m (lt-ltb 0 (count + length read) (omega (arith, some)))
  where
    more : (k : ℕ) → nat_lt 0 (suc k) ≡ true
    more k = lt-ltb 0 (suc k) (omega arith)

    by : (n m : ℕ) → word_is_something (Remove count read) ≡ true → words_are_normal (retained n ++ (Remove count read ∷ retained m)) ≡ true
    by zero zero h = ap (λ b. b && (true && true)) h
    by zero (suc m) h = λ i. h i && (true && (more m i && (true && true)))
    by (suc n) zero h = λ i. more n i && (true && (h i && (true && true)))
    by (suc n) (suc m) h = λ i. more n i && (true && (h i && (true && (more m i && (true && true)))))

-- ---- it applies, and brings no value but those of the range

fits_only : (n : ℕ) (items others : List PlainItem) → Fits (ops_on (retained n) items) others
fits_only zero items others = tt
fits_only (suc n) items others = tt

fits_gone : (count n : ℕ) (range items : List PlainItem) → Fits (ops_on (Remove count range ∷ retained n) items) items
fits_gone count n range items =
    (sym (take-append-drop count items) ∙ ap (λ xs. take count items ++ xs) (sym (past_taken count items)), fits_only n (drop count items) (drop (length (take count items)) items))

fits_more : (n : ℕ) (ops : List OpWords) (items : List PlainItem) → Fits (ops_on ops (drop n items)) (drop n items) → Fits (ops_on (retained n ++ ops) items) items
fits_more zero ops items f = f
fits_more (suc n) ops items f = f

length_only : (n : ℕ) (items : List PlainItem) → old_length (ops_on (retained n) items) ≡ n
length_only zero items = refl
length_only (suc n) items = omega arith

length_more : (n : ℕ) (ops : List OpWords) (items : List PlainItem) → old_length (ops_on (retained n ++ ops) items) ≡ n + old_length (ops_on ops (drop n items))
length_more zero ops items = omega arith
length_more (suc n) ops items = refl

brings_gone : (count n : ℕ) (range items : List PlainItem) → brought (ops_on (Remove count range ∷ retained n) items) items ≡ cited range
brings_gone count zero range items = append-nil (cited (range ++ [])) ∙ ap cited (append-nil range)
brings_gone count (suc n) range items = append-nil (cited (range ++ [])) ∙ ap cited (append-nil range)

brings_more : (n : ℕ) (ops : List OpWords) (items : List PlainItem) → brought (ops_on (retained n ++ ops) items) items ≡ brought (ops_on ops (drop n items)) (drop n items)
brings_more zero ops items = refl
brings_more (suc n) ops items = refl

-- the transaction besides
pub record Puts (opened items range : List PlainItem) (at count : ℕ) (result : List PlainItem) : Type 0 where
  pub put : IsPut opened items range at count result
  pub long : old_length put.t ≡ length items
  pub fits : Fits put.t items
  pub brings : brought put.t items ≡ cited range

length-without : (items : List PlainItem) → length (map without_head items) ≡ length items
length-without items = length-map items without_head

pub puts : (opened items range : List PlainItem) (at count : ℕ) → length items ≤ max_items → at + count ≤ length items → 0 < count + length range → AllByRecursion CanPutBack range →
    AllPass (has_first opened) range → Puts opened items range at count (take at items ++ (range ++ drop (at + count) items))
puts opened items range at count few within some can first =
    let read = map without_head range in
    let last = length items - (at + count) in
    let ops = retained at ++ (Remove count read ∷ retained last) in
    let done = retained at ++ (Remove count range ∷ retained last) in
    let number : (n : ℕ) → n ≤ length items → IsNumber n = λ n less. lt-ltb n 4294967296 (omega (arith, less, few)) in
    let whole : all_completed (op_completed opened) ops ≡ Ok done =
    retained_back opened at (Remove count read ∷ retained last) (Remove count range ∷ retained last) (removed_back opened count last read range (all_back opened range can first)) in
    let long : needs done ≡ length items = omega (arith, needs_more at (Remove count range ∷ retained last), needs_only last, within) in
    let values : List Data = retained_shown at ++ (replaced_shown count range ∷ retained_shown last) in
    let are : Backs values ops =
    retained_more at (replaced_shown count range ∷ retained_shown last) (Remove count read ∷ retained last) (number at (omega (arith, within)))
    (op_more (replaced_shown count range) (retained_shown last) (Remove count read) (retained last) (replaced_back count range read (number count (omega (arith, within))) (exact_is_read range can))
    (retained_last last (number last (omega arith)))) in
    let last_op = Remove count range ∷ retained last in
    let taken = length-take-le count (drop at items) (omega (arith, length-drop at items, within)) in
    let put : IsPut opened items range at count (take at items ++ (range ++ drop (at + count) items)) = record {
      ops = ops;
      reads = ap (λ xs. such_that words_are_normal (all_read (op_in true) xs)) (listed_back values) ∙ ap (such_that words_are_normal) are
          ∙ passes words_are_normal ops (normal_from at count last read (omega (arith, some, length-without range)));
      t = ops_on done items;
      gives = ap (λ r. change_of items (elim r as (λ _. EditCommand) [
        | Err origin ↦ change.NoOrigin origin
        | Ok ops ↦ change.Apply ops
      ])) whole
          ∙ ap (λ b. elim b as (λ _. Result Transaction Refusal) [
            | true ↦ Ok (ops_on done items)
            | false ↦ Err (BadLength (length items) (needs done))
          ]) (eq-eqb (needs done) (length items) long);
      list = edits_more at (Remove count range ∷ retained last) items
          ∙ ap (λ xs. take at items ++ xs) (past_gone count last range (drop at items) ∙ ap (λ xs. range ++ xs) (drop-drop count at items));
    } in
    record {
      put = put;
      long = length_more at last_op items ∙ omega (arith, taken, length_only last (drop count (drop at items)), within);
      fits = fits_more at last_op items (fits_gone count last range (drop at items));
      brings = brings_more at last_op items ∙ brings_gone count last range (drop at items);
    }

pub put_back_stays : PutBackStays
put_back_stays opened items range at count few within some can first = (puts opened items range at count few within some can first).put
