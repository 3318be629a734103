-- A list item moved in and out again gives the list back.
use Rattle.std.proofs.Common.{◌≡◌, ℕ, zero, suc, ◌+◌, ◌-◌, ◌<◌, Bool, true, false, ◌==◌, if◌then◌else◌, List, [], ◌∷◌, ◌++◌, length, map, take, drop, Option, Some, None, Result, Ok, Err, refl, sym, ap, ◌∙◌, subst, arith, zero-add, inl, inr, length-append, eq-eqb, eqb-true}
use Rattle.std.specs.Prelude.{slice_get}
use Rattle.std.proofs.lemmas.Bool.{cases_Bool}
use Rattle.std.proofs.lemmas.List.{append_assoc}
use Rattle.ve_kinds.specs.declared.kind.Kind.{Kind}
use Rattle.ve_kinds.specs.declared.kind.Kind.TheVariants.{Li}
use Rattle.ve_base.specs.declared.head.Head.{Head}
use Rattle.ve_base.specs.declared.marks.Mark.{Mark}
use Rattle.model_items.specs.declared.plain_item.PlainItem.{PlainItem}
use Rattle.model_items.specs.declared.plain_item.PlainItem.TheVariants.{Char, Opening, Closing}
use Rattle.ve_kinds.specs.Table.{kind_same}
use Rattle.model_items.proofs.SameLemmas.{Means-kind_same}
use Rattle.model_items.specs.declared.law_fault.LawFault.{LawFault}
use Rattle.model_items.specs.Law.{State, start, finish, top, step, after, Lawful}
use Rattle.model_items.proofs.LawLemmas.{Ok-same, joined-ok, after_parts, after_from_Lawful, opened_before, closed_before}
use Rattle.model_items.specs.Tree.{Open, opens_after, length_to_close}
use Rattle.model_change.specs.Transaction.{Transaction, edited}
use Rattle.model_edit.specs.Brackets.{opening_of, closing_of, is_opening_of, is_closing_of}
use Rattle.model_items.specs.Offsets.{kind_at, stack_at, opens_at, partner, end_of_node, first_from, passes}
use Rattle.model_edit.specs.Edits.{Change, transaction_of}
use Rattle.model_edit_law.proofs.EditLemmas.{edited-two}
use Rattle.model_edit_law.proofs.BracketLemmas.{slice_get-at, slice_get-split, partner-opening, Ends, Ends-after, kinds_after, stack_at-after, Closes, closes}
use Rattle.model_edit.specs.Causes.{ListCause, NotListItem, NotNested, NoSibling}
use Rattle.model_edit.specs.Lists.{is_list_item, passes_before, list_ends, indent_edits, indent, end_before, begin_after, outdent_from, outdent}
use Rattle.model_edit_law.specs.ListLaws.{joins_list, indented_place, Plain, GivesBack, IndentIsUndone}

pub if_ok_then : {A E : Type 0} (b : Bool) (e : E) (r : Result A E) (t : A) → (if b then r else Err e) ≡ Ok t → (b ≡ true) × (r ≡ Ok t)
if_ok_then true e r t h = (refl, h)
if_ok_then false e r t h = cc

-- an item that opens a node of the kind
pub opening_shape : (k : Kind) (o : Option PlainItem) → passes (is_opening_of k) o ≡ true →
    (head : Head) × (marks : List Mark) × (pre : List ℕ) × (origin : Option ℕ) × (generated : Bool) × (o ≡ Some (Opening k head marks pre origin generated))
opening_shape k None h = cc
opening_shape k (Some (Char c marks)) h = cc
opening_shape k (Some (Closing kind pre)) h = cc
opening_shape k (Some (Opening kind head marks pre origin generated)) h =
    (head, marks, pre, origin, generated, ap (λ v. Some (Opening v head marks pre origin generated)) (Means-kind_same.equal kind k h))

pub closing_shape : (k : Kind) (o : Option PlainItem) → passes (is_closing_of k) o ≡ true → (pre : List ℕ) × (o ≡ Some (Closing k pre))
closing_shape k None h = cc
closing_shape k (Some (Char c marks)) h = cc
closing_shape k (Some (Opening kind head marks pre origin generated)) h = cc
closing_shape k (Some (Closing kind pre)) h = (pre, ap (λ v. Some (Closing v pre)) (Means-kind_same.equal kind k h))

snoc : (items : List PlainItem) (x : PlainItem) → length (items ++ x ∷ []) ≡ suc (length items)
snoc items x = omega (arith, length-append items (x ∷ []))

opens_at-whole : (items rest : List PlainItem) (n : ℕ) → n ≡ length items → opens_at (items ++ rest) n ≡ opens_after [] 0 items
opens_at-whole items rest n e = ap (opens_after [] 0) (ap (λ k. take k (items ++ rest)) e ∙ whole items)
  where
    whole : (xs : List PlainItem) → take (length xs) (xs ++ rest) ≡ xs
    whole [] = refl
    whole (x ∷ xs) = ap (λ v. x ∷ v) (whole xs)

-- the two innermost open nodes, by their kinds
two_nodes : (nodes : List Open) (k l : Kind) (outer : List Kind) → map (λ (n : Open). n.kind) nodes ≡ k ∷ l ∷ outer →
    (a : Open) × (b : Open) × (others : List Open) × (nodes ≡ a ∷ b ∷ others) × (a.kind ≡ k) × (b.kind ≡ l)
two_nodes [] k l outer e = cc
two_nodes (a ∷ []) k l outer e = cc
two_nodes (a ∷ b ∷ others) k l outer e = (a, b, others, refl, cc, cc)

module _ (head : Head) (marks : List Mark) (pre : List ℕ) (origin : Option ℕ) (generated : Bool) (inside : List PlainItem)
    (ends : (other : List PlainItem) → length_to_close 0 (inside ++ Closing Li [] ∷ other) ≡ suc (length inside))
    (through : (depth : ℕ) (other : List PlainItem) → length_to_close (suc depth) (inside ++ Closing Li [] ∷ other) ≡ suc (length inside + length_to_close depth other)) where
  -- the item without its closing
  abbrev body : List PlainItem
  body = Opening Li head marks pre origin generated ∷ inside

  -- An item that is last in an inner list, which is last in an item: the first parts of `outdent`.
  module _ (done rest : List PlainItem) (list : Open) (outer : Open) (others : List Open) (opens : opens_after [] 0 done ≡ list ∷ outer ∷ others) (nested : outer.kind ≡ Li) where
    abbrev tail : List PlainItem
    tail = Closing Li [] ∷ Closing list.kind [] ∷ Closing Li [] ∷ rest

    abbrev inner_list : List PlainItem
    inner_list = done ++ (body ++ tail)

    its_closing : partner inner_list (length done) ≡ length done + suc (length inside)
    its_closing = partner-opening done Li head marks pre origin generated (inside ++ tail) ∙ ap (λ v. length done + v) (ends (Closing list.kind [] ∷ Closing Li [] ∷ rest))

    list_closing : partner inner_list list.from ≡ suc (length done + suc (length inside))
    list_closing =
        let all : Ends 0 done (list ∷ outer ∷ others) = subst (Ends 0 done) opens (Ends-after done [] [] tt) in
        let e : suc (partner inner_list list.from) ≡ length done + length_to_close 0 (body ++ tail) = all.0 (body ++ tail) in
        let f : length_to_close 1 (inside ++ tail) ≡ suc (length inside + 1) = through 0 (Closing list.kind [] ∷ Closing Li [] ∷ rest) in
        let g : length done + length_to_close 0 (body ++ tail) ≡ length done + suc (suc (length inside + 1)) = ap (λ v. length done + suc v) f in
        omega arith

    open_there : opens_at inner_list (length done) ≡ list ∷ outer ∷ others
    open_there = opens_at-whole done (body ++ tail) (length done) refl ∙ opens

    list_begins : begin_after inner_list (partner inner_list (length done)) list ≡ Change (length done + suc (length inside)) 2 []
    list_begins =
        ap (λ n. begin_after inner_list n list) its_closing
        ∙ ap (λ b. if b then Change (length done + suc (length inside)) 2 [] else Change (length done + suc (length inside)) 1 (Rattle.model_edit.specs.Lists.copy_at inner_list list.from))
        (eq-eqb _ _ list_closing)

    outdented : outdent inner_list (length done)
        ≡ Ok (transaction_of inner_list (end_before (length done) list ∷ Change (length done + suc (length inside)) 2 [] ∷ []))
    outdented =
        ap (λ x. if passes (is_opening_of Li) x then outdent_from inner_list (length done) (opens_at inner_list (length done)) else Err (NotListItem (length done)))
        (slice_get-at done (Opening Li head marks pre origin generated) (inside ++ tail))
        ∙ ap (outdent_from inner_list (length done)) open_there
        ∙ ap (λ k. if kind_same k Li then Ok (transaction_of inner_list (end_before (length done) list ∷ begin_after inner_list (partner inner_list (length done)) list ∷ [])) else Err (NotNested (length done))) nested
        ∙ ap (λ e. Ok (transaction_of inner_list (end_before (length done) list ∷ e ∷ []))) list_begins

  regroup : (x : PlainItem) (others : List PlainItem) → (body ++ x ∷ []) ++ others ≡ body ++ x ∷ others
  regroup x others = append_assoc body (x ∷ []) others

  -- the item joins the list that ends the sibling before it
  module _ (done rest : List PlainItem) (list : Open) (outer : Open) (others : List Open) (opens : opens_after [] 0 done ≡ list ∷ outer ∷ others) (nested : outer.kind ≡ Li) where
    abbrev old_joined : List PlainItem
    old_joined = done ++ (Closing list.kind [] ∷ Closing Li [] ∷ (body ++ (Closing Li [] ∷ rest)))

    joined_closing : (at : ℕ) → at ≡ suc (suc (length done)) → partner old_joined at ≡ at + suc (length inside)
    joined_closing at e =
        let prefix = done ++ (Closing list.kind [] ∷ Closing Li [] ∷ []) in
        let n : length prefix ≡ at = omega (arith, length-append done (Closing list.kind [] ∷ Closing Li [] ∷ [])) in
        let whole : old_joined ≡ prefix ++ (body ++ (Closing Li [] ∷ rest)) = sym (append_assoc done (Closing list.kind [] ∷ Closing Li [] ∷ []) (body ++ (Closing Li [] ∷ rest))) in
        ap (λ v. partner v at) whole
        ∙ ap (partner (prefix ++ (body ++ (Closing Li [] ∷ rest)))) (sym n)
        ∙ partner-opening prefix Li head marks pre origin generated (inside ++ (Closing Li [] ∷ rest))
        ∙ ap (λ v. length prefix + v) (ends rest)
        ∙ ap (λ v. v + suc (length inside)) n

    joined : (at : ℕ) → at ≡ suc (suc (length done)) → joins_list old_joined at ≡ true → kind_at old_joined at ≡ list.kind →
        edited (transaction_of old_joined (indent_edits old_joined at (kind_at old_joined at))) old_joined ≡ inner_list done rest list outer others opens nested
    joined at e joins k =
        let second = Change (end_of_node old_joined at) 0 (list_ends list.kind) in
        let edits : indent_edits old_joined at (kind_at old_joined at) ≡ Change (at - 2) 2 [] ∷ second ∷ [] =
        ap (λ b. (if b then Change (at - 2) 2 [] else Change (at - 1) 1 (opening_of (kind_at old_joined at) [] ∷ [])) ∷ Change (end_of_node old_joined at) 0 (list_ends (kind_at old_joined at)) ∷ []) joins
        ∙ ap (λ v. Change (at - 2) 2 [] ∷ Change (end_of_node old_joined at) 0 (list_ends v) ∷ []) k in
        let p = joined_closing at e in
        let two = edited-two done (Closing list.kind [] ∷ Closing Li [] ∷ []) (body ++ Closing Li [] ∷ []) [] rest [] (list_ends list.kind)
        old_joined (at - 2) 2 (end_of_node old_joined at) 0
        (ap (λ v. done ++ (Closing list.kind [] ∷ Closing Li [] ∷ v)) (sym (regroup (Closing Li []) rest)))
        (omega arith) refl (omega (arith, length-append body (Closing Li [] ∷ []))) refl in
        ap (λ v. edited (transaction_of old_joined v) old_joined) edits
        ∙ two.0
        ∙ ap (λ v. done ++ v) (regroup (Closing Li []) (Closing list.kind [] ∷ Closing Li [] ∷ rest))

    undone_joined : (at : ℕ) → at ≡ suc (suc (length done)) → joins_list old_joined at ≡ true → kind_at old_joined at ≡ list.kind → (suc list.from ≡ length done → ⊥) →
        GivesBack old_joined (edited (transaction_of old_joined (indent_edits old_joined at (kind_at old_joined at))) old_joined) (indented_place old_joined at)
    undone_joined at e joins k apart =
        let new = inner_list done rest list outer others opens nested in
        let place : indented_place old_joined at ≡ length done = ap (λ b. if b then at - 2 else at) joins ∙ omega arith in
        let other : (suc list.from == length done) ≡ false = different (suc list.from) (length done) apart in
        let first : end_before (length done) list ≡ Change (length done) 0 (list_ends list.kind) =
        ap (λ b. if b then Change list.from 1 (closing_of Li ∷ []) else Change (length done) 0 (list_ends list.kind)) other in
        let back = transaction_of new (end_before (length done) list ∷ Change (length done + suc (length inside)) 2 [] ∷ []) in
        let two = edited-two done [] body (Closing Li [] ∷ Closing list.kind [] ∷ []) (Closing Li [] ∷ rest) (list_ends list.kind) []
        new (length done) 0 (length done + suc (length inside)) 2 refl refl refl (omega arith) refl in
        let same : edited back new ≡ old_joined = ap (λ v. edited (transaction_of new (v ∷ Change (length done + suc (length inside)) 2 [] ∷ [])) new) first ∙ two.0 in
        let all : GivesBack old_joined new (length done) = record { back = back; outdented = outdented done rest list outer others opens nested; same = same } in
        subst (λ v. GivesBack old_joined v (indented_place old_joined at)) (sym (joined at e joins k)) (subst (GivesBack old_joined new) (sym place) all)
      where
        different : (m n : ℕ) → (m ≡ n → ⊥) → (m == n) ≡ false
        different m n h = elim (cases_Bool (m == n)) [ inl same ↦ absurd (h (eqb-true m n same)) | inr other ↦ other ]

  -- a new list is made at the end of the sibling before it
  module _ (prefix rest : List PlainItem) (k : Kind) (outer : Open) (others : List Open) (opens : opens_after [] 0 prefix ≡ outer ∷ others) (nested : outer.kind ≡ Li) where
    abbrev old_alone : List PlainItem
    old_alone = prefix ++ (Closing Li [] ∷ (body ++ (Closing Li [] ∷ rest)))

    abbrev list_made : Open
    list_made = record { kind = k; from = length prefix }

    abbrev with_list : List PlainItem
    with_list = prefix ++ opening_of k [] ∷ []

    opens_made : opens_after [] 0 with_list ≡ list_made ∷ outer ∷ others
    opens_made = snoc_opens prefix [] 0 ∙ (λ i. record { kind = k; from = zero-add (length prefix) i } ∷ opens i)
      where
        snoc_opens : (xs : List PlainItem) (nodes : List Open) (n : ℕ) →
            opens_after nodes n (xs ++ opening_of k [] ∷ []) ≡ record { kind = k; from = n + length xs } ∷ opens_after nodes n xs
        snoc_opens [] nodes n = ap (λ v. record { kind = k; from = v } ∷ nodes) (omega arith)
        snoc_opens (x ∷ xs) nodes n = snoc_opens xs (Rattle.model_items.specs.Tree.opens_with x n nodes) (suc n) ∙ ap (λ v. record { kind = k; from = v } ∷ opens_after (Rattle.model_items.specs.Tree.opens_with x n nodes) (suc n) xs) (omega arith)

    made_length : length with_list ≡ suc (length prefix)
    made_length = snoc prefix (opening_of k [])

    alone_closing : (at : ℕ) → at ≡ suc (length prefix) → partner old_alone at ≡ at + suc (length inside)
    alone_closing at e =
        let start = prefix ++ (Closing Li [] ∷ []) in
        let n : length start ≡ at = omega (arith, length-append prefix (Closing Li [] ∷ [])) in
        let whole : old_alone ≡ start ++ (body ++ (Closing Li [] ∷ rest)) = sym (append_assoc prefix (Closing Li [] ∷ []) (body ++ (Closing Li [] ∷ rest))) in
        ap (λ v. partner v at) whole
        ∙ ap (partner (start ++ (body ++ (Closing Li [] ∷ rest)))) (sym n)
        ∙ partner-opening start Li head marks pre origin generated (inside ++ (Closing Li [] ∷ rest))
        ∙ ap (λ v. length start + v) (ends rest)
        ∙ ap (λ v. v + suc (length inside)) n

    alone : (at : ℕ) → at ≡ suc (length prefix) → joins_list old_alone at ≡ false → kind_at old_alone at ≡ k →
        edited (transaction_of old_alone (indent_edits old_alone at (kind_at old_alone at))) old_alone ≡ inner_list with_list rest list_made outer others opens_made nested
    alone at e joins same_kind =
        let second = Change (end_of_node old_alone at) 0 (list_ends k) in
        let edits : indent_edits old_alone at (kind_at old_alone at) ≡ Change (at - 1) 1 (opening_of k [] ∷ []) ∷ second ∷ [] =
        ap (λ b. (if b then Change (at - 2) 2 [] else Change (at - 1) 1 (opening_of (kind_at old_alone at) [] ∷ [])) ∷ Change (end_of_node old_alone at) 0 (list_ends (kind_at old_alone at)) ∷ []) joins
        ∙ ap (λ v. Change (at - 1) 1 (opening_of v [] ∷ []) ∷ Change (end_of_node old_alone at) 0 (list_ends v) ∷ []) same_kind in
        let p = alone_closing at e in
        let two = edited-two prefix (Closing Li [] ∷ []) (body ++ Closing Li [] ∷ []) [] rest (opening_of k [] ∷ []) (list_ends k)
        old_alone (at - 1) 1 (end_of_node old_alone at) 0
        (ap (λ v. prefix ++ (Closing Li [] ∷ v)) (sym (regroup (Closing Li []) rest)))
        (omega arith) refl (omega (arith, length-append body (Closing Li [] ∷ []))) refl in
        ap (λ v. edited (transaction_of old_alone v) old_alone) edits
        ∙ two.0
        ∙ ap (λ v. prefix ++ (opening_of k [] ∷ v)) (regroup (Closing Li []) (Closing k [] ∷ Closing Li [] ∷ rest))
        ∙ sym (append_assoc prefix (opening_of k [] ∷ []) _)

    undone_alone : (at : ℕ) → at ≡ suc (length prefix) → joins_list old_alone at ≡ false → kind_at old_alone at ≡ k →
        GivesBack old_alone (edited (transaction_of old_alone (indent_edits old_alone at (kind_at old_alone at))) old_alone) (indented_place old_alone at)
    undone_alone at e joins same_kind =
        let new = inner_list with_list rest list_made outer others opens_made nested in
        let place : indented_place old_alone at ≡ length with_list = ap (λ b. if b then at - 2 else at) joins ∙ e ∙ sym made_length in
        let first : end_before (length with_list) list_made ≡ Change (length prefix) 1 (closing_of Li ∷ []) =
        ap (λ b. if b then Change (length prefix) 1 (closing_of Li ∷ []) else Change (length with_list) 0 (list_ends k)) (eq-eqb _ _ (sym made_length)) in
        let back = transaction_of new (end_before (length with_list) list_made ∷ Change (length with_list + suc (length inside)) 2 [] ∷ []) in
        let n = made_length in
        let two = edited-two prefix (opening_of k [] ∷ []) body (Closing Li [] ∷ Closing k [] ∷ []) (Closing Li [] ∷ rest) (closing_of Li ∷ []) []
        new (length prefix) 1 (length with_list + suc (length inside)) 2 (append_assoc prefix (opening_of k [] ∷ []) _) refl refl (omega arith) refl in
        let same : edited back new ≡ old_alone = ap (λ v. edited (transaction_of new (v ∷ Change (length with_list + suc (length inside)) 2 [] ∷ [])) new) first ∙ two.0 in
        let all : GivesBack old_alone new (length with_list) = record { back = back; outdented = outdented with_list rest list_made outer others opens_made nested; same = same } in
        subst (λ v. GivesBack old_alone v (indented_place old_alone at)) (sym (alone at e joins same_kind)) (subst (GivesBack old_alone new) (sym place) all)

-- the innermost open node, by its kind
one_node : (nodes : List Open) (k : Kind) (outer : List Kind) → map (λ (n : Open). n.kind) nodes ≡ k ∷ outer →
    (a : Open) × (others : List Open) × (nodes ≡ a ∷ others) × (a.kind ≡ k)
one_node [] k outer e = cc
one_node (a ∷ others) k outer e = (a, others, refl, cc)

Some-same : {A : Type 0} (x y : A) → ◌≡◌ {A = Option A} (Some x) (Some y) → x ≡ y
Some-same x y h = cc

-- the parts of the list round the item
record Round (items : List PlainItem) (a : ℕ) : Type 0 where
  pub prefix : List PlainItem
  pub head : Head
  pub marks : List Mark
  pub pre : List ℕ
  pub origin : Option ℕ
  pub generated : Bool
  pub suffix : List PlainItem
  pub whole : items ≡ prefix ++ (Closing Li [] ∷ Opening Li head marks pre origin generated ∷ suffix)
  pub place : length prefix ≡ a

round : (items : List PlainItem) (a : ℕ) → slice_get items a ≡ Some (closing_of Li) → is_list_item items (suc a) ≡ true → Round items a
round items a before item =
    let s = slice_get-split items a (closing_of Li) before in
    let x = opening_shape Li (slice_get items (suc a)) item in
    let next : slice_get (drop (suc a) items) 0 ≡ Some (Opening Li x.0 x.1 x.2 x.3 x.4) = slice_get-drop (suc a) items ∙ x.5 in
    let rest = first_item (drop (suc a) items) (Opening Li x.0 x.1 x.2 x.3 x.4) next in
    record {
      prefix = take a items;
      head = x.0;
      marks = x.1;
      pre = x.2;
      origin = x.3;
      generated = x.4;
      suffix = rest.0;
      whole = s.0 ∙ ap (λ v. take a items ++ (Closing Li [] ∷ v)) rest.1;
      place = s.1;
    }
  where
    slice_get-drop : (n : ℕ) (xs : List PlainItem) → slice_get (drop n xs) 0 ≡ slice_get xs n
    slice_get-drop zero [] = refl
    slice_get-drop zero (x ∷ xs) = refl
    slice_get-drop (suc n) [] = refl
    slice_get-drop (suc n) (x ∷ xs) = slice_get-drop n xs

    first_item : (xs : List PlainItem) (x : PlainItem) → slice_get xs 0 ≡ Some x → (ys : List PlainItem) × (xs ≡ x ∷ ys)
    first_item [] x h = cc
    first_item (y ∷ ys) x h = (ys, ap (λ v. v ∷ ys) (Some-same y x h))

-- what the law tells of the parts
record Parts (prefix : List PlainItem) (suffix : List PlainItem) : Type 0 where
  pub state : State
  pub outer_state : State
  pub reached : after start prefix ≡ Ok outer_state
  pub in_item : outer_state.stack ≡ Li ∷ state.stack
  pub closed : Closes [] state.stack Li suffix

parts : (prefix suffix : List PlainItem) (head : Head) (marks : List Mark) (pre : List ℕ) (origin : Option ℕ) (generated : Bool) →
    Lawful (prefix ++ (Closing Li [] ∷ Opening Li head marks pre origin generated ∷ suffix)) → Parts prefix suffix
parts prefix suffix head marks pre origin generated lawful =
    let x = Opening Li head marks pre origin generated in
    let p = after_parts prefix (Closing Li [] ∷ x ∷ suffix) start finish (after_from_Lawful (prefix ++ (Closing Li [] ∷ x ∷ suffix)) lawful) in
    let q = joined-ok 1 (step p.0 (Closing Li [])) (λ next. after next (x ∷ suffix)) finish p.2 in
    let r = joined-ok 1 (step q.0 x) (λ next. after next suffix) finish q.2 in
    let c = closed_before (p.0).stack (p.0).seen Li q.0 q.1 in
    let o = opened_before q.0 r.0 Li r.1 in
    record { state = q.0; outer_state = p.0; reached = p.1; in_item = c.0; closed = closes suffix [] (q.0).stack Li r.0 (sym o.0) r.2 }

-- the state just before the item
before_item : (prefix suffix : List PlainItem) (p : Parts prefix suffix) → after start (prefix ++ Closing Li [] ∷ []) ≡ Ok (record { stack = p.state.stack; seen = p.outer_state.seen })
before_item prefix suffix p =
    let s = p.outer_state in
    let stacks = p.in_item in
    let one : after s (Closing Li [] ∷ []) ≡ Ok (record { stack = p.state.stack; seen = s.seen }) =
    ap (λ st. after (record { stack = st; seen = s.seen }) (Closing Li [] ∷ [])) stacks in
    Rattle.model_items.proofs.LawLemmas.after_whole prefix (Closing Li [] ∷ []) start s _ p.reached one

slice_get-prefix : (xs ys : List PlainItem) (n : ℕ) → n < length xs → slice_get (xs ++ ys) n ≡ slice_get xs n
slice_get-prefix [] ys n h = absurd (omega arith)
slice_get-prefix (x ∷ xs) ys zero h = refl
slice_get-prefix (x ∷ xs) ys (suc n) h = slice_get-prefix xs ys n (omega arith)

-- a list whose last item is known
pub last_item : (xs : List PlainItem) (n : ℕ) (x : PlainItem) → length xs ≡ suc n → slice_get xs n ≡ Some x → xs ≡ take n xs ++ x ∷ []
last_item xs n x e h =
    let s = slice_get-split xs n x h in
    let l : length xs ≡ length (take n xs) + suc (length (drop (suc n) xs)) = ap length s.0 ∙ length-append (take n xs) (x ∷ drop (suc n) xs) in
    let f = s.1 in
    let none : length (drop (suc n) xs) ≡ 0 = omega arith in
    s.0 ∙ ap (λ v. take n xs ++ x ∷ v) (empty (drop (suc n) xs) none)
  where
    empty : (ys : List PlainItem) → length ys ≡ 0 → ys ≡ []
    empty [] h = refl
    empty (y ∷ ys) h = cc

GivesBack-along : (items items' : List PlainItem) (at at' : ℕ) → items' ≡ items → at' ≡ at →
    GivesBack items' (edited (transaction_of items' (indent_edits items' at' (kind_at items' at'))) items') (indented_place items' at') →
    GivesBack items (edited (transaction_of items (indent_edits items at (kind_at items at))) items) (indented_place items at)
GivesBack-along items items' at at' e f g =
    let P : List PlainItem → ℕ → Type 0 = λ v n. GivesBack v (edited (transaction_of v (indent_edits v n (kind_at v n))) v) (indented_place v n) in
    subst (λ n. P items n) f (subst (λ v. P v at') e g)

module _ (items : List PlainItem) (a : ℕ) (r : Round items a) (p : Parts r.prefix r.suffix) (plain : Plain items (suc a)) where
  abbrev x : PlainItem
  x = Opening Li r.head r.marks r.pre r.origin r.generated

  abbrev start_part : List PlainItem
  start_part = r.prefix ++ Closing Li [] ∷ []

  ahead : items ≡ start_part ++ (x ∷ r.suffix)
  ahead = r.whole ∙ sym (append_assoc r.prefix (Closing Li [] ∷ []) (x ∷ r.suffix))

  ahead_length : length start_part ≡ suc a
  ahead_length = snoc r.prefix (Closing Li []) ∙ ap suc r.place

  kind_there : kind_at items (suc a) ≡ top p.state.stack
  kind_there =
      let e : take (suc a) items ≡ start_part = ap (λ n. take n items) (sym ahead_length) ∙ ap (take (length start_part)) ahead ∙ take_whole start_part (x ∷ r.suffix) in
      let h : after start (take (suc a) items) ≡ Ok (record { stack = p.state.stack; seen = p.outer_state.seen }) = ap (after start) e ∙ before_item r.prefix r.suffix p in
      ap top (stack_at-after items (suc a) (record { stack = p.state.stack; seen = p.outer_state.seen }) h)
    where
      take_whole : (xs ys : List PlainItem) → take (length xs) (xs ++ ys) ≡ xs
      take_whole [] ys = refl
      take_whole (y ∷ xs) ys = ap (λ v. y ∷ v) (take_whole xs ys)

  item_end : partner items (suc a) ≡ suc a + suc (length p.closed.inside)
  item_end =
      ap (λ v. partner v (suc a)) ahead
      ∙ ap (partner (start_part ++ (x ∷ r.suffix))) (sym ahead_length)
      ∙ partner-opening start_part Li r.head r.marks r.pre r.origin r.generated r.suffix
      ∙ ap (λ n. n + length_to_close 0 r.suffix) ahead_length
      ∙ ap (λ v. suc a + length_to_close 0 v) p.closed.whole
      ∙ ap (λ n. suc a + n) (p.closed.ends p.closed.rest)

  no_white : p.closed.pre ≡ []
  no_white =
      let c = Closing Li p.closed.pre in
      let part = start_part ++ (x ∷ p.closed.inside) in
      let n : length part ≡ suc a + suc (length p.closed.inside) = length-append start_part (x ∷ p.closed.inside) ∙ ap (λ k. k + suc (length p.closed.inside)) ahead_length in
      let whole : items ≡ part ++ c ∷ p.closed.rest =
      ahead ∙ ap (λ v. start_part ++ (x ∷ v)) p.closed.whole ∙ sym (append_assoc start_part (x ∷ p.closed.inside) (c ∷ p.closed.rest)) in
      let there : slice_get items (partner items (suc a)) ≡ Some c =
      ap (slice_get items) (item_end ∙ sym n) ∙ ap (λ v. slice_get v (length part)) whole ∙ slice_get-at part c p.closed.rest in
      let e : c ≡ closing_of Li = Some-same _ _ (sym there ∙ plain.its_own) in
      cc

  abbrev inside : List PlainItem
  inside = p.closed.inside

  abbrev rest : List PlainItem
  rest = p.closed.rest

  ends' : (other : List PlainItem) → length_to_close 0 (inside ++ Closing Li [] ∷ other) ≡ suc (length inside)
  ends' other = subst (λ w. length_to_close 0 (inside ++ Closing Li w ∷ other) ≡ suc (length inside)) no_white (p.closed.ends other)

  through' : (depth : ℕ) (other : List PlainItem) → length_to_close (suc depth) (inside ++ Closing Li [] ∷ other) ≡ suc (length inside + length_to_close depth other)
  through' depth other = subst (λ w. length_to_close (suc depth) (inside ++ Closing Li w ∷ other) ≡ suc (length inside + length_to_close depth other)) no_white (p.closed.through depth other)

  whole_list : items ≡ r.prefix ++ (Closing Li [] ∷ (x ∷ (inside ++ (Closing Li [] ∷ rest))))
  whole_list = r.whole ∙ ap (λ v. r.prefix ++ (Closing Li [] ∷ (x ∷ v))) (p.closed.whole ∙ ap (λ w. inside ++ (Closing Li w ∷ rest)) no_white)

  abbrev Goal : Type 0
  Goal = GivesBack items (edited (transaction_of items (indent_edits items (suc a) (kind_at items (suc a)))) items) (indented_place items (suc a))

  by_itself : joins_list items (suc a) ≡ false → Goal
  by_itself joins =
      let nodes = one_node (opens_after [] 0 r.prefix) Li p.state.stack (kinds_after r.prefix 0 [] start p.outer_state p.reached refl ∙ p.in_item) in
      let old = r.prefix ++ (Closing Li [] ∷ (x ∷ (inside ++ (Closing Li [] ∷ rest)))) in
      let joins' : joins_list old (suc a) ≡ false = subst (λ v. joins_list v (suc a) ≡ false) whole_list joins in
      let kind' : kind_at old (suc a) ≡ kind_at items (suc a) = ap (λ v. kind_at v (suc a)) (sym whole_list) in
      GivesBack-along items old (suc a) (suc a) (sym whole_list) refl
      (undone_alone r.head r.marks r.pre r.origin r.generated inside ends' through' r.prefix rest (kind_at items (suc a)) nodes.0 nodes.1 nodes.2 nodes.3
      (suc a) (ap suc (sym r.place)) joins' kind')

  into_list : joins_list items (suc a) ≡ true → Goal
  into_list joins =
      let k = kind_at items (suc a) in
      let b = a - 1 in
      let back_one : suc a - 1 ≡ a = omega arith in
      let back_two : suc a - 2 ≡ a - 1 = omega arith in
      let there : slice_get items (a - 1) ≡ Some (closing_of k) = ap (slice_get items) (sym back_two) ∙ plain.list joins in
      let positive : 0 < a = some a (subst (λ n. passes_before (is_closing_of k) items n ≡ true) back_one joins) in
      let place = r.place in
      let inner : slice_get r.prefix (a - 1) ≡ Some (closing_of k) =
      sym (slice_get-prefix r.prefix (Closing Li [] ∷ x ∷ r.suffix) (a - 1) (omega arith)) ∙ ap (λ v. slice_get v (a - 1)) (sym r.whole) ∙ there in
      let done = take (a - 1) r.prefix in
      let prefix : r.prefix ≡ done ++ closing_of k ∷ [] = last_item r.prefix (a - 1) (closing_of k) (omega arith) inner in
      let n : length done ≡ a - 1 = (slice_get-split r.prefix (a - 1) (closing_of k) inner).1 in
      let q = after_parts done (closing_of k ∷ []) start p.outer_state (ap (after start) (sym prefix) ∙ p.reached) in
      let c = joined-ok 1 (step q.0 (closing_of k)) (λ next. Ok next) p.outer_state q.2 in
      let d = closed_before (q.0).stack (q.0).seen k c.0 c.1 in
      let stacks : (q.0).stack ≡ k ∷ Li ∷ p.state.stack =
      d.0 ∙ ap (λ v. k ∷ v) (ap (λ (v : State). v.stack) (Ok-same {E = LawFault} c.0 p.outer_state c.2) ∙ p.in_item) in
      let nodes = two_nodes (opens_after [] 0 done) k Li p.state.stack (kinds_after done 0 [] start q.0 q.1 refl ∙ stacks) in
      let list = nodes.0 in
      let old = done ++ (Closing list.kind [] ∷ Closing Li [] ∷ (x ∷ (inside ++ (Closing Li [] ∷ rest)))) in
      let same : items ≡ old =
      whole_list
      ∙ ap (λ v. v ++ (Closing Li [] ∷ (x ∷ (inside ++ (Closing Li [] ∷ rest))))) prefix
      ∙ append_assoc done (closing_of k ∷ []) _
      ∙ ap (λ v. done ++ (Closing v [] ∷ Closing Li [] ∷ (x ∷ (inside ++ (Closing Li [] ∷ rest))))) (sym nodes.4) in
      let joins' : joins_list old (suc a) ≡ true = subst (λ v. joins_list v (suc a) ≡ true) same joins in
      let kind' : kind_at old (suc a) ≡ list.kind = ap (λ v. kind_at v (suc a)) (sym same) ∙ sym nodes.4 in
      let opened_at : partner items (a - 1) ≡ list.from =
      ap (λ v. Rattle.model_items.specs.Offsets.partner_of v items (a - 1)) there
      ∙ ap (λ v. first_from (opens_at v (a - 1))) same
      ∙ ap first_from (opens_at-whole done _ (a - 1) (sym n) ∙ nodes.3) in
      let apart : suc list.from ≡ length done → ⊥ =
      λ e. plain.not_empty joins (ap (λ v. suc (partner items v)) back_two ∙ ap suc opened_at ∙ e ∙ n ∙ sym back_two) in
      GivesBack-along items old (suc a) (suc a) (sym same) refl
      (undone_joined r.head r.marks r.pre r.origin r.generated inside ends' through' done rest list nodes.1 nodes.2 nodes.3 nodes.5
      (suc a) (omega arith) joins' kind' apart)
    where
      some : (n : ℕ) → passes_before (is_closing_of (kind_at items (suc a))) items n ≡ true → 0 < n
      some zero h = cc
      some (suc n) h = omega arith

  undone : Goal
  undone = elim (cases_Bool (joins_list items (suc a))) [ inl joins ↦ into_list joins | inr alone ↦ by_itself alone ]

-- An item moved in and out again: the list is as it was.
pub indent_is_undone : IndentIsUndone
indent_is_undone items zero t lawful h plain =
    let a = if_ok_then (is_list_item items 0) _ _ t h in
    let b : ◌≡◌ {A = Result Transaction ListCause} (Err (NoSibling 0)) (Ok t) = a.1 in cc
indent_is_undone items (suc a) t lawful h plain =
    let p = if_ok_then (is_list_item items (suc a)) _ _ t h in
    let q = if_ok_then (passes_before (is_closing_of Li) items (suc a)) _ _ t p.1 in
    let at_before : slice_get items a ≡ Some (closing_of Li) = ap (slice_get items) (omega arith) ∙ plain.before in
    let r = round items a at_before p.0 in
    let parts_ = parts r.prefix r.suffix r.head r.marks r.pre r.origin r.generated (subst Lawful r.whole lawful) in
    let same : transaction_of items (indent_edits items (suc a) (kind_at items (suc a))) ≡ t = Ok-same {E = ListCause} _ t q.1 in
    subst (λ v. GivesBack items (edited v items) (indented_place items (suc a))) same (undone items a r parts_ plain)
