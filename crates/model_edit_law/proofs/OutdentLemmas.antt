-- Moving a list item out keeps characters and leaves in order, and leaves a lawful list.
use Rattle.std.proofs.Common.{◌≡◌, inl, inr, ℕ, zero, suc, ◌+◌, Bool, true, false, cond, ◌==◌, if◌then◌else◌, List, [], ◌∷◌, ◌++◌, length, map, take, drop, Option, Some, Ok, Err, refl, sym, ap, ◌∙◌, subst, arith, length-append, append-nil, eqb-true}
use Rattle.std.specs.Prelude.{filter, slice_get}
use Rattle.std.proofs.lemmas.Bool.{and_parts, cases_Bool}
use Rattle.std.proofs.lemmas.List.{append_assoc}
use Rattle.ve_kinds.specs.declared.kind.Kind.{Kind}
use Rattle.ve_kinds.specs.declared.kind.Kind.TheVariants.{Li, InternalList}
use Rattle.ve_base.specs.declared.head.Head.{Head}
use Rattle.ve_base.specs.declared.marks.Mark.{Mark}
use Rattle.model_items.specs.declared.plain_item.PlainItem.{PlainItem}
use Rattle.model_items.specs.declared.plain_item.PlainItem.TheVariants.{Opening, Closing}
use Rattle.ve_kinds.specs.Table.{kind_same, may_hold, is_leaf}
use Rattle.model_items.proofs.SameLemmas.{Means-kind_same}
use Rattle.model_items.specs.declared.law_fault.LawFault.{LawFault}
use Rattle.model_items.specs.declared.law_fault.LawFault.TheVariants.{Unlawful}
use Rattle.model_items.specs.Law.{State, start, finish, top, state_opened, step, outcome_then, outcome_moved, after, Lawful}
use Rattle.model_items.proofs.LawLemmas.{Ok-same, joined-ok, after_whole, after_parts, after_from_Lawful, opened_before, piece_fits}
use Rattle.model_items.specs.Tree.{Open, length_to_close}
use Rattle.model_change.specs.Transaction.{Transaction, edited}
use Rattle.model_edit.specs.Brackets.{closing_of, copy_of}
use Rattle.model_items.specs.Offsets.{opens_at, partner}
use Rattle.model_edit.specs.Edits.{Edit, Change, InOrder, transaction_of}
use Rattle.model_edit_law.proofs.EditLemmas.{edited-two, filter-append}
use Rattle.model_edit_law.proofs.BracketLemmas.{state_of, fits, fits-after, fits_parts, opened_fits, kinds_after, slice_get-split, HoldsSame-itself, Ends, Ends-after, Opened, Opened-after, Closes, closes, NodeParts, node_parts}
use Rattle.model_edit_law.proofs.NodeLemmas.{whole_node, opened_state}
use Rattle.model_edit.specs.Causes.{ListCause}
use Rattle.model_edit.specs.Lists.{list_ends, end_before, begin_after, copy_at, is_list_item, outdent_from, outdent}
use Rattle.model_edit_law.specs.ListLaws.{OutdentIsFine, is_character_or_leaf, OutdentKeepsText, OutdentStaysLawful}
use Rattle.model_edit_law.specs.Fine.{Fine}
use Rattle.model_edit_law.proofs.OrderLemmas.{Fine-edits}
use Rattle.model_edit_law.proofs.ListLemmas.{last_item, if_ok_then, opening_shape}
use Rattle.model_edit_law.proofs.IndentLemmas.{holds_item}

abbrev only : List PlainItem → List PlainItem
only = filter is_character_or_leaf

close_step : (k : Kind) (pre : List ℕ) (outer : List Kind) (seen : Bool) (items : List PlainItem) (r : State) → after (state_of outer seen) items ≡ Ok r →
    after (state_of (k ∷ outer) seen) (Closing k pre ∷ items) ≡ Ok r
close_step k pre outer seen items r h =
    ap (λ b. outcome_then 1 (if b then Ok (state_of outer seen) else Err (Unlawful 0)) (λ next. after next items)) (Means-kind_same.itself k) ∙ ap (outcome_moved 1) h

module _ (items : List PlainItem) (at : ℕ) (lawful : Lawful items) (head : Head) (marks : List Mark) (pre : List ℕ) (origin : Option ℕ) (generated : Bool)
    (item : slice_get items at ≡ Some (Opening Li head marks pre origin generated)) (n : NodeParts items at Li)
    (list outer : Open) (others : List Open) (opens : opens_at items at ≡ list ∷ outer ∷ others) (nested : outer.kind ≡ Li) where
  abbrev x : PlainItem
  x = Opening Li head marks pre origin generated

  abbrev done : List PlainItem
  done = take at items

  abbrev inside : List PlainItem
  inside = n.closed.inside

  abbrev cx : PlainItem
  cx = Closing Li n.closed.pre

  abbrev rest : List PlainItem
  rest = n.closed.rest

  abbrev u : State
  u = n.before

  abbrev k : Kind
  k = list.kind

  abbrev g : List Kind
  g = map (λ (o : Open). o.kind) others

  whole : items ≡ done ++ (x ∷ (inside ++ (cx ∷ rest)))
  whole = (slice_get-split items at x item).0 ∙ ap (λ v. done ++ (x ∷ v)) n.closed.whole

  place : length done ≡ at
  place = (slice_get-split items at x item).1

  stacks : u.stack ≡ k ∷ Li ∷ g
  stacks =
      sym (kinds_after done 0 [] start u n.reached refl) ∙ ap (map (λ (o : Open). o.kind)) opens ∙ ap (λ v. k ∷ v ∷ g) nested

  same_state : u ≡ state_of (k ∷ Li ∷ g) u.seen
  same_state = λ i. state_of (stacks i) u.seen

  holds : may_hold k Li ≡ true
  holds = ap (λ st. may_hold (top st) Li) (sym stacks) ∙ (and_parts (may_hold (top u.stack) Li) _ (opened_state u n.allowed.0 Li refl n.allowed.1).0).0

  facts : (may_hold Li k ≡ true) × (kind_same k InternalList ≡ false) × (is_leaf k ≡ false)
  facts = holds_item k holds

  fitting : fits u.seen (k ∷ Li ∷ g) ≡ true
  fitting = subst (λ st. fits u.seen st ≡ true) stacks (fits-after done start u n.reached refl)

  item_kept : after u (x ∷ (inside ++ cx ∷ [])) ≡ Ok u
  item_kept =
      let o = opened_state u n.allowed.0 Li refl n.allowed.1 in
      whole_node u Li Li x n.closed.pre (drop (suc at) items) n.closed (HoldsSame-itself Li) (n.allowed.1 ∙ ap Ok o.2)

  -- what is put before the item
  record Prefix : Type 0 where
    pub kept : List PlainItem
    pub gone : List PlainItem
    pub new : List PlainItem
    pub state : State
    pub parts : done ≡ kept ++ gone
    pub edit : end_before at list ≡ Change (length kept) (length gone) new
    pub reached : after start kept ≡ Ok state
    pub old_way : after state gone ≡ Ok u
    pub new_way : after state new ≡ Ok (state_of g u.seen)
    pub no_text : (only gone ≡ []) × (only new ≡ [])

  -- and what at its closing, where nodes follow to which it leads as before
  record Back : Type 0 where
    pub gone : List PlainItem
    pub kept : List PlainItem
    pub new : List PlainItem
    pub state : State
    pub parts : cx ∷ rest ≡ gone ++ kept
    pub edit : begin_after items (partner items at) list ≡ Change (at + suc (length inside)) (length gone) new
    pub old_way : after (state_of (Li ∷ u.stack) u.seen) gone ≡ Ok state
    pub new_way : after (state_of (Li ∷ g) u.seen) new ≡ Ok state
    pub no_text : (only gone ≡ []) × (only new ≡ [])

  opened_nodes : Opened done (list ∷ outer ∷ others)
  opened_nodes = subst (Opened done) opens (Opened-after done [] [] tt)

  abbrev list_opening : PlainItem
  list_opening = let f = opened_nodes.0 in Opening k f.0 f.1 f.2 f.3 f.4

  list_there : (later : List PlainItem) → slice_get (done ++ later) list.from ≡ Some list_opening
  list_there later = opened_nodes.0.5 later

  fits_li : fits u.seen (Li ∷ g) ≡ true
  fits_li = (fits_parts k (Li ∷ g) u.seen facts.1 fitting).2

  silent_list : only (list_ends k) ≡ []
  silent_list = ap (λ b. cond b (closing_of k ∷ []) []) facts.2

  -- the item isn't the first of its list
  prefix_else : (suc list.from == at) ≡ false → Prefix
  prefix_else other = record {
    kept = done;
    gone = [];
    new = list_ends k;
    state = u;
    parts = sym (append-nil done);
    edit = ap (λ b. if b then Change list.from 1 (closing_of Li ∷ []) else Change at 0 (list_ends k)) other ∙ ap (λ v. Change v 0 (list_ends k)) (sym place);
    reached = n.reached;
    old_way = refl;
    new_way = ap (λ s. after s (list_ends k)) same_state
        ∙ close_step k [] (Li ∷ g) u.seen (closing_of Li ∷ []) (state_of g u.seen) (close_step Li [] g u.seen [] (state_of g u.seen) refl);
    no_text = (refl, silent_list);
  }

  -- it is: the list's opening stands just before it
  prefix_first : (suc list.from == at) ≡ true → Prefix
  prefix_first same =
      let e : suc list.from ≡ at = eqb-true (suc list.from) at same in
      let l = place in
      let o = list_opening in
      let there : slice_get done list.from ≡ Some o = ap (λ v. slice_get v list.from) (sym (append-nil done)) ∙ list_there [] in
      let split = slice_get-split done list.from o there in
      let parts_ : done ≡ take list.from done ++ o ∷ [] = last_item done list.from o (omega arith) there in
      let p = after_parts (take list.from done) (o ∷ []) start u (ap (after start) (sym parts_) ∙ n.reached) in
      let q = joined-ok 1 (step p.0 o) (λ next. Ok next) u p.2 in
      let b = opened_before p.0 q.0 k q.1 in
      let v = Ok-same {E = LawFault} q.0 u q.2 in
      let stack : (p.0).stack ≡ Li ∷ g = (let h : k ∷ (p.0).stack ≡ k ∷ Li ∷ g = b.0 ∙ ap (λ (w : State). w.stack) v ∙ stacks in cc) in
      let seen : (p.0).seen ≡ u.seen = b.1 ∙ ap (λ w. if w then false else (q.0).seen) facts.1 ∙ ap (λ (w : State). w.seen) v in
      record {
        kept = take list.from done;
        gone = o ∷ [];
        new = closing_of Li ∷ [];
        state = p.0;
        parts = parts_;
        edit = ap (λ b. if b then Change list.from 1 (closing_of Li ∷ []) else Change at 0 (list_ends k)) same ∙ ap (λ w. Change w 1 (closing_of Li ∷ [])) (sym split.1);
        reached = p.1;
        old_way = p.2;
        new_way = ap (λ s. after s (closing_of Li ∷ [])) (λ i. state_of (stack i) (seen i)) ∙ close_step Li [] g u.seen [] (state_of g u.seen) refl;
        no_text = (ap (λ b. cond b (o ∷ []) []) facts.2, refl);
      }

  prefix : Prefix
  prefix = elim (cases_Bool (suc list.from == at)) [ inl same ↦ prefix_first same | inr other ↦ prefix_else other ]

  closing_place : partner items at ≡ at + suc (length inside)
  closing_place = n.its_partner

  list_in_items : slice_get items list.from ≡ Some list_opening
  list_in_items = ap (λ v. slice_get v list.from) whole ∙ list_there (x ∷ (inside ++ (cx ∷ rest)))

  abbrev choice : ℕ → Bool → Edit
  choice closing b = if b then Change closing 2 [] else Change closing 1 (copy_at items list.from)

  after_edit : (b : Bool) → (partner items list.from == suc (partner items at)) ≡ b → begin_after items (partner items at) list ≡ choice (at + suc (length inside)) b
  after_edit b e = ap (choice (partner items at)) e ∙ ap (λ c. choice c b) closing_place

  copied : copy_at items list.from ≡ copy_of list_opening ∷ []
  copied = copy_found items list.from list_opening list_in_items
    where
      copy_found : (items : List PlainItem) (n : ℕ) (x : PlainItem) → slice_get items n ≡ Some x → copy_at items n ≡ copy_of x ∷ []
      copy_found [] n x h = cc
      copy_found (y ∷ items) zero x h = ap (λ v. copy_of v ∷ []) (let e : y ≡ x = cc in e)
      copy_found (y ∷ items) (suc n) x h = copy_found items n x h

  -- the item isn't the last of its list
  back_else : (partner items list.from == suc (partner items at)) ≡ false → Back
  back_else other = record {
    gone = cx ∷ [];
    kept = rest;
    new = copy_of list_opening ∷ [];
    state = u;
    parts = refl;
    edit = after_edit false other ∙ ap (λ v. Change (at + suc (length inside)) 1 v) copied;
    old_way = close_step Li n.closed.pre u.stack u.seen [] u refl;
    new_way = ap (λ r. outcome_then 1 r (λ next. Ok next)) (opened_fits k (Li ∷ g) u.seen facts.1 fitting) ∙ ap Ok (sym same_state);
    no_text = (refl, ap (λ b. cond b (copy_of list_opening ∷ []) []) facts.2);
  }

  -- what follows the item, in its list
  later : Closes [] (Li ∷ g) k rest
  later =
      let parts_ : items ≡ (done ++ (x ∷ (inside ++ cx ∷ []))) ++ rest =
      whole ∙ ap (λ v. done ++ (x ∷ v)) (sym (append_assoc inside (cx ∷ []) rest)) ∙ sym (append_assoc done (x ∷ (inside ++ cx ∷ [])) rest) in
      let p = after_parts (done ++ (x ∷ (inside ++ cx ∷ []))) rest start finish (ap (after start) (sym parts_) ∙ after_from_Lawful items lawful) in
      let same : p.0 ≡ u = Ok-same {E = LawFault} p.0 u (sym p.1 ∙ after_whole done (x ∷ (inside ++ cx ∷ [])) start u u n.reached item_kept) in
      closes rest [] (Li ∷ g) k p.0 (ap (λ (s : State). s.stack) same ∙ stacks) p.2

  -- the list's closing stands just after it
  back_last : (partner items list.from == suc (partner items at)) ≡ true → Back
  back_last same =
      let e : partner items list.from ≡ suc (partner items at) = eqb-true _ _ same in
      let all : Ends 0 done (list ∷ outer ∷ others) = subst (Ends 0 done) opens (Ends-after done [] [] tt) in
      let end : suc (partner items list.from) ≡ length done + suc (length_to_close 1 (inside ++ (cx ∷ rest))) =
      ap (λ v. suc (partner v list.from)) whole ∙ all.0 (x ∷ (inside ++ (cx ∷ rest))) in
      let step_ : length_to_close 1 (inside ++ (cx ∷ rest)) ≡ suc (length inside + length_to_close 0 rest) = n.closed.through 0 rest in
      let l = place in
      let c = closing_place in
      let first : length_to_close 0 rest ≡ suc (length later.inside) = ap (length_to_close 0) later.whole ∙ later.ends later.rest in
      let none : length later.inside ≡ 0 = omega arith in
      let ck = Closing k later.pre in
      let parts_ : rest ≡ ck ∷ later.rest = later.whole ∙ ap (λ v. v ++ ck ∷ later.rest) (empty later.inside none) in
      record {
        gone = cx ∷ ck ∷ [];
        kept = later.rest;
        new = [];
        state = state_of (Li ∷ g) u.seen;
        parts = ap (λ v. cx ∷ v) parts_;
        edit = after_edit true same;
        old_way = close_step Li n.closed.pre u.stack u.seen (ck ∷ []) (state_of (Li ∷ g) u.seen)
            (ap (λ s. after s (ck ∷ [])) same_state ∙ close_step k later.pre (Li ∷ g) u.seen [] (state_of (Li ∷ g) u.seen) refl);
        new_way = refl;
        no_text = (ap (λ b. cond b (ck ∷ []) []) facts.2, refl);
      }
    where
      empty : (ys : List PlainItem) → length ys ≡ 0 → ys ≡ []
      empty [] h = refl
      empty (y ∷ ys) h = cc

  back : Back
  back = elim (cases_Bool (partner items list.from == suc (partner items at))) [ inl same ↦ back_last same | inr other ↦ back_else other ]

  module _ (f : Prefix) (b : Back) where
    abbrev new_list : List PlainItem
    new_list = f.kept ++ (f.new ++ ((x ∷ inside) ++ (b.new ++ b.kept)))

    five : items ≡ f.kept ++ (f.gone ++ ((x ∷ inside) ++ (b.gone ++ b.kept)))
    five =
        whole ∙ ap (λ v. v ++ (x ∷ (inside ++ (cx ∷ rest)))) f.parts ∙ append_assoc f.kept f.gone (x ∷ (inside ++ (cx ∷ rest)))
        ∙ ap (λ v. f.kept ++ (f.gone ++ (x ∷ (inside ++ v)))) b.parts

    gives : (edited (transaction_of items (end_before at list ∷ begin_after items (partner items at) list ∷ [])) items ≡ new_list)
        × Fine items (transaction_of items (end_before at list ∷ begin_after items (partner items at) list ∷ []))
        × InOrder 0 (length items) (end_before at list ∷ begin_after items (partner items at) list ∷ [])
    gives =
        let l : at ≡ length f.kept + length f.gone = sym place ∙ ap length f.parts ∙ length-append f.kept f.gone in
        let two = edited-two f.kept f.gone (x ∷ inside) b.gone b.kept f.new b.new items (length f.kept) (length f.gone) (at + suc (length inside)) (length b.gone)
        five refl refl (omega arith) refl in
        let edits : end_before at list ∷ begin_after items (partner items at) list ∷ []
        ≡ Change (length f.kept) (length f.gone) f.new ∷ Change (at + suc (length inside)) (length b.gone) b.new ∷ [] =
        ap (λ v. v ∷ begin_after items (partner items at) list ∷ []) f.edit ∙ ap (λ v. Change (length f.kept) (length f.gone) f.new ∷ v ∷ []) b.edit in
        let plain = Change (length f.kept) (length f.gone) f.new ∷ Change (at + suc (length inside)) (length b.gone) b.new ∷ [] in (
          ap (λ v. edited (transaction_of items v) items) edits ∙ two.0,
          subst (λ v. Fine items (transaction_of items v)) (sym edits) (Fine-edits items plain two.1 tt),
          subst (InOrder 0 (length items)) (sym edits) two.1,
        )

    stays_lawful : Lawful new_list
    stays_lawful =
        let old = f.gone ++ ((x ∷ inside) ++ b.gone) in
        let new = f.new ++ ((x ∷ inside) ++ b.new) in
        let regroup : (prefix middle_ after_ : List PlainItem) → prefix ++ ((x ∷ inside) ++ (middle_ ++ after_)) ≡ (prefix ++ ((x ∷ inside) ++ middle_)) ++ after_ =
        λ prefix middle_ after_. ap (λ v. prefix ++ v) (sym (append_assoc (x ∷ inside) middle_ after_)) ∙ sym (append_assoc prefix ((x ∷ inside) ++ middle_) after_) in
        let o = opened_state u n.allowed.0 Li refl n.allowed.1 in
        let opens_old : state_opened u Li ≡ Ok (state_of (Li ∷ u.stack) u.seen) = n.allowed.1 ∙ ap Ok o.2 in
        let in_old : after u ((x ∷ inside) ++ b.gone) ≡ Ok b.state =
        ap (λ r. outcome_then 1 r (λ next. after next (inside ++ b.gone))) opens_old
        ∙ ap (outcome_moved 1)
        (after_whole inside b.gone (state_of (Li ∷ u.stack) u.seen) (state_of (Li ∷ u.stack) u.seen) b.state
        (n.closed.kept Li u.stack u.seen (HoldsSame-itself Li) (omega arith)) b.old_way) in
        let deeper : length u.stack ≡ suc (suc (length g)) = ap length stacks in
        let opens_new : state_opened (state_of g u.seen) Li ≡ Ok (state_of (Li ∷ g) u.seen) = opened_fits Li g u.seen refl fits_li in
        let in_new : after (state_of g u.seen) ((x ∷ inside) ++ b.new) ≡ Ok b.state =
        ap (λ r. outcome_then 1 r (λ next. after next (inside ++ b.new))) opens_new
        ∙ ap (outcome_moved 1)
        (after_whole inside b.new (state_of (Li ∷ g) u.seen) (state_of (Li ∷ g) u.seen) b.state
        (n.closed.kept Li g u.seen (HoldsSame-itself Li) (omega arith)) b.new_way) in
        let all_old : after f.state old ≡ Ok b.state = after_whole f.gone ((x ∷ inside) ++ b.gone) f.state u b.state f.old_way in_old in
        let all_new : after f.state new ≡ Ok b.state = after_whole f.new ((x ∷ inside) ++ b.new) f.state (state_of g u.seen) b.state f.new_way in_new in
        subst Lawful (sym (ap (λ v. f.kept ++ v) (regroup f.new b.new b.kept)))
        (piece_fits f.kept old b.kept new f.state b.state
        (subst Lawful (five ∙ ap (λ v. f.kept ++ v) (regroup f.gone b.gone b.kept)) lawful) f.reached all_old all_new)

    only_five : (prefix after_ : List PlainItem) → only prefix ≡ [] → only after_ ≡ [] →
        only (f.kept ++ (prefix ++ ((x ∷ inside) ++ (after_ ++ b.kept)))) ≡ only f.kept ++ (only (x ∷ inside) ++ only b.kept)
    only_five prefix after_ p q =
        filter-append is_character_or_leaf f.kept (prefix ++ ((x ∷ inside) ++ (after_ ++ b.kept)))
        ∙ ap (λ v. only f.kept ++ v)
        (filter-append is_character_or_leaf prefix ((x ∷ inside) ++ (after_ ++ b.kept))
        ∙ ap (λ v. v ++ only ((x ∷ inside) ++ (after_ ++ b.kept))) p
        ∙ filter-append is_character_or_leaf (x ∷ inside) (after_ ++ b.kept)
        ∙ ap (λ v. only (x ∷ inside) ++ v) (filter-append is_character_or_leaf after_ b.kept ∙ ap (λ v. v ++ only b.kept) q))

    keeps_text : only new_list ≡ only items
    keeps_text = only_five f.new b.new f.no_text.1 b.no_text.1 ∙ sym (only_five f.gone b.gone f.no_text.0 b.no_text.0) ∙ ap only (sym five)

-- what an outdent that was not refused tells of the open nodes
record Nested (items : List PlainItem) (at : ℕ) (nodes : List Open) (t : Transaction) : Type 0 where
  pub list : Open
  pub outer : Open
  pub others : List Open
  pub opens : nodes ≡ list ∷ outer ∷ others
  pub nested : outer.kind ≡ Li
  pub made : transaction_of items (end_before at list ∷ begin_after items (partner items at) list ∷ []) ≡ t

nested_in : (items : List PlainItem) (at : ℕ) (nodes : List Open) (t : Transaction) → outdent_from items at nodes ≡ Ok t → Nested items at nodes t
nested_in items at [] t h = cc
nested_in items at (list ∷ []) t h = cc
nested_in items at (list ∷ outer ∷ others) t h =
    let p = if_ok_then (kind_same outer.kind Li) _ _ t h in
    record { list = list; outer = outer; others = others; opens = refl; nested = Means-kind_same.equal outer.kind Li p.0; made = Ok-same {E = ListCause} _ t p.1 }

-- what an outdent of a lawful list gives
record Outdents (items : List PlainItem) (at : ℕ) (t : Transaction) : Type 0 where
  pub nested : Nested items at (opens_at items at) t
  pub order : InOrder 0 (length items) (end_before at nested.list ∷ begin_after items (partner items at) nested.list ∷ [])
  pub fine : Fine items t
  pub lawful : Lawful (edited t items)
  pub text : filter is_character_or_leaf (edited t items) ≡ filter is_character_or_leaf items

outdents : (items : List PlainItem) (at : ℕ) (t : Transaction) → Lawful items → outdent items at ≡ Ok t → Outdents items at t
outdents items at t lawful h =
    let p = if_ok_then (is_list_item items at) _ _ t h in
    let o = opening_shape Li (slice_get items at) p.0 in
    let m = nested_in items at (opens_at items at) t p.1 in
    let n = node_parts items at Li o.0 o.1 o.2 o.3 o.4 lawful o.5 in
    let f = prefix items at lawful o.0 o.1 o.2 o.3 o.4 o.5 n m.list m.outer m.others m.opens m.nested in
    let b = back items at lawful o.0 o.1 o.2 o.3 o.4 o.5 n m.list m.outer m.others m.opens m.nested in
    let g = gives items at lawful o.0 o.1 o.2 o.3 o.4 o.5 n m.list m.outer m.others m.opens m.nested f b in
    let e = ap (λ v. edited v items) (sym m.made) ∙ g.0 in
    record {
      nested = m;
      order = g.2;
      fine = subst (Fine items) m.made g.1;
      lawful = subst Lawful (sym e) (stays_lawful items at lawful o.0 o.1 o.2 o.3 o.4 o.5 n m.list m.outer m.others m.opens m.nested f b);
      text = ap (filter is_character_or_leaf) e ∙ keeps_text items at lawful o.0 o.1 o.2 o.3 o.4 o.5 n m.list m.outer m.others m.opens m.nested f b;
    }

pub outdent_keeps_text : OutdentKeepsText
outdent_keeps_text items at t lawful h = (outdents items at t lawful h).text

pub outdent_stays_lawful : OutdentStaysLawful
outdent_stays_lawful items at t lawful h = (outdents items at t lawful h).lawful

pub outdent_fine : OutdentIsFine
outdent_fine items at t lawful h = (outdents items at t lawful h).fine

-- its edits stand in order, at the open nodes
pub outdent_order : (items : List PlainItem) (at : ℕ) (list : Open) (outer : List Open) (t : Transaction) → Lawful items → opens_at items at ≡ list ∷ outer → outdent items at ≡ Ok t →
    InOrder 0 (length items) (end_before at list ∷ begin_after items (partner items at) list ∷ [])
    × (transaction_of items (end_before at list ∷ begin_after items (partner items at) list ∷ []) ≡ t)
outdent_order items at list outer t lawful opens h =
    let r = outdents items at t lawful h in
    let m = r.nested in
    let both : list ∷ outer ≡ m.list ∷ m.outer ∷ m.others = sym opens ∙ m.opens in
    let same : m.list ≡ list = cc in
    subst (λ v. InOrder 0 (length items) (end_before at v ∷ begin_after items (partner items at) v ∷ [])
    × (transaction_of items (end_before at v ∷ begin_after items (partner items at) v ∷ []) ≡ t)) same (r.order, m.made)
