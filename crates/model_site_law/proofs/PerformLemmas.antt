-- Performing and taking back keep what a list cites in its store.
use Rattle.std.proofs.Common.{◌≡◌, ℕ, zero, suc, Bool, true, false, List, [], ◌∷◌, ◌++◌, length, take, drop, refl, sym, subst}
use Rattle.ve_base.specs.declared.value.Value.{Value}
use Rattle.model_items.specs.declared.plain_item.PlainItem.{PlainItem}
use Rattle.model_items.specs.declared.plain_item.PlainItem.TheVariants.{Char, Closing, Opening}
use Rattle.model_change.specs.Attributes.{AttrChange, item_changed}
use Rattle.model_change.specs.Fault.{Applies}
use Rattle.model_change.specs.Inverse.{inverse}
use Rattle.model_change.specs.Replay.{reversal}
use Rattle.model_change.specs.Store.{brought, changed_heads, cited, cited_by, head_cited, head_if, heads_from, marks_cited, white_cited}
use Rattle.model_change.specs.Transaction.{Attribute, Replace, Retain, Transaction, all_inserted, all_removed, edited, is_reduced, is_something, may_precede, on_first}
use Rattle.model_change.proofs.Fits.{Fits, parts_of_Applies}
use Rattle.model_change.proofs.InverseLemmas.{reduced_parts}
use Rattle.model_change.proofs.InverseNormal.{inverse_inserts}
use Rattle.model_site.specs.Replica.{Replica, all_performed, all_put_back, performed, put_back}
use Rattle.model_site_law.specs.Chain.{needed_values}
use Rattle.model_site_law.specs.Sound.{AllIn}
use Rattle.model_site_law.proofs.StoreLemmas.{Grown, fill_grows, fill_has, grown_itself, grown_twice, in_append, in_cited, in_cited_parts, in_grown, in_parts, in_take_drop, none_in}

-- of an item all but its head
abbrev without_head : PlainItem → List Value
without_head (Char c marks) = marks_cited marks
without_head (Opening kind head marks pre origin generated) = marks_cited marks ++ white_cited pre
without_head (Closing kind pre) = white_cited pre

-- the items, or all but the first one's head
abbrev HeldFrom : List Value → Bool → List PlainItem → Type 0
HeldFrom S false items = AllIn S (cited items)
HeldFrom S true [] = Unit {0}
HeldFrom S true (item ∷ items) = AllIn S (without_head item) × AllIn S (cited items)

with_head : (S : List Value) (changed : Bool) (items : List PlainItem) → HeldFrom S changed items → AllIn S (head_if changed items) → AllIn S (cited items)
with_head S false items p h = p
with_head S true [] p h = none_in S
with_head S true (Char c marks ∷ items) p h = in_append S (marks_cited marks) (cited items) p.0 p.1
with_head S true (Opening kind head marks pre origin generated ∷ items) p h =
    in_append S (head_cited head ++ (marks_cited marks ++ white_cited pre)) (cited items) (in_append S (head_cited head) (marks_cited marks ++ white_cited pre) h p.0) p.1
with_head S true (Closing kind pre ∷ items) p h = in_append S (white_cited pre) (cited items) p.0 p.1

first_kept : (S : List Value) (c : AttrChange) (item : PlainItem) → AllIn S (without_head item) → AllIn S (without_head (item_changed c item))
first_kept S c (Char ch marks) p = p
first_kept S c (Opening kind head marks pre origin generated) p = p
first_kept S c (Closing kind pre) p = p

of_first : (S : List Value) (item : PlainItem) → AllIn S (cited_by item) → AllIn S (without_head item)
of_first S (Char ch marks) p = p
of_first S (Opening kind head marks pre origin generated) p = (in_parts S (head_cited head) (marks_cited marks ++ white_cited pre) p).1
of_first S (Closing kind pre) p = p

changed_first : (S : List Value) (c : AttrChange) (changed : Bool) (items : List PlainItem) → HeldFrom S changed items → HeldFrom S true (on_first (item_changed c) items)
changed_first S c changed [] p = tt
changed_first S c false (item ∷ items) p =
    let q = in_parts S (cited_by item) (cited items) p in (first_kept S c item (of_first S item q.0), q.1)
changed_first S c true (item ∷ items) p = (first_kept S c item p.0, p.1)

-- the new list cites what the old one does, what is inserted, and the changed heads
edited_held : (S : List Value) (changed : Bool) (t : Transaction) (items : List PlainItem) → HeldFrom S changed items →
    AllIn S (cited (all_inserted t)) → AllIn S (heads_from changed t items) → AllIn S (cited (edited t items))
edited_held S changed [] items p q h = with_head S changed items p h
edited_held S changed (Retain count ∷ ops) items p q h =
    let hs = in_parts S (head_if changed items) (heads_from false ops (drop count items)) h in
    let parts = in_take_drop S count items (with_head S changed items p hs.0) in
    in_cited S (take count items) (edited ops (drop count items)) parts.0 (edited_held S false ops (drop count items) parts.1 q hs.1)
edited_held S changed (Replace gone new ∷ ops) items p q h =
    let hs = in_parts S (head_if changed items) (heads_from false ops (drop (length gone) items)) h in
    let parts = in_take_drop S (length gone) items (with_head S changed items p hs.0) in
    let given = in_cited_parts S new (all_inserted ops) q in
    in_cited S new (edited ops (drop (length gone) items)) given.0 (edited_held S false ops (drop (length gone) items) parts.1 given.1 hs.1)
edited_held S changed (Attribute change ∷ ops) items p q h = edited_held S true ops (on_first (item_changed change) items) (changed_first S change changed items p) q h

-- ---- performing

pub performed_grows : (t : Transaction) (s : Replica) → Grown s.store (performed t s).store
performed_grows t s = fill_grows s.store (brought t s.items)

pub performed_held : (t : Transaction) (s : Replica) → AllIn s.store (cited s.items) → AllIn (performed t s).store (cited (performed t s).items)
performed_held t s p =
    let next = (performed t s).store in
    let given = in_parts next (cited (all_inserted t)) (changed_heads t s.items) (fill_has s.store (brought t s.items)) in
    edited_held next false t s.items (in_grown s.store next (cited s.items) (performed_grows t s) p) given.0 given.1

pub all_performed_grows : (ts : List Transaction) (s : Replica) → Grown s.store (all_performed ts s).store
all_performed_grows [] s = grown_itself s.store
all_performed_grows (t ∷ ts) s = grown_twice s.store (performed t s).store (all_performed ts (performed t s)).store (performed_grows t s) (all_performed_grows ts (performed t s))

pub all_performed_held : (ts : List Transaction) (s : Replica) → AllIn s.store (cited s.items) → AllIn (all_performed ts s).store (cited (all_performed ts s).items)
all_performed_held [] s p = p
all_performed_held (t ∷ ts) s p = all_performed_held ts (performed t s) (performed_held t s p)

-- ---- taking back

all_put_back-append : (ts us : List Transaction) (s : Replica) → all_put_back (ts ++ us) s ≡ all_put_back us (all_put_back ts s)
all_put_back-append [] us s = refl
all_put_back-append (t ∷ ts) us s = all_put_back-append ts us (put_back t s)

-- the first transaction is taken back last
pub taken_back : (t : Transaction) (ts : List Transaction) (s : Replica) → all_put_back (reversal (t ∷ ts)) s ≡ put_back (inverse t) (all_put_back (reversal ts) s)
taken_back t ts s = all_put_back-append (reversal ts) (inverse t ∷ []) s

pub put_back_grows : (ts : List Transaction) (s : Replica) → Grown s.store (all_put_back ts s).store
put_back_grows [] s = grown_itself s.store
put_back_grows (t ∷ ts) s =
    let next = put_back t s in
    grown_twice s.store next.store (all_put_back ts next).store (fill_grows s.store (changed_heads t s.items)) (put_back_grows ts next)

-- where what the transactions removed is there, so is all of the list that taking them back gives
pub reversed_held : (ts : List Transaction) (s : Replica) → AllIn s.store (needed_values ts) → AllIn s.store (cited s.items) →
    AllIn (all_put_back (reversal ts) s).store (cited (all_put_back (reversal ts) s).items)
reversed_held [] s n p = p
reversed_held (t ∷ ts) s n p =
    let parts = in_parts s.store (cited (all_removed t)) (needed_values ts) n in
    let later = all_put_back (reversal ts) s in
    let next = (put_back (inverse t) later).store in
    let heads = changed_heads (inverse t) later.items in
    let up : Grown later.store next = fill_grows later.store heads in
    let whole = grown_twice s.store later.store next (put_back_grows (reversal ts) s) up in
    subst (λ (r : Replica). AllIn r.store (cited r.items)) (sym (taken_back t ts s))
    (edited_held next false (inverse t) later.items
    (in_grown later.store next (cited later.items) up (reversed_held ts s parts.1 p))
    (subst (λ r. AllIn next (cited r)) (sym (inverse_inserts t)) (in_grown s.store next (cited (all_removed t)) whole parts.0))
    (fill_has later.store heads))

-- ---- what is removed was cited

-- after an attribute operation a retain comes
Followed : Bool → Transaction → Type 0
Followed false t = Unit {0}
Followed true t = (c : AttrChange) × (may_precede (Attribute c) t ≡ true)

-- past the first item nothing has changed
rest_held : (S : List Value) (changed : Bool) (count : ℕ) (items : List PlainItem) → is_something (Retain count) ≡ true → HeldFrom S changed items → AllIn S (cited (drop count items))
rest_held S false count items n p = (in_take_drop S count items p).1
rest_held S true zero items n p = cc
rest_held S true (suc count) [] n p = none_in S
rest_held S true (suc count) (item ∷ items) n p = (in_take_drop S count items p.1).1

removed_held_from : (S : List Value) (changed : Bool) (t : Transaction) (items : List PlainItem) → is_reduced t ≡ true → Followed changed t → Fits t items → HeldFrom S changed items →
    AllIn S (cited (all_removed t))
unfolding Followed
removed_held_from S changed [] items n f fits p = none_in S
removed_held_from S changed (Retain count ∷ ops) items n f fits p =
    let parts = reduced_parts (Retain count) ops n in
    removed_held_from S false ops (drop count items) parts.2 tt fits (rest_held S changed count items parts.0 p)
removed_held_from S false (Replace gone new ∷ ops) items n f fits p =
    let parts = reduced_parts (Replace gone new) ops n in
    let two = in_cited_parts S gone (drop (length gone) items) (subst (λ l. AllIn S (cited l)) fits.0 p) in
    in_cited S gone (all_removed ops) two.0 (removed_held_from S false ops (drop (length gone) items) parts.2 tt fits.1 two.1)
removed_held_from S true (Replace gone new ∷ ops) items n f fits p = let e = f.1 in cc
removed_held_from S changed (Attribute change ∷ ops) items n f fits p =
    let parts = reduced_parts (Attribute change) ops n in
    removed_held_from S true ops (on_first (item_changed change) items) parts.2 (change, parts.1) fits.1 (changed_first S change changed items p)

pub removed_held : (S : List Value) (t : Transaction) (items : List PlainItem) → is_reduced t ≡ true → Applies t items → AllIn S (cited items) → AllIn S (cited (all_removed t))
unfolding Followed
removed_held S t items n applies p = removed_held_from S false t items n tt (parts_of_Applies t items applies).1 p
