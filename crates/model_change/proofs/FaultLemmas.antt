-- The cause that is given is the first, in words of positions in the old list.
use Rattle.std.specs.Option.{option_or}
use Rattle.std.specs.Prelude.{option_map}
use Rattle.std.proofs.Common.{◌≡◌, ℕ, zero, suc, ◌+◌, Bool, true, false, not, ◌==◌, if◌then◌else◌, eqb-true, eq-eqb, List, [], ◌∷◌, ◌++◌, length, drop, All, slice_get, Option, Some, None, refl, sym, ap, ◌∙◌, subst, append_assoc}
use Rattle.std.proofs.lemmas.Bool.{and_parts, not-true}
use Rattle.std.proofs.lemmas.List.{drop-drop}
use Rattle.std.proofs.lemmas.List.Elements.{All-nil, All-cons, All-head, All-tail, All-append}
use Rattle.model_items.specs.declared.plain_item.PlainItem.{PlainItem}
use Rattle.model_items.specs.Same.{text_same, item_same}
use Rattle.model_items.proofs.SameLemmas.{Means-item_same}
use Rattle.model_change.specs.declared.tx_fault.TxFault.{TxFault}
use Rattle.model_change.specs.declared.tx_fault.TxFault.TheVariants.{BadLength, Mismatch, BadAttr, Memory}
use Rattle.model_change.specs.Attributes.{AttrChange, item_changed, allows}
use Rattle.model_change.specs.Transaction.{Retain, Replace, Attribute, Transaction, old_length, on_first, may_precede, is_reduced}
use Rattle.model_change.specs.Fault.{differs_at, mismatch_at, first_allows, bad_attribute_at, fault, placed_removed, removals, placed_changes, StandsAt, MayChange, FirstAt, IsFault, FaultIsFirst, FaultIsOnly}
use Rattle.model_change.proofs.InverseLemmas.{reduced_parts}
use Rattle.model_change.proofs.AttributeJoin.{allows-other}

-- all hold, or the first that fails has this position
abbrev Outcome : {A : Type 0} → (ℕ × A → Type 0) → List (ℕ × A) → Option ℕ → Type 0
Outcome Holds placed None = All Holds placed
Outcome Holds placed (Some at) = FirstAt Holds placed at

module _ {A : Type 0} (Holds : ℕ × A → Type 0) where
  outcome-append : (xs ys : List (ℕ × A)) (o p : Option ℕ) → Outcome Holds xs o → Outcome Holds ys p → Outcome Holds (xs ++ ys) (option_or o p)
  outcome-append xs ys None None h k = All-append Holds xs ys h k
  outcome-append xs ys None (Some at) h k = record {
    prefix = xs ++ k.prefix;
    one = k.one;
    suffix = k.suffix;
    parts = ap (λ l. xs ++ l) k.parts ∙ sym (append_assoc xs k.prefix ((at, k.one) ∷ k.suffix));
    fine = All-append Holds xs k.prefix h k.fine;
    fails = k.fails;
  }
  outcome-append xs ys (Some at) p h k = record {
    prefix = h.prefix;
    one = h.one;
    suffix = h.suffix ++ ys;
    parts = ap (λ l. l ++ ys) h.parts ∙ append_assoc h.prefix ((at, h.one) ∷ h.suffix) ys;
    fine = h.fine;
    fails = h.fails;
  }

  outcome-cons : (x : ℕ × A) (xs : List (ℕ × A)) (o : Option ℕ) → Holds x → Outcome Holds xs o → Outcome Holds (x ∷ xs) o
  outcome-cons x xs o h k = outcome-append (x ∷ []) xs None o (All-cons Holds x [] h (All-nil Holds)) k

  outcome-first : (at : ℕ) (a : A) (xs : List (ℕ × A)) → ¬ Holds (at, a) → Outcome Holds ((at, a) ∷ xs) (Some at)
  outcome-first at a xs h = record { prefix = []; one = a; suffix = xs; parts = refl; fine = All-nil Holds; fails = h }

  -- one that fails is there
  not_all : (prefix : List (ℕ × A)) (x : ℕ × A) (suffix : List (ℕ × A)) → All Holds (prefix ++ (x ∷ suffix)) → Holds x
  not_all [] x suffix h = All-head Holds x suffix h
  not_all (y ∷ prefix) x suffix h = not_all prefix x suffix (All-tail Holds y (prefix ++ (x ∷ suffix)) h)

  all_or_first : (xs : List (ℕ × A)) (at : ℕ) → All Holds xs → FirstAt Holds xs at → ⊥
  all_or_first xs at h k = k.fails (not_all k.prefix (at, k.one) k.suffix (subst (All Holds) k.parts h))

  one_first : (xs ys : List (ℕ × A)) (p q : ℕ × A) (more others : List (ℕ × A)) → xs ++ (p ∷ more) ≡ ys ++ (q ∷ others) → All Holds xs → All Holds ys → ¬ Holds p → ¬ Holds q → p ≡ q
  one_first [] [] p q more others e h k f g = cc
  one_first [] (y ∷ ys) p q more others e h k f g = let same : p ≡ y = cc in absurd (f (subst Holds (sym same) (All-head Holds y ys k)))
  one_first (x ∷ xs) [] p q more others e h k f g = let same : x ≡ q = cc in absurd (g (subst Holds same (All-head Holds x xs h)))
  one_first (x ∷ xs) (y ∷ ys) p q more others e h k f g =
      let rest : xs ++ (p ∷ more) ≡ ys ++ (q ∷ others) = cc in
      one_first xs ys p q more others rest (All-tail Holds x xs h) (All-tail Holds y ys k) f g

  first_is_one : (xs : List (ℕ × A)) (at there : ℕ) → FirstAt Holds xs at → FirstAt Holds xs there → at ≡ there
  first_is_one xs at there h k =
      ap (λ (p : ℕ × A). p.0) (one_first h.prefix k.prefix (at, h.one) (there, k.one) h.suffix k.suffix (sym h.parts ∙ k.parts) h.fine k.fine h.fails k.fails)

-- the list from a position on

drop_item : (L : List PlainItem) (at : ℕ) (item : PlainItem) (items : List PlainItem) → drop at L ≡ item ∷ items → slice_get L at ≡ Some item
drop_item [] zero item items h = cc
drop_item [] (suc at) item items h = cc
drop_item (x ∷ L) zero item items h = let e : x ≡ item = cc in ap Some e
drop_item (x ∷ L) (suc at) item items h = drop_item L at item items h

drop_end : (L : List PlainItem) (at : ℕ) → drop at L ≡ [] → slice_get L at ≡ None
drop_end [] at h = refl
drop_end (x ∷ L) zero h = cc
drop_end (x ∷ L) (suc at) h = drop_end L at h

drop_next : (L : List PlainItem) (at : ℕ) (item : PlainItem) (items : List PlainItem) → drop at L ≡ item ∷ items → drop (suc at) L ≡ items
drop_next [] zero item items h = cc
drop_next [] (suc at) item items h = cc
drop_next (x ∷ L) zero item items h = cc
drop_next (x ∷ L) (suc at) item items h = drop_next L at item items h

drop_more : (L : List PlainItem) (at n : ℕ) (items : List PlainItem) → drop at L ≡ items → drop (at + n) L ≡ drop n items
drop_more L at n items h = sym (drop-drop n at L) ∙ ap (drop n) h

drop-on_first : (n : ℕ) (f : PlainItem → PlainItem) (items : List PlainItem) → drop (suc n) (on_first f items) ≡ drop (suc n) items
drop-on_first n f [] = refl
drop-on_first n f (item ∷ items) = refl

-- an attribute operation changes nothing of what is said of the operations after it

mismatch-on_first : (c : AttrChange) (ops : Transaction) (at : ℕ) (f : PlainItem → PlainItem) (items : List PlainItem) →
    is_reduced ops ≡ true → may_precede (Attribute c) ops ≡ true → mismatch_at at ops (on_first f items) ≡ mismatch_at at ops items
mismatch-on_first c [] at f items h k = refl
mismatch-on_first c (Retain zero ∷ ops) at f items h k = absurd (let e = (reduced_parts (Retain zero) ops h).0 in cc)
mismatch-on_first c (Retain (suc n) ∷ ops) at f items h k = ap (mismatch_at (at + suc n) ops) (drop-on_first n f items)
mismatch-on_first c (Replace removed inserted ∷ ops) at f items h k = cc
mismatch-on_first c (Attribute d ∷ ops) at f items h k =
    let p = reduced_parts (Attribute d) ops h in
    mismatch-on_first d ops at (item_changed d) (on_first f items) p.2 p.1
    ∙ mismatch-on_first d ops at f items p.2 p.1
    ∙ sym (mismatch-on_first d ops at (item_changed d) items p.2 p.1)

first_allows-other : (c d : AttrChange) (items : List PlainItem) → text_same c.name d.name ≡ false → first_allows d (on_first (item_changed c) items) ≡ first_allows d items
first_allows-other c d [] h = refl
first_allows-other c d (item ∷ items) h = allows-other c d item h

bad_attribute-on_first : (c : AttrChange) (ops : Transaction) (at : ℕ) (items : List PlainItem) →
    is_reduced ops ≡ true → may_precede (Attribute c) ops ≡ true → bad_attribute_at at ops (on_first (item_changed c) items) ≡ bad_attribute_at at ops items
bad_attribute-on_first c [] at items h k = refl
bad_attribute-on_first c (Retain zero ∷ ops) at items h k = absurd (let e = (reduced_parts (Retain zero) ops h).0 in cc)
bad_attribute-on_first c (Retain (suc n) ∷ ops) at items h k = ap (bad_attribute_at (at + suc n) ops) (drop-on_first n (item_changed c) items)
bad_attribute-on_first c (Replace removed inserted ∷ ops) at items h k = cc
bad_attribute-on_first c (Attribute d ∷ ops) at items h k =
    let p = reduced_parts (Attribute d) ops h in
    let q = and_parts (not (text_same c.name d.name)) (may_precede (Attribute c) ops) k in
    let allowed = first_allows-other c d items (not-true (text_same c.name d.name) q.0) in
    let rest = bad_attribute-on_first d ops at (on_first (item_changed c) items) p.2 p.1
    ∙ bad_attribute-on_first c ops at items p.2 q.1
    ∙ sym (bad_attribute-on_first d ops at items p.2 p.1) in
    λ i. if allowed i then rest i else Some at

module _ (L : List PlainItem) where
  differs_outcome : (removed : List PlainItem) (at : ℕ) (items : List PlainItem) → drop at L ≡ items → Outcome (StandsAt L) (placed_removed at removed) (differs_at at removed items)
  differs_outcome [] at items e = All-nil (StandsAt L)
  differs_outcome (one ∷ removed) at [] e =
      outcome-first (StandsAt L) at one (placed_removed (suc at) removed) (λ stands. let none = drop_end L at e in cc)
  differs_outcome (one ∷ removed) at (item ∷ items) e = by_test (item_same one item) refl
      (differs_outcome removed (suc at) items (drop_next L at item items e))
    where
      by_test : (b : Bool) → item_same one item ≡ b → Outcome (StandsAt L) (placed_removed (suc at) removed) (differs_at (suc at) removed items) →
          Outcome (StandsAt L) ((at, one) ∷ placed_removed (suc at) removed) (if b then differs_at (suc at) removed items else Some at)
      by_test true same rest =
          outcome-cons (StandsAt L) (at, one) (placed_removed (suc at) removed) (differs_at (suc at) removed items)
          (drop_item L at item items e ∙ ap Some (sym (Means-item_same.equal one item same))) rest
      by_test false other rest =
          outcome-first (StandsAt L) at one (placed_removed (suc at) removed) (λ stands.
          let there = drop_item L at item items e in
          let same : one ≡ item = cc in
          let itself : item_same one item ≡ true = subst (λ x. item_same one x ≡ true) same (Means-item_same.itself one) in
          cc)

  mismatch_outcome : (ops : Transaction) (at : ℕ) (items : List PlainItem) → is_reduced ops ≡ true → drop at L ≡ items →
      Outcome (StandsAt L) (removals at ops) (mismatch_at at ops items)
  mismatch_outcome [] at items h e = All-nil (StandsAt L)
  mismatch_outcome (Retain count ∷ ops) at items h e =
      mismatch_outcome ops (at + count) (drop count items) (reduced_parts (Retain count) ops h).2 (drop_more L at count items e)
  mismatch_outcome (Replace removed inserted ∷ ops) at items h e =
      outcome-append (StandsAt L) (placed_removed at removed) (removals (at + length removed) ops) (differs_at at removed items)
      (mismatch_at (at + length removed) ops (drop (length removed) items)) (differs_outcome removed at items e)
      (mismatch_outcome ops (at + length removed) (drop (length removed) items) (reduced_parts (Replace removed inserted) ops h).2 (drop_more L at (length removed) items e))
  mismatch_outcome (Attribute c ∷ ops) at items h e =
      let p = reduced_parts (Attribute c) ops h in
      subst (Outcome (StandsAt L) (removals at ops)) (sym (mismatch-on_first c ops at (item_changed c) items p.2 p.1)) (mismatch_outcome ops at items p.2 e)

  bad_attribute_outcome : (ops : Transaction) (at : ℕ) (items : List PlainItem) → is_reduced ops ≡ true → drop at L ≡ items →
      Outcome (MayChange L) (placed_changes at ops) (bad_attribute_at at ops items)
  bad_attribute_outcome [] at items h e = All-nil (MayChange L)
  bad_attribute_outcome (Retain count ∷ ops) at items h e =
      bad_attribute_outcome ops (at + count) (drop count items) (reduced_parts (Retain count) ops h).2 (drop_more L at count items e)
  bad_attribute_outcome (Replace removed inserted ∷ ops) at items h e =
      bad_attribute_outcome ops (at + length removed) (drop (length removed) items) (reduced_parts (Replace removed inserted) ops h).2 (drop_more L at (length removed) items e)
  bad_attribute_outcome (Attribute c ∷ ops) at items h e =
      let p = reduced_parts (Attribute c) ops h in
      by_test items e (first_allows c items) refl
      (subst (Outcome (MayChange L) (placed_changes at ops)) (sym (bad_attribute-on_first c ops at items p.2 p.1)) (bad_attribute_outcome ops at items p.2 e))
    where
      by_test : (items : List PlainItem) → drop at L ≡ items → (b : Bool) → first_allows c items ≡ b →
          Outcome (MayChange L) (placed_changes at ops) (bad_attribute_at at ops (on_first (item_changed c) items)) →
          Outcome (MayChange L) ((at, c) ∷ placed_changes at ops) (if b then bad_attribute_at at ops (on_first (item_changed c) items) else Some at)
      by_test [] e true allowed rest = cc
      by_test (item ∷ items) e true allowed rest =
          outcome-cons (MayChange L) (at, c) (placed_changes at ops) (bad_attribute_at at ops (on_first (item_changed c) (item ∷ items)))
          (item, drop_item L at item items e, allowed) rest
      by_test [] e false refused rest =
          outcome-first (MayChange L) at c (placed_changes at ops) (λ may. let none = drop_end L at e in let some = may.1 in cc)
      by_test (item ∷ items) e false refused rest =
          outcome-first (MayChange L) at c (placed_changes at ops) (λ may.
          let there = drop_item L at item items e in
          let some = may.1 in
          let same : may.0 ≡ item = cc in
          let allowed : allows c item ≡ true = subst (λ x. allows c x ≡ true) same may.2 in
          cc)

pub fault_is_first : FaultIsFirst
fault_is_first t items h =
    by_length (old_length t == length items) refl
  where
    by_causes : (m b : Option ℕ) → old_length t ≡ length items → Outcome (StandsAt items) (removals 0 t) m → Outcome (MayChange items) (placed_changes 0 t) b →
        IsFault t items (option_or (option_map (λ at. Mismatch at) m) (option_map (λ at. BadAttr at) b))
    by_causes None None e stand may = (e, stand, may)
    by_causes None (Some at) e stand bad = (e, stand, bad)
    by_causes (Some at) b e differs bad = (e, differs)

    by_length : (b : Bool) → (old_length t == length items) ≡ b →
        IsFault t items (if b then option_or (option_map (λ at. Mismatch at) (mismatch_at 0 t items)) (option_map (λ at. BadAttr at) (bad_attribute_at 0 t items)) else Some (BadLength (length items) (old_length t)))
    by_length true e =
        by_causes (mismatch_at 0 t items) (bad_attribute_at 0 t items) (eqb-true (old_length t) (length items) e)
        (mismatch_outcome items t 0 items h refl) (bad_attribute_outcome items t 0 items h refl)
    by_length false e =
        (refl, refl, λ same. let yes = eq-eqb (old_length t) (length items) (sym same) in cc)

-- no two causes are given of one transaction and one list
one_cause : (t : Transaction) (items : List PlainItem) (why other : Option TxFault) → IsFault t items why → IsFault t items other → why ≡ other
one_cause t items None None h k = refl
one_cause t items None (Some (BadLength has needs)) h k = absurd (k.2 (k.0 ∙ sym h.0 ∙ sym k.1))
one_cause t items None (Some (Mismatch at)) h k = absurd (all_or_first (StandsAt items) (removals 0 t) at h.1 k.1)
one_cause t items None (Some (BadAttr at)) h k = absurd (all_or_first (MayChange items) (placed_changes 0 t) at h.2 k.2)
one_cause t items (Some (BadLength has needs)) None h k = absurd (h.2 (h.0 ∙ sym k.0 ∙ sym h.1))
one_cause t items (Some (BadLength has needs)) (Some (BadLength has' needs')) h k =
    let same = h.0 ∙ sym k.0 in
    let need = h.1 ∙ sym k.1 in
    λ i. Some (BadLength (same i) (need i))
one_cause t items (Some (BadLength has needs)) (Some (Mismatch at)) h k = absurd (h.2 (h.0 ∙ sym k.0 ∙ sym h.1))
one_cause t items (Some (BadLength has needs)) (Some (BadAttr at)) h k = absurd (h.2 (h.0 ∙ sym k.0 ∙ sym h.1))
one_cause t items (Some (Mismatch at)) None h k = absurd (all_or_first (StandsAt items) (removals 0 t) at k.1 h.1)
one_cause t items (Some (Mismatch at)) (Some (BadLength has needs)) h k = absurd (k.2 (k.0 ∙ sym h.0 ∙ sym k.1))
one_cause t items (Some (Mismatch at)) (Some (Mismatch there)) h k = ap (λ p. Some (Mismatch p)) (first_is_one (StandsAt items) (removals 0 t) at there h.1 k.1)
one_cause t items (Some (Mismatch at)) (Some (BadAttr there)) h k = absurd (all_or_first (StandsAt items) (removals 0 t) at k.1 h.1)
one_cause t items (Some (BadAttr at)) None h k = absurd (all_or_first (MayChange items) (placed_changes 0 t) at k.2 h.2)
one_cause t items (Some (BadAttr at)) (Some (BadLength has needs)) h k = absurd (k.2 (k.0 ∙ sym h.0 ∙ sym k.1))
one_cause t items (Some (BadAttr at)) (Some (Mismatch there)) h k = absurd (all_or_first (StandsAt items) (removals 0 t) there h.1 k.1)
one_cause t items (Some (BadAttr at)) (Some (BadAttr there)) h k = ap (λ p. Some (BadAttr p)) (first_is_one (MayChange items) (placed_changes 0 t) at there h.2 k.2)
one_cause t items (Some Memory) other h k = absurd h
one_cause t items None (Some Memory) h k = absurd k
one_cause t items (Some (BadLength has needs)) (Some Memory) h k = absurd k
one_cause t items (Some (Mismatch at)) (Some Memory) h k = absurd k
one_cause t items (Some (BadAttr at)) (Some Memory) h k = absurd k

pub fault_is_only : FaultIsOnly
fault_is_only t items why h k = one_cause t items (fault t items) why (fault_is_first t items h) k
