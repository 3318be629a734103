-- Edits that set attributes, or put items in the place of others that lead the same way, leave a
-- lawful list lawful.
use Rattle.std.proofs.Common.{◌≡◌, ℕ, suc, ◌+◌, ◌-◌, List, [], ◌∷◌, ◌++◌, length, take, drop, Ok, refl, sym, ap, ◌∙◌, subst, arith, zero-add}
use Rattle.std.proofs.lemmas.List.{take-append-drop}
use Rattle.model_items.specs.declared.plain_item.PlainItem.{PlainItem}
use Rattle.model_items.specs.declared.plain_item.PlainItem.TheVariants.{Char, Opening, Closing}
use Rattle.model_items.specs.Law.{State, start, finish, step, outcome_then, after, Lawful}
use Rattle.model_items.proofs.LawLemmas.{after_parts, after_whole, after_from_Lawful, Lawful_from_after}
use Rattle.model_change.specs.Attributes.{AttrChange, item_changed}
use Rattle.model_change.specs.Transaction.{on_first, edited}
use Rattle.model_edit.specs.Edits.{Edit, Change, Set, setting, transaction_of, substituted_from, InOrder}
use Rattle.model_edit_law.proofs.EditLemmas.{drop-on_first, edited-transaction_from}
use Rattle.model_edit_law.proofs.TableFineLemmas.{drop_twice, InOrder-within}

-- each replace leads where the replaced items lead
abbrev Neutral : ℕ → List PlainItem → List Edit → Type 0
Neutral at items [] = Unit {0}
Neutral at items (Change place count inserted ∷ edits) =
    ((s v : State) → after s (take count (drop (place - at) items)) ≡ Ok v → after s inserted ≡ Ok v)
    × Neutral (place + count) (drop count (drop (place - at) items)) edits
Neutral at items (Set place name to ∷ edits) =
    Neutral place (on_first (item_changed (setting name to (drop (place - at) items))) (drop (place - at) items)) edits

pub same_step : (c : AttrChange) (s : State) (x : PlainItem) → step s (item_changed c x) ≡ step s x
same_step c s (Char ch marks) = refl
same_step c s (Opening kind head marks pre origin generated) = refl
same_step c s (Closing kind pre) = refl

same_after : (c : AttrChange) (s : State) (items : List PlainItem) → after s (on_first (item_changed c) items) ≡ after s items
same_after c s [] = refl
same_after c s (x ∷ items) = ap (λ r. outcome_then 1 r (λ next. after next items)) (same_step c s x)

after_neutral : (edits : List Edit) (at : ℕ) (items : List PlainItem) (s u : State) → Neutral at items edits → after s items ≡ Ok u → after s (substituted_from at items edits) ≡ Ok u
after_neutral [] at items s u n h = h
after_neutral (Change place count inserted ∷ edits) at items s u n h =
    let rest = drop (place - at) items in
    let p = after_parts (take (place - at) items) rest s u (ap (after s) (take-append-drop (place - at) items) ∙ h) in
    let q = after_parts (take count rest) (drop count rest) p.0 u (ap (after p.0) (take-append-drop count rest) ∙ p.2) in
    let later = after_neutral edits (place + count) (drop count rest) q.0 u n.1 q.2 in
    after_whole (take (place - at) items) (inserted ++ substituted_from (place + count) (drop count rest) edits) s p.0 u p.1
    (after_whole inserted (substituted_from (place + count) (drop count rest) edits) p.0 q.0 u (n.0 p.0 q.0 q.1) later)
after_neutral (Set place name to ∷ edits) at items s u n h =
    let rest = drop (place - at) items in
    let new = on_first (item_changed (setting name to rest)) rest in
    let p = after_parts (take (place - at) items) rest s u (ap (after s) (take-append-drop (place - at) items) ∙ h) in
    after_whole (take (place - at) items) (substituted_from place new edits) s p.0 u p.1
    (after_neutral edits place new p.0 u n (same_after (setting name to rest) p.0 rest ∙ p.2))

-- the same, of positions of the whole list
abbrev pub EachNeutral : List PlainItem → List Edit → Type 0
EachNeutral whole [] = Unit {0}
EachNeutral whole (Change place count inserted ∷ edits) =
    ((s v : State) → after s (take count (drop place whole)) ≡ Ok v → after s inserted ≡ Ok v) × EachNeutral whole edits
EachNeutral whole (Set place name to ∷ edits) = EachNeutral whole edits

Neutral-on_first : (f : PlainItem → PlainItem) (place end : ℕ) (items : List PlainItem) (edits : List Edit) → InOrder (suc place) end edits → Neutral place items edits → Neutral place (on_first f items) edits
Neutral-on_first f place end items [] h m = tt
Neutral-on_first f place end items (Change at count inserted ∷ edits) h m = let first = h.0 in rw (drop-on_first f (at - place) items (omega arith)) m
Neutral-on_first f place end items (Set at name to ∷ edits) h m = let first = h.0 in rw (drop-on_first f (at - place) items (omega arith)) m

Neutral-each : (whole : List PlainItem) (n end : ℕ) (edits : List Edit) → InOrder n end edits → EachNeutral whole edits → Neutral n (drop n whole) edits
Neutral-each whole n end [] h m = tt
Neutral-each whole n end (Change place count inserted ∷ edits) h m =
    let low = h.0 in
    let e : drop (place - n) (drop n whole) ≡ drop place whole = drop_twice (place - n) n place whole (omega arith) in
    let e' : drop count (drop place whole) ≡ drop (place + count) whole = drop_twice count place (place + count) whole refl in
    let later = Neutral-each whole (place + count) end edits h.1 m.1 in
    subst (λ v. ((s v' : State) → after s (take count v) ≡ Ok v' → after s inserted ≡ Ok v') × Neutral (place + count) (drop count v) edits) (sym e)
    (m.0, subst (λ v. Neutral (place + count) v edits) (sym e') later)
Neutral-each whole n end (Set place name to ∷ edits) h m =
    let low = h.0 in
    let e : drop (place - n) (drop n whole) ≡ drop place whole = drop_twice (place - n) n place whole (omega arith) in
    subst (λ v. Neutral place (on_first (item_changed (setting name to v)) v) edits) (sym e)
    (Neutral-on_first (item_changed (setting name to (drop place whole))) place end (drop place whole) edits h.1
    (Neutral-each whole place end edits (InOrder-within (suc place) place end end edits (omega arith) (omega arith) h.1) m))

pub neutral_lawful : (items : List PlainItem) (edits : List Edit) → Lawful items → InOrder 0 (length items) edits → EachNeutral items edits → Lawful (edited (transaction_of items edits) items)
neutral_lawful items edits lawful order n =
    subst Lawful (sym (edited-transaction_from 0 items edits (subst (λ k. InOrder 0 k edits) (sym (zero-add (length items))) order)))
    (Lawful_from_after (substituted_from 0 items edits)
    (after_neutral edits 0 items start finish (Neutral-each items 0 (length items) edits order n) (after_from_Lawful items lawful)))
