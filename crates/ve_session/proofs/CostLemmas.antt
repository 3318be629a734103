-- What the layers below count is no more than a line may take.
use Rattle.std.proofs.Common.{◌≡◌, ◌≤◌, ◌+◌, ◌*◌, ℕ, Bool, true, List, [], ◌∷◌, length, ap, sym, subst, arith, le-leb}
use Rattle.std.specs.Prelude.{nat_le, nat_lt, if◌then◌else◌, None, Result, Ok, Err}
use Rattle.model_change.specs.Transaction.{Transaction}
use Rattle.model_items.specs.declared.plain_item.PlainItem.{PlainItem}
use Rattle.model_page.specs.PageItems.{Opened}
use Rattle.model_site.specs.Made.{redoing, revoking, undoing}
use Rattle.model_site.specs.Refused.{edit_cause}
use Rattle.model_site.specs.Replica.{Replica}
use Rattle.model_site.specs.Session.{Member, Session}
use Rattle.model_world.specs.declared.command.Request.TheVariants as request
use Rattle.model_world.specs.declared.refusal.Refusal.{Refusal}
use Rattle.model_world.specs.Edits.{checked_transaction, unless_faulty}
use Rattle.model_change.specs.Cost.{cost_of_transactions}
use Rattle.model_items.specs.Cost.{cost_of_tree}
use Rattle.model_world.specs.Cost.{cost_of_blank, cost_of_opening, made_of, revoking_seen}
use Rattle.ve_editor.specs.Counted.{steps_over}
use Rattle.ve_session.specs.Asked.{cost_completed}

-- ---- trees and transactions

-- transactions, and a page without text where they are made on a trial
abbrev pub cost_of_made : Bool → List Transaction → List PlainItem → ℕ
cost_of_made on_trial ts items = (if on_trial then cost_of_blank else 0) + cost_of_transactions ts items

-- what is made on a trial only where it is several
pub over_within : (ts : List Transaction) (items : List PlainItem) → steps_over ts items ≤ cost_of_made (nat_le 2 (length ts)) ts items
over_within [] items = omega arith
over_within (t ∷ []) items = omega arith
over_within (t ∷ u ∷ ts) items =
    let several : nat_le 2 (length (t ∷ u ∷ ts)) ≡ true = le-leb 2 (length (t ∷ u ∷ ts)) (omega arith) in
    subst (λ b. steps_over (t ∷ u ∷ ts) items ≤ cost_of_made b (t ∷ u ∷ ts) items) (sym several) (omega arith)

-- ---- one transaction, made in place where it may be

pub cost_of_performed : (r : Replica) (t : Transaction) (old new : ℕ) → edit_cause t r ≡ None → new ≤ old + cost_of_transactions (t ∷ []) r.items →
    new ≤ old + cost_of_transactions (made_of (checked_transaction r (Ok t))) r.items
cost_of_performed r t old new fits h =
    let one : new ≤ old + cost_of_transactions (t ∷ []) r.items = omega (arith, h) in
    subst (λ (m : Result Transaction Refusal). new ≤ old + cost_of_transactions (made_of m) r.items) (sym (ap (λ c. unless_faulty c t) fits)) one

-- what one that is performed may take, of the page
abbrev pub cost_in_place : Result Transaction Refusal → List PlainItem → ℕ
cost_in_place made items = cost_of_made (nat_le 2 (length (made_of made))) (made_of made) items

in_place : (made : Result Transaction Refusal) (items : List PlainItem) (old new : ℕ) → new ≤ old + cost_of_transactions (made_of made) items →
    new ≤ old + cost_in_place made items
in_place (Ok t) items old new h = omega (arith, h)
in_place (Err why) items old new h = omega (arith, h)

pub cost_of_meant : (r : Replica) (meant : Result Transaction Refusal) (t : Transaction) (old new : ℕ) → meant ≡ Ok t →
    new ≤ old + cost_of_transactions (made_of (checked_transaction r (Ok t))) r.items → new ≤ old + cost_in_place (checked_transaction r meant) r.items
cost_of_meant r meant t old new means h =
    in_place (checked_transaction r meant) r.items old new
    (subst (λ m. new ≤ old + cost_of_transactions (made_of (checked_transaction r m)) r.items) (sym means) h)

-- ---- a page that opens

pub opening_within : (sites : ℕ) (opens : Result Opened Refusal) (page : Opened) (old new : ℕ) → opens ≡ Ok page → new ≤ old + sites * cost_of_tree page.items →
    new ≤ old + cost_of_opening sites opens
opening_within sites opens page old new is h =
    subst (λ r. new ≤ old + cost_of_opening sites r) (sym is) h

-- ---- entries taken back and made again

pub undo_within : (w : Session) (m : Member) → steps_over (undoing m.site.unsent) m.site.replica.items ≤ cost_completed w m request.Undo
undo_within w m = over_within (undoing m.site.unsent) m.site.replica.items

pub redo_within : (w : Session) (m : Member) → steps_over (redoing m.site.undone) m.site.replica.items ≤ cost_completed w m request.Redo
redo_within w m = over_within (redoing m.site.undone) m.site.replica.items

pub revoke_within : (w : Session) (m : Member) (i : ℕ) (live : Bool) → nat_lt i m.site.seen ≡ true →
    steps_over (revoking w.committed w.hints live i m.site) m.site.replica.items ≤ cost_completed w m (request.Revoke i live)
revoke_within w m i live seen =
    let s = m.site in
    let ts = revoking w.committed w.hints live i s in
    let made : revoking_seen w i live s ≡ ts = ap (λ b. if b then ts else []) seen in
    subst (λ made. steps_over ts s.replica.items ≤ cost_of_made (nat_le 2 (length made)) made s.replica.items) (sym made) (over_within ts s.replica.items)
