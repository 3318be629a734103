use Rattle.std.proofs.Common.{◌++◌, [], ◌∷◌, sym, ap, ◌∙◌, subst}
use Rattle.ve_tx.specs.ByValue.{parcel_by_value}
use Rattle.ve_peer_undo.specs.Counted.{AreKept, counted, IsTakenOut}
use Rattle.ve_peer_undo.proofs.PassedLemmas.{counts_itself, kept_more}
use Rattle.ve_peer_undo.proofs.live.pass.Goals as goal

pub returns-clause-passed : goal.returns-clause-passed
returns-clause-passed c =
    let ns = c.args.numbers.now.items in
    let ps = c.args.parcels.now in
    let e = c.args.entry.now in
    let same = c.in_ok-take_back.ensures.same c.if-branch.false in
    let none = subst (IsTakenOut e.entry.takes_back (parcel_by_value e) (counted ns ps) (counted c.take_back.new.numbers.items c.take_back.new.parcels)) c.if-branch.false
    c.in_ok-take_back.ensures.taken in
    let numbers = c.in_ok-push.ensures.items ∙ ap (λ l. l ++ c.args.number ∷ []) same.0 in
    let parcels = c.in_ok-push-2.ensures.ok ∙ (ap (λ l. l ++ c.in_ok-copy.field-0 ∷ []) same.1 ∙ ap (λ p. ps ++ p ∷ []) c.in_ok-copy.ensures) in
    ap (λ l. counted l c.push-2.new.self) numbers ∙ (ap (counted (ns ++ c.args.number ∷ [])) parcels ∙ counts_itself ns ps c.args.number e c.requires.kept none.0)

pub returns-clause-kept : goal.returns-clause-kept
returns-clause-kept c =
    let ns = c.args.numbers.now.items in
    let ps = c.args.parcels.now in
    let e = c.args.entry.now in
    let same = c.in_ok-take_back.ensures.same c.if-branch.false in
    let numbers = c.in_ok-push.ensures.items ∙ ap (λ l. l ++ c.args.number ∷ []) same.0 in
    let parcels = c.in_ok-push-2.ensures.ok ∙ (ap (λ l. l ++ c.in_ok-copy.field-0 ∷ []) same.1 ∙ ap (λ p. ps ++ p ∷ []) c.in_ok-copy.ensures) in
    subst (λ l. AreKept l c.push-2.new.self) (sym numbers) (subst (AreKept (ns ++ c.args.number ∷ [])) (sym parcels) (kept_more ns ps c.args.number e c.requires.kept c.requires.entry))
