use Rattle.std.proofs.Common.{[], ◌∷◌, subst, sym}
use Rattle.ve_changes.specs.TypedCarets.{SeesMore}
use Rattle.ve_changes.proofs.TypedCaretLemmas.{sees_char, sees_closing, sees_opening}
use Rattle.ve_changes.proofs.caret.one_more.Goals as goal

pub returns-in-Char : goal.returns-in-Char
returns-in-Char c =
    subst (λ x. SeesMore c.args.seen (x ∷ []) (record { count = c.in-Some.count; last = c.in-Some.count })) (sym c.in-Char.is)
    (sees_char c.args.seen c.in-Char.ch c.in-Char.marks c.in-Some.count c.in-Some.ensures.1)

pub returns-in-Opening : goal.returns-in-Opening
returns-in-Opening c =
    subst (λ x. SeesMore c.args.seen (x ∷ []) (record { count = c.in-Some.count; last = c.args.seen.last })) (sym c.in-Opening.is)
    (sees_opening c.args.seen c.in-Opening.kind c.in-Opening.generated c.in-Opening.head c.in-Opening.marks c.in-Opening.pre c.in-Opening.origin c.in-Some.count c.in-Some.ensures.1)

pub returns-in-Closing : goal.returns-in-Closing
returns-in-Closing c =
    subst (λ x. SeesMore c.args.seen (x ∷ []) (record { count = c.in-Some.count; last = c.args.seen.last })) (sym c.in-Closing.is)
    (sees_closing c.args.seen c.in-Closing.kind c.in-Closing.pre c.in-Some.count c.in-Some.ensures.1)
