use Rattle.std.proofs.Common.{◌+◌}
use Rattle.ve_write.specs.Bare.{IsBareAt, IsRunAt}
use Rattle.ve_write.proofs.BareLemmas.{char_bare, closing_bare, bare_after_bare, plain_bare, tight_bare, run_bare, if_ok}
use Rattle.ve_write.proofs.bare.is_bare.Goals as goal

pub is_plain_paragraph-requires-clause-head : goal.is_plain_paragraph-requires-clause-head
is_plain_paragraph-requires-clause-head c = (c.requires.cites c.args.at _ c.in-Opening.ensures).0

pub is_plain_paragraph-requires-clause-pre : goal.is_plain_paragraph-requires-clause-pre
is_plain_paragraph-requires-clause-pre c = (c.requires.cites c.args.at _ c.in-Opening.ensures).2

pub returns-in-Char : goal.returns-in-Char
returns-in-Char c = char_bare c.args.store.now c.args.list.now.items c.args.at _ _ c.args.before c.in-Char.ensures

pub returns-in-Closing : goal.returns-in-Closing
returns-in-Closing c = closing_bare c.args.store.now c.args.list.now.items c.args.at _ _ c.args.before c.in-Closing.ensures

pub returns-then-before : goal.returns-then-before
returns-then-before c = bare_after_bare c.args.store.now c.args.list.now.items c.args.at _ _ _ _ _ _ c.args.before c.in-Opening.ensures c.if-before.true

pub returns-then-not-is_plain_paragraph : goal.returns-then-not-is_plain_paragraph
returns-then-not-is_plain_paragraph c =
    plain_bare c.args.store.now c.args.list.now.items c.args.at _ _ _ _ _ _ c.args.before _ c.in-Opening.ensures c.is_plain_paragraph.ensures c.if-not-is_plain_paragraph.true

pub returns-then-not-is_tight : goal.returns-then-not-is_tight
returns-then-not-is_tight c =
    tight_bare c.args.store.now c.args.list.now.items c.args.at _ _ _ _ _ _ c.args.before _ c.siblings_end-end.result c.after_siblings.result c.in-Opening.ensures
    c.siblings_end-end.ensures.end c.after_siblings.ensures.follows (c.is_tight.ensures c.args.store.now c.requires.cites) c.if-not-is_tight.true

pub returns-else-not-is_tight : goal.returns-else-not-is_tight
returns-else-not-is_tight c =
    if_ok c.is_run.result (IsRunAt c.args.store.now c.args.list.now.items (c.args.at + 1)) (IsBareAt c.args.store.now c.args.list.now.items c.args.before c.args.at)
    (λ run is_run.
    run_bare c.args.store.now c.args.list.now.items c.args.at _ _ _ _ _ _ c.args.before _ _ run c.siblings_end-end.result c.after_siblings.result c.in-Opening.ensures c.is_plain_paragraph.ensures c.if-not-is_plain_paragraph.false
    c.if-before.false c.siblings_end-end.ensures.end c.after_siblings.ensures.follows (c.is_tight.ensures c.args.store.now c.requires.cites) c.if-not-is_tight.false is_run)
    c.is_run.ensures
