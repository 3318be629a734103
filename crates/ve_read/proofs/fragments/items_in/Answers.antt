use Rattle.std.proofs.lemmas.Result.{err_from_is_err_and}
use Rattle.ve_store.specs.Following.{together}
use Rattle.ve_read.proofs.AnewLemmas.{grows_itself}
use Rattle.ve_read.proofs.FragmentLemmas.{blank_read, blank_within, other_read}
use Rattle.ve_read.proofs.fragments.items_in.Goals as goal

pub returns-in_err-paragraph-clause-grows : goal.returns-in_err-paragraph-clause-grows
returns-in_err-paragraph-clause-grows c = grows_itself c.args.new.now

pub returns-then-is_blank-clause-read : goal.returns-then-is_blank-clause-read
returns-then-is_blank-clause-read c =
    let values = together c.args.store.now c.args.new.now in
    blank_read c.args.kind c.args.text.now values c.in_ok-paragraph.paragraph c.is_blank.result c.is_blank.ensures c.if-is_blank.true (c.in_ok-paragraph.ensures.items values) (c.in_ok-paragraph.ensures.cites values)

pub returns-then-is_blank-clause-limit : goal.returns-then-is_blank-clause-limit
returns-then-is_blank-clause-limit c = blank_within c.args.text.now c.args.forest.now c.args.kind c.is_blank.result c.requires.nodes c.is_blank.ensures c.if-is_blank.true

pub returns-then-is_blank-clause-grows : goal.returns-then-is_blank-clause-grows
returns-then-is_blank-clause-grows c = grows_itself c.args.new.now

pub returns-in_err-parts-clause-limit : goal.returns-in_err-parts-clause-limit
returns-in_err-parts-clause-limit c =
    let p = err_from_is_err_and c.from_residual-in_err-parts.result c.from_residual-in_err-parts.ensures.1 in
    rw (p.1, p.2) c.in_err-parts.ensures.limit

pub returns-in_err-parts-clause-grows : goal.returns-in_err-parts-clause-grows
returns-in_err-parts-clause-grows c = grows_itself c.args.new.now

pub cited_anew-requires-clause-cites : goal.cited_anew-requires-clause-cites
cited_anew-requires-clause-cites c = c.in_ok-parts.ensures.cites

pub returns-clause-read : goal.returns-clause-read
returns-clause-read c =
    let old = together c.args.store.now c.args.new.now in
    let new = together c.args.store.now c.cited_anew.new.new in
    let parts = c.in_ok-parts.parts in
    other_read c.args.kind c.args.text.now old new parts.values parts.list.items c.in_ok-items.items c.is_blank.result c.is_blank.ensures c.if-is_blank.false
    c.in_ok-parts.ensures.items c.in_ok-parts.ensures.values c.in_ok-items.ensures.items c.in_ok-items.ensures.cites c.in_ok-items.ensures.filled

pub returns-clause-limit : goal.returns-clause-limit
returns-clause-limit c = c.in_ok-parts.ensures.limit
