use Rattle.std.proofs.lemmas.Result.{err_from_is_err_and}
use Rattle.std.proofs.lemmas.Str.{chars-nil}
use Rattle.ve_read.proofs.ParagraphLemmas.{opening_stops, content_stops, run_within, run_is_read}
use Rattle.ve_read.proofs.paragraph.read_paragraph.Goals as goal

pub returns-in_err-node-clause-limit : goal.returns-in_err-node-clause-limit
returns-in_err-node-clause-limit c =
    let p = err_from_is_err_and c.from_residual.result c.from_residual.ensures.1 in
    rw (p.1, p.2)
    (opening_stops c.args.text.now c.args.forest.now c.args.n c.args.part.end c.args.part.byte c.node.result.now c.args.reader.now c.requires.more c.node.ensures c.requires.unmarked c.empty.result _ c.empty.ensures chars-nil
    c.in_err-node.field-0.0 c.in_err-node.ensures.limit)

pub returns-in_err-read_content-clause-limit : goal.returns-in_err-read_content-clause-limit
returns-in_err-read_content-clause-limit c =
    let p = err_from_is_err_and c.from_residual-in_err-read_content.result c.from_residual-in_err-read_content.ensures.1 in
    rw (p.1, p.2)
    (content_stops c.args.text.now c.args.forest.now c.args.n c.args.part.end c.args.part.byte c.node.result.now c.args.reader.now c.requires.more c.node.ensures c.requires.unmarked c.empty.result _ c.empty.ensures chars-nil
    c.open.new.self c.in_ok-node.ensures.ok c.in_ok-node.ensures.limit c.in_err-read_content.field-0.0 c.in_err-read_content.ensures.limit)

pub returns-clause-ok : goal.returns-clause-ok
returns-clause-ok c =
    run_is_read c.args.text.now c.args.forest.now c.args.n c.args.part.end c.args.part.byte c.node.result.now c.args.reader.now c.requires.more c.node.ensures c.requires.unmarked c.empty.result _ c.empty.ensures chars-nil
    c.open.new.self c.in_ok-node.ensures.ok c.in_ok-node.ensures.limit c.read_content.new.reader c.close.new.self c.in_ok-node.node c.in_ok-read_content.ensures.ok c.in_ok-node.ensures.node c.in_ok-close.ensures

pub returns-clause-limit : goal.returns-clause-limit
returns-clause-limit c =
    run_within c.args.text.now c.args.forest.now c.args.n c.args.part.end c.args.part.byte c.node.result.now c.args.reader.now c.requires.more c.node.ensures c.requires.unmarked c.empty.result _ c.empty.ensures chars-nil
    c.open.new.self c.in_ok-node.ensures.ok c.in_ok-node.ensures.limit c.in_ok-read_content.ensures.limit
