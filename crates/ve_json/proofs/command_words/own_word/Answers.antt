use Rattle.std.proofs.Common.{sym}
use Rattle.ve_json.specs.CommandWords.{own_words}
use Rattle.ve_json.proofs.WordLemmas.{meant_by-none}
use Rattle.ve_json.proofs.command_words.own_word.Goals as goal

pub returns-in_default : goal.returns-in_default
returns-in_default c =
    let n = c.in_default in
    sym (meant_by-none own_words c.args.word.now
    (n.not-html, (n.not-tree, (n.not-refs, (n.not-caret, (n.not-undo, (n.not-redo, (n.not-send, (n.not-serve, (n.not-take, (n.not-changes, (n.not-data, (n.not-at, (n.not-near, (n.not-batch, (n.not-select, (n.not-move, (n.not-type, (n.not-erase, (n.not-grid, (n.not-row_in, (n.not-row_out, (n.not-col_in, (n.not-col_out, (n.not-indent, (n.not-outdent, (n.not-revoke, tt)))))))))))))))))))))))))))
