use Rattle.std.proofs.Common.{sym}
use Rattle.ve_json.specs.CommandWords.{change_words}
use Rattle.ve_json.proofs.WordLemmas.{meant_by-none}
use Rattle.ve_json.proofs.command_words.change_word.Goals as goal

pub returns-in_default : goal.returns-in_default
returns-in_default c =
    let n = c.in_default in
    sym (meant_by-none change_words c.args.word.now
    (n.not-text, (n.not-insert, (n.not-remove, (n.not-split, (n.not-mark, (n.not-unmark, (n.not-wrap, (n.not-convert, (n.not-attr, (n.not-apply, tt)))))))))))
