use Rattle.std.proofs.Common.{Some, None, ◌∙◌}
use Rattle.ve_json.proofs.WordLemmas.{own_first, change_last}
use Rattle.ve_json.proofs.command_words.request_word.Goals as goal

pub returns-in-Some : goal.returns-in-Some
returns-in-Some c = own_first c.args.word.now c.in-Some.own (cc (c.own_word.ensures, c.in-Some.is))

pub returns-in_err-change_word : goal.returns-in_err-change_word
returns-in_err-change_word c =
    c.from_residual.ensures ∙ change_last c.args.word.now None (cc (c.own_word.ensures, c.in_default.is)) (cc (c.change_word.ensures, c.in_err-change_word.was))

pub returns : goal.returns
returns c = change_last c.args.word.now (Some c.in_ok-change_word.field-0) (cc (c.own_word.ensures, c.in_default.is)) (cc (c.change_word.ensures, c.in_ok-change_word.was))
