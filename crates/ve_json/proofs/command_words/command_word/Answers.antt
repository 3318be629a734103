use Rattle.std.proofs.Common.{Some, None, sym, ◌∙◌}
use Rattle.ve_json.proofs.WordLemmas.{ask_last}
use Rattle.ve_json.proofs.command_words.command_word.Goals as goal

pub returns-in_err-request_word : goal.returns-in_err-request_word
returns-in_err-request_word c =
    c.from_residual.ensures ∙ ask_last c.args.word.now None (sym c.eq.ensures ∙ c.if-eq.false) (cc (c.request_word.ensures, c.in_err-request_word.was))

pub returns : goal.returns
returns c = ask_last c.args.word.now (Some c.in_ok-request_word.field-0) (sym c.eq.ensures ∙ c.if-eq.false) (cc (c.request_word.ensures, c.in_ok-request_word.was))
