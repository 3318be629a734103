use Rattle.std.proofs.Common.{◌≡◌, ◌∙◌, ap₂, rules, false}
use Rattle.std.proofs.lemmas.Result.{IfOk-weaker}
use Rattle.clap.specs.Words.{app_of, rule_of, with_rule}
use Rattle.ve_words.specs.Command.{IsNames, bare, edits_rule, mode_rule, start_rule}
use Rattle.ve_words.proofs.command.command.Goals as goal

pub returns : goal.returns
returns c =
    let mode_is : rule_of c.value_parser-mode.result ≡ mode_rule c.as_slice.result = search rules in
    let start_is : rule_of c.default_value-start.result ≡ start_rule = search rules in
    let edits_is : rule_of c.default_value-edits.result ≡ edits_rule = search rules in
    let bare_is : app_of c.no_binary_name.result ≡ bare = search rules in
    let names_are : IsNames c.as_slice.result = search rules in
    let local : c.default_value-edits.result.global ≡ false = search rules in
    let with_mode = c.in_ok-arg.ensures.shape (search rules) ∙ ap₂ with_rule bare_is mode_is in
    let with_start = c.in_ok-arg-2.ensures.shape (search rules) ∙ ap₂ with_rule with_mode start_is in
    IfOk-weaker c.arg-3.result _ _ (λ command added. (c.as_slice.result, names_are, added.shape local ∙ ap₂ with_rule with_start edits_is)) c.arg-3.ensures
