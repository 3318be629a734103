use Rattle.std.proofs.Common.{map-id, sym, ap, ◌∙◌}
use Rattle.std.specs.Str.{chars}
use Rattle.std.proofs.lemmas.Iterator.{YieldsList-from_chars}
use Rattle.std.proofs.lemmas.Iterator.Consumers.{YieldsList-end}
use Rattle.ve_json.specs.Begun.{after, after_all, is_whole}
use Rattle.ve_json.specs.declared.held.Begun.TheVariants.{Nothing}
use Rattle.ve_json.proofs.BegunLemmas.{own_word, after_push}
use Rattle.ve_json.proofs.held.has_own_word.Goals as goal

pub returns : goal.returns
returns c =
    let end = YieldsList-end (YieldsList-from_chars c.args.text.now c.utf8.text cc) c.loop-ch.yielded _ c.loop-ch.yielded_by _ _ c.in-None.is c.next.ensures.steps in
    c.is_whole.ensures ∙ ap is_whole (c.loop-ch.invariant ∙ ap (after_all Nothing) (sym (map-id c.loop-ch.yielded) ∙ end.0)) ∙ own_word (chars c.args.text.now)

pub loop-ch-preserved : goal.loop-ch-preserved
loop-ch-preserved c = c.after-so_far.ensures ∙ ap (λ b. after b c.in-Some.ch) c.loop-ch.invariant ∙ sym (after_push Nothing c.loop-ch.yielded c.in-Some.ch)
