use Rattle.std.proofs.Common.{◌≡◌, sym, ap, ◌∙◌, subst, map-id}
use Rattle.std.specs.Prelude.{All}
use Rattle.std.specs.Str.{chars}
use Rattle.std.proofs.lemmas.Iterator.{YieldsList-from_chars}
use Rattle.std.proofs.lemmas.Iterator.Consumers.{YieldsList-end}
use Rattle.model_items.specs.Plain.{plain_list, CitesWell}
use Rattle.ve_read.proofs.FragmentLemmas.{paragraph_reads, paragraph_cites, letters_more, letters_whole}
use Rattle.ve_read.proofs.fragments.paragraph_of.Goals as goal

pub loop-ch-preserved : goal.loop-ch-preserved
loop-ch-preserved c = letters_more c.loop-ch.yielded c.in-Some.ch c.loop-ch.items c.push-in-loop-ch.new.self c.loop-ch.invariant c.in_ok-push-2.ensures.ok

pub returns-clause-items : goal.returns-clause-items
returns-clause-items c = λ values.
    let end = YieldsList-end (YieldsList-from_chars c.args.text.now c.utf8.text cc) c.loop-ch.yielded _ c.loop-ch.yielded_by _ _ c.in-None.is c.next.ensures.steps in
    let yielded : c.loop-ch.yielded ≡ chars c.args.text.now = sym (map-id c.loop-ch.yielded) ∙ end.0 in
    ap (plain_list values) (letters_whole c.loop-ch.yielded (chars c.args.text.now) c.loop-ch.items c.push-2.new.self c.loop-ch.invariant yielded c.in_ok-push-3.ensures.ok) ∙ paragraph_reads values (chars c.args.text.now)

pub returns-clause-cites : goal.returns-clause-cites
returns-clause-cites c = λ values.
    let end = YieldsList-end (YieldsList-from_chars c.args.text.now c.utf8.text cc) c.loop-ch.yielded _ c.loop-ch.yielded_by _ _ c.in-None.is c.next.ensures.steps in
    let yielded : c.loop-ch.yielded ≡ chars c.args.text.now = sym (map-id c.loop-ch.yielded) ∙ end.0 in
    subst (All (CitesWell values)) (sym (letters_whole c.loop-ch.yielded (chars c.args.text.now) c.loop-ch.items c.push-2.new.self c.loop-ch.invariant yielded c.in_ok-push-3.ensures.ok)) (paragraph_cites values (chars c.args.text.now))
