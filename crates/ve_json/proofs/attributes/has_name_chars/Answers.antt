use Rattle.std.proofs.Common.{length, drop, sym, ap, ◌∙◌, arith}
use Rattle.std.specs.List.{list_all}
use Rattle.std.specs.Str.{chars}
use Rattle.std.proofs.lemmas.Iterator.{YieldsList-from_chars}
use Rattle.std.proofs.lemmas.Iterator.Consumers.{YieldsList-turn, YieldsList-end}
use Rattle.std.proofs.lemmas.List.{at_drop_all, length_push}
use Rattle.model_spelling.specs.Grammar.{is_name_byte}
use Rattle.ve_json.proofs.TestLemmas.{fails_here, holds_here}
use Rattle.ve_json.proofs.attributes.has_name_chars.Goals as goal

pub returns-then-not-is_name_char : goal.returns-then-not-is_name_char
returns-then-not-is_name_char c =
    let turn = YieldsList-turn (YieldsList-from_chars c.args.text.now c.utf8.text cc) c.loop-ch.yielded _ c.loop-ch.yielded_by _ _ c.in-Some.ch c.in-Some.is c.next.ensures.steps in
    sym (fails_here is_name_byte (length c.loop-ch.yielded) c.in-Some.ch (chars c.args.text.now) turn (sym c.is_name_char.ensures ∙ c.if-not-is_name_char.true)) ∙ c.loop-ch.invariant.rest

pub loop-ch-preserved : goal.loop-ch-preserved
loop-ch-preserved c =
    let turn = YieldsList-turn (YieldsList-from_chars c.args.text.now c.utf8.text cc) c.loop-ch.yielded _ c.loop-ch.yielded_by _ _ c.in-Some.ch c.in-Some.is c.next.ensures.steps in
    record {
      finite = tt;
      can_next = tt;
      rest =
          ap (λ n. list_all is_name_byte (drop n (chars c.args.text.now))) (length_push c.loop-ch.yielded c.in-Some.ch)
          ∙ sym (holds_here is_name_byte (length c.loop-ch.yielded) c.in-Some.ch (chars c.args.text.now) turn (sym c.is_name_char.ensures ∙ c.if-not-is_name_char.false)) ∙ c.loop-ch.invariant.rest;
    }

pub returns : goal.returns
returns c =
    let end = YieldsList-end (YieldsList-from_chars c.args.text.now c.utf8.text cc) c.loop-ch.yielded _ c.loop-ch.yielded_by _ _ c.in-None.is c.next.ensures.steps in
    sym (at_drop_all (list_all is_name_byte) (chars c.args.text.now) (length c.loop-ch.yielded) (omega (arith, end.1))) ∙ c.loop-ch.invariant.rest
