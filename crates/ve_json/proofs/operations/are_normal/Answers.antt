use Rattle.std.proofs.Common.{ap, sym, ◌∙◌, ◌∷◌, ◌≡◌, ◌+◌, ◌-◌, ◌<◌, List, subst, length, drop, arith}
use Rattle.model_world.specs.Operations as operations
use Rattle.ve_tx.specs.Noted.{HaveSameNames}
use Rattle.ve_tx.proofs.FirstNamesLemmas.{rest_of}
use Rattle.ve_json.specs.Settings.{names_set}
use Rattle.model_world.specs.declared.edit_command.OpWords.{OpWords}
use Rattle.ve_json.proofs.SettingLemmas.{nothing_normal, misplaced_normal, normal_more, names_more}
use Rattle.ve_json.proofs.operations.are_normal.Goals as goal

pub may_precede-requires-clause-names : goal.may_precede-requires-clause-names
may_precede-requires-clause-names c =
    let next : c.loop-i.i ≡ c.loop-i.i - 1 + 1 = omega (arith, c.loop-i-test.true) in
    subst (λ (later : List OpWords). HaveSameNames c.loop-i.names (names_set later)) (ap (λ n. drop n c.args.ops.now) next ∙ sym (rest_of c.args.ops.now (c.loop-i.i - 1 + 1))) c.loop-i.invariant.names

pub returns-then-not-is_something : goal.returns-then-not-is_something
returns-then-not-is_something c =
    sym (nothing_normal c.args.ops.now (c.loop-i.i - 1) c.index-ops-i.result (omega (arith, c.loop-i-test.true, c.loop-i.invariant.within)) c.index-ops-i.is (sym c.is_something.ensures ∙ c.if-not-is_something.true))

pub returns-then-not-may_stand : goal.returns-then-not-may_stand
returns-then-not-may_stand c =
    sym (misplaced_normal c.args.ops.now (c.loop-i.i - 1) c.index-ops-i.result (omega (arith, c.loop-i-test.true, c.loop-i.invariant.within)) c.index-ops-i.is
    (ap (operations.word_may_precede c.index-ops-i.result) (sym (rest_of c.args.ops.now (c.loop-i.i - 1 + 1))) ∙ sym c.in_ok-may_stand.ensures.may ∙ c.if-not-may_stand.true))

pub loop-i-preserved : goal.loop-i-preserved
loop-i-preserved c =
    let within : c.loop-i.i - 1 < length c.args.ops.now = omega (arith, c.loop-i-test.true, c.loop-i.invariant.within) in
    let rest = rest_of c.args.ops.now (c.loop-i.i - 1 + 1) in
    let next : c.loop-i.i ≡ c.loop-i.i - 1 + 1 = omega (arith, c.loop-i-test.true) in
    record {
      within = omega (arith, within);
      normal = normal_more c.args.ops.now (c.loop-i.i - 1) c.index-ops-i.result within c.index-ops-i.is (sym c.is_something.ensures ∙ c.if-not-is_something.false)
          (ap (operations.word_may_precede c.index-ops-i.result) (sym rest) ∙ sym c.in_ok-may_stand.ensures.may ∙ c.if-not-may_stand.false)
          (ap (λ n. operations.words_are_normal (drop n c.args.ops.now)) (sym next) ∙ c.loop-i.invariant.normal);
      names = names_more c.args.ops.now (c.loop-i.i - 1) c.index-ops-i.result c.may_precede.new.names within c.index-ops-i.is
          (subst (λ (later : List OpWords). HaveSameNames c.may_precede.new.names (names_set (c.index-ops-i.result ∷ later))) rest (c.in_ok-may_stand.ensures.names c.if-not-may_stand.false));
    }
