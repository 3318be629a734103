use Rattle.std.proofs.Common.{◌+◌, Some, None, if◌then◌else◌, drop, sym, ap, ◌∙◌, subst, append-nil, arith}
use Rattle.std.proofs.lemmas.List.{at_drop_all}
use Rattle.ve_base.specs.Names.{NamesApart}
use Rattle.model_world.specs.Values.{such_that}
use Rattle.model_world.specs.Attributes.{attr_in, are_apart}
use Rattle.ve_json.proofs.ApartLemmas.{apart_from}
use Rattle.ve_json.proofs.ListLemmas.{read_on, read_next}
use Rattle.ve_json.proofs.attributes.attrs_of.Goals as goal

pub loop-json-preserved : goal.loop-json-preserved
loop-json-preserved c =
    let i = c.loop-json.json-index in
    ap (λ l. read_on l attr_in (drop (i + 1) c.args.list.now)) c.in_ok-push.ensures.ok
    ∙ read_next c.loop-json.attrs attr_in c.args.list.now i c.json-item.result c.in_ok-attr.attr c.loop-json-test.true c.json-item.is c.in_ok-attr.ensures
    ∙ c.loop-json.invariant

pub returns-then-not-apart : goal.returns-then-not-apart
returns-then-not-apart c =
    let attrs = c.loop-json.attrs in
    let all = sym c.loop-json.invariant ∙ at_drop_all (read_on attrs attr_in) c.args.list.now c.loop-json.json-index (omega (arith, c.loop-json-test.false)) ∙ ap (λ l. Some l) (append-nil attrs) in
    ap (such_that are_apart) all ∙ ap (λ b. if b then Some attrs else None) (ap are_apart (sym c.as_slice.ensures) ∙ sym c.in_ok-apart.ensures ∙ c.if-not-apart.true)

pub from_vec-requires : goal.from_vec-requires
from_vec-requires c =
    let attrs = c.loop-json.attrs in
    subst NamesApart (sym c.into_vec.ensures) (apart_from attrs (ap are_apart (sym c.as_slice.ensures) ∙ sym c.in_ok-apart.ensures ∙ c.if-not-apart.false))

pub returns : goal.returns
returns c =
    let attrs = c.loop-json.attrs in
    let all = sym c.loop-json.invariant ∙ at_drop_all (read_on attrs attr_in) c.args.list.now c.loop-json.json-index (omega (arith, c.loop-json-test.false)) ∙ ap (λ l. Some l) (append-nil attrs) in
    ap (such_that are_apart) all ∙ ap (λ b. if b then Some attrs else None) (ap are_apart (sym c.as_slice.ensures) ∙ sym c.in_ok-apart.ensures ∙ c.if-not-apart.false)
    ∙ ap (λ l. Some l) (sym (c.shared.ensures ∙ c.from_vec.ensures ∙ c.into_vec.ensures))
