use Rattle.ve_reader.proofs.AttrLemmas.{is_new, more}
use Rattle.ve_reader.proofs.heads.attrs_of.Goals as goal

pub push-requires : goal.push-requires
push-requires c = is_new c.args.tokens c.loop-token.token-iterator c.next.new.self c.in-Some.token c.loop-token.attrs c.in_ok-attr.attr c.requires c.loop-token.invariant.2 c.in-Some.ensures.steps c.in_ok-attr.ensures.name

pub loop-token-preserved : goal.loop-token-preserved
loop-token-preserved c = (
  tt,
  tt,
  more c.args.tokens c.loop-token.token-iterator c.next.new.self c.in-Some.token c.loop-token.attrs c.push.new.self c.in_ok-attr.attr c.loop-token.invariant.2 c.in-Some.ensures.steps c.in_ok-attr.ensures.name c.in_ok-attr.ensures.value c.in_ok-push.ensures.ok,
)
