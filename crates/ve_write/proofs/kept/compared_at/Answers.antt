use Rattle.std.proofs.Common.{sym, subst}
use Rattle.ve_write.specs.Originals.{IsKnownFor}
use Rattle.ve_write.proofs.kept.compared_at.Goals as goal

pub compared-requires-clause-known : goal.compared-requires-clause-known
compared-requires-clause-known c = subst (λ f. IsKnownFor c.args.page.list.now.items c.args.page.refs.now f c.args.known) c.in-Some.is c.requires.known

pub returns : goal.returns
returns c = subst (λ f. IsKnownFor c.args.page.list.now.items c.args.page.refs.now f c.compared.result) (sym c.in-Some.is) c.compared.ensures.known
