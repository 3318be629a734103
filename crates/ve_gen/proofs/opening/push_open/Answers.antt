use Rattle.ve_gen.proofs.JoinLemmas.{on_ok, three}
use Rattle.ve_gen.proofs.opening.push_open.Goals as goal

pub returns : goal.returns
returns c = on_ok _ (three _ _ _ _ _ _ _ c.in_ok-push.ensures.ok c.in_ok-push_page.ensures) c.push-2.ensures.ok
