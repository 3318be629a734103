use Rattle.ve_write.proofs.CopiedLemmas.{made_bare}
use Rattle.ve_write.proofs.blocks.is_bare_at.Goals as goal

pub returns-then-not-generated : goal.returns-then-not-generated
returns-then-not-generated c =
    let i = c.requires.item in
    made_bare c.args.page.store.now c.args.page.list.now.items c.args.at i.0 c.args.generated i.1 i.2 i.3 i.4 c.args.before i.5 c.if-not-generated.true
