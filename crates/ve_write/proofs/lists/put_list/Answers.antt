use Rattle.ve_write.specs.Told.{text_of}
use Rattle.ve_write.proofs.WholeLemmas.{list_done}
use Rattle.ve_write.proofs.lists.put_list.Goals as goal

pub returns-clause-text : goal.returns-clause-text
returns-clause-text c = list_done c.args.page.store.now (text_of c.args.page.texts.now) c.args.page.list.now.items c.args.page.first c.args.out.now _ c.requires.lawful c.requires.texts c.in_ok-put_blocks.ensures.text
