use Rattle.std.proofs.Common.{ap}
use Rattle.model_world.specs.declared.reply.Reply.TheVariants.{Tree}
use Rattle.ve_answers.proofs.WordLemmas.{all_words}
use Rattle.ve_answers.proofs.words.tree.Goals as goal

pub returns-clause-reply : goal.returns-clause-reply
returns-clause-reply c =
    let doc = c.args.doc in
    ap Tree
    (all_words doc.store.now doc.list.now.items c.new-words.result c.push.new.self c.push_list.new.words c.push-2.new.self c.requires.doc.links.lawful c.new-words.ensures
    c.in_ok-push.ensures.ok c.in_ok-push_list.ensures c.in_ok-push-2.ensures.ok)
