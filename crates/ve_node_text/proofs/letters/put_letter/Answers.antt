use Rattle.std.proofs.lemmas.Result.{on_ok_weaker}
use Rattle.ve_node_text.proofs.letters.put_letter.Goals as goal

pub returns-clause-utf8 : goal.returns-clause-utf8
returns-clause-utf8 c = on_ok_weaker c.push_escaped.result (λ f u. f c.as_bytes.ensures.utf8 u) c.push_escaped.ensures.utf8
