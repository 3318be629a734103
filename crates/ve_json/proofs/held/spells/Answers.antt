use Rattle.std.specs.Str.{chars}
use Rattle.std.proofs.lemmas.Bool.Decides.{same_from_decides}
use Rattle.model_items.specs.Same.{text_same}
use Rattle.ve_json.proofs.ApartLemmas.{text_decides}
use Rattle.ve_json.proofs.held.spells.Goals as goal

pub returns : goal.returns
returns c = same_from_decides c.is.result (text_same c.args.name.now (chars c.args.word.now)) c.is.ensures (text_decides c.args.name.now (chars c.args.word.now))
