use Rattle.ve_words.proofs.SoundWords.{accepted_ask}
use Rattle.ve_words.proofs.laws.accepted_words_ask.Goals as goal

pub returns : goal.returns
returns c = accepted_ask
