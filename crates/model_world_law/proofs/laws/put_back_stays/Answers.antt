use Rattle.model_world_law.proofs.PutBackLemmas.{exact_is_read}
use Rattle.model_world_law.proofs.PutBackChange as law
use Rattle.model_world_law.proofs.PutBackWorlds as worlds
use Rattle.model_world_law.proofs.ReachLemmas.{every_item_is_writable, origins_stay}
use Rattle.model_world_law.proofs.laws.put_back_stays.Goals as goal

pub returns-clause-read : goal.returns-clause-read
returns-clause-read c = exact_is_read

pub returns-clause-stays : goal.returns-clause-stays
returns-clause-stays c = law.put_back_stays

pub returns-clause-origins : goal.returns-clause-origins
returns-clause-origins c = origins_stay

pub returns-clause-worlds : goal.returns-clause-worlds
returns-clause-worlds c = worlds.worlds_put_back

pub returns-clause-elsewhere : goal.returns-clause-elsewhere
returns-clause-elsewhere c = worlds.worlds_put_elsewhere

pub returns-clause-writable : goal.returns-clause-writable
returns-clause-writable c = every_item_is_writable
