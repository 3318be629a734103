-- Nodes that were made for a script, and are freed again.
use Rattle.std.proofs.Common.{◌≡◌, List, All, sym, subst}
use Rattle.ve_arena.specs.Arena.{IsLive}
use Rattle.ve_repair.specs.declared.script.How.TheVariants.{Put}
use Rattle.ve_repair.specs.declared.script.Step.{Step}
use Rattle.ve_repair.specs.Frees.{nodes_of, IsFreed}
use Rattle.ve_repair.specs.Reader.{Slots, HasMade}
use Rattle.ve_repair.specs.Repaired.{SameNodes}
use Rattle.ve_repair.proofs.MadeLemmas.{made_are_undone}
use Rattle.ve_repair.proofs.MakeLemmas.{all_live}

pub made_live : (before now : Slots) (xs ys : List Step) → ys ≡ xs → HasMade before now (nodes_of Put xs) → All (IsLive now) (nodes_of Put ys)
made_live before now xs ys e m = subst (λ l. All (IsLive now) (nodes_of Put l)) (sym e) (all_live now (nodes_of Put xs) m.live)

pub freed_of : (now after : Slots) (xs ys : List Step) → ys ≡ xs → IsFreed now after (nodes_of Put ys) → IsFreed now after (nodes_of Put xs)
freed_of now after xs ys e freed = subst (λ l. IsFreed now after (nodes_of Put l)) e freed

pub made_undone : (before now after : Slots) (xs : List Step) → HasMade before now (nodes_of Put xs) → IsFreed now after (nodes_of Put xs) → SameNodes before after
made_undone before now after xs m freed =
    made_are_undone before now after xs (record { live = m.live; apart = m.apart; vacant = m.vacant; others = m.others }) freed
