-- A run of a new world, in the words of the definitions.
use Rattle.std.specs.Prelude.{ℕ, List, Option}
use Rattle.model_script.specs.Output.{Meaning}
use Rattle.model_world.specs.declared.reply.Reply.{Reply}
use Rattle.model_world.specs.World.{World, Closed, meaning, output_of}
use Rattle.model_world.specs.Cost.{cost}
use Rattle.ve_run.specs.declared.status.Status.{Status}
use Rattle.ve_run.specs.Ended.{Moment, Ended}
use Rattle.ve_run.specs.Run.{scene, Took, AppendsPrefix}

-- The plain machine of the definitions, with how many steps a line may take.
abbrev pub counting_meaning : Meaning World Reply
counting_meaning = record meaning { cost = λ w line. cost w line }

-- All that the caller of a run can see of it, at one moment.
pub record Seen : Type 0 where
  pub steps : ℕ
  -- the bytes that the source has left and the sink holds, where they are known
  pub left : Option (List ℕ)
  pub held : Option (List ℕ)
  -- the faults counted so far
  pub reads_failed : ℕ
  pub writes_failed : ℕ

abbrev pub seen_of : ℕ → Option (List ℕ) → Option (List ℕ) → ℕ → ℕ → Seen
seen_of steps left held reads_failed writes_failed =
    record { steps = steps; left = left; held = held; reads_failed = reads_failed; writes_failed = writes_failed }

-- a world beside it
abbrev pub with_world : World → Seen → Moment World
with_world w s = record {
  scene = scene w s.steps s.held;
  left = s.left;
  reads_failed = s.reads_failed;
  writes_failed = s.writes_failed;
}

-- A run from a world without a page ended so, and this is what it has done, and the world that it
-- left.
pub record EndedNew (words : List (List ℕ)) (before after : Seen) (status : Status) : Type 0 where
  pub world : World
  pub ended : Ended counting_meaning words (with_world Closed before) (with_world world after) status

-- However it ended, a prefix of what the definitions write for the bytes taken was written.
pub record WrotePrefixNew (before after : Seen) : Type 0 where
  pub script : List ℕ
  pub extra : List ℕ
  pub took : Took before.left after.left script extra
  pub written : AppendsPrefix before.held after.held (output_of Closed script)
