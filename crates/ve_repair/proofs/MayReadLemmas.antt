-- A reader that goes on by items that stay, and then by operations.
use Rattle.std.proofs.Common.{◌≤◌, ◌+◌, ℕ, Result, Ok, Err, List, arith}
use Rattle.std.specs.Prelude.{OnOk}
use Rattle.ve_tx.specs.declared.op.Op.{Op}
use Rattle.ve_tx.specs.Checked.{old_size}
use Rattle.ve_repair.specs.Cursors.{past, items_in}
use Rattle.ve_repair.specs.Reader.{Slots, Reading}
use Rattle.ve_repair.specs.Courses.{Course, HasRead, IsReading, AreReadOut, with_stays, come_size}
use Rattle.ve_repair.specs.Assembly.{MayRead}
use Rattle.ve_repair.proofs.PassedLemmas.{past_few}

-- where so many items stayed, the operations may be read
pub reads_ops : (old mid : Slots) (r r1 : Reading) (front : ℕ) (ops : List Op) (m : MayRead old r front ops) → HasRead (with_stays front m.course) mid r1 → IsReading mid r1 (old_size ops) (come_size ops)
reads_ops old mid r r1 front ops m h = record {
  course = with_stays front m.course;
  read = h;
  enough = let few = past_few front m.course.spot in omega (arith, few, m.enough);
  room = let own = m.room in omega (arith, own);
}

pub front_enough : (c : Course) (front : ℕ) (ops : List Op) → front + old_size ops ≤ items_in c.spot.rest → front ≤ items_in c.spot.rest
front_enough c front ops h = omega (arith, h)

pub ops_enough : (c : Course) (front : ℕ) (ops : List Op) → front + old_size ops ≤ items_in c.spot.rest → old_size ops ≤ items_in (past front c.spot).rest
ops_enough c front ops h = let few = past_few front c.spot in omega (arith, few, h)

pub all_read : {E : Type 0} (r : Result (Unit {0}) E) (old mid new : Slots) (r0 r1 r2 : Reading) (front : ℕ) (ops : List Op) →
    ((c : Course) → HasRead c old r0 → front ≤ items_in c.spot.rest → HasRead (with_stays front c) mid r1) →
    OnOk r ((c : Course) → HasRead c mid r1 → old_size ops ≤ items_in c.spot.rest → AreReadOut ops c new r2) →
    OnOk r ((c : Course) → HasRead c old r0 → front + old_size ops ≤ items_in c.spot.rest → AreReadOut ops (with_stays front c) new r2)
all_read (Ok u) old mid new r0 r1 r2 front ops retained read = λ c h enough.
    read (with_stays front c) (retained c h (front_enough c front ops enough)) (ops_enough c front ops enough)
all_read (Err e) old mid new r0 r1 r2 front ops retained read = tt
