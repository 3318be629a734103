-- The code's reader at the start of a transaction's changes.
use Rattle.std.proofs.Common.{◌≡◌, ◌≤◌, ◌+◌, ◌-◌, true, false, Result, Ok, Err, List, [], ◌∷◌, ◌++◌, length, map, take, drop, refl, sym, ap, ◌∙◌, subst, arith}
use Rattle.std.specs.Prelude.{OnOk, OnErr}
use Rattle.std.specs.Result.{is_err}
use Rattle.std.proofs.lemmas.Bool.{true≢false}
use Rattle.std.proofs.lemmas.List.{length-map}
use Rattle.model_items.specs.declared.item.Item.{Item}
use Rattle.model_items.specs.Plain.{plain}
use Rattle.ve_arena.specs.declared.node.NodeId.{NodeId}
use Rattle.ve_tree.specs.IsTree.{IsTree, unvalued}
use Rattle.ve_tx.specs.declared.op.Op.{Op}
use Rattle.ve_tx.specs.Checked.{old_size}
use Rattle.ve_tx.specs.Operation.{Operation, bare, IsNormal}
use Rattle.ve_repair.specs.declared.range.ChangedRange.{ChangedRange}
use Rattle.ve_repair.specs.declared.script.How.TheVariants.{Put}
use Rattle.ve_repair.specs.declared.script.Step.{Step}
use Rattle.ve_repair.specs.declared.start.Start.{Start}
use Rattle.ve_repair.specs.Assembly.{MayRead}
use Rattle.ve_repair.specs.Change.{CanApply, LawfulAfter}
use Rattle.ve_repair.specs.Courses.{Course, HasRead, AreReadOut, with_stays}
use Rattle.ve_repair.specs.Cursors.{items_in}
use Rattle.ve_repair.specs.Frees.{nodes_of}
use Rattle.ve_repair.specs.Partly.{IsPartOut}
use Rattle.ve_repair.specs.Plan.{Stacks}
use Rattle.ve_repair.specs.Range.{IsChangedRange}
use Rattle.ve_repair.specs.Reader.{Slots, Reading, HasMade, MakesOn}
use Rattle.ve_repair.specs.Scene.{Scene, IsReadPiece, first_course}
use Rattle.ve_repair.specs.Sizing.{Sizing}
use Rattle.ve_repair.specs.Start.{StartsRange}
use Rattle.ve_repair.proofs.ChangeLemmas.{old_is}
use Rattle.ve_repair.proofs.MakeLemmas.{made_none}
use Rattle.ve_repair.proofs.OpsLemmas.{old_size-append}
use Rattle.ve_repair.proofs.RangeLemmas.{taken_is}
use Rattle.ve_repair.proofs.SceneLemmas.{place, changed, first, may_read, first_read, first_enough, read_piece}

pub scene_of : (old : Slots) (root : NodeId) (items : List Item) (tx : List Operation) (r : ChangedRange) (start : Start) (s : Stacks) (z : Sizing) →
    IsTree old root (unvalued items) → CanApply tx items → LawfulAfter tx items → IsNormal tx → IsChangedRange (map bare tx) r → StartsRange old root r.from start s z → Scene old root items tx r start s z
scene_of old root items tx r start s z tree applies lawful normal range starts = record {
  tree = tree;
  applies = applies;
  lawful = lawful;
  normal = normal;
  range = range;
  starts =
      let total = old_is tx items (map bare tx) refl applies in
      let parts = ap old_size range.parts ∙ old_size-append range.before (range.changed ++ range.after) in
      let taken = taken_is range.before in
      let long = length-map items (plain []) in
      starts (unvalued items) tree (omega (arith, total, parts, taken, long, range.from_is));
}

-- the operations that change anything
drop-all : (xs ys : List Op) → drop (length xs) (xs ++ ys) ≡ ys
drop-all [] ys = refl
drop-all (x ∷ xs) ys = drop-all xs ys

take-all : (xs ys : List Op) → take (length xs) (xs ++ ys) ≡ xs
take-all [] ys = refl
take-all (x ∷ xs) ys = ap (λ l. x ∷ l) (take-all xs ys)

slice_is : (all ops : List Op) (r : ChangedRange) → ops ≡ all → (f : IsChangedRange all r) → take (r.last - r.first) (drop r.first ops) ≡ f.changed
slice_is all ops r e f =
    let count : r.last - r.first ≡ length f.changed = omega (arith, f.first_is, f.last_is) in
    (λ i. take (count i) (drop (f.first_is i) ((e ∙ f.parts) i)))
    ∙ ap (take (length f.changed)) (drop-all f.before (f.changed ++ f.after)) ∙ take-all f.changed f.after

-- an answer that is no refusal, and one that is
pub of_ok : {A E : Type 0} (r : Result A E) (P : Type 0) → is_err r ≡ false → OnOk r P → P
of_ok (Ok a) P e p = p
of_ok (Err e) P h p = absurd (true≢false h)

pub of_err : {A E : Type 0} (r : Result A E) (P : Type 0) → is_err r ≡ true → OnErr r P → P
of_err (Ok a) P e p = absurd (true≢false (sym e))
of_err (Err e) P h p = p

module _ (old : Slots) (root : NodeId) (items : List Item) (tx : List Operation) (r : ChangedRange) (start : Start) (s : Stacks) (z : Sizing) (scene : Scene old root items tx r start s z) where
  slice_changed : (ops : List Op) → ops ≡ map bare tx → take (r.last - r.first) (drop r.first ops) ≡ changed old root items tx r start s z scene
  slice_changed ops e = slice_is (map bare tx) ops r e scene.range

  pub may_read_slice : (r0 : Reading) (ops : List Op) → r0 ≡ first old root items tx r start s z scene → ops ≡ map bare tx → MayRead old r0 (r.from - start.place) (take (r.last - r.first) (drop r.first ops))
  may_read_slice r0 ops er eo =
      subst (λ l. MayRead old r0 (r.from - start.place) l) (sym (slice_changed ops eo))
      (subst (λ (x : Reading). MayRead old x (r.from - start.place) (changed old root items tx r start s z scene)) (sym er) (may_read old root items tx r start s z scene))

  pub made_first : (mid : Slots) (r0 r1 : Reading) → r0 ≡ first old root items tx r start s z scene → MakesOn old r0.script mid r1.script → HasMade old mid (nodes_of Put r1.script)
  made_first mid r0 r1 e makes = makes old (subst (λ (x : Reading). HasMade old old (nodes_of Put x.script)) (sym e) (made_none old))

  abbrev pub course : Course
  course = first_course root.0 (place old root items tx r start s z scene)

  -- what is promised of every course holds of the first one
  of_first : (P : List Op → Course → Type 0) (r0 : Reading) (ops : List Op) → r0 ≡ first old root items tx r start s z scene → ops ≡ map bare tx →
      ((c : Course) → HasRead c old r0 → (r.from - start.place) + old_size (take (r.last - r.first) (drop r.first ops)) ≤ items_in c.spot.rest → P (take (r.last - r.first) (drop r.first ops)) c) →
      P (changed old root items tx r start s z scene) course
  of_first P r0 ops er eo h =
      subst (λ l. P l course) (slice_changed ops eo)
      (h course
      (subst (HasRead course old) (sym er) (first_read old root items tx r start s z scene))
      (subst (λ l. (r.from - start.place) + old_size l ≤ items_in course.spot.rest) (sym (slice_changed ops eo)) (first_enough old root items tx r start s z scene)))

  pub piece_of_slice : (mid : Slots) (r0 r1 : Reading) (ops : List Op) → r0 ≡ first old root items tx r start s z scene → ops ≡ map bare tx →
      ((c : Course) → HasRead c old r0 → (r.from - start.place) + old_size (take (r.last - r.first) (drop r.first ops)) ≤ items_in c.spot.rest →
      AreReadOut (take (r.last - r.first) (drop r.first ops)) (with_stays (r.from - start.place) c) mid r1) →
      IsReadPiece scene.tree.named root.0 (map bare tx) (changed old root items tx r start s z scene) (place old root items tx r start s z scene) mid r1
  piece_of_slice mid r0 r1 ops er eo reads =
      read_piece old root items tx r start s z scene mid r1
      (of_first (λ l c. AreReadOut l (with_stays (r.from - start.place) c) mid r1) r0 ops er eo reads)

  pub part_of_slice : (r0 : Reading) (xs : List Step) (ops : List Op) → r0 ≡ first old root items tx r start s z scene → ops ≡ map bare tx →
      ((c : Course) → HasRead c old r0 → (r.from - start.place) + old_size (take (r.last - r.first) (drop r.first ops)) ≤ items_in c.spot.rest →
      IsPartOut (take (r.last - r.first) (drop r.first ops)) (with_stays (r.from - start.place) c) xs) →
      IsPartOut (changed old root items tx r start s z scene) (with_stays (r.from - start.place) course) xs
  part_of_slice r0 xs ops er eo part = of_first (λ l c. IsPartOut l (with_stays (r.from - start.place) c) xs) r0 ops er eo part

pub on_err : {A E : Type 0} (r : Result A E) (P : Type 0) → P → OnErr r P
on_err (Ok a) P p = tt
on_err (Err e) P p = p
