use Rattle.std.proofs.Common.{◌≡◌, ◌≤◌, ◌<◌, ◌+◌, ◌-◌, ◌/◌, ℕ, suc, List, [], length, take, drop, get_or, sym, ap, ◌∙◌, subst, arith, length-take, length-drop}
use Rattle.std.proofs.lemmas.Option.{get_or_from_slice_get}
use Rattle.std.specs.Prelude.{slice_get, Some}
use Rattle.model_items.specs.declared.item.Item.{Item}
use Rattle.ve_items.specs.Blocks.{joined, AreBlocks}
use Rattle.ve_items.specs.InBlock.{MayPart}
use Rattle.ve_items.specs.Substitution.{spliced_block, parted}
use Rattle.ve_items.proofs.Parts.{IsPartedAt, get_first, get_second, first_is, second_is, joined_parted, in_first, in_second}
use Rattle.ve_items.proofs.edit.insert_in_half.Goals as goal

-- the half of the block that was looked at
half_is : (blocks : List (List Item)) (k : ℕ) (block : List Item) → slice_get blocks k ≡ Some block → length block / 2 ≡ length (get_or blocks k []) / 2
half_is blocks k block is = ap (λ b. length b / 2) (sym (get_or_from_slice_get blocks k block [] is))

-- how long the two are after the block was parted
record Halves (blocks parts : List (List Item)) (k half : ℕ) : Type 0 where
  first : length (get_or parts k []) ≡ half
  second : length (get_or parts (k + 1) []) ≡ length (get_or blocks k []) - half
  all : length (joined parts) ≡ length (joined blocks)

halves : (blocks parts : List (List Item)) (k half : ℕ) → parts ≡ parted blocks k half → k < length blocks → half ≤ length (get_or blocks k []) → Halves blocks parts k half
halves blocks parts k half is lt within =
    let b = get_or blocks k [] in
    let next : k + 1 ≡ suc k = omega arith in
    let taken = length-take half b in
    record {
      first = ap (λ l. length (get_or l k [])) is ∙ ap length (get_first blocks k (take half b) (drop half b) [] lt) ∙ omega (arith, taken, within);
      second = ap (λ l. length (get_or l (k + 1) [])) is ∙ ap (λ i. length (get_or (parted blocks k half) i [])) next ∙ ap length (get_second blocks k (take half b) (drop half b) [] lt) ∙ length-drop half b;
      all = ap (λ l. length (joined l)) is ∙ ap length (joined_parted blocks k half lt);
    }

-- what was put into the first, and into the second
first_filled : (blocks parts new : List (List Item)) (at k offset half : ℕ) (items : List Item) → MayPart blocks at (length items) k offset → half ≡ length (get_or blocks k []) / 2 →
    offset ≤ half → AreBlocks blocks → parts ≡ parted blocks k half → new ≡ spliced_block parts k offset 0 items → IsPartedAt blocks new at items
first_filled blocks parts new at k offset half items may is le rule parted_is new_is =
    let b = get_or blocks k [] in
    subst (λ l. IsPartedAt blocks l at items)
    (sym (new_is ∙ ap (λ l. spliced_block l k offset 0 items) parted_is ∙ first_is blocks k (take half b) (drop half b) offset items may.among))
    (in_first blocks at k offset half items may is le rule)

second_filled : (blocks parts new : List (List Item)) (at k offset half : ℕ) (items : List Item) → MayPart blocks at (length items) k offset → half ≡ length (get_or blocks k []) / 2 →
    half < offset → AreBlocks blocks → parts ≡ parted blocks k half → new ≡ spliced_block parts (k + 1) (offset - half) 0 items → IsPartedAt blocks new at items
second_filled blocks parts new at k offset half items may is lt rule parted_is new_is =
    let b = get_or blocks k [] in
    let next : k + 1 ≡ suc k = omega arith in
    subst (λ l. IsPartedAt blocks l at items)
    (sym (new_is ∙ ap (λ l. spliced_block l (k + 1) (offset - half) 0 items) parted_is ∙ ap (λ i. spliced_block (parted blocks k half) i (offset - half) 0 items) next
    ∙ second_is blocks k (take half b) (drop half b) (offset - half) items may.among))
    (in_second blocks at k offset half items may is lt rule)

pub part-requires-clause-small : goal.part-requires-clause-small
part-requires-clause-small c = c.requires.place.small

pub splice-requires-clause-within : goal.splice-requires-clause-within
splice-requires-clause-within c =
    let is = half_is c.args.before.now.blocks c.args.k c.block.result.now c.block.ensures in
    let h = halves c.args.before.now.blocks c.part.new.self.blocks c.args.k (length c.block.result.now / 2) c.part.ensures.blocks c.requires.place.among (omega (arith, is)) in
    omega (arith, h.first, c.if-offset-half.true)

pub splice-requires-clause-small : goal.splice-requires-clause-small
splice-requires-clause-small c =
    let is = half_is c.args.before.now.blocks c.args.k c.block.result.now c.block.ensures in
    let h = halves c.args.before.now.blocks c.part.new.self.blocks c.args.k (length c.block.result.now / 2) c.part.ensures.blocks c.requires.place.among (omega (arith, is)) in
    let may = c.requires.place.in_first (omega (arith, is, c.if-offset-half.true)) in
    omega (arith, h.first, is, may.small_first)

pub splice-requires-clause-fits : goal.splice-requires-clause-fits
splice-requires-clause-fits c =
    let is = half_is c.args.before.now.blocks c.args.k c.block.result.now c.block.ensures in
    let h = halves c.args.before.now.blocks c.part.new.self.blocks c.args.k (length c.block.result.now / 2) c.part.ensures.blocks c.requires.place.among (omega (arith, is)) in
    omega (arith, h.all, c.requires.fits)

pub splice-requires-else-offset-half-clause-within : goal.splice-requires-else-offset-half-clause-within
splice-requires-else-offset-half-clause-within c =
    let is = half_is c.args.before.now.blocks c.args.k c.block.result.now c.block.ensures in
    let h = halves c.args.before.now.blocks c.part.new.self.blocks c.args.k (length c.block.result.now / 2) c.part.ensures.blocks c.requires.place.among (omega (arith, is)) in
    omega (arith, h.second, c.requires.place.inside, c.if-offset-half.false)

pub splice-requires-else-offset-half-clause-small : goal.splice-requires-else-offset-half-clause-small
splice-requires-else-offset-half-clause-small c =
    let is = half_is c.args.before.now.blocks c.args.k c.block.result.now c.block.ensures in
    let h = halves c.args.before.now.blocks c.part.new.self.blocks c.args.k (length c.block.result.now / 2) c.part.ensures.blocks c.requires.place.among (omega (arith, is)) in
    let may = c.requires.place.in_second (omega (arith, is, c.if-offset-half.false)) in
    omega (arith, h.second, is, may.small_second)

pub splice-requires-else-offset-half-clause-fits : goal.splice-requires-else-offset-half-clause-fits
splice-requires-else-offset-half-clause-fits c =
    let is = half_is c.args.before.now.blocks c.args.k c.block.result.now c.block.ensures in
    let h = halves c.args.before.now.blocks c.part.new.self.blocks c.args.k (length c.block.result.now / 2) c.part.ensures.blocks c.requires.place.among (omega (arith, is)) in
    omega (arith, h.all, c.requires.fits)

pub returns-then-offset-half-clause-rule : goal.returns-then-offset-half-clause-rule
returns-then-offset-half-clause-rule c =
    (first_filled c.args.before.now.blocks c.part.new.self.blocks c.splice.new.self.blocks c.args.at c.args.k c.args.offset (length c.block.result.now / 2) c.args.items.now c.requires.place
    (half_is c.args.before.now.blocks c.args.k c.block.result.now c.block.ensures) c.if-offset-half.true c.requires.rule c.part.ensures.blocks c.splice.ensures.blocks).rule

pub returns-then-offset-half-clause-items : goal.returns-then-offset-half-clause-items
returns-then-offset-half-clause-items c =
    (first_filled c.args.before.now.blocks c.part.new.self.blocks c.splice.new.self.blocks c.args.at c.args.k c.args.offset (length c.block.result.now / 2) c.args.items.now c.requires.place
    (half_is c.args.before.now.blocks c.args.k c.block.result.now c.block.ensures) c.if-offset-half.true c.requires.rule c.part.ensures.blocks c.splice.ensures.blocks).joined_is

pub returns-then-offset-half-clause-count : goal.returns-then-offset-half-clause-count
returns-then-offset-half-clause-count c =
    (first_filled c.args.before.now.blocks c.part.new.self.blocks c.splice.new.self.blocks c.args.at c.args.k c.args.offset (length c.block.result.now / 2) c.args.items.now c.requires.place
    (half_is c.args.before.now.blocks c.args.k c.block.result.now c.block.ensures) c.if-offset-half.true c.requires.rule c.part.ensures.blocks c.splice.ensures.blocks).count

pub returns-else-offset-half-clause-rule : goal.returns-else-offset-half-clause-rule
returns-else-offset-half-clause-rule c =
    (second_filled c.args.before.now.blocks c.part.new.self.blocks c.splice-else-offset-half.new.self.blocks c.args.at c.args.k c.args.offset (length c.block.result.now / 2) c.args.items.now c.requires.place
    (half_is c.args.before.now.blocks c.args.k c.block.result.now c.block.ensures) c.if-offset-half.false c.requires.rule c.part.ensures.blocks c.splice-else-offset-half.ensures.blocks).rule

pub returns-else-offset-half-clause-items : goal.returns-else-offset-half-clause-items
returns-else-offset-half-clause-items c =
    (second_filled c.args.before.now.blocks c.part.new.self.blocks c.splice-else-offset-half.new.self.blocks c.args.at c.args.k c.args.offset (length c.block.result.now / 2) c.args.items.now c.requires.place
    (half_is c.args.before.now.blocks c.args.k c.block.result.now c.block.ensures) c.if-offset-half.false c.requires.rule c.part.ensures.blocks c.splice-else-offset-half.ensures.blocks).joined_is

pub returns-else-offset-half-clause-count : goal.returns-else-offset-half-clause-count
returns-else-offset-half-clause-count c =
    (second_filled c.args.before.now.blocks c.part.new.self.blocks c.splice-else-offset-half.new.self.blocks c.args.at c.args.k c.args.offset (length c.block.result.now / 2) c.args.items.now c.requires.place
    (half_is c.args.before.now.blocks c.args.k c.block.result.now c.block.ensures) c.if-offset-half.false c.requires.rule c.part.ensures.blocks c.splice-else-offset-half.ensures.blocks).count
