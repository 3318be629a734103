-- How much room is kept, as splices follow one another.
use Rattle.std.proofs.Common.{◌≡◌, ◌+◌, ◌-◌, ◌*◌, ◌<◌, ◌≤◌, ◌^◌, inl, inr, ℕ, List, [], ◌∷◌, length, get_or, refl, sym, ap, ◌∙◌, subst, arith, length-append}
use Rattle.std.specs.Prelude.{slice_set}
use Rattle.std.proofs.lemmas.List.{length-set}
use Rattle.model_items.specs.declared.item.Item.{Item}
use Rattle.std.proofs.lemmas.Bool.{cases_lt}
use Rattle.ve_items.specs.Blocks.{joined, AreBlocks}
use Rattle.ve_items.specs.InBlock.{MayHave, MayChange}
use Rattle.ve_items.specs.Room.{IsReady, CanTake}
use Rattle.ve_items.specs.Stacked.{Pile}
use Rattle.ve_items.specs.Substitution.{spliced}
use Rattle.ve_items.proofs.Blocks.{rule_set}
use Rattle.ve_items.proofs.Pieces.{block_is_spliced, length_spliced}

-- two neighbours hold more than 512, so there is a block for each 256 items at most, and one more
pub few_blocks : {A : Type 0} (blocks : List (List A)) → AreBlocks blocks → 256 * length blocks ≤ length (joined blocks) + 256
few_blocks [] rule = omega arith
few_blocks (a ∷ []) rule = omega arith
few_blocks (a ∷ b ∷ blocks) rule =
    let apart = rule.1 in
    let rest = few_blocks blocks rule.2.2 in
    let first = length-append a (joined (b ∷ blocks)) in
    let second = length-append b (joined blocks) in
    omega (arith, apart, rest, first, second)

-- where so many items are spare, one splice of them has its room
pub can_take : (table aside : Pile) (pool capacity spare many : ℕ) → IsReady table aside pool capacity spare → many ≤ spare → CanTake table aside pool capacity many
can_take table aside pool capacity spare many r within =
    let few = few_blocks table.blocks r.rule in
    record {
      counted = omega (arith, r.counted, within);
      holds = r.holds;
      turns = r.turns;
      grows = λ some. let all = r.grows (omega (arith, some, within)) in omega (arith, all, few, within);
      goes = λ some. let all = r.goes (omega (arith, some, within)) in omega (arith, all, few, within);
      stocked = λ some. let all = r.stocked in omega (arith, all, few, within, some);
      kept = r.kept;
    }

-- what stays ready for the items that are still spare, after a splice
pub ready_after : (table aside old beside : Pile) (pool capacity had could spare left removed more : ℕ) → IsReady old beside had could spare →
    AreBlocks table.blocks → aside.blocks ≡ [] → table.room ≡ old.room → aside.room ≡ beside.room →
    length (joined table.blocks) + removed ≡ length (joined old.blocks) + more → length (joined old.blocks) + more < 2 ^ 64 → left ≡ spare - more →
    length table.blocks ≤ table.room → length table.blocks ≤ aside.room → (more ≤ spare → length table.blocks ≤ length old.blocks + 2 * more) →
    length table.blocks + pool ≡ length old.blocks + had → could ≤ capacity → IsReady table aside pool capacity left
ready_after table aside old beside pool capacity had could spare left removed more r rule closed wide broad items fits is holds turns count kept greater =
    record {
      rule = rule;
      closed = closed;
      counted = let all = r.counted in omega (arith, all, items, fits, is);
      holds = holds;
      turns = turns;
      grows = λ some. let all = r.grows (omega (arith, is, some)) in omega (arith, all, items, is, some, wide);
      goes = λ some. let all = r.goes (omega (arith, is, some)) in omega (arith, all, items, is, some, broad);
      stocked = elim (cases_lt more spare) [
        | inl less ↦ let all = r.stocked in let few = count (omega (arith, less)) in omega (arith, all, few, items, is, kept, less)
        | inr none ↦ omega (arith, is, none)
      ];
      kept = omega (arith, r.kept, kept, greater);
    }

-- a splice within one block is one of the list
pub in_place : (blocks : List (List Item)) (at removed k offset : ℕ) (items : List Item) → MayChange blocks at removed (length items) k offset →
    joined (slice_set blocks k (spliced (get_or blocks k []) offset removed items)) ≡ spliced (joined blocks) at removed items
in_place blocks at removed k offset items may =
    block_is_spliced blocks k offset removed items may.among may.inside ∙ ap (λ n. spliced (joined blocks) n removed items) may.place

-- the same after a splice within one block
pub ready_in_place : (table old aside : Pile) (pool capacity spare left at removed k offset : ℕ) (items : List Item) → IsReady old aside pool capacity spare →
    at + removed ≤ length (joined old.blocks) → MayChange old.blocks at removed (length items) k offset → length (joined old.blocks) + length items < 2 ^ 64 →
    table.blocks ≡ slice_set old.blocks k (spliced (get_or old.blocks k []) offset removed items) → table.room ≡ old.room → left ≡ spare - length items →
    IsReady table aside pool capacity left
ready_in_place table old aside pool capacity spare left at removed k offset items r within may fits is wide less =
    let block = spliced (get_or old.blocks k []) offset removed items in
    let size = length_spliced (get_or old.blocks k []) items offset removed may.inside in
    let same : length (get_or old.blocks k []) - removed + length items ≡ length block = omega (arith, size, may.inside) in
    let rule = rule_set old.blocks k block may.among (subst (λ n. MayHave old.blocks k n) same may.size) r.rule in
    let count : length table.blocks ≡ length old.blocks = ap length is ∙ length-set old.blocks k block in
    let change = length_spliced (joined old.blocks) items at removed within in
    let total : length (joined table.blocks) ≡ length (spliced (joined old.blocks) at removed items) =
    ap (λ l. length (joined l)) is ∙ ap length (in_place old.blocks at removed k offset items may) in
    ready_after table aside old aside pool capacity pool capacity spare left removed (length items) r (subst AreBlocks (sym is) rule) r.closed wide refl
    (omega (arith, total, change)) fits less (omega (arith, r.holds, count, wide)) (omega (arith, r.turns, count)) (λ _. omega (arith, count)) (omega (arith, count)) (omega arith)
