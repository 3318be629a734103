-- Blocks one after the other, and stacks of them.
use Rattle.std.proofs.Common.{◌≡◌, ◌+◌, ◌-◌, ◌<◌, ◌≤◌, ℕ, zero, suc, List, [], ◌∷◌, ◌++◌, length, take, drop, get_or, refl, sym, ap, ◌∙◌, subst, append_assoc, arith, length-append}
use Rattle.std.proofs.lemmas.List.{reverse-append, get_or_push, get_or_append_left, take_more, take-append-drop}
use Rattle.std.specs.Prelude.{slice_set}
use Rattle.std.specs.List.{All}
use Rattle.std.proofs.lemmas.List.Elements.{All-push}
use Rattle.std.proofs.lemmas.List.Concat.{flat_map-append}
use Rattle.ve_items.specs.Blocks.{joined, IsBlock, AreBlocks}
use Rattle.ve_items.specs.InBlock.{MayHave}
use Rattle.ve_items.specs.Stacked.{from_top, top}

pub append_nothing : {A : Type 0} (xs : List A) → xs ++ [] ≡ xs
append_nothing [] = refl
append_nothing (x ∷ xs) = ap (λ l. x ∷ l) (append_nothing xs)

pub joined_append : {A : Type 0} (prefix suffix : List (List A)) → joined (prefix ++ suffix) ≡ joined prefix ++ joined suffix
joined_append prefix suffix = flat_map-append (λ block. block) prefix suffix

pub joined_push : {A : Type 0} (blocks : List (List A)) (block : List A) → joined (blocks ++ block ∷ []) ≡ joined blocks ++ block
joined_push blocks block = joined_append blocks (block ∷ []) ∙ ap (λ l. joined blocks ++ l) (append_nothing block)

pub from_top_push : {A : Type 0} (blocks : List (List A)) (block : List A) → from_top (blocks ++ block ∷ []) ≡ block ++ from_top blocks
from_top_push blocks block = ap joined (reverse-append blocks (block ∷ []))

-- of the rule: without the top, with a longer top, with one more
pub blocks_below : {A : Type 0} (blocks : List (List A)) (top : List A) → AreBlocks (blocks ++ top ∷ []) → AreBlocks blocks
blocks_below [] top h = tt
blocks_below (a ∷ []) top h = (h.0, tt, tt)
blocks_below (a ∷ b ∷ blocks) top h = (h.0, h.1, blocks_below (b ∷ blocks) top h.2)

pub top_block : {A : Type 0} (blocks : List (List A)) (top : List A) → AreBlocks (blocks ++ top ∷ []) → IsBlock top
top_block [] top h = h.0
top_block (a ∷ blocks) top h = top_block blocks top h.2

pub blocks_grown : {A : Type 0} (blocks : List (List A)) (top more : List A) → AreBlocks (blocks ++ top ∷ []) → length top + length more ≤ 512 → AreBlocks (blocks ++ (top ++ more) ∷ [])
blocks_grown [] top more h k = let e = length-append top more in let size = h.0 in ((omega arith, omega arith), tt, tt)
blocks_grown (a ∷ []) top more h k = let e = length-append top more in let apart = h.1 in (h.0, omega arith, blocks_grown [] top more h.2 k)
blocks_grown (a ∷ b ∷ blocks) top more h k = (h.0, h.1, blocks_grown (b ∷ blocks) top more h.2 k)

pub blocks_pushed : {A : Type 0} (blocks : List (List A)) (top next : List A) → AreBlocks (blocks ++ top ∷ []) → IsBlock next → 512 < length top + length next → AreBlocks ((blocks ++ top ∷ []) ++ next ∷ [])
blocks_pushed [] top next h k apart = (h.0, apart, (k, tt, tt))
blocks_pushed (a ∷ []) top next h k apart = (h.0, h.1, blocks_pushed [] top next h.2 k apart)
blocks_pushed (a ∷ b ∷ blocks) top next h k apart = (h.0, h.1, blocks_pushed (b ∷ blocks) top next h.2 k apart)

-- the same, of stacks by equations
pub rule_grown : {A : Type 0} (old rest new : List (List A)) (last grown block : List A) → old ≡ rest ++ last ∷ [] → new ≡ rest ++ grown ∷ [] → grown ≡ last ++ block → AreBlocks old → length last + length block ≤ 512 → AreBlocks new
rule_grown old rest new last grown block was is all rule small =
    subst AreBlocks (sym (is ∙ ap (λ l. rest ++ l ∷ []) all)) (blocks_grown rest last block (subst AreBlocks was rule) small)

pub rule_pushed : {A : Type 0} (old rest suffix new : List (List A)) (last block : List A) → old ≡ rest ++ last ∷ [] → suffix ≡ rest ++ last ∷ [] → new ≡ suffix ++ block ∷ [] → AreBlocks old → IsBlock block → 512 < length last + length block → AreBlocks new
rule_pushed old rest suffix new last block was again is rule size large =
    subst AreBlocks (sym (is ∙ ap (λ l. l ++ block ∷ []) again)) (blocks_pushed rest last block (subst AreBlocks was rule) size large)

pub top_push : {A : Type 0} (blocks : List (List A)) (block : List A) → top (blocks ++ block ∷ []) ≡ block
top_push blocks block = let e = length-append blocks (block ∷ []) in get_or_push blocks block [] _ (omega arith)

-- a block moved from the top of one stack to the other
pub items_moved : {A : Type 0} (old rest other new : List (List A)) (block : List A) → old ≡ rest ++ block ∷ [] → new ≡ other ++ block ∷ [] → joined rest ++ from_top new ≡ joined old ++ from_top other
items_moved old rest other new block was is =
    ap (λ l. joined rest ++ from_top l) is
    ∙ ap (λ l. joined rest ++ l) (from_top_push other block)
    ∙ sym (append_assoc (joined rest) block (from_top other))
    ∙ ap (λ l. l ++ from_top other) (sym (joined_push rest block) ∙ ap joined (sym was))

pub rule_below : {A : Type 0} (old rest : List (List A)) (block : List A) → old ≡ rest ++ block ∷ [] → AreBlocks old → AreBlocks rest
rule_below old rest block was rule = blocks_below rest block (subst AreBlocks was rule)

pub rule_top : {A : Type 0} (old rest : List (List A)) (block : List A) → old ≡ rest ++ block ∷ [] → AreBlocks old → IsBlock block
rule_top old rest block was rule = top_block rest block (subst AreBlocks was rule)

pub joined_was : {A : Type 0} (old rest : List (List A)) (block : List A) → old ≡ rest ++ block ∷ [] → joined old ≡ joined rest ++ block
joined_was old rest block was = ap joined was ∙ joined_push rest block

pub from_top_was : {A : Type 0} (old rest : List (List A)) (block : List A) → old ≡ rest ++ block ∷ [] → from_top old ≡ block ++ from_top rest
from_top_was old rest block was = ap from_top was ∙ from_top_push rest block

pub top_was : {A : Type 0} (old rest : List (List A)) (block : List A) → old ≡ rest ++ block ∷ [] → top old ≡ block
top_was old rest block was = ap top was ∙ top_push rest block

pub sizes_pushed : {A : Type 0} (old new : List (List A)) (block : List A) → new ≡ old ++ block ∷ [] → All IsBlock old → IsBlock block → All IsBlock new
sizes_pushed old new block is each size = subst (All IsBlock) (sym is) (All-push IsBlock old block each size)

pub sizes_below : {A : Type 0} (old rest : List (List A)) (block : List A) → old ≡ rest ++ block ∷ [] → All IsBlock old → All IsBlock rest
sizes_below old rest block was each =
    let all = subst (All IsBlock) was each in
    λ k d lt.
    let more = length-append rest (block ∷ []) in
    subst IsBlock (get_or_append_left rest (block ∷ []) d k lt) (all k d (omega arith))

pub after_nothing : {A : Type 0} (prefix suffix : List A) → length suffix ≤ 0 → prefix ≡ prefix ++ suffix
after_nothing prefix [] none = sym (append_nothing prefix)
after_nothing prefix (x ∷ suffix) none = absurd (omega (arith, none))

-- a block put after the others from the top of the stack
pub items_put : {A : Type 0} (before new old rest : List (List A)) (block : List A) → old ≡ rest ++ block ∷ [] → joined new ≡ joined before ++ block → joined new ++ from_top rest ≡ joined before ++ from_top old
items_put before new old rest block was put =
    ap (λ l. l ++ from_top rest) put
    ∙ append_assoc (joined before) block (from_top rest)
    ∙ ap (λ l. joined before ++ l) (sym (from_top_was old rest block was))

pub length_both : {A : Type 0} (before old rest : List (List A)) (block : List A) → old ≡ rest ++ block ∷ [] → length (joined before ++ from_top old) ≡ length (joined before) + length block + length (from_top rest)
length_both before old rest block was =
    let e = length-append (joined before) (from_top old) in
    let f : length (from_top old) ≡ length block + length (from_top rest) = ap length (from_top_was old rest block was) ∙ length-append block (from_top rest) in
    omega arith

pub no_blocks : {A : Type 0} (blocks : List (List A)) → AreBlocks blocks → joined blocks ≡ [] → length blocks ≡ 0
no_blocks [] rule none = refl
no_blocks ([] ∷ blocks) rule none = let size = rule.0 in absurd (omega arith)
no_blocks ((x ∷ block) ∷ blocks) rule none = cc

-- one block more of a list
pub joined_next : {A : Type 0} (blocks : List (List A)) (k : ℕ) → k < length blocks → joined (take (k + 1) blocks) ≡ joined (take k blocks) ++ get_or blocks k []
joined_next blocks k lt = ap joined (take_more blocks k [] lt) ∙ joined_push (take k blocks) (get_or blocks k [])

-- the first blocks hold no more than all
pub joined_within : {A : Type 0} (blocks : List (List A)) (k : ℕ) → length (joined (take k blocks)) ≤ length (joined blocks)
joined_within blocks k =
    let parts : joined blocks ≡ joined (take k blocks) ++ joined (drop k blocks) = sym (ap joined (take-append-drop k blocks)) ∙ joined_append (take k blocks) (drop k blocks) in
    omega (arith, ap length parts, length-append (joined (take k blocks)) (joined (drop k blocks)))

-- each of the blocks keeps its size
pub rule_at : {A : Type 0} (blocks : List (List A)) (k : ℕ) → k < length blocks → AreBlocks blocks → IsBlock (get_or blocks k [])
rule_at [] k lt rule = absurd (omega (arith, lt))
rule_at (block ∷ blocks) zero lt rule = rule.0
rule_at (block ∷ blocks) (suc k) lt rule = rule_at blocks k (omega (arith, lt)) rule.2

-- what a block may have, without the first one
may_below : {A : Type 0} (a : List A) (blocks : List (List A)) (k size : ℕ) → MayHave (a ∷ blocks) (suc k) size → MayHave blocks k size
may_below a blocks k size may = record {
  some = may.some;
  small = may.small;
  apart_before = λ more.
      let goes : suc k - 1 ≡ suc (k - 1) = omega (arith, more) in
      subst (λ n. 512 < length (get_or (a ∷ blocks) n []) + size) goes (may.apart_before (omega arith));
  apart_after = λ more.
      let goes : suc k + 1 ≡ suc (k + 1) = omega arith in
      subst (λ n. 512 < size + length (get_or (a ∷ blocks) n [])) goes (may.apart_after (omega (arith, more)));
}

-- one block changes, and stays apart from its neighbours
pub rule_set : {A : Type 0} (blocks : List (List A)) (k : ℕ) (block : List A) → k < length blocks → MayHave blocks k (length block) → AreBlocks blocks →
    AreBlocks (slice_set blocks k block)
rule_set [] k block lt may rule = absurd (omega (arith, lt))
rule_set (a ∷ []) zero block lt may rule = ((may.some, may.small), tt, tt)
rule_set (a ∷ b ∷ blocks) zero block lt may rule = ((may.some, may.small), may.apart_after (omega arith), rule.2)
rule_set (a ∷ []) (suc k) block lt may rule = absurd (omega (arith, lt))
rule_set (a ∷ b ∷ blocks) (suc zero) block lt may rule =
    let before = may.apart_before (omega arith) in
    (rule.0, before, rule_set (b ∷ blocks) zero block (omega (arith, lt)) (may_below a (b ∷ blocks) zero (length block) may) rule.2)
rule_set (a ∷ b ∷ blocks) (suc (suc k)) block lt may rule =
    (rule.0, rule.1, rule_set (b ∷ blocks) (suc k) block (omega (arith, lt)) (may_below a (b ∷ blocks) (suc k) (length block) may) rule.2)
