-- Pieces of a list put together, and a range taken out of a list's first block.
use Rattle.std.proofs.Common.{◌≡◌, ◌+◌, ◌-◌, ◌≤◌, ◌<◌, inl, inr, ℕ, zero, suc, List, [], ◌∷◌, ◌++◌, length, take, drop, get_or, min, sym, ap, ◌∙◌, append_assoc, take-append-drop, arith, length-append, length-drop, length-take}
use Rattle.std.proofs.lemmas.List.{take-append-le, drop-append-le, take_all}
use Rattle.std.proofs.lemmas.Bool.{cases_lt}
use Rattle.std.proofs.Math.Seq.{take-add, take-append-add, drop-append-add, drop-length}
use Rattle.std.specs.Prelude.{slice_set}
use Rattle.ve_items.specs.Blocks.{joined}
use Rattle.ve_items.specs.Substitution.{spliced}
use Rattle.ve_items.proofs.Blocks.{append_nothing}

-- a list up to `done`, and the piece after it up to `end`
pub items_filled : {A : Type 0} (initial before new cleared block items : List A) (done end : ℕ) → before ≡ initial ++ take done items → cleared ≡ [] → block ≡ cleared ++ take (end - done) (drop done items) → new ≡ before ++ block → done ≤ end → new ≡ initial ++ take end items
items_filled initial before new cleared block items done end h e b n le =
    let goes : done + (end - done) ≡ end = omega arith in
    n ∙ ap (λ l. before ++ l) (b ∙ ap (λ l. l ++ take (end - done) (drop done items)) e)
    ∙ ap (λ l. l ++ take (end - done) (drop done items)) h
    ∙ append_assoc initial (take done items) (take (end - done) (drop done items))
    ∙ ap (λ l. initial ++ l) (sym (take-add done (end - done) items) ∙ ap (λ n. take n items) goes)

-- a range that begins in a block and may run past it
pub block_cut : {A : Type 0} (block rest : List A) (offset left end more : ℕ) → end ≡ offset + min (length block - offset) left → more ≡ left - (end - offset) → offset ≤ length block → take offset (block ++ rest) ++ drop (offset + left) (block ++ rest) ≡ (take offset block ++ drop end block) ++ drop more rest
block_cut block rest offset left end more e m le =
    let prefix = take-append-le offset block rest le in
    elim (cases_lt (length block - offset) left) [
      | inl past ↦
          let at_end : end ≡ length block = omega arith in
          let goes : offset + left ≡ length block + more = omega arith in
          let none : drop end block ≡ [] = ap (λ n. drop n block) at_end ∙ drop-length block in
          ap (λ l. l ++ drop (offset + left) (block ++ rest)) prefix
          ∙ ap (λ n. take offset block ++ drop n (block ++ rest)) goes
          ∙ ap (λ l. take offset block ++ l) (drop-append-add block rest more)
          ∙ ap (λ l. l ++ drop more rest) (sym (append_nothing (take offset block)) ∙ ap (λ l. take offset block ++ l) (sym none))
      | inr within ↦
          let here : offset + left ≡ end = omega arith in
          let no_more : more ≡ 0 = omega arith in
          let inside : end ≤ length block = omega arith in
          ap (λ l. l ++ drop (offset + left) (block ++ rest)) prefix
          ∙ ap (λ n. take offset block ++ drop n (block ++ rest)) here
          ∙ ap (λ l. take offset block ++ l) (drop-append-le end block rest inside)
          ∙ sym (append_assoc (take offset block) (drop end block) rest)
          ∙ ap (λ n. (take offset block ++ drop end block) ++ drop n rest) (sym no_more)
    ]

-- one block's turn in taking a range out, where the block's rest goes to the prefix
pub range_cut : {A : Type 0} (start before new block rest kept : List A) (old : List A) (offset left end more : ℕ) → start ≡ before ++ (take offset old ++ drop (offset + left) old) → old ≡ block ++ rest → kept ≡ take offset block ++ drop end block → new ≡ before ++ kept → end ≡ offset + min (length block - offset) left → more ≡ left - (end - offset) → offset ≤ length block → new ++ (take 0 rest ++ drop (0 + more) rest) ≡ start
range_cut start before new block rest kept old offset left end more s o k n e m le =
    let zero : 0 + more ≡ more = omega arith in
    ap (λ n. new ++ drop n rest) zero
    ∙ ap (λ l. l ++ drop more rest) (n ∙ ap (λ l. before ++ l) k)
    ∙ append_assoc before (take offset block ++ drop end block) (drop more rest)
    ∙ ap (λ l. before ++ l) (sym (block_cut block rest offset left end more e m le))
    ∙ ap (λ l. before ++ (take offset l ++ drop (offset + left) l)) (sym o)
    ∙ sym s

-- where nothing is left to take out
pub range_gone : {A : Type 0} (items : List A) (offset left : ℕ) → left ≡ 0 → take offset items ++ drop (offset + left) items ≡ items
range_gone items offset left none =
    let same : offset + left ≡ offset = omega arith in
    ap (λ n. take offset items ++ drop n items) same ∙ take-append-drop offset items

pub cut_shorter : {A : Type 0} (block : List A) (from to : ℕ) → from ≤ to → length (take from block ++ drop to block) ≤ length block
cut_shorter block from to le = omega (arith, length-append (take from block) (drop to block), length-drop to block, length-take from block)

-- two parts of a list, by the length of the first
pub part_prefix : {A : Type 0} (list prefix suffix : List A) (offset at : ℕ) → prefix ++ suffix ≡ list → length prefix + offset ≡ at → prefix ++ take offset suffix ≡ take at list
part_prefix list prefix suffix offset at e n =
    sym (ap (λ l. take at l) (sym e) ∙ ap (λ k. take k (prefix ++ suffix)) (sym n) ∙ take-append-add prefix suffix offset)

pub part_back : {A : Type 0} (list prefix suffix : List A) (offset more at : ℕ) → prefix ++ suffix ≡ list → length prefix + offset ≡ at → drop (offset + more) suffix ≡ drop (at + more) list
part_back list prefix suffix offset more at e n =
    let goes : at + more ≡ length prefix + (offset + more) = omega arith in
    sym (ap (λ l. drop (at + more) l) (sym e) ∙ ap (λ k. drop k (prefix ++ suffix)) goes ∙ drop-append-add prefix suffix (offset + more))

pub part_rest : {A : Type 0} (list prefix suffix : List A) (offset at : ℕ) → prefix ++ suffix ≡ list → length prefix + offset ≡ at → drop offset suffix ≡ drop at list
part_rest list prefix suffix offset at e n =
    sym (ap (λ l. drop at l) (sym e) ∙ ap (λ k. drop k (prefix ++ suffix)) (sym n) ∙ drop-append-add prefix suffix offset)

-- a splice at the end appends
pub spliced_end : {A : Type 0} (list items : List A) (end : ℕ) → end ≡ length list → spliced list end 0 items ≡ list ++ items
spliced_end list items end e =
    let none : drop (end + 0) list ≡ [] = ap (λ n. drop n list) (omega arith) ∙ drop-length list in
    ap (λ l. take end list ++ items ++ l) none
    ∙ append_nothing (take end list ++ items)
    ∙ ap (λ l. l ++ items) (take_all end list (omega arith))

pub length_spliced : {A : Type 0} (list items : List A) (at removed : ℕ) → at + removed ≤ length list → length (spliced list at removed items) + removed ≡ length list + length items
length_spliced list items at removed within =
    let first = length-append (take at list ++ items) (drop (at + removed) list) in
    let second = length-append (take at list) items in
    omega (arith, within, first, second, length-take at list, length-drop (at + removed) list)

-- a splice before what follows, and after what stands before
pub spliced_before : {A : Type 0} (prefix suffix items : List A) (at removed : ℕ) → at + removed ≤ length prefix → spliced (prefix ++ suffix) at removed items ≡ spliced prefix at removed items ++ suffix
spliced_before prefix suffix items at removed within =
    ap (λ l. l ++ items ++ drop (at + removed) (prefix ++ suffix)) (take-append-le at prefix suffix (omega (arith, within)))
    ∙ ap (λ l. take at prefix ++ items ++ l) (drop-append-le (at + removed) prefix suffix within)
    ∙ sym (append_assoc (take at prefix ++ items) (drop (at + removed) prefix) suffix)

pub spliced_after : {A : Type 0} (prefix suffix items : List A) (at removed : ℕ) → spliced (prefix ++ suffix) (length prefix + at) removed items ≡ prefix ++ spliced suffix at removed items
spliced_after prefix suffix items at removed =
    let e : length prefix + at + removed ≡ length prefix + (at + removed) = omega arith in
    ap (λ l. l ++ items ++ drop (length prefix + at + removed) (prefix ++ suffix)) (take-append-add prefix suffix at)
    ∙ ap (λ n. (prefix ++ take at suffix) ++ items ++ drop n (prefix ++ suffix)) e
    ∙ ap (λ l. (prefix ++ take at suffix) ++ items ++ l) (drop-append-add prefix suffix (at + removed))
    ∙ ap (λ l. l ++ drop (at + removed) suffix) (append_assoc prefix (take at suffix) items)
    ∙ append_assoc prefix (take at suffix ++ items) (drop (at + removed) suffix)

-- a splice within one block is one of the list
pub block_is_spliced : {A : Type 0} (blocks : List (List A)) (k offset removed : ℕ) (items : List A) → k < length blocks → offset + removed ≤ length (get_or blocks k []) →
    joined (slice_set blocks k (spliced (get_or blocks k []) offset removed items)) ≡ spliced (joined blocks) (length (joined (take k blocks)) + offset) removed items
block_is_spliced [] k offset removed items lt within = absurd (omega (arith, lt))
block_is_spliced (a ∷ blocks) zero offset removed items lt within =
    let e : offset ≡ 0 + offset = omega arith in
    sym (spliced_before a (joined blocks) items offset removed within) ∙ ap (λ n. spliced (a ++ joined blocks) n removed items) e
block_is_spliced (a ∷ blocks) (suc k) offset removed items lt within =
    let before = joined (take k blocks) in
    let e : length a + (length before + offset) ≡ length (a ++ before) + offset = omega (arith, length-append a before) in
    ap (λ l. a ++ l) (block_is_spliced blocks k offset removed items (omega (arith, lt)) within)
    ∙ sym (spliced_after a (joined blocks) items (length before + offset) removed)
    ∙ ap (λ n. spliced (a ++ joined blocks) n removed items) e
