-- The acts of operations on each item: counts, and operations that keep all items.
use Rattle.std.proofs.Common.{◌≡◌, ◌≤◌, ◌+◌, ℕ, zero, suc, List, [], ◌∷◌, ◌++◌, length, replicate, refl, sym, ap, ◌∙◌, arith, append-nil, append_assoc}
use Rattle.model_items.specs.declared.item.Item.{Item}
use Rattle.model_items.specs.declared.item.Item.TheVariants as item
use Rattle.ve_tx.specs.declared.op.Op.{Op}
use Rattle.ve_tx.specs.declared.op.Op.TheVariants as op
use Rattle.ve_tx.specs.Checked.{old_size}
use Rattle.ve_tx.specs.Normal.{total_size}
use Rattle.ve_repair.specs.Acts.{Act, Stay, Go, ComeLetter, ComeBegin, ComeEnd, Use, come, rest_of, acts_of}
use Rattle.ve_repair.specs.Courses.{old_count, all_openings, come_size}
use Rattle.ve_repair.specs.Cursors.{items_in}
use Rattle.ve_repair.specs.Moved.{all_acts}
use Rattle.ve_repair.specs.Range.{KeepItems, all_taken, all_given}
use Rattle.ve_repair.specs.Scene.{piece_acts}
use Rattle.ve_repair.specs.Sizes.{place_after}
use Rattle.ve_repair.specs.Spelled.{Sign, BeginOf, LettersOf, EndOf}
use Rattle.ve_repair.proofs.CourseLemmas.{old_count-append, old_count-stay, old_count-go}
use Rattle.ve_repair.proofs.OpsLemmas.{acts_of-append}
use Rattle.ve_repair.proofs.PassedLemmas.{replicate-add}
use Rattle.ve_repair.proofs.RangeLemmas.{given_in_total}

-- items that come are none of the old list
come_count : (items : List Item) (ns : List ℕ) → old_count (come items ns) ≡ 0
come_count [] ns = refl
come_count (item.Char ch marks ∷ items) ns = come_count items ns
come_count (item.Opening kind generated head marks pre origin ∷ items) [] = come_count items []
come_count (item.Opening kind generated head marks pre origin ∷ items) (n ∷ ns) = come_count items ns
come_count (item.Closing kind pre ∷ items) ns = come_count items ns

pub ops_count : (ops : List Op) (ns : List ℕ) → old_count (acts_of ops ns) ≡ old_size ops
ops_count [] ns = refl
ops_count (op.Retain count ∷ ops) ns =
    let a = old_count-append (replicate count Stay) (acts_of ops ns) in
    let b = old_count-stay count in
    let r = ops_count ops ns in
    omega (arith, a, b, r)
ops_count (op.Replace removed inserted ∷ ops) ns =
    let a = old_count-append (replicate (length removed) Go) (come inserted ns ++ acts_of ops (rest_of inserted ns)) in
    let b = old_count-go (length removed) in
    let c = old_count-append (come inserted ns) (acts_of ops (rest_of inserted ns)) in
    let d = come_count inserted ns in
    let r = ops_count ops (rest_of inserted ns) in
    omega (arith, a, b, c, d, r)
ops_count (op.Attribute name from to ∷ ops) ns = ops_count ops ns

pub piece_count : (front : ℕ) (ops : List Op) (ns : List ℕ) (tail : ℕ) → old_count (piece_acts front ops ns tail) ≡ front + (old_size ops + tail)
piece_count front ops ns tail =
    let a = old_count-append (replicate front Stay) (acts_of ops ns ++ replicate tail Stay) in
    let b = old_count-stay front in
    let c = old_count-append (acts_of ops ns) (replicate tail Stay) in
    let d = ops_count ops ns in
    let e = old_count-stay tail in
    omega (arith, a, b, c, d, e)

-- acts that are of signs are of as many items
pub use_count : (acts : List Act) (ss : List Sign) → Use acts ss → old_count acts ≡ items_in ss
use_count [] [] u = refl
use_count [] (s ∷ ss) u = absurd u
use_count (ComeLetter ∷ acts) ss u = use_count acts ss u
use_count (ComeBegin n kind ∷ acts) ss u = use_count acts ss u
use_count (ComeEnd kind ∷ acts) ss u = use_count acts ss u
use_count (Stay ∷ acts) [] u = absurd u
use_count (Stay ∷ acts) (BeginOf n kind ∷ ss) u = ap suc (use_count acts ss u)
use_count (Stay ∷ acts) (EndOf kind ∷ ss) u = ap suc (use_count acts ss u)
use_count (Stay ∷ acts) (LettersOf n zero ∷ ss) u = absurd u
use_count (Stay ∷ acts) (LettersOf n (suc zero) ∷ ss) u = let r = use_count acts ss u in omega (arith, r)
use_count (Stay ∷ acts) (LettersOf n (suc (suc count)) ∷ ss) u = let r = use_count acts (LettersOf n (suc count) ∷ ss) u in omega (arith, r)
use_count (Go ∷ acts) [] u = absurd u
use_count (Go ∷ acts) (BeginOf n kind ∷ ss) u = ap suc (use_count acts ss u)
use_count (Go ∷ acts) (EndOf kind ∷ ss) u = ap suc (use_count acts ss u)
use_count (Go ∷ acts) (LettersOf n zero ∷ ss) u = absurd u
use_count (Go ∷ acts) (LettersOf n (suc zero) ∷ ss) u = let r = use_count acts ss u in omega (arith, r)
use_count (Go ∷ acts) (LettersOf n (suc (suc count)) ∷ ss) u = let r = use_count acts (LettersOf n (suc count) ∷ ss) u in omega (arith, r)

-- items that come are among those that are given
come_given : (ops : List Op) → come_size ops ≤ all_given ops
come_given [] = omega arith
come_given (op.Retain count ∷ ops) = let r = come_given ops in omega (arith, r)
come_given (op.Replace removed inserted ∷ ops) = let r = come_given ops in omega (arith, r)
come_given (op.Attribute name from to ∷ ops) = let r = come_given ops in omega (arith, r)

pub come_in_total : (ops : List Op) → come_size ops ≤ total_size ops
come_in_total ops = let a = come_given ops in let b = given_in_total ops in omega (arith, a, b)

-- operations without a replace
keep_openings : (ops : List Op) → KeepItems ops → all_openings ops ≡ 0
keep_openings [] k = refl
keep_openings (op.Retain count ∷ ops) k = keep_openings ops k
keep_openings (op.Replace removed inserted ∷ ops) k = absurd k
keep_openings (op.Attribute name from to ∷ ops) k = keep_openings ops k

keep_acts : (ops : List Op) → KeepItems ops → acts_of ops [] ≡ replicate (all_taken ops) Stay
keep_acts [] k = refl
keep_acts (op.Retain count ∷ ops) k = ap (λ l. replicate count Stay ++ l) (keep_acts ops k) ∙ replicate-add Stay count (all_taken ops)
keep_acts (op.Replace removed inserted ∷ ops) k = absurd k
keep_acts (op.Attribute name from to ∷ ops) k = keep_acts ops k ∙ (let e : all_taken ops ≡ 0 + all_taken ops = omega arith in ap (λ n. replicate n Stay) e)

-- operations with some before them and behind them that keep all items
pub acts_between : (all before changed after : List Op) (ns : List ℕ) → all ≡ before ++ (changed ++ after) → KeepItems before → KeepItems after → length ns ≡ all_openings changed →
    acts_of all ns ≡ replicate (all_taken before) Stay ++ (acts_of changed ns ++ replicate (all_taken after) Stay)
acts_between all before changed after ns e kb ka counted =
    ap (λ l. acts_of l ns) e
    ∙ acts_of-append before (changed ++ after) [] ns (sym (keep_openings before kb))
    ∙ (λ i. keep_acts before kb i ++ acts_of (changed ++ after) (sym (append-nil ns) i))
    ∙ ap (λ l. replicate (all_taken before) Stay ++ l) (acts_of-append changed after ns [] counted ∙ ap (λ l. acts_of changed ns ++ l) (keep_acts after ka))

pub all_between : (lefts rights : List Sign) (acts : List Act) (front tail before after : ℕ) → before ≡ place_after lefts 0 + front → after ≡ tail + place_after rights 0 →
    replicate before Stay ++ (acts ++ replicate after Stay) ≡ all_acts lefts (replicate front Stay ++ (acts ++ replicate tail Stay)) rights
all_between lefts rights acts front tail before after eb ea =
    (λ i. stays (eb i) ++ (acts ++ stays (ea i)))
    ∙ (λ i. sym (replicate-add Stay (place_after lefts 0) front) i ++ (acts ++ sym (replicate-add Stay tail (place_after rights 0)) i))
    ∙ append_assoc (stays (place_after lefts 0)) (stays front) (acts ++ (stays tail ++ stays (place_after rights 0)))
    ∙ ap (λ l. stays (place_after lefts 0) ++ (stays front ++ l)) (sym (append_assoc acts (stays tail) (stays (place_after rights 0))))
    ∙ ap (λ l. stays (place_after lefts 0) ++ l) (sym (append_assoc (stays front) (acts ++ stays tail) (stays (place_after rights 0))))
  where
    stays : ℕ → List Act
    stays n = replicate n Stay
