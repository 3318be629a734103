-- The findings of the code along a script, in words of its two sides.
use Rattle.std.proofs.Common.{◌≡◌, ℕ, suc, ◌+◌, ◌-◌, ◌≤◌, Option, List, [], ◌∷◌, ◌++◌, map, refl, sym, ap, ◌∙◌, subst, add-one, append_assoc, arith}
use Rattle.ve_arena.specs.declared.node.ArenaNode.{ArenaNode}
use Rattle.ve_tree.specs.Grown.{id_of}
use Rattle.ve_repair.specs.declared.write.Write.{Write}
use Rattle.ve_repair.specs.declared.script.How.TheVariants.{Keep, Cut, Put}
use Rattle.ve_repair.specs.declared.script.Step.{Step}
use Rattle.ve_repair.specs.declared.script.Step.TheVariants.{Enter, Leave, Text, Count}
use Rattle.ve_repair.specs.declared.sizes.OpenFrom.{OpenFrom}
use Rattle.ve_repair.specs.Spelled.{Sign}
use Rattle.ve_repair.specs.Sizes.{Sized, Begun, sizes, open_after, place_after}
use Rattle.ve_repair.specs.SizesRight.{closing_sizes}
use Rattle.ve_repair.specs.Agree.{steps_of}
use Rattle.ve_repair.specs.Sizing.{Sizing, len_under, open_from, sized_all, resize_of, sizes_writes, open_writes}
use Rattle.ve_repair.specs.Lengths.{begun_of, new_signs}
use Rattle.ve_repair.proofs.ScriptSignsLemmas.{old_signs, lens}

abbrev Slots : Type 0
Slots = List (Option ArenaNode)

-- the writes of lengths
abbrev pub resizes : List (Option ArenaNode) → List Sized → List Write
resizes slots [] = []
resizes slots (z ∷ zs) = resize_of slots (id_of z.node) z.len ++ resizes slots zs

abbrev pub sizing : List OpenFrom → List OpenFrom → ℕ → ℕ → Sizing
sizing os bs a b = record { old_open = os; new_open = bs; old_at = a; new_at = b }

-- where a script leads from there, and what it writes
abbrev pub Walked : List (Option ArenaNode) → List Step → Sizing → List Sign → List Sign → List Begun → List Begun → ℕ → ℕ → Type 0
Walked slots xs s passed made olds news a b =
    (map begun_of (sized_all slots xs s).old_open ≡ open_after passed olds a)
    × ((sized_all slots xs s).old_at ≡ place_after passed a)
    × (map begun_of (sized_all slots xs s).new_open ≡ open_after made news b)
    × ((sized_all slots xs s).new_at ≡ place_after made b)
    × (sizes_writes slots xs s ≡ resizes slots (sizes made news b))

-- by its sides, where the state is one and the positions are others
abbrev Leads : List (Option ArenaNode) → List Step → Sizing → List OpenFrom → List OpenFrom → ℕ → ℕ → Type 0
Leads slots xs s os bs a b = Walked slots xs s (old_signs (lens slots) (steps_of xs)) (new_signs (steps_of xs)) (map begun_of os) (map begun_of bs) a b

old_on : (slots : Slots) (xs : List Step) (os bs : List OpenFrom) (a b : ℕ) → Leads slots xs (sizing os bs (a + 1) b) os bs (a + 1) b → Leads slots xs (sizing os bs (a + 1) b) os bs (suc a) b
old_on slots xs os bs a b h = subst (λ m. Leads slots xs (sizing os bs (a + 1) b) os bs m b) (add-one a) h

new_on : (slots : Slots) (xs : List Step) (os bs : List OpenFrom) (a b : ℕ) → Leads slots xs (sizing os bs a (b + 1)) os bs a (b + 1) → Leads slots xs (sizing os bs a (b + 1)) os bs a (suc b)
new_on slots xs os bs a b h = subst (λ m. Leads slots xs (sizing os bs a (b + 1)) os bs a m) (add-one b) h

both_on : (slots : Slots) (xs : List Step) (os bs : List OpenFrom) (a b : ℕ) → Leads slots xs (sizing os bs (a + 1) (b + 1)) os bs (a + 1) (b + 1) →
    Leads slots xs (sizing os bs (a + 1) (b + 1)) os bs (suc a) (suc b)
both_on slots xs os bs a b h =
    subst (λ m. Leads slots xs (sizing os bs (a + 1) (b + 1)) os bs (suc a) m) (add-one b) (subst (λ m. Leads slots xs (sizing os bs (a + 1) (b + 1)) os bs m (b + 1)) (add-one a) h)

pub walked : (slots : Slots) (xs : List Step) (os bs : List OpenFrom) (a b : ℕ) →
    Walked slots xs (sizing os bs a b) (old_signs (lens slots) (steps_of xs)) (new_signs (steps_of xs)) (map begun_of os) (map begun_of bs) a b
walked slots [] os bs a b = (refl, refl, refl, refl, refl)
walked slots (Enter Keep n ∷ xs) os bs a b = both_on slots xs (open_from n a ∷ os) (open_from n b ∷ bs) a b (walked slots xs (open_from n a ∷ os) (open_from n b ∷ bs) (a + 1) (b + 1))
walked slots (Enter Cut n ∷ xs) os bs a b = old_on slots xs (open_from n a ∷ os) bs a b (walked slots xs (open_from n a ∷ os) bs (a + 1) b)
walked slots (Enter Put n ∷ xs) os bs a b = new_on slots xs os (open_from n b ∷ bs) a b (walked slots xs os (open_from n b ∷ bs) a (b + 1))
walked slots (Leave Keep ∷ xs) [] [] a b = both_on slots xs [] [] a b (walked slots xs [] [] (a + 1) (b + 1))
walked slots (Leave Keep ∷ xs) (o ∷ os) [] a b = both_on slots xs os [] a b (walked slots xs os [] (a + 1) (b + 1))
walked slots (Leave Keep ∷ xs) [] (l ∷ bs) a b =
    let h = both_on slots xs [] bs a b (walked slots xs [] bs (a + 1) (b + 1)) in
    (h.0, h.1, h.2, h.3, (λ i. resize_of slots l.node (add-one b i - l.from) ++ h.4 i))
walked slots (Leave Keep ∷ xs) (o ∷ os) (l ∷ bs) a b =
    let h = both_on slots xs os bs a b (walked slots xs os bs (a + 1) (b + 1)) in
    (h.0, h.1, h.2, h.3, (λ i. resize_of slots l.node (add-one b i - l.from) ++ h.4 i))
walked slots (Leave Cut ∷ xs) [] bs a b = old_on slots xs [] bs a b (walked slots xs [] bs (a + 1) b)
walked slots (Leave Cut ∷ xs) (o ∷ os) bs a b = old_on slots xs os bs a b (walked slots xs os bs (a + 1) b)
walked slots (Leave Put ∷ xs) os [] a b = new_on slots xs os [] a b (walked slots xs os [] a (b + 1))
walked slots (Leave Put ∷ xs) os (l ∷ bs) a b =
    let h = new_on slots xs os bs a b (walked slots xs os bs a (b + 1)) in
    (h.0, h.1, h.2, h.3, (λ i. resize_of slots l.node (add-one b i - l.from) ++ h.4 i))
walked slots (Text Keep n ∷ xs) os bs a b = walked slots xs os bs (a + len_under slots n) b
walked slots (Text Cut n ∷ xs) os bs a b = walked slots xs os bs (a + len_under slots n) b
walked slots (Text Put n ∷ xs) os bs a b = walked slots xs os bs a b
walked slots (Count n count ∷ xs) os bs a b =
    let h = walked slots xs os bs a (b + count) in
    (h.0, h.1, h.2, h.3, ap (λ l. resize_of slots n count ++ l) h.4)

-- how many items follow in each open node of the old list
abbrev pub follows : List (Option ArenaNode) → List Begun → ℕ → List ℕ
follows slots [] at = []
follows slots (o ∷ os) at = (lens slots o.node - (at - o.from)) ∷ follows slots os at

abbrev pub AllBegunBy : List Begun → ℕ → Type 0
AllBegunBy [] at = Unit {0}
AllBegunBy (b ∷ bs) at = (b.from ≤ at) × AllBegunBy bs at

-- what is open at the end
pub open_is : (slots : Slots) (os bs : List OpenFrom) (a b : ℕ) → AllBegunBy (map begun_of bs) b →
    open_writes slots os bs a b ≡ resizes slots (closing_sizes (map begun_of bs) (map (λ e. b + e) (follows slots (map begun_of os) a)))
open_is slots [] [] a b h = refl
open_is slots [] (l ∷ bs) a b h = refl
open_is slots (o ∷ os) [] a b h = refl
open_is slots (o ∷ os) (l ∷ bs) a b h =
    let more = len_under slots o.node - (a - o.from) in
    let e : (b - l.from) + more ≡ (b + more) - l.from = omega (arith, h.0) in
    λ i. resize_of slots l.node (e i) ++ open_is slots os bs a b h.1 i

pub resizes-append : (slots : Slots) (ys zs : List Sized) → resizes slots (ys ++ zs) ≡ resizes slots ys ++ resizes slots zs
resizes-append slots [] zs = refl
resizes-append slots (y ∷ ys) zs = ap (λ l. resize_of slots (id_of y.node) y.len ++ l) (resizes-append slots ys zs) ∙ sym (append_assoc (resize_of slots (id_of y.node) y.len) (resizes slots ys) (resizes slots zs))
