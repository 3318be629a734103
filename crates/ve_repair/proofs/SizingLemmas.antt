-- The lengths of a script, step by step, and of what is open at its end.
use Rattle.std.proofs.Common.{◌≡◌, ◌<◌, ◌+◌, ℕ, Option, List, [], ◌∷◌, ◌++◌, length, get_or, drop, sym, ap, ◌∙◌, subst, arith, append_assoc, add-one, drop-cons}
use Rattle.ve_arena.specs.declared.node.ArenaNode.{ArenaNode}
use Rattle.ve_repair.specs.declared.write.Write.{Write}
use Rattle.ve_repair.specs.declared.script.How.TheVariants.{Keep, Cut, Put}
use Rattle.ve_repair.specs.declared.script.Step.{Step}
use Rattle.ve_repair.specs.declared.script.Step.TheVariants.{Enter, Leave, Text, Count}
use Rattle.ve_repair.specs.declared.sizes.OpenFrom.{OpenFrom}
use Rattle.ve_repair.specs.Sizing.{Sizing, sized, sized_all, size_writes, sizes_writes, AllOpenLive, StepIsLive, StepsAreLive, PlacesFit}

abbrev Slots : Type 0
Slots = List (Option ArenaNode)

-- positions only grow
fits_before : (slots : Slots) (x : Step) (s : Sizing) → PlacesFit (sized slots x s) → PlacesFit s
fits_before slots (Enter Keep n) s h = (omega (arith, h.0), omega (arith, h.1))
fits_before slots (Enter Cut n) s h = (omega (arith, h.0), h.1)
fits_before slots (Enter Put n) s h = (h.0, omega (arith, h.1))
fits_before slots (Leave Keep) s h = (omega (arith, h.0), omega (arith, h.1))
fits_before slots (Leave Cut) s h = (omega (arith, h.0), h.1)
fits_before slots (Leave Put) s h = (h.0, omega (arith, h.1))
fits_before slots (Text Keep n) s h = (omega (arith, h.0), h.1)
fits_before slots (Text Cut n) s h = (omega (arith, h.0), h.1)
fits_before slots (Text Put n) s h = h
fits_before slots (Count n count) s h = (h.0, omega (arith, h.1))

fit_before : (slots : Slots) (xs : List Step) (s : Sizing) → PlacesFit (sized_all slots xs s) → PlacesFit s
fit_before slots [] s h = h
fit_before slots (x ∷ xs) s h = fits_before slots x s (fit_before slots xs (sized slots x s) h)

rest_live : (slots : Slots) (open_ : List OpenFrom) → AllOpenLive slots open_ → AllOpenLive slots (drop 1 open_)
rest_live slots [] h = tt
rest_live slots (b ∷ open_) h = h.1

pub open_live : (slots : Slots) (x : Step) (s : Sizing) → StepIsLive slots x → AllOpenLive slots s.new_open → AllOpenLive slots (sized slots x s).new_open
open_live slots (Enter Keep n) s l h = (l, h)
open_live slots (Enter Cut n) s l h = h
open_live slots (Enter Put n) s l h = (l, h)
open_live slots (Leave Keep) s l h = rest_live slots s.new_open h
open_live slots (Leave Cut) s l h = h
open_live slots (Leave Put) s l h = rest_live slots s.new_open h
open_live slots (Text Keep n) s l h = h
open_live slots (Text Cut n) s l h = h
open_live slots (Text Put n) s l h = h
open_live slots (Count n count) s l h = h

-- some steps are made, and the rest is to come
pub record Sized (slots : Slots) (s0 s : Sizing) (w0 w : List Write) (rest all : List Step) : Type 0 where
  pub sizes : sized_all slots rest s ≡ sized_all slots all s0
  pub writes : w ++ sizes_writes slots rest s ≡ w0 ++ sizes_writes slots all s0
  pub live : AllOpenLive slots s.new_open
  pub named : StepsAreLive slots rest

here : (k : ℕ) (d : Step) (all : List Step) → k < length all → drop k all ≡ get_or all k d ∷ drop (k + 1) all
here k d all within = drop-cons all k d within ∙ ap (λ m. get_or all k d ∷ drop m all) (sym (add-one k))

pub sized_names : (slots : Slots) (s0 s : Sizing) (w0 w : List Write) (k : ℕ) (d : Step) (all : List Step) → k < length all → Sized slots s0 s w0 w (drop k all) all →
    StepIsLive slots (get_or all k d)
sized_names slots s0 s w0 w k d all within h = (subst (StepsAreLive slots) (here k d all within) h.named).0

pub sized_fits : (slots : Slots) (s0 s : Sizing) (w0 w : List Write) (k : ℕ) (d : Step) (all : List Step) → k < length all → Sized slots s0 s w0 w (drop k all) all →
    PlacesFit (sized_all slots all s0) → PlacesFit (sized slots (get_or all k d) s)
sized_fits slots s0 s w0 w k d all within h fits =
    fit_before slots (drop (k + 1) all) (sized slots (get_or all k d) s)
    (subst PlacesFit (sym h.sizes ∙ ap (λ l. sized_all slots l s) (here k d all within)) fits)

pub sized_on : (slots : Slots) (s0 s s1 : Sizing) (w0 w w1 : List Write) (k : ℕ) (d : Step) (all : List Step) → k < length all → Sized slots s0 s w0 w (drop k all) all →
    s1 ≡ sized slots (get_or all k d) s → w1 ≡ w ++ size_writes slots (get_or all k d) s → Sized slots s0 s1 w0 w1 (drop (k + 1) all) all
sized_on slots s0 s s1 w0 w w1 k d all within h es ew =
    let x = get_or all k d in
    let e = here k d all within in
    let named = subst (StepsAreLive slots) e h.named in
    record {
      sizes = ap (sized_all slots (drop (k + 1) all)) es ∙ ap (λ l. sized_all slots l s) (sym e) ∙ h.sizes;
      writes =
          (λ i. ew i ++ sizes_writes slots (drop (k + 1) all) (es i))
          ∙ append_assoc w (size_writes slots x s) (sizes_writes slots (drop (k + 1) all) (sized slots x s))
          ∙ ap (λ l. w ++ sizes_writes slots l s) (sym e)
          ∙ h.writes;
      live = subst (λ (t : Sizing). AllOpenLive slots t.new_open) (sym es) (open_live slots x s named.0 h.live);
      named = named.1;
    }
