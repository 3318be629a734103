-- The reader's state after its steps.
use Rattle.std.proofs.Common.{◌≡◌, None, [], ◌++◌, refl, sym, ap, ◌∙◌, subst, append-nil}
use Rattle.ve_tree.specs.Grown.{id_of}
use Rattle.ve_tree.proofs.WalkLemmas.{Slots}
use Rattle.ve_repair.specs.Reader.{Reading, end_steps, run_ended, IsEndText, RunEnds}

-- there is no run
pub ends_none : (slots : Slots) (r : Reading) → r.run ≡ None → RunEnds slots slots r [] r
ends_none slots r none = record {
  text = id_of 0;
  reader = (λ i. record { at = r.at; seen = r.seen; run = none i; script = sym (append-nil r.script) i }) ∙ ap (λ o. run_ended (end_steps (id_of 0) o ++ []) r) (sym none);
  made = subst (λ o. IsEndText slots (id_of 0) o) (sym none) tt;
  keeps = λ q h. refl;
}
