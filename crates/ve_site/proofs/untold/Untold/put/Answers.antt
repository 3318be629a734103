use Rattle.std.proofs.Common.{◌≡◌, suc, [], ◌∷◌, ◌++◌, length, true, is_ok, if◌then◌else◌, refl, sym, ap, ◌∙◌, arith}
use Rattle.model_site.specs.Untold.{Untold, max_patches, with_patches}
use Rattle.ve_site.proofs.PatchLemmas.{left_out, put_in}
use Rattle.ve_site.proofs.untold.Untold.put.Goals as goal

pub returns-then-len-le-MAX_PATCHES : goal.returns-then-len-le-MAX_PATCHES
returns-then-len-le-MAX_PATCHES c =
    let s = c.self.inside in
    let p = c.args.patch in
    let old : Untold = record { was = s.was; patches = s.patches.items } in
    let new : Untold = record { was = s.was; patches = c.push.new.self.items } in
    let ok : is_ok c.push.result ≡ true = sym c.is_ok-pushed.ensures.value ∙ c.if-prove.false in
    let items = c.push.ensures.items ∙ ap (λ b. if b then s.patches.items ++ p ∷ [] else s.patches.items) ok in
    put_in old new p (omega (arith, c.if-len-le-MAX_PATCHES.true, c.len.ensures)) refl items ∙ ap (with_patches (p ∷ [])) c.self.view_is

pub returns-else-len-le-MAX_PATCHES : goal.returns-else-len-le-MAX_PATCHES
returns-else-len-le-MAX_PATCHES c =
    let s = c.self.inside in
    let p = c.args.patch in
    let old : Untold = record { was = s.was; patches = s.patches.items } in
    let full : length old.patches ≡ suc max_patches = omega (arith, c.if-len-le-MAX_PATCHES.false, c.len.ensures, c.self.invariant.within) in
    sym c.self.view_is ∙ (left_out old p full ∙ ap (with_patches (p ∷ [])) c.self.view_is)
