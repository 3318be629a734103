use Rattle.std.proofs.Common.{ap, sym, ◌∙◌}
use Rattle.ve_base.specs.Held.{held_list}
use Rattle.ve_base.proofs.NamesLemmas.{apart_pushed}
use Rattle.ve_base.proofs.attrs.Attrs.push.Goals as goal

pub invariant_of-self : goal.invariant_of-self
invariant_of-self c =
    apart_pushed c.self.inside.held _ _ _ _ c.self.invariant c.self.view_is c.requires (ap held_list c.in-Own.is) c.in_ok-push-in-Own.ensures.items

pub invariant_of-self-in_ok-push-in-Shared-2 : goal.invariant_of-self-in_ok-push-in-Shared-2
invariant_of-self-in_ok-push-in-Shared-2 c =
    apart_pushed c.self.inside.held _ _ _ _ c.self.invariant c.self.view_is c.requires (ap held_list c.in-Shared.is ∙ sym (c.in_ok-list-in-Shared.ensures ∙ c.deref.ensures)) c.in_ok-push-in-Shared.ensures.items
