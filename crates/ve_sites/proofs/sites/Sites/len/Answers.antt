use Rattle.std.specs.Prelude.{vec_len}
use Rattle.std.proofs.Common.{rules, ◌≡◌, length, sym, ap, ◌∙◌}
use Rattle.ve_sites.specs.Shared.{sites}
use Rattle.ve_sites.proofs.StayLemmas.{sites_count}
use Rattle.ve_sites.proofs.sites.Sites.len.Goals as goal

pub returns : goal.returns
returns c =
    let s = c.self.inside in
    let long : vec_len s.members ≡ length s.members.items = search rules in
    c.len.ensures ∙ (long ∙ (sym (sites_count s.values s.first.items s.server s.members.items c.self.invariant) ∙ ap sites c.self.view_is))
