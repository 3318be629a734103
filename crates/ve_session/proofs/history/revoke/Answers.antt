use Rattle.std.proofs.Common.{◌<◌, ap, arith, ◌∙◌, lt-ltb}
use Rattle.model_site.specs.Site.{Site}
use Rattle.ve_session.proofs.CostLemmas.{revoke_within}
use Rattle.ve_sites.specs.Shared.{member_at, site_at}
use Rattle.ve_session.proofs.history.revoke.Goals as goal

pub returns-in-Ok-clause-steps : goal.returns-in-Ok-clause-steps
returns-in-Ok-clause-steps g c =
    let old = c.args.session.now in
    let same = c.seen-seen.ensures ∙ ap (λ (s : Site). s.seen) c.site.ensures in
    let known : c.args.entry < (site_at old c.args.k).seen = omega (arith, same, c.if-entry-seen.false) in
    let counted = c.revoke.ensures.steps in
    let within = revoke_within old.session (member_at old c.args.k) c.args.entry c.args.live (lt-ltb _ _ known) in omega (arith, counted, within)

pub returns-in-Err-clause-steps : goal.returns-in-Err-clause-steps
returns-in-Err-clause-steps g c =
    let old = c.args.session.now in
    let same = c.seen-seen.ensures ∙ ap (λ (s : Site). s.seen) c.site.ensures in
    let known : c.args.entry < (site_at old c.args.k).seen = omega (arith, same, c.if-entry-seen.false) in
    let counted = c.revoke.ensures.steps in
    let within = revoke_within old.session (member_at old c.args.k) c.args.entry c.args.live (lt-ltb _ _ known) in omega (arith, counted, within)

pub returns-then-entry-seen-clause-memory : goal.returns-then-entry-seen-clause-memory
returns-then-entry-seen-clause-memory g c = λ e. absurd (cc)

pub returns-in-Err-clause-memory : goal.returns-in-Err-clause-memory
returns-in-Err-clause-memory g c = λ e.
    let same = c.seen-seen.ensures ∙ ap (λ (s : Site). s.seen) c.site.ensures in omega (arith, same, c.if-entry-seen.false)
