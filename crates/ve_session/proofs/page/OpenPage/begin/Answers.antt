use Rattle.std.proofs.Common.{◌≡◌, ap, sym, subst, ◌∙◌}
use Rattle.std.specs.Prelude.{encode_utf8_all}
use Rattle.model_items.specs.Plain.{plain_list}
use Rattle.model_site.specs.Replica.{opened_with}
use Rattle.model_site.specs.Session.{started}
use Rattle.ve_session.specs.Opened.{lent_of, IsOpen}
use Rattle.ve_session.proofs.PageLemmas.{begun, begun_ok, is_open, opens, page}
use Rattle.ve_sites.specs.Shared.{Shared}
use Rattle.ve_session.proofs.page.OpenPage.begin.Goals as goal

pub new-requires-clause-sound : goal.new-requires-clause-sound
new-requires-clause-sound g c =
    let a = c.args in
    c.layers_fit.ensures.pages a.text (page a.text a.read a.sites c.requires.read c.requires.may) (opens a.text a.read a.sites c.requires.read c.requires.may)

pub invariant_of-result : goal.invariant_of-result
invariant_of-result g c =
    let a = c.args in
    let refs = c.in_ok-first_refs.first_refs in
    let same : c.in_ok-session.session ≡ begun a.text a.read a.sites c.requires.read c.requires.may =
    c.in_ok-session.ensures.ok
    ∙ ap (λ n. record { first = a.read.list.items; session = started (opened_with (plain_list a.read.values a.read.list.items)) n }) c.in-Ok.ensures.1 in
    let rows = c.rows_stand.ensures (encode_utf8_all a.text) a.read c.requires.utf8 c.requires.read c.requires.places in
    subst (λ (x : Shared). IsOpen (lent_of a.text a.read.body a.read.rows x.first refs) x.session) (sym same)
    (is_open a.text a.read a.sites c.requires.read c.requires.may refs c.in_ok-first_refs.ensures rows)

pub returns-clause-ok : goal.returns-clause-ok
returns-clause-ok g c =
    let a = c.args in
    let same : c.in_ok-session.session ≡ begun a.text a.read a.sites c.requires.read c.requires.may =
    c.in_ok-session.ensures.ok
    ∙ ap (λ n. record { first = a.read.list.items; session = started (opened_with (plain_list a.read.values a.read.list.items)) n }) c.in-Ok.ensures.1 in
    begun_ok a.text a.read a.sites c.requires.read c.requires.may c.in_ok-first_refs.first_refs c.in_ok-session.session same
