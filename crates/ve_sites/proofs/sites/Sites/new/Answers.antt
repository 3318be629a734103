use Rattle.std.proofs.Common.{sym, ap, ◌∙◌, subst}
use Rattle.ve_items.specs.ItemList.{ItemList}
use Rattle.ve_sites.specs.IsShared.{IsShared}
use Rattle.ve_sites.specs.Senders.{shared_of}
use Rattle.ve_sites.proofs.BeginLemmas.{begins, served_yet, stands}
use Rattle.ve_sites.proofs.sites.Sites.new.Goals as goal

pub invariant_of-result : goal.invariant_of-result
invariant_of-result g c =
    let v = c.args.values in
    let f = c.args.list.items in
    let kept = c.in_ok-members.ensures.kept in
    subst (λ (l : ItemList). IsShared v l.items c.in_ok-server.server c.in_ok-members.members.items) (sym kept)
    (subst (λ server. IsShared v f server c.in_ok-members.members.items) (sym c.in_ok-server.ensures)
    (subst (IsShared v f (served_yet v f c.args.sites c.requires.filled)) (sym c.in_ok-members.ensures.ok) (stands v f c.args.sites c.requires.filled c.requires.sound c.requires.cites)))

pub returns-clause-ok : goal.returns-clause-ok
returns-clause-ok g c =
    let v = c.args.values in
    let f = c.args.list.items in
    ap (λ (l : ItemList). shared_of v l.items c.in_ok-server.server c.in_ok-members.members.items) c.in_ok-members.ensures.kept
    ∙ ap (λ server. shared_of v f server c.in_ok-members.members.items) c.in_ok-server.ensures
    ∙ (ap (shared_of v f (served_yet v f c.args.sites c.requires.filled)) c.in_ok-members.ensures.ok ∙ begins v f c.args.sites c.requires.filled)
