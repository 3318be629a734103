use Rattle.std.specs.Prelude.{vec_len}
use Rattle.std.proofs.Common.{rules, arith, length, ◌≡◌, ◌<◌, ◌≤◌, ◌+◌, List, Ok, Some, sym, ap, ◌∙◌, subst}
use Rattle.std.proofs.lemmas.Result.{err_from_is_err_and}
use Rattle.model_change.specs.Transaction.{Transaction}
use Rattle.model_site.specs.Entries.{Parcel}
use Rattle.model_site.specs.Live.{revocation}
use Rattle.model_site.specs.Made.{revoking}
use Rattle.model_site.specs.Site.{Site, hinted_entries, revoke_entry, with_entry_against}
use Rattle.ve_editor.specs.Counted.{steps_over}
use Rattle.ve_peer_undo.specs.Refusal.{IsLiveRefusal}
use Rattle.ve_tx.specs.ByValue.{parcel_by_value}
use Rattle.ve_sites.specs.Senders.{Sender, at_site}
use Rattle.ve_sites.specs.Shared.{Shared}
use Rattle.ve_sites.proofs.PlacedLemmas.{Placed, asked, one_place, revoked_stays, room, told, told_both, with_its_site}
use Rattle.ve_sites.proofs.RevokeLemmas.{back_is, back_runs, later_hinted, later_revoked, later_run, revoke_gives, seen_within, some_later}
use Rattle.ve_sites.proofs.sites.Sites.revoke.Goals as goal

pub index-requires : goal.index-requires
index-requires g c =
    let s = c.self.inside in
    let long : vec_len s.members ≡ length s.members.items = search rules in
    let below = room c.args.self.now s.values s.first.items s.server s.members.items c.args.k c.self.invariant c.self.view_is c.requires.site in
    omega (arith, long, below)

pub index_mut-requires : goal.index_mut-requires
index_mut-requires g c =
    let s = c.self.inside in
    let long : vec_len s.members ≡ length s.members.items = search rules in
    let below = room c.args.self.now s.values s.first.items s.server s.members.items c.args.k c.self.invariant c.self.view_is c.requires.site in
    omega (arith, long, below)

pub known_from-requires-clause-from : goal.known_from-requires-clause-from
known_from-requires-clause-from g c =
    let s = c.self.inside in
    let v = s.values in
    let f = s.first.items in
    let v2 = s.server in
    let ms = s.members.items in
    let k = c.args.k in
    let i = c.args.i in
    let live = c.args.live in
    let inside = room c.args.self.now v f v2 ms k c.self.invariant c.self.view_is c.requires.site in
    let m = c.index.result.now in
    let is = c.index.ensures in
    let p : Placed c.args.self.now v f v2 ms k m = record { holds = c.self.invariant; view = c.self.view_is; inside = c.requires.site; is = is } in
    let seen = asked p (λ (x : Site). i < x.seen) c.requires.seen in
    let e = ap (λ (x : Site). x.seen) c.site.ensures.site in
    omega (arith, seen, e)

pub known_from-requires-clause-seen : goal.known_from-requires-clause-seen
known_from-requires-clause-seen g c =
    let s = c.self.inside in
    let v = s.values in
    let f = s.first.items in
    let v2 = s.server in
    let ms = s.members.items in
    let k = c.args.k in
    let i = c.args.i in
    let live = c.args.live in
    let inside = room c.args.self.now v f v2 ms k c.self.invariant c.self.view_is c.requires.site in
    let m = c.index.result.now in
    let is = c.index.ensures in
    let p : Placed c.args.self.now v f v2 ms k m = record { holds = c.self.invariant; view = c.self.view_is; inside = c.requires.site; is = is } in
    let seen = asked p (λ (x : Site). i < x.seen) c.requires.seen in
    let e = ap (λ (x : Site). x.seen) c.site.ensures.site in
    let n = ap (λ (ps : List Parcel). length ps) c.committed.ensures.entries in
    let within = seen_within v f v2 ms c.self.invariant k m inside is in
    omega (arith, within, e, n)

pub back_of-requires-clause-some : goal.back_of-requires-clause-some
back_of-requires-clause-some g c =
    let s = c.self.inside in
    let v = s.values in
    let f = s.first.items in
    let v2 = s.server in
    let ms = s.members.items in
    let k = c.args.k in
    let i = c.args.i in
    let live = c.args.live in
    let inside = room c.args.self.now v f v2 ms k c.self.invariant c.self.view_is c.requires.site in
    let m = c.index.result.now in
    let is = c.index.ensures in
    let p : Placed c.args.self.now v f v2 ms k m = record { holds = c.self.invariant; view = c.self.view_is; inside = c.requires.site; is = is } in
    let seen = asked p (λ (x : Site). i < x.seen) c.requires.seen in
    let cs = c.as_slice.result.now in
    let later = later_hinted cs c.in_ok-known.known c.committed.result.now v2 c.site.result.now.site m.site i c.as_slice.ensures.values c.in_ok-known.ensures.entries c.in_ok-known.ensures.hints
    c.committed.ensures.entries c.committed.ensures.hints c.site.ensures.site in
    some_later v f v2 ms c.self.invariant k m inside is i seen cs later

pub back_of-requires-clause-run : goal.back_of-requires-clause-run
back_of-requires-clause-run g c =
    let s = c.self.inside in
    let v = s.values in
    let f = s.first.items in
    let v2 = s.server in
    let ms = s.members.items in
    let k = c.args.k in
    let i = c.args.i in
    let live = c.args.live in
    let inside = room c.args.self.now v f v2 ms k c.self.invariant c.self.view_is c.requires.site in
    let m = c.index.result.now in
    let is = c.index.ensures in
    let p : Placed c.args.self.now v f v2 ms k m = record { holds = c.self.invariant; view = c.self.view_is; inside = c.requires.site; is = is } in
    let seen = asked p (λ (x : Site). i < x.seen) c.requires.seen in
    let cs = c.as_slice.result.now in
    let later = later_hinted cs c.in_ok-known.known c.committed.result.now v2 c.site.result.now.site m.site i c.as_slice.ensures.values c.in_ok-known.ensures.entries c.in_ok-known.ensures.hints
    c.committed.ensures.entries c.committed.ensures.hints c.site.ensures.site in
    later_run v f v2 ms c.self.invariant k m inside is i seen cs later

pub returns-in_err-back-clause-refused : goal.returns-in_err-back-clause-refused
returns-in_err-back-clause-refused g c =
    let s = c.self.inside in
    let v = s.values in
    let f = s.first.items in
    let v2 = s.server in
    let ms = s.members.items in
    let k = c.args.k in
    let i = c.args.i in
    let live = c.args.live in
    let inside = room c.args.self.now v f v2 ms k c.self.invariant c.self.view_is c.requires.site in
    let m = c.index.result.now in
    let is = c.index.ensures in
    let p : Placed c.args.self.now v f v2 ms k m = record { holds = c.self.invariant; view = c.self.view_is; inside = c.requires.site; is = is } in
    let seen = asked p (λ (x : Site). i < x.seen) c.requires.seen in
    let cs = c.as_slice.result.now in
    let later = later_hinted cs c.in_ok-known.known c.committed.result.now v2 c.site.result.now.site m.site i c.as_slice.ensures.values c.in_ok-known.ensures.entries c.in_ok-known.ensures.hints
    c.committed.ensures.entries c.committed.ensures.hints c.site.ensures.site in
    let committed : v2.committed ≡ c.args.self.now.session.committed = ap (λ (x : Shared). x.session.committed) c.self.view_is in
    let hints : v2.hints ≡ c.args.self.now.session.hints = ap (λ (x : Shared). x.session.hints) c.self.view_is in
    let why = c.in_err-back.field-0.0 in
    let q = err_from_is_err_and c.from_residual-in_err-back.result c.from_residual-in_err-back.ensures.1 in
    let revoked = later_revoked v f v2 ms c.self.invariant k m inside is i seen cs later live c.entries_are_taken_back.ensures.later c.entries_are_taken_back.ensures.counting in
    rw (q.1, q.2)
    (told p (λ (x : Site). IsLiveRefusal (revocation live (hinted_entries c.args.self.now.session.committed c.args.self.now.session.hints x) i) why)
    (subst (λ ps. IsLiveRefusal (revocation live (hinted_entries ps c.args.self.now.session.hints m.site) i) why) committed
    (subst (λ hs. IsLiveRefusal (revocation live (hinted_entries v2.committed hs m.site) i) why) hints
    (subst (λ r. IsLiveRefusal r why) revoked c.in_err-back.ensures.refused))))

pub adopt-requires-clause-run : goal.adopt-requires-clause-run
adopt-requires-clause-run g c =
    let s = c.self.inside in
    let v = s.values in
    let f = s.first.items in
    let v2 = s.server in
    let ms = s.members.items in
    let k = c.args.k in
    let i = c.args.i in
    let live = c.args.live in
    let inside = room c.args.self.now v f v2 ms k c.self.invariant c.self.view_is c.requires.site in
    let m = c.index_mut.result.now in
    let is = c.index_mut.ensures.value in
    let p : Placed c.args.self.now v f v2 ms k m = record { holds = c.self.invariant; view = c.self.view_is; inside = c.requires.site; is = is } in
    let seen = asked p (λ (x : Site). i < x.seen) c.requires.seen in
    let one : c.index.result.now ≡ m = one_place ms k c.index.result.now m inside c.index.ensures is in
    let cs = c.as_slice.result.now in
    let later = later_hinted cs c.in_ok-known.known c.committed.result.now v2 c.site.result.now.site m.site i c.as_slice.ensures.values c.in_ok-known.ensures.entries c.in_ok-known.ensures.hints
    c.committed.ensures.entries c.committed.ensures.hints (c.site.ensures.site ∙ ap (λ (x : Sender). x.site) one) in
    let matter = c.entries_are_taken_back.ensures.later in
    let count = c.entries_are_taken_back.ensures.counting in
    let back = parcel_by_value c.in_ok-back.back in
    back_runs v f v2 ms c.self.invariant k m inside is i seen cs later live matter count back c.in_ok-back.ensures.back

pub returns-in_err-adopt-clause-steps : goal.returns-in_err-adopt-clause-steps
returns-in_err-adopt-clause-steps g c =
    let s = c.self.inside in
    let v = s.values in
    let f = s.first.items in
    let v2 = s.server in
    let ms = s.members.items in
    let k = c.args.k in
    let i = c.args.i in
    let live = c.args.live in
    let inside = room c.args.self.now v f v2 ms k c.self.invariant c.self.view_is c.requires.site in
    let m = c.index_mut.result.now in
    let is = c.index_mut.ensures.value in
    let p : Placed c.args.self.now v f v2 ms k m = record { holds = c.self.invariant; view = c.self.view_is; inside = c.requires.site; is = is } in
    let seen = asked p (λ (x : Site). i < x.seen) c.requires.seen in
    let one : c.index.result.now ≡ m = one_place ms k c.index.result.now m inside c.index.ensures is in
    let cs = c.as_slice.result.now in
    let later = later_hinted cs c.in_ok-known.known c.committed.result.now v2 c.site.result.now.site m.site i c.as_slice.ensures.values c.in_ok-known.ensures.entries c.in_ok-known.ensures.hints
    c.committed.ensures.entries c.committed.ensures.hints (c.site.ensures.site ∙ ap (λ (x : Sender). x.site) one) in
    let matter = c.entries_are_taken_back.ensures.later in
    let count = c.entries_are_taken_back.ensures.counting in
    let back = parcel_by_value c.in_ok-back.back in
    let committed : v2.committed ≡ c.args.self.now.session.committed = ap (λ (x : Shared). x.session.committed) c.self.view_is in
    let hints : v2.hints ≡ c.args.self.now.session.hints = ap (λ (x : Shared). x.session.hints) c.self.view_is in
    let stepped = back_is v f v2 ms c.self.invariant k m inside is i seen cs later live matter count back c.in_ok-back.ensures.back in
    told p (λ (x : Site). c.adopt.new.steps ≤ c.args.steps.now + steps_over (revoking c.args.self.now.session.committed c.args.self.now.session.hints live i x) x.replica.items)
    (subst (λ ps. c.adopt.new.steps ≤ c.args.steps.now + steps_over (revoking ps c.args.self.now.session.hints live i m.site) m.site.replica.items) committed
    (subst (λ hs. c.adopt.new.steps ≤ c.args.steps.now + steps_over (revoking v2.committed hs live i m.site) m.site.replica.items) hints
    (subst (λ (ts : List Transaction). c.adopt.new.steps ≤ c.args.steps.now + steps_over ts m.site.replica.items) stepped c.adopt.ensures.steps)))

pub returns-clause-steps : goal.returns-clause-steps
returns-clause-steps g c =
    let s = c.self.inside in
    let v = s.values in
    let f = s.first.items in
    let v2 = s.server in
    let ms = s.members.items in
    let k = c.args.k in
    let i = c.args.i in
    let live = c.args.live in
    let inside = room c.args.self.now v f v2 ms k c.self.invariant c.self.view_is c.requires.site in
    let m = c.index_mut.result.now in
    let is = c.index_mut.ensures.value in
    let p : Placed c.args.self.now v f v2 ms k m = record { holds = c.self.invariant; view = c.self.view_is; inside = c.requires.site; is = is } in
    let seen = asked p (λ (x : Site). i < x.seen) c.requires.seen in
    let one : c.index.result.now ≡ m = one_place ms k c.index.result.now m inside c.index.ensures is in
    let cs = c.as_slice.result.now in
    let later = later_hinted cs c.in_ok-known.known c.committed.result.now v2 c.site.result.now.site m.site i c.as_slice.ensures.values c.in_ok-known.ensures.entries c.in_ok-known.ensures.hints
    c.committed.ensures.entries c.committed.ensures.hints (c.site.ensures.site ∙ ap (λ (x : Sender). x.site) one) in
    let matter = c.entries_are_taken_back.ensures.later in
    let count = c.entries_are_taken_back.ensures.counting in
    let back = parcel_by_value c.in_ok-back.back in
    let committed : v2.committed ≡ c.args.self.now.session.committed = ap (λ (x : Shared). x.session.committed) c.self.view_is in
    let hints : v2.hints ≡ c.args.self.now.session.hints = ap (λ (x : Shared). x.session.hints) c.self.view_is in
    let stepped = back_is v f v2 ms c.self.invariant k m inside is i seen cs later live matter count back c.in_ok-back.ensures.back in
    told p (λ (x : Site). c.adopt.new.steps ≤ c.args.steps.now + steps_over (revoking c.args.self.now.session.committed c.args.self.now.session.hints live i x) x.replica.items)
    (subst (λ ps. c.adopt.new.steps ≤ c.args.steps.now + steps_over (revoking ps c.args.self.now.session.hints live i m.site) m.site.replica.items) committed
    (subst (λ hs. c.adopt.new.steps ≤ c.args.steps.now + steps_over (revoking v2.committed hs live i m.site) m.site.replica.items) hints
    (subst (λ (ts : List Transaction). c.adopt.new.steps ≤ c.args.steps.now + steps_over ts m.site.replica.items) stepped c.adopt.ensures.steps)))

pub invariant_of-self-2 : goal.invariant_of-self-2
invariant_of-self-2 g c =
    let s = c.self.inside in
    let v = s.values in
    let f = s.first.items in
    let v2 = s.server in
    let ms = s.members.items in
    let k = c.args.k in
    let i = c.args.i in
    let live = c.args.live in
    let inside = room c.args.self.now v f v2 ms k c.self.invariant c.self.view_is c.requires.site in
    let m = c.index_mut.result.now in
    let is = c.index_mut.ensures.value in
    let p : Placed c.args.self.now v f v2 ms k m = record { holds = c.self.invariant; view = c.self.view_is; inside = c.requires.site; is = is } in
    let seen = asked p (λ (x : Site). i < x.seen) c.requires.seen in
    let one : c.index.result.now ≡ m = one_place ms k c.index.result.now m inside c.index.ensures is in
    let cs = c.as_slice.result.now in
    let later = later_hinted cs c.in_ok-known.known c.committed.result.now v2 c.site.result.now.site m.site i c.as_slice.ensures.values c.in_ok-known.ensures.entries c.in_ok-known.ensures.hints
    c.committed.ensures.entries c.committed.ensures.hints (c.site.ensures.site ∙ ap (λ (x : Sender). x.site) one) in
    let matter = c.entries_are_taken_back.ensures.later in
    let count = c.entries_are_taken_back.ensures.counting in
    let back = parcel_by_value c.in_ok-back.back in
    let t = c.adopt.new.self in
    let gives = revoke_gives v f v2 ms c.self.invariant k m inside is i seen cs later live matter count back c.in_ok-back.ensures.back in
    let adopted : t ≡ at_site (with_entry_against (Some i) back m.site) m =
    c.in_ok-adopt.ensures.site ∙ ap (λ o. at_site (with_entry_against o back m.site) m) c.in_ok-back.ensures.takes_back in
    let site : t.site ≡ with_entry_against (Some i) back m.site = ap (λ (x : Sender). x.site) adopted in
    let done : revoke_entry v2.committed v2.hints live i m.site ≡ Ok t.site = gives ∙ ap (λ (x : Site). Ok x) (sym site) in
    let same : t ≡ at_site t.site m = adopted ∙ ap (λ (x : Site). at_site x m) (sym site) in
    revoked_stays p t live i seen done same

pub returns-clause-site : goal.returns-clause-site
returns-clause-site g c =
    let s = c.self.inside in
    let v = s.values in
    let f = s.first.items in
    let v2 = s.server in
    let ms = s.members.items in
    let k = c.args.k in
    let i = c.args.i in
    let live = c.args.live in
    let inside = room c.args.self.now v f v2 ms k c.self.invariant c.self.view_is c.requires.site in
    let m = c.index_mut.result.now in
    let is = c.index_mut.ensures.value in
    let p : Placed c.args.self.now v f v2 ms k m = record { holds = c.self.invariant; view = c.self.view_is; inside = c.requires.site; is = is } in
    let seen = asked p (λ (x : Site). i < x.seen) c.requires.seen in
    let one : c.index.result.now ≡ m = one_place ms k c.index.result.now m inside c.index.ensures is in
    let cs = c.as_slice.result.now in
    let later = later_hinted cs c.in_ok-known.known c.committed.result.now v2 c.site.result.now.site m.site i c.as_slice.ensures.values c.in_ok-known.ensures.entries c.in_ok-known.ensures.hints
    c.committed.ensures.entries c.committed.ensures.hints (c.site.ensures.site ∙ ap (λ (x : Sender). x.site) one) in
    let matter = c.entries_are_taken_back.ensures.later in
    let count = c.entries_are_taken_back.ensures.counting in
    let back = parcel_by_value c.in_ok-back.back in
    let committed : v2.committed ≡ c.args.self.now.session.committed = ap (λ (x : Shared). x.session.committed) c.self.view_is in
    let hints : v2.hints ≡ c.args.self.now.session.hints = ap (λ (x : Shared). x.session.hints) c.self.view_is in
    let t = c.adopt.new.self in
    let gives = revoke_gives v f v2 ms c.self.invariant k m inside is i seen cs later live matter count back c.in_ok-back.ensures.back in
    let adopted : t ≡ at_site (with_entry_against (Some i) back m.site) m =
    c.in_ok-adopt.ensures.site ∙ ap (λ o. at_site (with_entry_against o back m.site) m) c.in_ok-back.ensures.takes_back in
    let site : t.site ≡ with_entry_against (Some i) back m.site = ap (λ (x : Sender). x.site) adopted in
    let done : revoke_entry v2.committed v2.hints live i m.site ≡ Ok t.site = gives ∙ ap (λ (x : Site). Ok x) (sym site) in
    let same : t ≡ at_site t.site m = adopted ∙ ap (λ (x : Site). at_site x m) (sym site) in
    told_both p (λ (x y : Site). revoke_entry c.args.self.now.session.committed c.args.self.now.session.hints live i x ≡ Ok y) t
    (subst (λ ps. revoke_entry ps c.args.self.now.session.hints live i m.site ≡ Ok t.site) committed
    (subst (λ hs. revoke_entry v2.committed hs live i m.site ≡ Ok t.site) hints done))

pub returns-clause-same : goal.returns-clause-same
returns-clause-same g c =
    let s = c.self.inside in
    let v = s.values in
    let f = s.first.items in
    let v2 = s.server in
    let ms = s.members.items in
    let k = c.args.k in
    let i = c.args.i in
    let live = c.args.live in
    let inside = room c.args.self.now v f v2 ms k c.self.invariant c.self.view_is c.requires.site in
    let m = c.index_mut.result.now in
    let is = c.index_mut.ensures.value in
    let p : Placed c.args.self.now v f v2 ms k m = record { holds = c.self.invariant; view = c.self.view_is; inside = c.requires.site; is = is } in
    let seen = asked p (λ (x : Site). i < x.seen) c.requires.seen in
    let one : c.index.result.now ≡ m = one_place ms k c.index.result.now m inside c.index.ensures is in
    let cs = c.as_slice.result.now in
    let later = later_hinted cs c.in_ok-known.known c.committed.result.now v2 c.site.result.now.site m.site i c.as_slice.ensures.values c.in_ok-known.ensures.entries c.in_ok-known.ensures.hints
    c.committed.ensures.entries c.committed.ensures.hints (c.site.ensures.site ∙ ap (λ (x : Sender). x.site) one) in
    let matter = c.entries_are_taken_back.ensures.later in
    let count = c.entries_are_taken_back.ensures.counting in
    let back = parcel_by_value c.in_ok-back.back in
    let t = c.adopt.new.self in
    let gives = revoke_gives v f v2 ms c.self.invariant k m inside is i seen cs later live matter count back c.in_ok-back.ensures.back in
    let adopted : t ≡ at_site (with_entry_against (Some i) back m.site) m =
    c.in_ok-adopt.ensures.site ∙ ap (λ o. at_site (with_entry_against o back m.site) m) c.in_ok-back.ensures.takes_back in
    let site : t.site ≡ with_entry_against (Some i) back m.site = ap (λ (x : Sender). x.site) adopted in
    let done : revoke_entry v2.committed v2.hints live i m.site ≡ Ok t.site = gives ∙ ap (λ (x : Site). Ok x) (sym site) in
    let same : t ≡ at_site t.site m = adopted ∙ ap (λ (x : Site). at_site x m) (sym site) in
    with_its_site p t same
