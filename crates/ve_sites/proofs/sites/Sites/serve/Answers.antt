use Rattle.std.specs.Prelude.{vec_len}
use Rattle.std.proofs.Common.{rules, arith, length, ◌≡◌, slice_get, refl, sym, ap, ◌∙◌}
use Rattle.ve_server.specs.Fed.{submission_of}
use Rattle.ve_sites.specs.Senders.{Sender}
use Rattle.ve_sites.proofs.PlacedLemmas.{one_place, room}
use Rattle.ve_sites.proofs.TurnLemmas.{busy_server, idle_server, serve_may, served_stays, served_tells}
use Rattle.ve_sites.proofs.sites.Sites.serve.Goals as goal

pub index-requires : goal.index-requires
index-requires c =
    let s = c.self.inside in
    let long : vec_len s.members ≡ length s.members.items = search rules in
    let below = room c.args.self.now s.values s.first.items s.server s.members.items c.args.k c.self.invariant c.self.view_is c.requires.site in
    omega (arith, long, below)

pub index_mut-requires : goal.index_mut-requires
index_mut-requires c =
    let s = c.self.inside in
    let long : vec_len s.members ≡ length s.members.items = search rules in
    let below = room c.args.self.now s.values s.first.items s.server s.members.items c.args.k c.self.invariant c.self.view_is c.requires.site in
    omega (arith, long, below)

pub returns-in_default-clause-served : goal.returns-in_default-clause-served
returns-in_default-clause-served c =
    let s = c.self.inside in
    let v = s.values in
    let f = s.first.items in
    let v2 = s.server in
    let ms = s.members.items in
    let inside = room c.args.self.now v f v2 ms c.args.k c.self.invariant c.self.view_is c.requires.site in
    idle_server c.args.self.now v f v2 ms c.self.invariant c.self.view_is c.args.k c.index.result.now inside c.index.ensures c.index.result.now.number refl (sym c.in_default.ensures.next)

pub returns-in_err-served-clause-nothing : goal.returns-in_err-served-clause-nothing
returns-in_err-served-clause-nothing c = λ none.
    let s = c.self.inside in
    let v = s.values in
    let f = s.first.items in
    let v2 = s.server in
    let ms = s.members.items in
    let inside = room c.args.self.now v f v2 ms c.args.k c.self.invariant c.self.view_is c.requires.site in
    absurd
    (busy_server c.args.self.now v f v2 ms c.self.invariant c.self.view_is c.args.k c.index.result.now inside c.index.ensures c.index.result.now.number refl
    (submission_of c.in-Some.submit.now) (sym c.in-Some.ensures.next) none)

pub serve-requires-clause-base : goal.serve-requires-clause-base
serve-requires-clause-base c =
    let s = c.self.inside in
    let v = s.values in
    let f = s.first.items in
    let v2 = s.server in
    let ms = s.members.items in
    let inside = room c.args.self.now v f v2 ms c.args.k c.self.invariant c.self.view_is c.requires.site in
    (serve_may v f v2 ms c.self.invariant c.args.k c.index.result.now inside c.index.ensures (submission_of c.in-Some.submit.now) (sym c.in-Some.ensures.next)).from

pub serve-requires-clause-run : goal.serve-requires-clause-run
serve-requires-clause-run c =
    let s = c.self.inside in
    let v = s.values in
    let f = s.first.items in
    let v2 = s.server in
    let ms = s.members.items in
    let inside = room c.args.self.now v f v2 ms c.args.k c.self.invariant c.self.view_is c.requires.site in
    (serve_may v f v2 ms c.self.invariant c.args.k c.index.result.now inside c.index.ensures (submission_of c.in-Some.submit.now) (sym c.in-Some.ensures.next)).run

pub invariant_of-self-2 : goal.invariant_of-self-2
invariant_of-self-2 c =
    let s = c.self.inside in
    let v = s.values in
    let f = s.first.items in
    let v2 = s.server in
    let ms = s.members.items in
    let inside = room c.args.self.now v f v2 ms c.args.k c.self.invariant c.self.view_is c.requires.site in
    let m = c.index_mut.result.now in
    let same : c.index.result.now ≡ m = one_place ms c.args.k c.index.result.now m inside c.index.ensures c.index_mut.ensures.value in
    let next = ap (λ (x : Sender). slice_get x.submissions 0) (sym same) ∙ sym c.in-Some.ensures.next in
    let number = c.in-Some.ensures.from ∙ ap (λ (x : Sender). x.number) same in
    served_stays c.args.self.now v f v2 ms c.self.invariant c.self.view_is c.args.k m inside c.index_mut.ensures.value c.in-Some.submit.now.site number
    (submission_of c.in-Some.submit.now) next c.serve.new.self c.drop_next.new.self c.in_ok-served.ensures.server c.drop_next.ensures

pub returns-clause-served : goal.returns-clause-served
returns-clause-served c =
    let s = c.self.inside in
    let v = s.values in
    let f = s.first.items in
    let v2 = s.server in
    let ms = s.members.items in
    let inside = room c.args.self.now v f v2 ms c.args.k c.self.invariant c.self.view_is c.requires.site in
    let m = c.index_mut.result.now in
    let same : c.index.result.now ≡ m = one_place ms c.args.k c.index.result.now m inside c.index.ensures c.index_mut.ensures.value in
    let next = ap (λ (x : Sender). slice_get x.submissions 0) (sym same) ∙ sym c.in-Some.ensures.next in
    let number = c.in-Some.ensures.from ∙ ap (λ (x : Sender). x.number) same in
    served_tells c.args.self.now v f v2 ms c.self.invariant c.self.view_is c.args.k m inside c.index_mut.ensures.value c.in-Some.submit.now.site number
    (submission_of c.in-Some.submit.now) next c.serve.new.self c.drop_next.new.self c.in_ok-served.ensures.server c.drop_next.ensures c.in_ok-served.served c.in_ok-served.ensures.answer
