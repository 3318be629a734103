use Rattle.std.proofs.Common.{◌≡◌, ◌≤◌, ◌-◌, ◌++◌, length, map, take, drop, sym, ap, ◌∙◌, arith}
use Rattle.std.proofs.lemmas.List.{length-map}
use Rattle.model_site.specs.Site.{pending}
use Rattle.model_site.specs.Entries.{Hints, hints, parcels}
use Rattle.ve_server.specs.Travelling.{Travelling, travelling}
use Rattle.ve_tx.specs.declared.parcel.Parcel.{Parcel}
use Rattle.ve_tx.specs.ByValue.{parcel_by_value}
use Rattle.ve_sites.proofs.RevokeLemmas.{known_from}
use Rattle.ve_sites.proofs.edits.known_from.Goals as goal

pub returns-clause-entries : goal.returns-clause-entries
returns-clause-entries c =
    let s = c.args.site.now.site in
    let cs = c.as_slice.result.now in
    let part : c.in_ok-copy_of.field-0 ≡ take (s.seen - c.args.i) (drop c.args.i cs) = c.in_ok-copy_of.ensures ∙ ap (λ n. take (n - c.args.i) (drop c.args.i cs)) c.seen.ensures in
    let lent = ap (λ (t : Travelling). t.entries) c.as_slice.ensures.values in
    ap (λ (t : Travelling). t.entries) c.in_ok-append.ensures.ok
    ∙ (ap (λ (t : Travelling). t.entries ++ c.in_ok-pending.field-0.entries) (c.from_list-known.ensures ∙ ap travelling part)
    ∙ (ap (λ ps. map parcel_by_value (take (s.seen - c.args.i) (drop c.args.i cs)) ++ ps) c.in_ok-pending.ensures.entries
    ∙ known_from parcel_by_value cs c.args.committed.now.entries (parcels (pending s)) c.args.i s.seen lent c.requires.from c.requires.seen))

pub returns-clause-hints : goal.returns-clause-hints
returns-clause-hints c =
    let s = c.args.site.now.site in
    let cs = c.as_slice.result.now in
    let part : c.in_ok-copy_of.field-0 ≡ take (s.seen - c.args.i) (drop c.args.i cs) = c.in_ok-copy_of.ensures ∙ ap (λ n. take (n - c.args.i) (drop c.args.i cs)) c.seen.ensures in
    let lent = ap (λ (t : Travelling). t.hints) c.as_slice.ensures.values in
    let as_many = sym (length-map cs parcel_by_value) ∙ ap (λ (t : Travelling). length t.entries) c.as_slice.ensures.values in
    let hints_many = sym (length-map cs (λ (p : Parcel). p.entry.takes_back)) ∙ ap (λ (hs : Hints). length hs) lent in
    let seen = c.requires.seen in
    let within : s.seen ≤ length c.args.committed.now.hints = omega (arith, as_many, hints_many, seen) in
    ap (λ (t : Travelling). t.hints) c.in_ok-append.ensures.ok
    ∙ (ap (λ (t : Travelling). t.hints ++ c.in_ok-pending.field-0.hints) (c.from_list-known.ensures ∙ ap travelling part)
    ∙ (ap (λ hs. map (λ (p : Parcel). p.entry.takes_back) (take (s.seen - c.args.i) (drop c.args.i cs)) ++ hs) c.in_ok-pending.ensures.hints
    ∙ known_from (λ (p : Parcel). p.entry.takes_back) cs c.args.committed.now.hints (hints (pending s)) c.args.i s.seen lent c.requires.from within))
