use Rattle.std.proofs.Common.{◌-◌, List, length, take, drop, ap, ◌∙◌, arith}
use Rattle.std.proofs.lemmas.List.{length-drop, take_all}
use Rattle.ve_tx.specs.declared.entry.Entry.{Entry}
use Rattle.ve_site.proofs.NotedLemmas.{both_undone}
use Rattle.ve_site.proofs.pending.note_dropped.Goals as goal

pub returns : goal.returns
returns c values =
    let sent = c.args.sent.now in
    let unsent = c.args.unsent.now in
    let k = c.min.result in
    let i = c.saturating_sub.result in
    let first : List Entry = take (length sent - k) (drop k sent) in
    let second : List Entry = take (length unsent - i) (drop i unsent) in
    let some = length-drop k sent in
    let more = length-drop i unsent in
    both_undone values c.args.left sent unsent first second c.args.untold.now c.note_all_back.new.self c.note_all_back-2.new.self
    (take_all (length sent - k) (drop k sent) (omega (arith, some)) ∙ ap (λ n. drop n sent) c.min.ensures)
    (take_all (length unsent - i) (drop i unsent) (omega (arith, more)) ∙ ap (λ n. drop n unsent) c.saturating_sub.ensures)
    (c.note_all_back.ensures values) (c.note_all_back-2.ensures values)
