use Rattle.std.specs.Prelude.{encode_utf8_all, option_map}
use Rattle.std.specs.Str.{chars}
use Rattle.std.proofs.Common.{◌≡◌, ◌+◌, ◌-◌, ◌<◌, ◌≤◌, length, drop, sym, ap, ◌∙◌, subst, arith, rules, length-drop}
use Rattle.model_items.specs.Plain.{plain_list}
use Rattle.model_edit.specs.Next.{cutting}
use Rattle.model_edit.specs.Next as model
use Rattle.ve_select.specs.Passing.{cuts}
use Rattle.ve_select.specs.Runs.{chars_from}
use Rattle.ve_select.proofs.RunLemmas.{first_chars-within}
use Rattle.ve_select.proofs.NextLemmas.{back_is, ahead_is, below_is_less}
use Rattle.ve_select.proofs.next.boundary_at.Goals as goal

pub counted_from-requires : goal.counted_from-requires
counted_from-requires c x e =
    let bytes = c.as_str.result.now in
    let less = below_is_less (c.args.offset - c.run_start-start.result) x (cuts (cutting c.args.by bytes)) (sym c.boundaries_beside-beside.ensures.below ∙ e) in
    let low : c.run_start-start.result + x < c.args.offset = omega arith in
    search (rules, arith)

pub returns-in-Back : goal.returns-in-Back
returns-in-Back c values =
    let items = c.args.list.now.items in
    let start = c.run_start-start.result in
    subst (λ d. c.counted_from.result ≡ model.boundary_at d (cutting c.args.by) (plain_list values items) c.args.offset) (sym c.in-Back.is)
    (c.counted_from.ensures ∙ ap (option_map (λ n. start + n)) c.boundaries_beside-beside.ensures.below
    ∙ back_is values c.args.by items c.args.offset start c.as_str.result.now (record {
      within = c.requires;
      begins = c.run_start-start.ensures;
      text = c.as_str.ensures.bytes ∙ ap encode_utf8_all c.in_ok-text.ensures;
    }))

pub counted_from-requires-in-Ahead : goal.counted_from-requires-in-Ahead
counted_from-requires-in-Ahead c x e =
    let items = c.args.list.now.items in
    let start = c.run_start-start.result in
    let most = c.boundaries_beside-beside.ensures.within x e in
    let read : length (chars c.as_str.result.now) ≡ length (chars_from items start) = ap length (c.as_str.ensures.chars ∙ c.in_ok-text.ensures) in
    let few : length (chars_from items start) ≤ length (drop start items) = first_chars-within (drop start items) in
    let left = length-drop start items in
    let begins = c.run_start-start.ensures in
    let within = c.requires in
    let len = c.len-len.ensures in
    let low : start + x ≤ c.len-len.result = omega arith in
    search (rules, arith)

pub returns : goal.returns
returns c values =
    let items = c.args.list.now.items in
    let start = c.run_start-start.result in
    subst (λ d. c.counted_from-in-Ahead.result ≡ model.boundary_at d (cutting c.args.by) (plain_list values items) c.args.offset) (sym c.in-Ahead.is)
    (c.counted_from-in-Ahead.ensures ∙ ap (option_map (λ n. start + n)) c.boundaries_beside-beside.ensures.above
    ∙ ahead_is values c.args.by items c.args.offset start c.as_str.result.now (record {
      within = c.requires;
      begins = c.run_start-start.ensures;
      text = c.as_str.ensures.bytes ∙ ap encode_utf8_all c.in_ok-text.ensures;
    }))
