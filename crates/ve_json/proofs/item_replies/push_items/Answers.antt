use Rattle.std.proofs.Common.{◌≡◌, ◌++◌, ◌∷◌, [], false, OnOk, drop, nat_lt, slice_range, refl, sym, ap, ◌∙◌, subst, arith, append_assoc}
use Rattle.std.proofs.lemmas.List.{drop_all}
use Rattle.serde_json.specs.Written.{items_text}
use Rattle.model_items.specs.Plain.{plain_list}
use Rattle.model_world.specs.Shown.{all_shown, json_items, as_shown}
use Rattle.ve_json.specs.Runs.{plain_before}
use Rattle.ve_json.proofs.RangeLemmas.{drop_before, length_before, not_before_itself}
use Rattle.ve_json.proofs.item_replies.push_items.Goals as goal

pub items-init : goal.items-init
items-init c =
    let from = c.args.range.0 in
    let to = c.args.range.1 in
    let items = plain_list c.args.store.now c.args.list.now.items in
    record {
      on = omega arith;
      within = c.requires.order;
      text = ap (λ later. c.push_byte.new.self.text ++ items_text later (json_items (all_shown (as_shown (drop from (plain_before to c.args.store.now c.args.list.now.items)))))) (not_before_itself from)
          ∙ ap (λ l. c.push_byte.new.self.text ++ items_text false (json_items (all_shown (as_shown l)))) (drop_before items from to c.requires.order);
      before = refl;
    }

pub returns-clause-ok : goal.returns-clause-ok
returns-clause-ok c =
    let S = c.args.store.now in
    let from = c.args.range.0 in
    let to = c.args.range.1 in
    let items = plain_before to S c.args.list.now.items in
    let at = c.items.at in
    let text = items_text false (json_items (all_shown (as_shown (slice_range (plain_list S c.args.list.now.items) from to)))) in
    let none : drop at items ≡ [] = drop_all at items (omega (arith, length_before S c.args.list.now.items to c.requires.within, c.items-test.false)) in
    let all : c.items.out.text ++ 93 ∷ [] ≡ c.push_byte.new.self.text ++ text =
    sym (ap (λ l. c.items.out.text ++ items_text (nat_lt from at) (json_items (all_shown (as_shown l)))) none) ∙ c.items.invariant.text in
    let whole : c.items.out.text ++ 93 ∷ [] ≡ c.args.out.now.text ++ 91 ∷ text =
    all ∙ ap (λ s. s ++ text) c.in_ok-push_byte.ensures.ok ∙ append_assoc c.args.out.now.text (91 ∷ []) text in
    subst (λ s. OnOk c.push_byte-2.result (c.push_byte-2.new.self.text ≡ s)) whole c.push_byte-2.ensures.ok
