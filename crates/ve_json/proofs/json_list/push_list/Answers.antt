use Rattle.std.proofs.Common.{◌≡◌, ◌++◌, ◌∷◌, [], OnOk, map, drop, nat_lt, false, sym, ap, ◌∙◌, subst, arith, append_assoc}
use Rattle.std.proofs.lemmas.List.{drop_all}
use Rattle.serde_json.specs.Written.{items_text}
use Rattle.model_world.specs.Shown.{json_items}
use Rattle.ve_json.proofs.json_list.push_list.Goals as goal

pub returns-clause-ok : goal.returns-clause-ok
returns-clause-ok g c =
    let shown = g.T.Json.shown in
    let members = c.args.members.now in
    let none : drop c.loop-i.i members ≡ [] = drop_all c.loop-i.i members (omega (arith, c.loop-i-test.false)) in
    let all : c.loop-i.out.text ++ 93 ∷ [] ≡ c.push_byte.new.self.text ++ items_text false (json_items (map shown members)) =
    sym (ap (λ l. c.loop-i.out.text ++ items_text (nat_lt 0 c.loop-i.i) (json_items (map shown l))) none) ∙ c.loop-i.invariant.text in
    let whole : c.loop-i.out.text ++ 93 ∷ [] ≡ c.args.out.now.text ++ 91 ∷ items_text false (json_items (map shown members)) =
    all ∙ ap (λ s. s ++ items_text false (json_items (map shown members))) (c.in_ok-push_byte.ensures.ok) ∙ append_assoc c.args.out.now.text (91 ∷ []) (items_text false (json_items (map shown members))) in
    subst (λ s. OnOk c.push_byte-2.result (c.push_byte-2.new.self.text ≡ s)) whole c.push_byte-2.ensures.ok
