use Rattle.std.proofs.Common.{◌≡◌, List, ℕ, ◌∷◌, [], ◌++◌, decimal, encode_utf8_all, OnOk, ap, ◌∙◌, subst}
use Rattle.json.specs.Print.{quoted}
use Rattle.serde_json.specs.Data.{boolean}
use Rattle.serde_json.specs.Written.{compact_text}
use Rattle.model_world.specs.Shown.{key_text, place_or_null}
use Rattle.ve_json.specs.ReplyMembers.{group_and_key}
use Rattle.ve_json.proofs.ShownLemmas.{row_pieces}
use Rattle.ve_json.proofs.tree_rows.RefRowJson.push_json.Goals as goal

pub returns-clause-ok : goal.returns-clause-ok
returns-clause-ok c =
    let row = c.args.self.now in
    let comma : List ℕ → List ℕ = λ s. s ++ 44 ∷ [] in
    let at = decimal row.at in
    let key = group_and_key row.key in
    let number = decimal row.number in
    let carrier = compact_text (boolean row.carrier) in
    let body = compact_text (place_or_null row.body_at) in
    let text = c.in_ok-push_place.ensures.ok
    ∙ ap (λ s. s ++ body) (c.in_ok-push_byte-5.ensures.ok
    ∙ ap comma (c.in_ok-push_flag.ensures.ok
    ∙ ap (λ s. s ++ carrier) (c.in_ok-push_byte-4.ensures.ok
    ∙ ap comma (c.in_ok-push_decimal-2.ensures.ok
    ∙ ap (λ s. s ++ number) (c.in_ok-push_byte-3.ensures.ok
    ∙ ap comma (c.in_ok-push_key.ensures.ok
    ∙ ap (λ s. s ++ key) (c.in_ok-push_byte-2.ensures.ok
    ∙ ap comma (c.in_ok-push_decimal.ensures.ok ∙ ap (λ s. s ++ at) c.in_ok-push_byte.ensures.ok)))))))) in
    subst (λ s. OnOk c.push_byte-6.result (c.push_byte-6.new.self.text ≡ s))
    (ap (λ s. s ++ 93 ∷ []) text
    ∙ row_pieces c.args.out.now.text at (quoted (encode_utf8_all row.key.group)) (quoted (encode_utf8_all (key_text row.key.key))) number carrier body)
    c.push_byte-6.ensures.ok
