use Rattle.std.proofs.Common.{◌≡◌, ◌∷◌, [], ◌++◌, codes, OnOk, ap, ◌∙◌, subst}
use Rattle.model_world.specs.Names.{kind_name}
use Rattle.model_world.specs.Shown.{json_text}
use Rattle.ve_json.specs.ReplyMembers.{member_and_comma, later_text, member_text, some_attrs, some_flag, some_marks}
use Rattle.ve_json.proofs.MemberLemmas.{five_pieces}
use Rattle.ve_json.proofs.brackets.push_opening.Goals as goal

pub returns-clause-ok : goal.returns-clause-ok
returns-clause-ok c =
    let o = c.args.opening in
    let attrs = member_and_comma (codes "attrs") (some_attrs c.as_slice.result.now) in
    let gen = member_and_comma (codes "gen") (some_flag o.generated) in
    let marks = member_and_comma (codes "marks") (some_marks o.marks.now) in
    let kind = member_text (codes "open") (json_text (kind_name o.kind)) in
    let later = later_text o.head.now o.pre.now o.origin in
    let text = c.in_ok-push_later.ensures.ok
    ∙ ap (λ s. s ++ later) (c.in_ok-push_kind.ensures.ok
    ∙ ap (λ s. s ++ kind) (c.in_ok-push_marks.ensures.ok
    ∙ ap (λ s. s ++ marks) (c.in_ok-push_generated.ensures.ok
    ∙ ap (λ s. s ++ gen) (c.in_ok-push_attrs.ensures.ok ∙ ap (λ s. s ++ attrs) c.in_ok-push_byte.ensures.ok)))) in
    subst (λ s. OnOk c.push_byte-2.result (c.push_byte-2.new.self.text ≡ s))
    (ap (λ s. s ++ 125 ∷ []) text ∙ five_pieces c.args.out.now.text attrs gen marks kind later
    ∙ ap (λ a. c.args.out.now.text ++ 123 ∷ (member_and_comma (codes "attrs") (some_attrs a) ++ (gen ++ (marks ++ (kind ++ (later ++ 125 ∷ [])))))) c.as_slice.ensures.items)
    c.push_byte-2.ensures.ok
