use Rattle.std.proofs.Common.{sym, ap, ◌∙◌, subst}
use Rattle.std.specs.List.{All}
use Rattle.std.specs.Str.{encode_utf8_all}
use Rattle.std.proofs.lemmas.Map.Views.{All-insert_key}
use Rattle.ve_tx.specs.Noted.{IsEncoded}
use Rattle.ve_tx.proofs.NotedLemmas.{order, found, noted_found, more_noted, is_new, as_texts, as_names}
use Rattle.ve_tx.proofs.names.Names.note.Goals as goal

pub invariant_of-self-2 : goal.invariant_of-self-2
invariant_of-self-2 c = subst (All IsEncoded) (sym c.in_ok-is_new.ensures.keys)
    (All-insert_key order c.as_str.result IsEncoded c.self.inside.noted.keys c.self.invariant (c.as_str.ensures.bytes ∙ ap encode_utf8_all (sym c.as_str.ensures.chars)))

pub returns-clause-new : goal.returns-clause-new
returns-clause-new c =
    let noted = c.self.inside.noted.keys in
    let name = c.as_str.result in
    is_new _ _ c.in_ok-is_new.ensures.added
    (λ h. as_texts noted name _ _ c.self.view_is c.as_str.ensures.chars (found name noted h))
    (λ h. noted_found name noted (c.as_str.ensures.bytes ∙ ap encode_utf8_all (sym c.as_str.ensures.chars)) c.self.invariant (as_names noted name _ _ c.self.view_is c.as_str.ensures.chars h))

pub returns-clause-noted : goal.returns-clause-noted
returns-clause-noted c =
    more_noted c.self.inside.noted.keys c.insert.new.self.keys c.as_str.result _ _ c.self.view_is c.as_str.ensures.chars c.in_ok-is_new.ensures.keys
