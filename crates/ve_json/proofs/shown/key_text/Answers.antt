use Rattle.std.proofs.Common.{◌++◌, codes, chars, sym, ap, ◌∙◌}
use Rattle.model_world.specs.Shown.{key_text}
use Rattle.ve_json.proofs.ShownLemmas.{named_start}
use Rattle.ve_json.proofs.shown.key_text.Goals as goal

pub returns-in_ok-push_str-in-Named : goal.returns-in_ok-push_str-in-Named
returns-in_ok-push_str-in-Named c =
    c.in_ok-push_str-in-Named.ensures.ok
    ∙ ap (λ t. t ++ chars c.as_str.result.now) (c.in_ok-text-in-Named.ensures ∙ named_start)
    ∙ ap (λ s. codes "n:" ++ s) c.as_str.ensures.chars
    ∙ ap key_text (sym c.in-Named.is)
