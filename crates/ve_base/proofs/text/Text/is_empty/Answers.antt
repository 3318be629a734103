use Rattle.std.proofs.Common.{sym, ◌∙◌}
use Rattle.std.proofs.lemmas.Str.{chars-nil}
use Rattle.ve_base.proofs.text.Text.is_empty.Goals as goal

pub returns : goal.returns
returns c = (λ empty. c.is.ensures.0 empty ∙ chars-nil, λ empty. c.is.ensures.1 (empty ∙ sym chars-nil))
