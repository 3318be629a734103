use Rattle.ve_classify.proofs.ValueLemmas.{about_shown}
use Rattle.ve_classify.proofs.groups.about_of.Goals as goal

pub returns-in-StartTag : goal.returns-in-StartTag
returns-in-StartTag c = λ k s. about_shown c.args.token.now c.in-StartTag.name c.in-StartTag.attrs c.in-StartTag.span k c.spelled_value.result c.in-StartTag.is s c.spelled_value.ensures
