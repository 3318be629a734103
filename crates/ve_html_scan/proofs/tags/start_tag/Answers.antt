use Rattle.std.proofs.Common.{◌∙◌, sym, ap, arith, drop, ◌++◌, append_assoc, List, ℕ}
use Rattle.std.specs.List.{flat_map}
use Rattle.model_spelling.specs.Grammar.{attr_text}
use Rattle.model_spelling.specs.Reading.{attrs_from}
use Rattle.ve_html_scan.proofs.AttrSteps.{between_is}
use Rattle.model_spelling.specs.Reading.{tag_close}
use Rattle.ve_html_scan.proofs.TagSteps.{start_whole}
use Rattle.ve_html_scan.proofs.tags.start_tag.Goals as goal

pub returns-clause-read : goal.returns-clause-read
returns-clause-read c =
    start_whole c.args.tag c.name_end-name_to.result c.in_ok-close.close c.in_ok-slash.to c.in_ok-slash.slash c.args.bytes.now _ c.name_end-name_to.ensures.end (omega arith) (sym c.is_plaintext_name.ensures ∙ c.if-is_plaintext_name.false) c.in_ok-close.ensures.read c.in_ok-close.ensures.bound.0
    (ap (λ v. tag_close c.args.tag v c.in_ok-close.close (drop c.in_ok-close.close c.args.bytes.now)) (sym c.is_void_name.ensures) ∙ sym c.in_ok-slash.ensures.read)

pub returns-clause-source : goal.returns-clause-source
returns-clause-source c =
    let attrs = flat_map attr_text (attrs_from c.args.tag c.name_end-name_to.result c.args.bytes.now) in
    between_is c.args.bytes.now _ c.name_end-name_to.result c.in_ok-slash.to (omega (arith, c.in_ok-close.ensures.bound, c.in_ok-slash.ensures.bound)) c.in_ok-slash.ensures.bound.1
    (c.in_ok-close.ensures.text ∙ ap (λ (l : List ℕ). attrs ++ l) c.in_ok-slash.ensures.text ∙ sym (append_assoc attrs _ _))
