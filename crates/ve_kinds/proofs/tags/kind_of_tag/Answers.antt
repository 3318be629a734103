use Rattle.std.proofs.Common.{sym}
use Rattle.ve_kinds.specs.Tags.{tags_of_kinds}
use Rattle.ve_kinds.proofs.TagLemmas.{kind_among-none}
use Rattle.ve_kinds.proofs.tags.kind_of_tag.Goals as goal

pub returns-in_default : goal.returns-in_default
returns-in_default c =
    let n = c.in_default in
    sym (kind_among-none tags_of_kinds c.args.tag.now
    (n.not-p, (n.not-h1, (n.not-h2, (n.not-h3, (n.not-h4, (n.not-h5, (n.not-h6, (n.not-pre, (n.not-section, (n.not-ul, (n.not-ol, (n.not-li, (n.not-dl, (n.not-dt, (n.not-dd, (n.not-blockquote, (n.not-div, (n.not-table, (n.not-caption, (n.not-thead, (n.not-tbody, (n.not-tfoot, (n.not-tr, (n.not-td, (n.not-th, (n.not-br, (n.not-img, tt))))))))))))))))))))))))))))
