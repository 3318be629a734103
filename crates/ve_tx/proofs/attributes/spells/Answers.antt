use Rattle.std.proofs.Common.{◌≡◌, sym, ap, ◌∙◌}
use Rattle.std.proofs.lemmas.Bool.Decides.{Decides-like, Decides-eqb}
use Rattle.std.proofs.lemmas.Slice.Eq.{slice_eq-Decides}
use Rattle.std.proofs.lemmas.Str.{encodes-chars}
use Rattle.std.specs.Str.{chars, encode_utf8_all}
use Rattle.ve_tx.proofs.attributes.spells.Goals as goal

pub returns : goal.returns
returns c = Decides-like c.eq.result
    (λ (same : c.args.name.now ≡ c.args.word.now). ap chars same)
    (λ (same : chars c.args.name.now ≡ chars c.args.word.now). sym (encodes-chars c.args.name.now c.utf8.name) ∙ ap encode_utf8_all same ∙ encodes-chars c.args.word.now c.utf8.word)
    (slice_eq-Decides Decides-eqb _ _ _ c.eq.ensures)
