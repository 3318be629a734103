-- Fields of an opening by the purpose of reading, as the code asks. These serve private functions.
use Rattle.std.specs.Prelude.{ℕ, Bool, false, List, [], ◌∷◌}
use Rattle.ve_html_scan.specs.declared.token.Span.{Span}
use Rattle.ve_origin.specs.declared.origin.OriginRow.{OriginRow}
use Rattle.ve_reader.specs.declared.purpose.Purpose.{Purpose}
use Rattle.ve_reader.specs.declared.purpose.Purpose.TheVariants as purpose

abbrev pub generated_here : Purpose → Bool → Bool
generated_here purpose.Page generated = generated
generated_here purpose.Body generated = generated
generated_here purpose.Fragment generated = false

abbrev pub row_here : Purpose → Span → ℕ → ℕ → List OriginRow
row_here purpose.Page span from to = record { span = span; from = from; to = to } ∷ []
row_here purpose.Body span from to = []
row_here purpose.Fragment span from to = []
