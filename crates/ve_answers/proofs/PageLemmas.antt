-- The text that is written into an empty buffer and read as UTF-8 is the page.
use Rattle.std.proofs.Common.{◌≡◌, ℕ, List, [], ◌++◌, ap, ◌∙◌}
use Rattle.std.specs.Prelude.{chars}

pub page_told : (page none written lent text told : List ℕ) → none ≡ [] → written ≡ none ++ page → lent ≡ written → text ≡ lent → told ≡ chars text → told ≡ chars page
page_told page none written lent text told empty wrote same read known =
    known ∙ ap chars (read ∙ same ∙ wrote ∙ ap (λ (l : List ℕ). l ++ page) empty)
