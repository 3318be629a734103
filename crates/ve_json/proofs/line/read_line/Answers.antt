use Rattle.std.proofs.Common.{◌≡◌, ℕ, List, Bool, true, false, Some, None, refl, sym, ap, ◌∙◌, if◌then◌else◌}
use Rattle.std.proofs.lemmas.Str.{is_utf8-from_IsUtf8, IsUtf8-from_is_utf8}
use Rattle.std.specs.Str.{IsUtf8, is_utf8}
use Rattle.serde_json.specs.Data.{Data}
use Rattle.serde_json.specs.Read.{read}
use Rattle.model_world.specs.Values.{line_json}
use Rattle.ve_json.proofs.line.read_line.Goals as goal

read_some : (line : List ℕ) (d : Data) → IsUtf8 line → read line ≡ Some d → Some d ≡ line_json line
read_some line d utf8 e = sym e ∙ ap (λ b. if b then read line else None) (sym (is_utf8-from_IsUtf8 line utf8))

read_none : (line : List ℕ) (b : Bool) → is_utf8 line ≡ b → (IsUtf8 line → read line ≡ None) → None ≡ line_json line
read_none line true e h = sym (h (IsUtf8-from_is_utf8 line e)) ∙ ap (λ b. if b then read line else None) (sym e)
read_none line false e h = ap (λ b. if b then read line else None) (sym e)

pub returns-in-Ok : goal.returns-in-Ok
returns-in-Ok c = read_some c.args.line.now _ c.in-Ok.ensures.ok.0 c.in-Ok.ensures.ok.1

pub returns-else-is_memory : goal.returns-else-is_memory
returns-else-is_memory c = read_none c.args.line.now (is_utf8 c.args.line.now) refl (c.in-Err.ensures.err (λ m. let yes = c.is_memory.ensures.1 m in cc (yes, c.if-is_memory.false)))
