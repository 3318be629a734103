-- A line that is read: it is UTF-8, and so is each string in what it is read as.
use Rattle.std.proofs.Common.{◌≡◌, ℕ, Bool, true, false, if◌then◌else◌, List, None, refl, subst, IsUtf8}
use Rattle.std.specs.Prelude.{IfSome}
use Rattle.std.specs.Str.{is_utf8}
use Rattle.std.proofs.lemmas.Str.{IsUtf8-from_is_utf8}
use Rattle.serde_json.specs.Read.{read}
use Rattle.model_world.specs.Values.{line_json}
use Rattle.model_page_law.specs.Strings.{AllStrings}
use Rattle.model_page_law.proofs.ReadUtf8.{read_utf8}
use Rattle.model_line_law.specs.Texts.{StringsAreUtf8}

line_by : (t : Bool) (line : List ℕ) → is_utf8 line ≡ t → IfSome (if t then read line else None) (AllStrings IsUtf8)
line_by true line e = read_utf8 line (IsUtf8-from_is_utf8 line e)
line_by false line e = tt

pub line_utf8 : (line : List ℕ) → IfSome (line_json line) (AllStrings IsUtf8)
line_utf8 line = line_by (is_utf8 line) line refl

pub strings_are_utf8 : StringsAreUtf8
strings_are_utf8 line d e = subst (λ o. IfSome o (AllStrings IsUtf8)) e (line_utf8 line)
