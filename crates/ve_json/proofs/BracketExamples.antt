-- Brackets as JSON, what stands for itself in a string, and characters of a run.
use Rattle.std.proofs.Common.{◌≡◌, [], ◌∷◌, codes, true, false, Some, None, refl}
use Rattle.std.specs.Fmt.{digits}
use Rattle.ve_base.specs.declared.marks.Mark.{Mark}
use Rattle.ve_base.specs.declared.head.Head.{Head}
use Rattle.ve_base.specs.declared.head.Key.TheVariants.{Named, Auto}
use Rattle.ve_kinds.specs.declared.kind.Kind.TheVariants.{P, Br, Ref, TransBlock, InternalList}
use Rattle.model_items.specs.declared.plain_item.PlainItem.TheVariants.{Char, Closing}
use Rattle.model_page.proofs.OnLiterals.{page_on_literals}
use Rattle.ve_json.specs.ReplyMembers.{opening_json, closing_json, group_and_key}
use Rattle.ve_json.specs.Pieces.{is_escaped}
use Rattle.ve_json.specs.Runs.{char_with}

abbrev bold : Mark
bold = record { tag = codes "b"; attrs = [] }

abbrev empty : Head
empty = record { tag = []; attrs = []; raw = []; reference = None; owner = false }

-- ---- brackets

bare : opening_json P empty [] [] None false ≡ codes "{\"open\":\"p\"}"
unfolding page_on_literals
bare = refl

-- the whitespace is its bytes
with_members : opening_json P (record empty { attrs = record { name = codes "id"; value = codes "x" } ∷ [] }) [] (10 ∷ []) (Some 7) true
    ≡ codes "{\"attrs\":[[\"id\",\"x\"]],\"gen\":true,\"open\":\"p\",\"origin\":7,\"pre\":\"\\n\"}"
unfolding page_on_literals digits
with_members = refl

with_marks : opening_json Br empty (bold ∷ []) [] None false ≡ codes "{\"marks\":[[\"b\",[]]],\"open\":\"br\"}"
unfolding page_on_literals
with_marks = refl

with_source : opening_json TransBlock (record empty { raw = codes "<hr>" }) [] [] None false ≡ codes "{\"open\":\"trans_block\",\"raw\":\"<hr>\"}"
unfolding page_on_literals
with_source = refl

with_key : opening_json Ref (record empty { reference = Some (record { group = codes "g"; key = Named (codes "n") }); owner = true }) [] [] None false
    ≡ codes "{\"open\":\"ref\",\"owner\":true,\"ref\":[\"g\",\"n:n\"]}"
unfolding page_on_literals
with_key = refl

closed : closing_json P [] ≡ codes "{\"close\":\"p\"}"
unfolding page_on_literals
closed = refl

closed_after_whitespace : closing_json InternalList (32 ∷ []) ≡ codes "{\"close\":\"internal_list\",\"pre\":\" \"}"
unfolding page_on_literals
closed_after_whitespace = refl

unnamed : group_and_key (record { group = []; key = Auto 3 }) ≡ codes "\"\",\"a:3\""
unfolding page_on_literals digits
unnamed = refl

-- ---- what stands for itself in a string

quote : is_escaped 34 ≡ true
quote = refl

backslash : is_escaped 92 ≡ true
backslash = refl

last_control : is_escaped 31 ≡ true
last_control = refl

space : is_escaped 32 ≡ false
space = refl

delete : is_escaped 127 ≡ false
delete = refl

-- ---- characters with certain marks

of_these_marks : char_with (bold ∷ []) (Char 97 (bold ∷ [])) ≡ Some 97
of_these_marks = refl

of_others : char_with (bold ∷ []) (Char 97 []) ≡ None
of_others = refl

no_character : char_with [] (Closing P []) ≡ None
no_character = refl
