-- The texts of bodies, by the rows of the table of references.
use Rattle.std.specs.Prelude.{ℕ, ◌+◌, ◌==◌, if◌then◌else◌, nat_lt, List, drop, find, Option, Some, None, option_map, option_and_then}
use Rattle.std.specs.List.{position_or_len}
use Rattle.model_items.specs.declared.plain_item.PlainItem.{PlainItem}
use Rattle.model_page.specs.declared.ref_table.RefRow.{RefRow}
use Rattle.model_page.specs.References.{body_after}
use Rattle.model_page_write.specs.PageText.{html_of}
use Rattle.ve_origin.specs.Kept.{opens_notes}
use Rattle.ve_origin.specs.Rows.{carried_place}

-- where the internal list opens, or the length of a list without one
abbrev pub notes_place : List PlainItem → ℕ
notes_place items = position_or_len opens_notes items

-- the body of the internal item at this position, as text
abbrev pub text_at : List PlainItem → ℕ → List ℕ
text_at items at = html_of (body_after at (drop (at + 1) items))

-- where the internal item opens whose body the reference of a row carries; one that stands past the
-- opening of the internal list carries none
abbrev pub carried_outside : ℕ → RefRow → Option ℕ
carried_outside notes row = if nat_lt notes row.at then None else carried_place (Some row)

-- the text that the reference at a position carries, by the rows
abbrev pub text_by : List PlainItem → List RefRow → ℕ → Option (List ℕ)
text_by items rows at = option_map (text_at items) (option_and_then (carried_outside (notes_place items)) (find (λ r. r.at == at) rows))
