-- A range in the middle of a page that is written afresh: a table, with the one reference of the
-- page. The texts are written by hand.
use Rattle.std.specs.Prelude.{◌≡◌, ℕ, true, List, [], ◌∷◌, ◌++◌, Option, Some, None, codes, refl, option_map}
use Rattle.ve_base.specs.declared.head.Key.TheVariants.{Auto}
use Rattle.model_page.specs.PageItems.{opened_page}
use Rattle.model_page.proofs.OnLiterals.{page_on_literals}
use Rattle.model_page_write.specs.Range.{fresh_range}
use Rattle.ve_write.specs.Range.{carried_in, in_range}

abbrev table_page : List ℕ
table_page =
    codes "<p>a</p><table><tbody><tr><td class='x'>b<sup typeof='mw:Extension/ref' data-mw='{\"name\":\"ref\",\"attrs\":{\"name\":\"n\"},\"body\":{\"html\":\"<i>y</i>\"}}'>[1]</sup></td></tr></tbody></table>"
    ++ 10 ∷ codes "<p>c</p>"

abbrev range_of : ℕ → ℕ → Option (List ℕ)
range_of from to = option_map (λ o. fresh_range o.items from to) (opened_page table_page)

-- the quotes are double, and the body is the one in the internal list
abbrev table_text : List ℕ
table_text =
    codes "<table><tbody><tr><td class=\"x\">b<sup typeof=\"mw:Extension/ref\" data-mw=\"{&quot;attrs&quot;:{&quot;name&quot;:&quot;n&quot;},&quot;body&quot;:{&quot;html&quot;:&quot;&lt;i&gt;y&lt;/i&gt;&quot;},&quot;name&quot;:&quot;ref&quot;}\">[1]</sup></td></tr></tbody></table>"

-- refuses the line feed after the table, which is the next paragraph's, and a reference without its
-- body
a_table : range_of 3 16 ≡ Some table_text
unfolding page_on_literals
a_table = refl

a_table_and_the_next : range_of 3 19 ≡ Some (table_text ++ 10 ∷ codes "<p>c</p>")
unfolding page_on_literals
a_table_and_the_next = refl

-- refuses a range that isn't counted from its start: a row, and what stands in a cell
a_row : range_of 5 14 ≡ Some (codes "<tr><td class=\"x\">b<sup typeof=\"mw:Extension/ref\" data-mw=\"{&quot;attrs&quot;:{&quot;name&quot;:&quot;n&quot;},&quot;body&quot;:{&quot;html&quot;:&quot;&lt;i&gt;y&lt;/i&gt;&quot;},&quot;name&quot;:&quot;ref&quot;}\">[1]</sup></td></tr>")
unfolding page_on_literals
a_row = refl

-- refuses a position of the list for one in the range, and what stands behind the range
known_there : in_range 3 16 (λ at. Some at) 6 ≡ Some 9
known_there = refl

nothing_behind : in_range 3 16 (λ at. Some at) 13 ≡ None
nothing_behind = refl

-- refuses the body of a reference before the range, and of one behind it
not_before : carried_in 5 9 20 (record { at = 4; key = record { group = []; key = Auto 0 }; number = 1; carrier = true; body_at = Some 21 }) ≡ None
not_before = refl

not_behind : carried_in 5 9 20 (record { at = 9; key = record { group = []; key = Auto 0 }; number = 1; carrier = true; body_at = Some 21 }) ≡ None
not_behind = refl
