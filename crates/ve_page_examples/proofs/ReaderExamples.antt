-- Worked examples of what is read so far, of leaves, heads and owners, and items that aren't put
-- together.
use Rattle.std.proofs.Common.{◌≡◌, ℕ, true, false, List, [], ◌∷◌, length, Some, None, refl, ap, subst, arith}
use Rattle.std.specs.Prelude.{Option, codes, slice_get}
use Rattle.model_spelling.specs.Grammar.{Attr as Spelled}
use Rattle.ve_base.specs.Empty.{empty_head}
use Rattle.ve_base.specs.declared.head.Key.{Key}
use Rattle.ve_base.specs.declared.head.Key.TheVariants.{Named, Auto}
use Rattle.ve_base.specs.declared.head.RefKey.{RefKey}
use Rattle.ve_base.specs.declared.marks.Mark.{Mark}
use Rattle.ve_base.specs.declared.value.Value.{Value}
use Rattle.ve_base.specs.declared.value.Value.TheVariants as value
use Rattle.ve_base.specs.declared.value.ValueId.{ValueId}
use Rattle.ve_kinds.specs.declared.kind.Kind.TheVariants.{P, Br, AlienBlock}
use Rattle.model_items.specs.Plain.{plain, plain_list, marks_in, value_at, CitesWell}
use Rattle.model_items.specs.Same.{ref_key_same}
use Rattle.model_items.specs.declared.item.Item.{Item}
use Rattle.model_items.specs.declared.item.Item.TheVariants as item
use Rattle.model_items.specs.declared.plain_item.PlainItem.{PlainItem}
use Rattle.model_items.specs.declared.plain_item.PlainItem.TheVariants.{Char, Opening, Closing}
use Rattle.model_page.proofs.OnLiterals.{page_on_literals}
use Rattle.model_page.specs.Heads.{attrs_of, head_with}
use Rattle.model_page.specs.Pieces.{Owner as PageOwner, SourceSpan}
use Rattle.model_page.specs.ReferenceNodes.{auto_count}
use Rattle.ve_internal.specs.declared.reference.RefRead.{RefRead}
use Rattle.ve_reader.specs.Claimed.{claim_of, lent_owner}
use Rattle.ve_reader.specs.Holding.{More}
use Rattle.ve_reader.specs.Leaves.{head_of_ref, leaf_items, mark_from, text_items}
use Rattle.ve_reader.specs.Owned.{count_next}
use Rattle.ve_reader.specs.ReadSoFar.{ReadSoFar, bodies_next, mark_left, next_origin, with_closing, with_mark, with_opening}
use Rattle.ve_reader.specs.Shown.{generated_here}
use Rattle.ve_reader.specs.declared.owners.Owner.{Owner}
use Rattle.ve_reader.specs.declared.purpose.Purpose.{Purpose}
use Rattle.ve_reader.specs.declared.purpose.Purpose.TheVariants as purpose

abbrev mark : List ℕ → Mark
mark tag = record { tag = tag; attrs = [] }

abbrev bold : Mark
bold = mark (codes "b")

abbrev italic : Mark
italic = mark (codes "i")

-- ---- what is read so far

-- a letter is read inside of two marks, and four kinds are open
abbrev so_far : Purpose → ReadSoFar
so_far p = record { purpose = p; depth = 4; items = Char 97 [] ∷ []; marks = bold ∷ italic ∷ []; rows = []; owners = [] }

abbrev span : SourceSpan
span = record { from = 0; to = 8 }

-- refuses bodies that are read as the page
bodies_come_after_the_page : (bodies_next (so_far purpose.Page)).purpose ≡ purpose.Body
bodies_come_after_the_page = refl

-- refuses a closing without the whitespace before it
a_closing_has_its_whitespace : (with_closing (record { kind = P; row = None }) (codes " ") (so_far purpose.Body)).items ≡ Char 97 [] ∷ Closing P (codes " ") ∷ []
unfolding page_on_literals
a_closing_has_its_whitespace = refl

-- refuses a mark outside of the others
a_mark_stands_inside_the_others : (with_mark (mark (codes "a")) (so_far purpose.Page)).marks ≡ bold ∷ italic ∷ mark (codes "a") ∷ []
a_mark_stands_inside_the_others = refl

-- refuses a mark that is never left
the_innermost_mark_is_left : (mark_left (so_far purpose.Page)).marks ≡ bold ∷ []
the_innermost_mark_is_left = refl

-- refuses an opening that opens no kind, and rows that are lost
one_kind_more_is_open : (with_opening P empty_head [] false span (so_far purpose.Page)).depth ≡ 5
one_kind_more_is_open = refl

one_row_more_is_read : length (with_opening P empty_head [] false span (so_far purpose.Page)).rows ≡ 1
one_row_more_is_read = refl

-- refuses a generated paragraph of a fragment
nothing_of_a_fragment_is_generated : generated_here purpose.Fragment true ≡ false
nothing_of_a_fragment_is_generated = refl

-- refuses a node of a page without an origin
a_node_has_the_next_origin : next_origin purpose.Page 3 ≡ Some 3
a_node_has_the_next_origin = refl

-- ---- items over their values

abbrev at_ : ℕ → ValueId
at_ n = record { 0 = n }

abbrev in_bold : List Value
in_bold = value.Marks (bold ∷ []) ∷ []

-- refuses marks that are known and aren't cited
what_is_not_cited_marks_nothing : marks_in (value_at in_bold None) ≡ []
what_is_not_cited_marks_nothing = refl

only_item : (old new : List Value) (x : Item) (p : PlainItem) → More old new [] (x ∷ []) p → CitesWell new x × (plain new x ≡ p)
only_item old new x p h =
    let same : h.item ≡ x = cc in
    (subst (CitesWell new) same h.cites, subst (λ y. plain new y ≡ p) same h.plain_is)

-- a character that cites no marks isn't the one in bold
no_character_loses_its_marks : (old new : List Value) → More old new [] (item.Char 97 None ∷ []) (Char 97 (bold ∷ [])) → ⊥
no_character_loses_its_marks old new h =
    let e : Char 97 [] ≡ Char 97 (bold ∷ []) = (only_item old new (item.Char 97 None) (Char 97 (bold ∷ [])) h).1 in cc

-- nor is a closing that cites no whitespace the one after a space
no_closing_loses_its_whitespace : (old new : List Value) → More old new [] (item.Closing P None ∷ []) (Closing P (codes " ")) → ⊥
no_closing_loses_its_whitespace old new h =
    let e : Closing P [] ≡ Closing P (codes " ") = (only_item old new (item.Closing P None) (Closing P (codes " ")) h).1 in cc

-- no leaf cites marks as the whitespace before it
no_marks_are_whitespace : (old : List Value) (p : PlainItem) → More old in_bold [] (item.Opening Br false None (Some (at_ 0)) (Some (at_ 0)) None ∷ []) p → ⊥
no_marks_are_whitespace old p h =
    let white = (only_item old in_bold (item.Opening Br false None (Some (at_ 0)) (Some (at_ 0)) None) p h).0.2 in
    let e : Some (value.Marks (bold ∷ [])) ≡ Some (value.White white.0) = white.1 in cc

-- a list without items isn't a letter, over whatever values
no_items_are_no_letter : (values : List Value) → plain_list values [] ≡ Char 97 [] ∷ [] → ⊥
no_items_are_no_letter values h = cc

-- ---- leaves, marks and heads

abbrev attr_ : List ℕ → List ℕ → Spelled
attr_ name value = record { name = name; value = value; quote = 34 }

-- refuses a leaf among blocks without the whitespace before it
a_block_leaf_has_its_whitespace : leaf_items AlienBlock empty_head [] (codes " ") (Some 3) ≡ Opening AlienBlock empty_head [] (codes " ") (Some 3) false ∷ Closing AlienBlock [] ∷ []
a_block_leaf_has_its_whitespace = refl

-- refuses one character for each, and a text that isn't decoded
a_text_has_the_characters_that_it_means : text_items (bold ∷ []) (codes "a&lt;") ≡ Char 97 (bold ∷ []) ∷ Char 60 (bold ∷ []) ∷ []
unfolding page_on_literals
a_text_has_the_characters_that_it_means = refl

-- refuses a value that isn't decoded
a_value_is_decoded : attrs_of (attr_ (codes "id") (codes "x&lt;") ∷ []) ≡ record { name = codes "id"; value = codes "x<" } ∷ []
unfolding page_on_literals
a_value_is_decoded = refl

-- refuses a mark without its attributes
a_mark_has_its_attributes : mark_from (codes "i") (attr_ (codes "id") (codes "x") ∷ []) ≡ record { tag = codes "i"; attrs = record { name = codes "id"; value = codes "x" } ∷ [] }
unfolding page_on_literals
a_mark_has_its_attributes = refl

-- refuses a branch with a source
a_branch_has_attributes_alone : head_with (attr_ (codes "id") (codes "x") ∷ []) ≡ record { tag = []; attrs = record { name = codes "id"; value = codes "x" } ∷ []; raw = []; reference = None; owner = false }
unfolding page_on_literals
a_branch_has_attributes_alone = refl

abbrev key_ : Key → RefKey
key_ key = record { group = []; key = key }

abbrev key_n : RefKey
key_n = key_ (Named (codes "n"))

-- refuses a reference without its key, and one that never owns its body
a_reference_has_its_key : head_of_ref (codes "sup") (codes "1") key_n true [] ≡ record { tag = codes "sup"; attrs = []; raw = codes "1"; reference = Some key_n; owner = true }
unfolding page_on_literals
a_reference_has_its_key = refl

-- ---- owners

-- refuses keys that are equal where their groups are
keys_of_one_group_differ : ref_key_same (key_ (Auto 0)) (key_ (Auto 1)) ≡ false
keys_of_one_group_differ = refl

-- refuses a count that an owner with a name changes, and one that an owner without a name doesn't
an_owner_with_a_name_is_not_counted : count_next 2 key_n ≡ 2
an_owner_with_a_name_is_not_counted = refl

abbrev owner_ : RefKey → PageOwner
owner_ key = record { at = 5; key = key; html = codes "x" }

an_owner_without_a_name_is_counted : auto_count (owner_ (key_ (Auto 0)) ∷ owner_ key_n ∷ []) ≡ 1
an_owner_without_a_name_is_counted = refl

abbrev reading : Option (List ℕ) → Option (List ℕ) → RefRead
reading name html = record { group = []; name = name; html = html }

-- refuses a claim without the body
a_body_is_claimed : claim_of [] (reading None (Some (codes "x"))) ≡ Some (record { key = key_ (Auto 0); html = Some (codes "x") })
a_body_is_claimed = refl

-- refuses a second owner of one key
the_second_owner_is_barred : claim_of (owner_ key_n ∷ []) (reading (Some (codes "n")) (Some (codes "y"))) ≡ None
the_second_owner_is_barred = refl

-- refuses a bar before the first owner, and before a use by name
the_first_owner_is_free : claim_of [] (reading (Some (codes "n")) (Some (codes "y"))) ≡ Some (record { key = key_n; html = Some (codes "y") })
the_first_owner_is_free = refl

a_use_is_free : claim_of (owner_ key_n ∷ []) (reading (Some (codes "n")) None) ≡ Some (record { key = key_n; html = None })
a_use_is_free = refl

-- an owner that starts at the byte 5 isn't borrowed as one at its position, which is 0
no_place_is_the_byte : (o : Owner) → o.at ≡ 0 → slice_get (owner_ key_n ∷ []) 0 ≡ Some (lent_owner o) → ⊥
no_place_is_the_byte o first h =
    let found : Some (owner_ key_n) ≡ Some (lent_owner o) = h in
    let same : owner_ key_n ≡ lent_owner o = cc in
    let e : 5 ≡ o.at = ap (λ (w : PageOwner). w.at) same in omega (arith, e, first)
