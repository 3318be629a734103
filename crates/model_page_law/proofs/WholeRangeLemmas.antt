-- The range of all items of a list.
use Rattle.std.proofs.Common.{◌≡◌, ℕ, suc, ◌-◌, ◌≤◌, false, List, [], ◌∷◌, length, take, refl, ap, ◌∙◌, arith, Option}
use Rattle.std.proofs.lemmas.List.{take_all}
use Rattle.model_items.specs.declared.plain_item.PlainItem.{PlainItem}
use Rattle.model_items.specs.declared.plain_item.PlainItem.TheVariants.{Char, Opening, Closing}
use Rattle.model_page.specs.References.{Body}
use Rattle.model_page_write.specs.Nodes.{Carried, body_carried, carried_from, carried_items, carried_nodes}
use Rattle.model_page_write.specs.PageText.{fresh_writer}
use Rattle.model_page_write.specs.Written.{blocks}
use Rattle.model_page_law.specs.WritesFresh.{WholeRangeIsFresh}

carried_length : (bodies : ℕ → Option Body) (at : ℕ) (items : List PlainItem) → length (carried_from bodies at items) ≡ length items
carried_length bodies at [] = refl
carried_length bodies at (Char c marks ∷ items) = ap suc (carried_length bodies (suc at) items)
carried_length bodies at (Closing kind pre ∷ items) = ap suc (carried_length bodies (suc at) items)
carried_length bodies at (Opening kind head marks pre origin generated ∷ items) = ap suc (carried_length bodies (suc at) items)

pub whole_range_is_fresh : WholeRangeIsFresh
whole_range_is_fresh items =
    let long = carried_length (body_carried items) 0 items in
    let all : length items - 0 ≡ length items = omega arith in
    ap (λ (l : List Carried). blocks fresh_writer false [] (carried_nodes l))
    (ap (λ n. take n (carried_items items)) all ∙ take_all (length items) (carried_items items) (omega (arith, long)))
