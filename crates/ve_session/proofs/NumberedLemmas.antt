-- Origins that are counted from 0 are below their count, wherever they stand.
use Rattle.std.proofs.Common.{◌≡◌, ℕ, zero, suc, ◌+◌, ◌<◌, List, [], ◌∷◌, drop, Some, None, arith}
use Rattle.model_items.specs.declared.plain_item.PlainItem.{PlainItem}
use Rattle.model_items.specs.declared.plain_item.PlainItem.TheVariants.{Char, Opening, Closing}
use Rattle.model_page_law.specs.Origins.{origins_of, counted_from}
use Rattle.ve_write.specs.Originals.{origin_of}

none_there : (at k : ℕ) → origin_of (drop at []) ≡ Some k → ⊥
none_there zero k e = absurd (cc)
none_there (suc at) k e = absurd (cc)

below : (items : List PlainItem) (a count at k : ℕ) → origins_of items ≡ counted_from a count → origin_of (drop at items) ≡ Some k → k < a + count
below [] a count at k numbers e = absurd (none_there at k e)
below (Char c marks ∷ items) a count zero k numbers e = absurd (cc)
below (Char c marks ∷ items) a count (suc at) k numbers e = below items a count at k numbers e
below (Closing kind pre ∷ items) a count zero k numbers e = absurd (cc)
below (Closing kind pre ∷ items) a count (suc at) k numbers e = below items a count at k numbers e
below (Opening kind head marks pre None generated ∷ items) a count zero k numbers e = absurd (cc)
below (Opening kind head marks pre None generated ∷ items) a count (suc at) k numbers e = below items a count at k numbers e
below (Opening kind head marks pre (Some j) generated ∷ items) a zero at k numbers e = absurd (cc)
below (Opening kind head marks pre (Some j) generated ∷ items) a (suc count) zero k numbers e =
    let first : j ≡ a = cc in
    let same : j ≡ k = cc in
    omega (arith, first, same)
below (Opening kind head marks pre (Some j) generated ∷ items) a (suc count) (suc at) k numbers e =
    let rest : origins_of items ≡ counted_from (suc a) count = cc in
    let less = below items (suc a) count at k rest e in
    omega (arith, less)

pub origins_below : (items : List PlainItem) (count at k : ℕ) → origins_of items ≡ counted_from 0 count → origin_of (drop at items) ≡ Some k → k < count
origins_below items count at k numbers e = let less = below items 0 count at k numbers e in omega (arith, less)
