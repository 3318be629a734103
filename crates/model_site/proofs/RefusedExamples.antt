-- Why transactions are not performed.
use Rattle.std.proofs.Common.{◌≡◌, [], ◌∷◌, Some, None, codes, refl}
use Rattle.ve_kinds.specs.declared.kind.Kind.TheVariants.{P}
use Rattle.model_change.specs.Transaction.{Retain, Replace}
use Rattle.model_site.specs.Causes.{BadLength, Mismatch, Unlawful, TooManyItems, StoreFull}
use Rattle.model_site.specs.Refused.{edit_cause, items_cause, store_cause}
use Rattle.model_site.proofs.ExampleItems.{chars_, close_, opened, inserts, removes}

fine : edit_cause (inserts 1 (chars_ (codes "x")) 5) (opened (codes "a")) ≡ None
fine = refl

too_short : edit_cause (inserts 1 (chars_ (codes "x")) 4) (opened (codes "a")) ≡ Some (BadLength 5 4)
too_short = refl

-- the list is asked before the law: the character is not there, and outside a paragraph none may
-- stand
not_there : edit_cause (Retain 1 ∷ Replace (chars_ (codes "b")) [] ∷ Retain 1 ∷ Replace [] (chars_ (codes "x")) ∷ Retain 2 ∷ []) (opened (codes "a")) ≡ Some (Mismatch 1)
not_there = refl

not_allowed : edit_cause (inserts 3 (chars_ (codes "x")) 5) (opened (codes "a")) ≡ Some (Unlawful 3)
not_allowed = refl

-- where the closing went, the internal list's opening may not stand in the paragraph
not_closed : edit_cause (removes 2 (close_ P ∷ []) 5) (opened (codes "a")) ≡ Some (Unlawful 2)
not_closed = refl

most_items : items_cause 4194304 ≡ None
most_items = refl

one_more : items_cause 4194305 ≡ Some (TooManyItems 4194305)
one_more = refl

most_values : store_cause 1048576 ≡ None
most_values = refl

store_is_full : store_cause 1048577 ≡ Some StoreFull
store_is_full = refl
