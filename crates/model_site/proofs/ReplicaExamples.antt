-- A replica after transactions.
use Rattle.std.proofs.Common.{◌≡◌, [], ◌∷◌, ◌++◌, Some, None, codes, refl}
use Rattle.ve_base.specs.declared.value.Value.TheVariants as value
use Rattle.model_change.specs.Transaction.{Retain, Attribute, Transaction}
use Rattle.model_change.specs.Inverse.{inverse}
use Rattle.model_site.specs.Replica.{opened_with, performed, put_back, all_filled}
use Rattle.model_edit.specs.Translate.{between}
use Rattle.ve_kinds.specs.declared.kind.Kind.TheVariants.{P, InternalList}
use Rattle.model_site.proofs.ExampleItems.{head_of, open_, close_, bold, italic, marked, page, page_of, opened, inserts, removes}

fill_once : (opened_with (page_of (marked bold (codes "ab")))).store ≡ value.Marks bold ∷ []
fill_once = refl

-- the store is filled, and what is selected moves
typed : performed (inserts 1 (marked italic (codes "x")) 6) (record { items = page (codes "ab"); store = value.Marks bold ∷ []; selection = between 1 2 })
    ≡ record { items = page_of (marked italic (codes "x") ++ marked [] (codes "ab")); store = value.Marks bold ∷ value.Marks italic ∷ []; selection = between 2 3 }
typed = refl

abbrev identified : Transaction
identified = Attribute (record { name = codes "id"; from = None; to = Some (codes "x"); kept = None }) ∷ Retain 5 ∷ []

-- what a reversal puts in cites nothing new, and the heads that it changes are put into the store
heads_come_back : (put_back (inverse identified) (record { items = open_ P (record { name = codes "id"; value = codes "x" } ∷ record { name = codes "lang"; value = codes "en" } ∷ []) ∷ marked [] (codes "a") ++ close_ P ∷ open_ InternalList [] ∷ close_ InternalList ∷ []; store = []; selection = between 0 0 })).store
    ≡ value.Head (head_of (record { name = codes "lang"; value = codes "en" } ∷ [])) ∷ []
heads_come_back = refl

text_comes_back : (put_back (inverse (removes 1 (marked bold (codes "a")) 5)) (opened [])).store ≡ []
text_comes_back = refl

-- the position of what is removed is noted in the list as it then is
positions : all_filled (identified ∷ (Attribute (record { name = codes "id"; from = Some (codes "x"); to = None; kept = None }) ∷ Retain 5 ∷ []) ∷ []) (page (codes "a"))
    ≡ identified ∷ (Attribute (record { name = codes "id"; from = Some (codes "x"); to = None; kept = Some 0 }) ∷ Retain 5 ∷ []) ∷ []
positions = refl
