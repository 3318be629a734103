-- Entries made and taken back.
use Rattle.std.proofs.Common.{◌≡◌, List, [], ◌∷◌, None, codes, refl}
use Rattle.ve_base.specs.declared.value.Value.TheVariants as value
use Rattle.model_change.specs.Transaction.{Transaction}
use Rattle.model_site.specs.Replica.{all_performed}
use Rattle.model_site.specs.Entries.{entry_of, cut_back, reverted, all_reverted}
use Rattle.model_site.proofs.ExampleItems.{bold, italic, marked, opened, inserts}

abbrev bold_a : List Transaction
bold_a = inserts 1 (marked bold (codes "a")) 4 ∷ []

abbrev two : List Transaction
two = inserts 1 (marked bold (codes "a")) 4 ∷ inserts 2 (marked italic (codes "b")) 5 ∷ []

numbers : entry_of two (opened []) ≡ record { txs = two; store_before = 0; store_after = 2; takes_back = None }
numbers = refl

-- the last transaction first, and the values that came go
both_gone : reverted (entry_of two (opened [])) (all_performed two (opened [])) ≡ opened []
both_gone = refl

-- the entry added nothing: what taking it back brought stays
no_cut : cut_back (record { txs = bold_a; store_before = 1; store_after = 1; takes_back = None }) 1 (value.Marks bold ∷ value.Marks italic ∷ [])
    ≡ value.Marks bold ∷ value.Marks italic ∷ []
no_cut = refl

-- the store grew since: nothing goes
grown : cut_back (record { txs = bold_a; store_before = 0; store_after = 1; takes_back = None }) 2 (value.Marks bold ∷ value.Marks italic ∷ []) ≡ value.Marks bold ∷ value.Marks italic ∷ []
grown = refl

cut : cut_back (record { txs = two; store_before = 1; store_after = 2; takes_back = None }) 2 (value.Marks bold ∷ value.Marks italic ∷ []) ≡ value.Marks bold ∷ []
cut = refl

-- the last entry goes first: after the other order the second would take out another letter
in_order : all_reverted (entry_of bold_a (opened []) ∷ entry_of (inserts 1 (marked italic (codes "b")) 5 ∷ []) (all_performed bold_a (opened [])) ∷ [])
    (all_performed (inserts 1 (marked italic (codes "b")) 5 ∷ []) (all_performed bold_a (opened [])))
    ≡ opened []
in_order = refl
