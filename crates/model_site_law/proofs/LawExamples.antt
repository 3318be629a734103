-- The words of the laws, at work.
use Rattle.std.proofs.Common.{◌≡◌, ◌≤◌, ℕ, Bool, true, false, Option, Some, None, List, [], ◌∷◌, codes, refl, ap, arith}
use Rattle.std.proofs.lemmas.List.Elements.{All-cons, All-nil}
use Rattle.ve_base.specs.declared.marks.Mark.{Mark}
use Rattle.ve_base.specs.declared.value.Value.TheVariants as value
use Rattle.model_items.specs.declared.plain_item.PlainItem.{PlainItem}
use Rattle.model_items.specs.declared.plain_item.PlainItem.TheVariants.{Char}
use Rattle.model_change.specs.Transaction.{Attribute, Retain, Replace, Transaction}
use Rattle.model_edit.specs.Translate.{between}
use Rattle.model_site.specs.Entries.{Entry, entry_of}
use Rattle.model_site.specs.Replica.{Replica, opened_with}
use Rattle.model_site.specs.Session.{Foreign, Ack, Session, started}
use Rattle.model_site.specs.Site.{Site, starting, with_entry}
use Rattle.model_site.specs.Events.{Perform, Undo, Redo, Tell}
use Rattle.model_site_law.specs.Chain.{needed_values, store_after_all}
use Rattle.model_site_law.specs.Protocol.{InStep, kept_under}
use Rattle.model_site_law.specs.ItemLaws.{Inserts, all_set, any_attr}
use Rattle.model_site_law.specs.Laws.{turns}
use Rattle.model_site_law.specs.StoreLaws.{BeginsWith}
use Rattle.model_site_law.specs.ViewLaws.{IsViewOf, patched, told_at, whole}

abbrev bold : List Mark
bold = record { tag = codes "b"; attrs = [] } ∷ []

abbrev italic : List Mark
italic = record { tag = codes "i"; attrs = [] } ∷ []

-- of <p>ab</p>, its b bold, the two letters go
abbrev removal : Transaction
removal = Retain 1 ∷ Replace (Char 97 [] ∷ Char 98 bold ∷ []) [] ∷ Retain 3 ∷ []

-- an italic X before, between or after them
abbrev insertion : ℕ → ℕ → Transaction
insertion before suffix = Retain before ∷ Replace [] (Char 88 italic ∷ []) ∷ Retain suffix ∷ []

to_come_back : needed_values (removal ∷ insertion 1 3 ∷ []) ≡ value.Marks bold ∷ []
to_come_back = refl

in_the_end : store_after_all (removal ∷ insertion 1 3 ∷ []) [] (value.Marks bold ∷ []) ≡ value.Marks bold ∷ value.Marks italic ∷ []
in_the_end = refl

one_of_two : kept_under ((removal ∷ []) ∷ []) ((insertion 1 5 ∷ []) ∷ (insertion 3 4 ∷ []) ∷ []) ≡ (insertion 1 3 ∷ []) ∷ []
one_of_two = refl

-- the removal is fed, and then the answer that one of two was accepted
in_step : InStep ((removal ∷ []) ∷ (insertion 1 3 ∷ []) ∷ []) ((insertion 1 5 ∷ []) ∷ (insertion 3 4 ∷ []) ∷ []) (Foreign ((removal ∷ []) ∷ []) ∷ Ack 1 ∷ [])
in_step = ((insertion 1 3 ∷ []) ∷ [], refl, ([], refl, refl, refl))

back_and_forth : turns 2 (true ∷ true ∷ false ∷ []) ≡ Undo 2 ∷ Undo 2 ∷ Redo 2 ∷ []
back_and_forth = refl

abbrev is_char : PlainItem → Bool
is_char (Char c marks) = true
is_char _ = false

-- what is performed is asked for what it puts in alone: the removal passes any test, and of what is
-- undone nothing is asked
abbrev no_item : PlainItem → Bool
no_item item = false

one_letter : Inserts is_char any_attr (Perform 0 (removal ∷ insertion 1 3 ∷ [])) × Inserts no_item any_attr (Perform 0 (removal ∷ [])) × Inserts no_item any_attr (Undo 0)
one_letter = (((tt, tt), (((refl, tt), tt), tt)), ((tt, tt), tt), tt)

-- of an attribute that is set the new value counts, and of one that is taken away none
abbrev setting : Option (List ℕ) → Transaction
setting to = Attribute (record { name = codes "id"; from = Some (codes "b"); to = to; kept = None }) ∷ Retain 4 ∷ []

values_set : (all_set (setting (Some (codes "a"))) ≡ record { name = codes "id"; value = codes "a" } ∷ []) × (all_set (setting None) ≡ [])
values_set = (refl, refl)

-- what was opened, and an entry that brings one more value
abbrev opened : Replica
opened = record { items = []; store = value.Marks bold ∷ []; selection = between 0 0 }

abbrev edited_once : Site
edited_once = with_entry (insertion 0 0 ∷ []) (starting opened)

-- the entry was made on the store that was opened, so an undo leaves that
begins_with : BeginsWith (value.Marks bold ∷ []) edited_once
begins_with =
    let Since : Entry → Type 0 = λ e. 1 ≤ e.store_before in
    record { more = value.Marks italic ∷ []; begins = refl; since = All-cons Since (entry_of (insertion 0 0 ∷ []) opened) [] (omega arith) (All-nil Since) }

-- ---- a view by patches

-- of four items the second goes, and two come behind the first: those are holes
holes_stay_open : patched (record { at = 1; removed = 1; inserted = 2 } ∷ []) (whole (Char 97 [] ∷ Char 98 [] ∷ Char 99 [] ∷ Char 100 [] ∷ []))
    ≡ Some (Char 97 []) ∷ None ∷ None ∷ Some (Char 99 []) ∷ Some (Char 100 []) ∷ []
holes_stay_open = refl

abbrev first_page : List PlainItem
first_page = Char 97 [] ∷ Char 98 bold ∷ []

abbrev two_sites : Session
two_sites = started (opened_with first_page) 2

-- the list that a site told last is not another site's, nor one from before
told_here : told_at 1 two_sites (Tell 1) [] ≡ (opened_with first_page).items
told_here = refl

told_elsewhere : told_at 1 two_sites (Tell 0) (Char 97 [] ∷ []) ≡ Char 97 [] ∷ []
told_elsewhere = refl

abbrev code_of : Option PlainItem → ℕ
code_of (Some (Char code marks)) = code
code_of _ = 0

-- a view that has another item at a position is none
other_item : IsViewOf (Char 97 [] ∷ []) (Some (Char 98 []) ∷ []) → ⊥
other_item view = let other : 97 ≡ 98 = ap code_of (view.agrees 0 (Char 98 []) refl) in omega (arith, other)

-- nor is one that is too short
too_short : IsViewOf (Char 97 [] ∷ []) [] → ⊥
too_short view = let long : 0 ≡ 1 = view.as_long in omega arith
