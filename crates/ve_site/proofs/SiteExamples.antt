-- Sites with lists of letters.
use Rattle.std.proofs.Common.{◌≡◌, ◌+◌, ℕ, List, [], ◌∷◌, None, Some, codes, map, refl, arith}
use Rattle.std.proofs.lemmas.List.Elements.{All-nil}
use Rattle.ve_base.specs.declared.value.Value.{Value}
use Rattle.ve_base.specs.declared.value.Value.TheVariants.{White}
use Rattle.model_items.specs.declared.plain_item.PlainItem.{PlainItem}
use Rattle.model_items.specs.declared.plain_item.PlainItem.TheVariants.{Char}
use Rattle.model_change.specs.Transaction.{Retain, Replace, Transaction}
use Rattle.model_edit.specs.Translate.{between}
use Rattle.model_site.specs.Replica.{Replica}
use Rattle.model_site.specs.Session.{Ack, Foreign}
use Rattle.model_site.specs.Site.{Site, starting, undo, redo, send}
use Rattle.model_site.specs.Untold.{none_untold}
use Rattle.model_site.specs.declared.site_fault.UndoFault.TheVariants as undo_why
use Rattle.model_site.specs.declared.site_fault.RedoFault.TheVariants as redo_why
use Rattle.model_site.specs.declared.site_fault.SendFault.TheVariants as send_why
use Rattle.ve_tx.specs.declared.entry.Entry.{Entry}
use Rattle.ve_tx.specs.declared.parcel.Parcel.{Parcel}
use Rattle.model_site.specs.Made.{undoing, redoing}
use Rattle.ve_site.specs.Dropped.{numbered_alike}
use Rattle.ve_site.specs.Ground.{ground_of, as_opened, AreOver}
use Rattle.ve_site.specs.Laws.{longest_of}
use Rattle.ve_site.specs.Numbered.{site_of, with_site}
use Rattle.ve_site.specs.Taking.{MayTake, steps_of_take}
use Rattle.ve_site.specs.Refusal.{IsUndoRefusal, IsRedoRefusal, IsSendRefusal, send_refusal}

abbrev letters : List ℕ → List PlainItem
letters = map (λ c. Char c [])

abbrev page : List ℕ → Replica
page text = record { items = letters text; store = []; selection = between 0 0 }

abbrev puts : (at letter after : ℕ) → Transaction
puts at letter after = Retain at ∷ Replace [] (letters (letter ∷ [])) ∷ Retain after ∷ []

-- it sent b after a, and then put c after that; it has seen two committed entries
abbrev in_flight : Site
in_flight = record {
  replica = page (codes "abcd");
  untold = none_untold 4;
  seen = 2;
  sent = record { txs = puts 1 98 1 ∷ []; store_before = 0; store_after = 0; takes_back = None } ∷ [];
  unsent = record { txs = puts 2 99 1 ∷ []; store_before = 0; store_after = 0; takes_back = None } ∷ [];
  undone = [];
  undone_hints = [];
  shared = 1;
  in_flight = Some 1;
}

-- both are taken back
ground_has_neither : ground_of in_flight ≡ letters (codes "ad")
ground_has_neither = refl

nothing_pending : ground_of (starting (page (codes "ab"))) ≡ letters (codes "ab")
nothing_pending = refl

-- two letters on the confirmed list, one that is taken and two that are pending
longest_list : longest_of ((puts 1 120 1 ∷ []) ∷ []) in_flight ≡ 5
longest_list = refl

counts_from_its_ground : (as_opened in_flight).seen ≡ 0
counts_from_its_ground = refl

keeps_all_else : (as_opened in_flight).sent ≡ in_flight.sent
keeps_all_else = refl

number_stays : with_site in_flight (record { number = 3; site = starting (page []) }) ≡ record { number = 3; site = in_flight }
number_stays = refl

-- ---- entries over a store

abbrev white : List ℕ → Value
white = White

abbrev numbered : (before after : ℕ) → Entry
numbered before after = record { txs = []; store_before = before; store_after = after; takes_back = None }

numbers_rise : AreOver (white (codes " ") ∷ white (codes "  ") ∷ []) 0 (numbered 0 1 ∷ numbered 1 1 ∷ numbered 1 2 ∷ [])
numbers_rise = (omega arith, omega arith, All-nil _, (omega arith, omega arith, All-nil _, (omega arith, omega arith, All-nil _, omega arith)))

no_number_falls : AreOver (white (codes " ") ∷ white (codes "  ") ∷ []) 0 (numbered 0 2 ∷ numbered 1 2 ∷ []) → ⊥
no_number_falls h = let low = h.3.0 in absurd (omega arith)

none_is_past_the_store : AreOver (white (codes " ") ∷ []) 0 (numbered 0 2 ∷ []) → ⊥
none_is_past_the_store h = let low = h.3 in absurd (omega arith)

-- two that take other entries back
abbrev takes_one_back : Entry
takes_one_back = record (numbered 0 1) { takes_back = Some 3 }

abbrev takes_another_back : Parcel
takes_another_back = record { entry = record (numbered 0 0) { takes_back = Some 5 }; values = [] }

-- the history's entries are the unsent ones
by_fields : site_of (page []) (none_untold 2) 4 (numbered 0 0 ∷ []) (record { done = takes_one_back ∷ []; undone = takes_another_back ∷ []; spare = 9 }) 7 None ≡ record {
  replica = page [];
  untold = record { was = 2; patches = [] };
  seen = 4;
  sent = record { txs = []; store_before = 0; store_after = 0; takes_back = None } ∷ [];
  unsent = record { txs = []; store_before = 0; store_after = 1; takes_back = Some 3 } ∷ [];
  undone = [] ∷ [];
  undone_hints = Some 5 ∷ [];
  shared = 7;
  in_flight = None;
}
by_fields = refl

-- ---- what a call performs

abbrev one_more_unsent : Site
one_more_unsent = record in_flight { unsent = record { txs = []; store_before = 0; store_after = 0; takes_back = None } ∷ in_flight.unsent }

the_last_is_taken_back : undoing one_more_unsent.unsent ≡ (Retain 2 ∷ Replace (letters (codes "c")) [] ∷ Retain 1 ∷ []) ∷ []
the_last_is_taken_back = refl

the_first_comes_again : redoing ((puts 1 98 1 ∷ []) ∷ (puts 2 99 1 ∷ []) ∷ []) ≡ puts 1 98 1 ∷ []
the_first_comes_again = refl

nothing_to_perform : redoing in_flight.undone ≡ []
nothing_to_perform = refl

-- ---- refusals

abbrev all_sent : Site
all_sent = record in_flight { unsent = [] }

shared_is_told : IsUndoRefusal (undo all_sent) (undo_why.AlreadyShared 1)
shared_is_told = refl

not_as_nothing : IsUndoRefusal (undo all_sent) undo_why.NothingToUndo → ⊥
not_as_nothing h = cc

nothing_to_redo : IsRedoRefusal (redo in_flight) redo_why.NothingToRedo
nothing_to_redo = refl

on_its_way : IsSendRefusal (send in_flight) (send_why.InFlight 1)
on_its_way = refl

its_refusal : send_refusal (send in_flight) ≡ Some (send_why.InFlight 1)
its_refusal = refl

nothing_is_unsent : send_refusal (send (record all_sent { in_flight = None })) ≡ Some send_why.NothingToSend
nothing_is_unsent = refl

none_where_it_sends : send_refusal (send (record in_flight { in_flight = None })) ≡ None
none_where_it_sends = refl

-- ---- takes

answers_are_always_taken : MayTake (Ack 7) in_flight
answers_are_always_taken = tt

answers_count_nothing : steps_of_take (Ack 7) in_flight ≡ 0
answers_count_nothing = refl

-- a and d of the confirmed list go
abbrev all_gone : Transaction
all_gone = Replace (letters (codes "ad")) [] ∷ []

-- So b and c can't stay between them: both are taken back, the last one first, and a and d go then,
-- all on one trial, for which 8 are counted. Each time the root and its one text node become
-- shorter, and at last the text node goes.
three_on_a_trial : steps_of_take (Foreign ((all_gone ∷ []) ∷ [])) in_flight ≡ 8 + (32 + (32 + 32))
three_on_a_trial = refl

-- x before a is in nobody's way; the root and its text node become longer
abbrev puts_first : Transaction
puts_first = Replace [] (letters (codes "x")) ∷ Retain 2 ∷ []

alone_without_a_trial : steps_of_take (Foreign ((puts_first ∷ []) ∷ [])) in_flight ≡ 32
alone_without_a_trial = refl

two_on_a_trial : steps_of_take (Foreign ((puts_first ∷ []) ∷ [] ∷ [])) in_flight ≡ 8 + 32
two_on_a_trial = refl

none_counts_nothing : steps_of_take (Foreign []) in_flight ≡ 0
none_counts_nothing = refl

cuts_nothing_off : numbered_alike 5 (numbered 0 2) ≡ numbered 5 5
cuts_nothing_off = refl
