-- Two items of a draft, one after the other.
use Rattle.std.proofs.Common.{◌≡◌, List, [], ◌∷◌, ◌++◌, Result, Ok, Err, OnOk, ap, ◌∙◌, append_assoc}
use Rattle.model_items.specs.declared.plain_item.PlainItem.{PlainItem}
use Rattle.ve_reader.specs.Drafted.{Drafted, with_item}
use Rattle.ve_reader.specs.Leaves.{with_items}

pub on_ok_map : {A E P Q : Type 0} → (r : Result A E) → (P → Q) → OnOk r P → OnOk r Q
on_ok_map (Ok x) f h = f h
on_ok_map (Err e) f h = tt

pub two_items : (old opened new : Drafted) (o c : PlainItem) → opened ≡ with_item o old → new ≡ with_item c opened → new ≡ with_items (o ∷ c ∷ []) old
two_items old opened new o c e h = h ∙ ap (with_item c) e ∙ (λ k. record { items = append_assoc old.items (o ∷ []) (c ∷ []) k; marks = old.marks })
