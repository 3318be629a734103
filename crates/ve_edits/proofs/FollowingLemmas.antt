-- Values that follow a store, as they grow.
use Rattle.std.proofs.Common.{◌≡◌, List, ◌++◌, length, take, drop, refl, sym, ap, ◌∙◌, append_assoc, take-append-drop, arith}
use Rattle.std.proofs.lemmas.List.{take_all, take_at}
use Rattle.ve_base.specs.declared.value.Value.{Value}
use Rattle.ve_store.specs.Following.{Following, Grows, together}
use Rattle.ve_tx.specs.Making.{Extends}

pub grows_itself : (new : Following) → Grows new new
grows_itself new = (refl, take_all (length new.values) new.values (omega arith))

more_of : (old new : Following) → Grows old new → new.values ≡ old.values ++ drop (length old.values) new.values
more_of old new g = sym (take-append-drop (length old.values) new.values) ∙ ap (λ l. l ++ drop (length old.values) new.values) g.1

pub grows_on : (old mid new : Following) → Grows old mid → Grows mid new → Grows old new
grows_on old mid new g h =
    let M = drop (length old.values) mid.values in
    let N = drop (length mid.values) new.values in
    let whole : new.values ≡ old.values ++ (M ++ N) = more_of mid new h ∙ ap (λ l. l ++ N) (more_of old mid g) ∙ append_assoc old.values M N in
    (h.0 ∙ g.0, ap (take (length old.values)) whole ∙ take_at old.values (M ++ N) (length old.values) refl)

pub grows_extends : (store : List Value) (old new : Following) → Grows old new → Extends (together store old) (together store new)
grows_extends store old new g =
    let M = drop (length old.values) new.values in
    (M, ap (λ l. store ++ l) (more_of old new g) ∙ sym (append_assoc store old.values M))

pub store_extends : (store : List Value) (new : Following) → Extends store (together store new)
store_extends store new = (new.values, refl)
