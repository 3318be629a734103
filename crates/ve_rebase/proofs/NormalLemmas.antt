-- Joined lists keep the bound of the normal form.
use Rattle.std.proofs.Common.{◌≡◌, ◌≤◌, ℕ, ◌+◌, ◌^◌, true, nat_le, List, [], ◌∷◌, length, All, arith, le-leb}
use Rattle.std.proofs.lemmas.Bool.{and_from}
use Rattle.std.proofs.lemmas.List.Elements.{All-nil, All-cons}
use Rattle.model_items.specs.declared.plain_item.PlainItem.{PlainItem}
use Rattle.model_change.specs.Transaction.{Transaction, edited, total_length, is_reduced, is_normal}
use Rattle.model_change.specs.Replay.{replay, AllRun, AllWithin, inserted_by}
use Rattle.model_change.proofs.JoinListLaw.{lists_agree, lists_within}
use Rattle.ve_rebase.specs.Laws.{JoinedStayNormal}

all_normal : (n : ℕ) (ts : List Transaction) (items : List PlainItem) → n ≤ 2 ^ 60 → AllRun ts items → AllWithin n ts → All (λ t. is_normal t ≡ true) ts
all_normal n [] items small runs within = All-nil (λ t. is_normal t ≡ true)
all_normal n (t ∷ ts) items small runs within =
    let w : total_length t ≤ n = within.0 in
    All-cons (λ u. is_normal u ≡ true) t ts
    (and_from (is_reduced t) (nat_le (total_length t) (2 ^ 60)) runs.0.reduced (le-leb (total_length t) (2 ^ 60) (omega arith))) (all_normal n ts (edited t items) small runs.1 within.1)

pub joined_normal : JoinedStayNormal
joined_normal committed mine items joined fit h =
    let agree = lists_agree committed mine joined items fit.lawful fit.committed_run fit.mine_run h in
    let within = lists_within committed mine joined items fit.lawful fit.committed_run fit.mine_run h in
    let n = length items + (inserted_by committed + inserted_by mine) in
    (all_normal n joined.0 (replay mine items) fit.within agree.committed_after within.0, all_normal n joined.1 (replay committed items) fit.within agree.mine_after within.1)
