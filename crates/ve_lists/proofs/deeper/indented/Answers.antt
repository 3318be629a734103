use Rattle.std.proofs.Common.{◌≡◌, ℕ, suc, ◌+◌, List, [], ◌∷◌, sym, ap, ◌∙◌, subst, arith}
use Rattle.std.proofs.lemmas.List.Elements.{All-nil, All-cons}
use Rattle.std.specs.Prelude.{All}
use Rattle.model_items.specs.declared.plain_item.PlainItem.{PlainItem}
use Rattle.model_items.specs.Offsets.{partner}
use Rattle.model_items.specs.Plain.{plain, plain_list, CitesWell}
use Rattle.model_edit.specs.Edits.{Change, transaction_of}
use Rattle.model_edit.specs.Lists.{list_ends}
use Rattle.ve_lists.specs.Moved.{joining}
use Rattle.ve_edits.proofs.RoundLemmas.{partner_within}
use Rattle.ve_lists.proofs.PlaceLemmas.{list_item_past}
use Rattle.ve_lists.proofs.deeper.indented.Goals as goal

pub prove-unreachable-requires : goal.prove-unreachable-requires
prove-unreachable-requires c =
    let within = partner_within [] c.args.doc.list.now.items c.args.at c.requires.within in
    let same = c.partner-other.ensures [] in
    omega arith

pub change-requires-clause-order : goal.change-requires-clause-order
change-requires-clause-order c =
    let past = list_item_past [] c.args.doc.list.now.items c.args.at c.requires.doc.links.lawful c.requires.within (c.requires.opens []) in
    let same = c.partner-other.ensures [] in
    omega (arith, c.in_ok-edits.ensures.at)

pub change-requires-clause-within : goal.change-requires-clause-within
change-requires-clause-within c =
    let within = partner_within [] c.args.doc.list.now.items c.args.at c.requires.within in
    let same = c.partner-other.ensures [] in
    omega arith

pub transaction-requires : goal.transaction-requires
transaction-requires c =
    let within = partner_within [] c.args.doc.list.now.items c.args.at c.requires.within in
    let same = c.partner-other.ensures [] in
    omega (arith, c.in_ok-change.ensures.at)

pub returns-clause-means : goal.returns-clause-means
returns-clause-means c = λ values cited.
    let items = c.args.doc.list.now.items in
    let all = plain_list values items in
    let at = c.args.at in
    let kind = c.args.kind in
    let first = joining at kind all in
    let W = CitesWell values in
    let ends : All W (c.closing.result ∷ c.closing-2.result ∷ []) =
    All-cons W c.closing.result (c.closing-2.result ∷ []) (subst W (sym c.closing.ensures) tt) (All-cons W c.closing-2.result [] (subst W (sym c.closing-2.ensures) tt) (All-nil W)) in
    let m = c.in_ok-change.ensures.makes values (first ∷ []) cited ends (c.in_ok-edits.ensures.makes values cited) in
    let after : c.partner-other.result + 1 ≡ suc (partner all at) = let p = c.partner-other.ensures values in omega arith in
    let ends_are : plain values c.closing.result ∷ plain values c.closing-2.result ∷ [] ≡ list_ends kind = λ i. plain values (c.closing.ensures i) ∷ plain values (c.closing-2.ensures i) ∷ [] in
    c.in_ok-tx.ensures.means values (first ∷ Change (c.partner-other.result + 1) 0 (plain values c.closing.result ∷ plain values c.closing-2.result ∷ []) ∷ []) m
    ∙ ap (λ (l : List PlainItem). transaction_of all (first ∷ Change (c.partner-other.result + 1) 0 l ∷ [])) ends_are
    ∙ ap (λ (n : ℕ). transaction_of all (first ∷ Change n 0 (list_ends kind) ∷ [])) after

pub returns-clause-cites : goal.returns-clause-cites
returns-clause-cites c = λ values cited.
    let items = c.args.doc.list.now.items in
    let first = joining c.args.at c.args.kind (plain_list values items) in
    let W = CitesWell values in
    let ends : All W (c.closing.result ∷ c.closing-2.result ∷ []) =
    All-cons W c.closing.result (c.closing-2.result ∷ []) (subst W (sym c.closing.ensures) tt) (All-cons W c.closing-2.result [] (subst W (sym c.closing-2.ensures) tt) (All-nil W)) in
    let m = c.in_ok-change.ensures.makes values (first ∷ []) cited ends (c.in_ok-edits.ensures.makes values cited) in
    c.in_ok-tx.ensures.cites values (first ∷ Change (c.partner-other.result + 1) 0 (plain values c.closing.result ∷ plain values c.closing-2.result ∷ []) ∷ []) m
