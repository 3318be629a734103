use Rattle.std.proofs.Common.{◌≡◌, List, [], ◌∷◌, ◌++◌, All, Option, Some, is_some, sym, ap, ◌∙◌, subst}
use Rattle.std.proofs.lemmas.List.Elements.{All-nil, All-cons}
use Rattle.ve_base.specs.declared.head.Head.{Head}
use Rattle.model_items.specs.declared.item.Item.{Item}
use Rattle.model_items.specs.Plain.{plain, plain_list, CitesWell}
use Rattle.model_change.specs.Store.{fill, head_cited, head_if}
use Rattle.ve_tx.specs.Making.{Extends, item_with_head, headed_from, IsOpening, IsSettled, MayHead}
use Rattle.ve_tx.proofs.ValuesLemmas.{extends_by_fill, cites-extended, plain-extended}
use Rattle.ve_tx.proofs.MakingLemmas.{All-at, settled-item, settled-store, still_opening}
use Rattle.ve_tx.proofs.making.settle.Goals as goal

pub returns-clause-splices : goal.returns-clause-splices
returns-clause-splices c =
    let S = c.args.store.now in
    let S' = c.cited.new.store in
    let list = c.args.list.now.items in
    let item = c.get-item.result in
    let head = c.in-Some.head in
    let new = c.with_head.result in
    let stored : S' ≡ fill S (head_cited head) = c.in_ok-id.ensures.store ∙ ap (λ (h : Head). fill S (head_cited h)) c.in_ok-head.ensures in
    let extends : Extends S S' = extends_by_fill S S' (head_cited head) stored in
    let opening : IsOpening (plain S item) = subst (λ h. MayHead h (plain S item)) c.in-Some.is (c.requires.opening item c.get-item.ensures) in
    let listed : CitesWell S item = All-at S list c.args.at item c.requires.list c.get-item.ensures in
    let same : plain S' item ≡ plain S item = plain-extended S S' extends item listed in
    let is : plain S' new ≡ item_with_head (Some head) (plain S item) =
    c.with_head.ensures.item S' (still_opening (plain S item) (plain S' item) same opening)
    ∙ ap (λ h. item_with_head (Some h) (plain S' item)) (c.in_ok-id.ensures.head ∙ c.in_ok-head.ensures) ∙ ap (item_with_head (Some head)) same in
    let cites : CitesWell S' new = c.with_head.ensures.cites S' (cites-extended S S' extends item listed) c.in_ok-id.ensures.cites in
    let items : c.push.new.self ≡ new ∷ [] = c.in_ok-push.ensures.ok ∙ ap (λ l. l ++ new ∷ []) c.new-items.ensures in
    let P : List Item → Type 0 = All (CitesWell S') in
    let Q : Option Head → Type 0 = λ h. IsSettled S S' list c.args.at h c.args.splices.now.items c.push-2.new.self.items in
    subst Q (sym c.in-Some.is) (
      c.push.new.self,
      c.in_ok-push-2.ensures.items,
      subst P (sym items) (All-cons (CitesWell S') new [] cites (All-nil (CitesWell S'))),
      ap (plain_list S') items ∙ settled-item S S' list c.args.at item head c.get-item.ensures opening new is,
    )

pub returns-clause-store : goal.returns-clause-store
returns-clause-store c =
    let S = c.args.store.now in
    let list = c.args.list.now.items in
    let item = c.get-item.result in
    let opening : IsOpening (plain S item) = subst (λ h. MayHead h (plain S item)) c.in-Some.is (c.requires.opening item c.get-item.ensures) in
    let stored : c.cited.new.store ≡ fill S (head_cited c.in-Some.head) = c.in_ok-id.ensures.store ∙ ap (λ (h : Head). fill S (head_cited h)) c.in_ok-head.ensures in
    let Q : Option Head → Type 0 = λ h. c.cited.new.store ≡ fill S (head_if (is_some h) (headed_from S list c.args.at h)) in
    subst Q (sym c.in-Some.is) (settled-store S c.cited.new.store list c.args.at item c.in-Some.head c.get-item.ensures opening stored)
