use Rattle.std.proofs.Common.{◌≡◌, List, [], None, Ok, inr, refl, sym, ◌∙◌, subst}
use Rattle.std.specs.Prelude.{IfOk, IfErr}
use Rattle.std.specs.Str.{chars}
use Rattle.model_items.specs.declared.plain_item.PlainItem.{PlainItem}
use Rattle.model_items.specs.Plain.{plain_list}
use Rattle.model_edit.specs.Causes.{BadOffset}
use Rattle.model_edit.specs.Insert.{insertion, text_pieces}
use Rattle.ve_store.specs.Following.{together}
use Rattle.ve_tx.specs.Operation.{by_value}
use Rattle.ve_edits.specs.Refused.{IsRefusal}
use Rattle.ve_build_insert.proofs.RefusalLemmas.{insertion_bad, if_err}
use Rattle.ve_build_insert.proofs.TypedLemmas.{letters_shown, letters_cited}
use Rattle.ve_build_insert.proofs.text.plain_text_insertion.Goals as goal

pub returns-then-is_bad_offset-clause-refused : goal.returns-then-is_bad_offset-clause-refused
returns-then-is_bad_offset-clause-refused c =
    let S = c.args.doc.store.now in
    let P = plain_list S c.args.doc.list.now.items in
    inr (BadOffset c.args.at, insertion_bad P c.args.at (text_pieces [] (chars c.args.text.now)) (sym (c.is_bad_offset.ensures S) ∙ c.if-is_bad_offset.true), refl)

pub returns-in_default-clause-memory : goal.returns-in_default-clause-memory
returns-in_default-clause-memory c = λ _. sym (c.is_bad_offset.ensures c.args.doc.store.now) ∙ c.if-is_bad_offset.false

pub insertion-requires-clause-pieces : goal.insertion-requires-clause-pieces
insertion-requires-clause-pieces c =
    letters_cited (together c.args.doc.store.now c.args.new.now) None c.in-Ok.pieces c.as_slice.result.now tt c.as_slice.ensures c.in-Ok.ensures.cites

pub returns-clause-means : goal.returns-clause-means
returns-clause-means c =
    let S = c.args.doc.store.now in
    let items = c.args.doc.list.now.items in
    let new = c.insertion.new.new in
    let W : List PlainItem → Type 0 = λ p. IfOk c.insertion.result (λ tx. insertion (plain_list S items) c.args.at p ≡ Ok (by_value (together S new) tx)) in
    subst W
    (letters_shown (together S c.args.new.now) None (chars c.args.text.now) c.in-Ok.pieces c.as_slice.result.now c.in-Ok.ensures.means c.as_slice.ensures)
    c.insertion.ensures.means

pub returns-clause-refused : goal.returns-clause-refused
returns-clause-refused c =
    let S = c.args.doc.store.now in
    let items = c.args.doc.list.now.items in
    let W : List PlainItem → Type 0 = λ p. IfErr c.insertion.result (λ fault. IsRefusal fault (insertion (plain_list S items) c.args.at p)) in
    subst W
    (letters_shown (together S c.args.new.now) None (chars c.args.text.now) c.in-Ok.pieces c.as_slice.result.now c.in-Ok.ensures.means c.as_slice.ensures)
    c.insertion.ensures.refused

pub returns-clause-memory : goal.returns-clause-memory
returns-clause-memory c = if_err c.insertion.result (λ fault memory. sym (c.is_bad_offset.ensures c.args.doc.store.now) ∙ c.if-is_bad_offset.false)
