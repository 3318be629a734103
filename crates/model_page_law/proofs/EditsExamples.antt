-- Edits and references, by computation.
use Rattle.std.specs.Prelude.{◌≡◌, true, false, List, [], ◌∷◌, ◌++◌, None, Some, codes, refl}
use Rattle.ve_kinds.specs.declared.kind.Kind.TheVariants.{P, Ref}
use Rattle.ve_base.specs.declared.head.Key.TheVariants.{Named}
use Rattle.ve_base.specs.declared.head.Head.{Head}
use Rattle.ve_base.specs.Empty.{empty_head}
use Rattle.model_items.specs.declared.plain_item.PlainItem.{PlainItem}
use Rattle.model_items.specs.declared.plain_item.PlainItem.TheVariants.{Opening}
use Rattle.model_change.specs.Transaction.{Retain, Replace, Attribute, Transaction, edited}
use Rattle.model_change.specs.Fault.{Applies, fault}
use Rattle.model_change.specs.declared.tx_fault.TxFault.TheVariants.{BadAttr}
use Rattle.model_page.specs.Editable.{all_refer}
use Rattle.model_page.proofs.OnLiterals.{page_on_literals}
use Rattle.model_page.proofs.PageExamples.{open_, close_}
use Rattle.model_page_law.specs.Referring.{inserts_referring}

-- a paragraph with a reference by name
abbrev by_name : Head
by_name = record { tag = codes "sup"; attrs = record { name = codes "data-mw"; value = codes "{\"attrs\":{\"name\":\"n\"}}" } ∷ []; raw = []; reference = Some (record { group = []; key = Named (codes "n") }); owner = false }

abbrev reference : List PlainItem
reference = Opening Ref by_name [] [] None false ∷ close_ Ref ∷ []

abbrev items : List PlainItem
items = open_ P 0 ∷ reference ++ close_ P ∷ []

refers : all_refer items ≡ true
unfolding page_on_literals
refers = refl

-- the paragraph gets a `data-mw`, and the reference is there twice
abbrev doubled : Transaction
doubled = Attribute (record { name = codes "data-mw"; from = None; to = Some (codes "x"); kept = None }) ∷ Retain 1 ∷ Replace [] reference ∷ Retain 3 ∷ []

applies : Applies doubled items
applies = refl

inserts : inserts_referring doubled ≡ true
unfolding page_on_literals
inserts = refl

still_refers : all_refer (edited doubled items) ≡ true
unfolding page_on_literals
still_refers = refl

-- the `data-mw` of the reference can't be changed
abbrev changed : Transaction
changed = Retain 1 ∷ Attribute (record { name = codes "data-mw"; from = Some (codes "{\"attrs\":{\"name\":\"n\"}}"); to = None; kept = None }) ∷ Retain 3 ∷ []

is_barred : fault changed items ≡ Some (BadAttr 1)
is_barred = refl

-- what is inserted must refer: a reference without a key does not
keyless : inserts_referring (Replace [] (Opening Ref empty_head [] [] None false ∷ close_ Ref ∷ []) ∷ []) ≡ false
keyless = refl
