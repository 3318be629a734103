-- Pages that open, and pages that do not, by computation.
use Rattle.std.specs.Prelude.{◌≡◌, ℕ, true, false, List, [], ◌∷◌, ◌++◌, length, Option, Some, None, Ok, Err, codes, refl}
use Rattle.std.specs.List.{repeat}
use Rattle.ve_base.specs.declared.value.Value.{Value}
use Rattle.ve_base.specs.declared.value.Value.TheVariants as value
use Rattle.model_spelling.specs.Faults.{Unclosed, Stray, Mismatched}
use Rattle.model_page.specs.Limits.{TooDeep, TooManyMarks}
use Rattle.model_page.specs.OpenPage.{OpenFault, BadPage, OverLimit, values_of, read_page}
use Rattle.model_page.proofs.OnLiterals.{page_on_literals}
use Rattle.model_page.proofs.PageExamples.{b, reuse_items}
use Rattle.ve_base.specs.Empty.{empty_head}
use Rattle.ve_kinds.specs.declared.kind.Kind.TheVariants.{Ref}
use Rattle.model_items.specs.declared.plain_item.PlainItem.TheVariants.{Opening, Closing}
use Rattle.model_page.specs.Editable.{all_refer}

abbrev fault_of_page : List ℕ → Option OpenFault
fault_of_page page = elim (read_page page) [ Ok o ↦ None | Err f ↦ Some f ]

abbrev item_count : List ℕ → Option ℕ
item_count page = elim (read_page page) [ Ok o ↦ Some (length o.items) | Err f ↦ None ]

abbrev values_in : List ℕ → List Value
values_in page = elim (read_page page) [ Ok o ↦ values_of o | Err f ↦ [] ]

-- an empty page has an empty internal list
empty : item_count [] ≡ Some 2
unfolding page_on_literals
empty = refl

unclosed : fault_of_page (codes "<p>a") ≡ Some (BadPage (Unclosed 0))
unfolding page_on_literals
unclosed = refl

stray : fault_of_page (codes "</br>") ≡ Some (BadPage (Stray 0))
unfolding page_on_literals
stray = refl

mismatched : fault_of_page (codes "<p></b>") ≡ Some (BadPage (Mismatched 3))
unfolding page_on_literals
mismatched = refl

-- a fault of the body names its byte in the whole document
in_document : fault_of_page (codes "<!doctype html><body></p></body>") ≡ Some (BadPage (Stray 21))
unfolding page_on_literals
in_document = refl

deep : fault_of_page (repeat 100 (codes "<div>") ++ codes "<p>a</p>" ++ repeat 100 (codes "</div>")) ≡ Some (OverLimit (TooDeep 500))
unfolding page_on_literals
deep = refl

marks : fault_of_page (codes "<p>" ++ repeat 65 (codes "<b>") ++ codes "a" ++ repeat 65 (codes "</b>") ++ codes "</p>") ≡ Some (OverLimit (TooManyMarks 195))
unfolding page_on_literals
marks = refl

-- a page is as deep as its bodies, which stand inside of two kinds: the limit names the owner
deep_body : fault_of_page (codes "<p>a<sup typeof=\"mw:Extension/ref\" data-mw='{\"body\":{\"html\":\"" ++ repeat 98 (codes "<div>") ++ codes "<p>a</p>" ++ repeat 98 (codes "</div>") ++ codes "\"}}'></sup></p>") ≡ Some (OverLimit (TooDeep 4))
unfolding page_on_literals
deep_body = refl

-- equal values are one
values : values_in (codes "<p><b>a</b>c<b>a</b></p> <p>d</p> ") ≡ value.Marks (b ∷ []) ∷ value.White (codes " ") ∷ []
unfolding page_on_literals
values = refl

-- the references of a page that opens have keys and editable texts; one that lost its key has not
references_refer : all_refer reuse_items ≡ true
unfolding page_on_literals
references_refer = refl

without_key : all_refer (Opening Ref empty_head [] [] None false ∷ Closing Ref [] ∷ []) ≡ false
unfolding page_on_literals
without_key = refl
