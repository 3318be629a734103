-- Items that cite what they were given by value.
use Rattle.std.proofs.Common.{◌≡◌, ℕ, Bool, Option, None, List, [], ◌∷◌, ◌++◌, All, refl, sym, ap, ◌∙◌, append-nil}
use Rattle.std.proofs.lemmas.List.{map-append}
use Rattle.std.proofs.lemmas.List.Concat.{flat_map-append}
use Rattle.std.proofs.lemmas.List.Elements.{All-nil, All-cons, All-append}
use Rattle.ve_base.specs.declared.head.Head.{Head}
use Rattle.ve_base.specs.declared.marks.Mark.{Mark}
use Rattle.ve_base.specs.declared.value.Value.{Value}
use Rattle.ve_base.specs.declared.value.ValueId.{ValueId}
use Rattle.ve_base.specs.Empty.{empty_head}
use Rattle.ve_kinds.specs.declared.kind.Kind.{Kind}
use Rattle.model_items.specs.declared.item.Item.{Item}
use Rattle.model_items.specs.declared.item.Item.TheVariants as item
use Rattle.model_items.specs.declared.plain_item.PlainItem.{PlainItem}
use Rattle.model_items.specs.declared.plain_item.PlainItem.TheVariants.{Char, Opening, Closing}
use Rattle.model_items.specs.Plain.{plain, plain_list, value_at, head_in, marks_in, white_in, CitesHead, CitesMarks, CitesWhite, CitesWell}
use Rattle.model_change.specs.Store.{cited, cited_by, fill, head_cited, marks_cited, white_cited}
use Rattle.ve_tx.specs.Making.{Extends}
use Rattle.ve_tx.proofs.ValuesLemmas.{extends_on, extends_by_fill, filled_on, cites-extended, plain-extended, all-extended, list-extended}

-- ---- one item

abbrev head_of : PlainItem → Head
head_of (Opening kind head marks pre origin generated) = head
head_of (Char ch marks) = empty_head
head_of (Closing kind pre) = empty_head

abbrev marks_of : PlainItem → List Mark
marks_of (Opening kind head marks pre origin generated) = marks
marks_of (Char ch marks) = marks
marks_of (Closing kind pre) = []

-- an opening's head, marks and whitespace, taken one after the other
module _ (v0 v1 v2 v3 : List Value) (kind : Kind) (generated : Bool) (origin : Option ℕ) (h m w : Option ValueId) (head : Head) (marks : List Mark) (white : List ℕ)
    (e1 : v1 ≡ fill v0 (head_cited head)) (e2 : v2 ≡ fill v1 (marks_cited marks)) (e3 : v3 ≡ fill v2 (white_cited white)) where
  last : Extends v2 v3
  last = extends_by_fill v2 v3 (white_cited white) e3

  later : Extends v1 v3
  later = extends_on v1 v2 v3 (extends_by_fill v1 v2 (marks_cited marks) e2) last

  abbrev headed : Item
  headed = item.Opening kind generated h None None origin

  pub opening_cites : CitesHead v1 h → CitesMarks v2 m → CitesWhite v3 w → CitesWell v3 (item.Opening kind generated h m w origin)
  opening_cites ch cm cw = ((cites-extended v1 v3 later headed (ch, tt, tt)).0, cites-extended v2 v3 last (item.Char 0 m) cm, cw)

  pub opening_means : CitesHead v1 h → CitesMarks v2 m → head_in (value_at v1 h) ≡ head → marks_in (value_at v2 m) ≡ marks → white_in (value_at v3 w) ≡ white →
      plain v3 (item.Opening kind generated h m w origin) ≡ Opening kind head marks white origin generated
  opening_means ch cm eh em ew =
      let here = ap head_of (plain-extended v1 v3 later headed (ch, tt, tt)) ∙ eh in
      let there = ap marks_of (plain-extended v2 v3 last (item.Char 0 m) cm) ∙ em in
      ap (λ x. Opening kind x (marks_in (value_at v3 m)) (white_in (value_at v3 w)) origin generated) here
      ∙ ap (λ x. Opening kind head x (white_in (value_at v3 w)) origin generated) there
      ∙ ap (λ x. Opening kind head marks x origin generated) ew

  pub opening_filled : v3 ≡ fill v0 (cited_by (Opening kind head marks white origin generated))
  opening_filled =
      e3 ∙ filled_on v1 v2 (marks_cited marks) (white_cited white) e2 ∙ filled_on v0 v1 (head_cited head) (marks_cited marks ++ white_cited white) e1

-- ---- several

-- These items cite what those are by value, and the values have grown by just that.
pub record Citing (v0 v : List Value) (seen : List PlainItem) (made : List Item) : Type 0 where
  pub cites : All (CitesWell v) made
  pub means : plain_list v made ≡ seen
  pub filled : v ≡ fill v0 (cited seen)

pub citing_none : (v : List Value) → Citing v v [] []
citing_none v = record { cites = All-nil (CitesWell v); means = refl; filled = refl }

pub citing_next : (v0 v w : List Value) (seen : List PlainItem) (made : List Item) (p : PlainItem) (x : Item) → Citing v0 v seen made →
    CitesWell w x → plain w x ≡ p → w ≡ fill v (cited_by p) → Citing v0 w (seen ++ p ∷ []) (made ++ x ∷ [])
citing_next v0 v w seen made p x so_far c e f =
    let grown = extends_by_fill v w (cited_by p) f in
    record {
      cites = All-append (CitesWell w) made (x ∷ []) (all-extended v w grown made so_far.cites) (All-cons (CitesWell w) x [] c (All-nil (CitesWell w)));
      means =
          map-append (plain w) made (x ∷ []) ∙ ap (λ l. l ++ plain w x ∷ []) (list-extended v w grown made so_far.cites ∙ so_far.means)
          ∙ ap (λ q. seen ++ q ∷ []) e;
      filled =
          f ∙ filled_on v0 v (cited seen) (cited_by p) so_far.filled
          ∙ ap (fill v0) (sym (flat_map-append cited_by seen (p ∷ []) ∙ ap (λ l. cited seen ++ l) (append-nil (cited_by p))));
    }
