-- One item more over values that grow, and what is known of the marks around.
use Rattle.std.proofs.Common.{◌≡◌, ℕ, zero, suc, Bool, true, false, ◌||◌, List, [], ◌∷◌, ◌++◌, slice_get, All, Option, Some, None, refl, sym, ap, ◌∙◌, subst, append-nil}
use Rattle.std.proofs.lemmas.List.{map-append}
use Rattle.std.proofs.lemmas.List.Concat.{flat_map-append}
use Rattle.std.proofs.lemmas.List.Elements.{All-nil, All-cons, All-append}
use Rattle.ve_base.specs.declared.marks.Mark.{Mark}
use Rattle.ve_base.specs.declared.value.Value.{Value}
use Rattle.ve_base.specs.declared.value.Value.TheVariants as value
use Rattle.ve_base.specs.declared.value.ValueId.{ValueId}
use Rattle.model_items.specs.declared.item.Item.{Item}
use Rattle.model_items.specs.declared.item.Item.TheVariants as item
use Rattle.model_items.specs.declared.plain_item.PlainItem.{PlainItem}
use Rattle.model_items.specs.Same.{value_same}
use Rattle.model_items.proofs.SameLemmas.{Means-value_same}
use Rattle.model_items.specs.Plain.{plain, plain_list, value_at, head_in, marks_in, white_in, CitesHead, CitesMarks, CitesWhite, CitesWell}
use Rattle.model_items.specs.declared.plain_item.PlainItem.TheVariants.{Char, Opening, Closing}
use Rattle.ve_base.specs.declared.head.Head.{Head}
use Rattle.ve_kinds.specs.declared.kind.Kind.{Kind}
use Rattle.std.specs.Prelude.{is_some}
use Rattle.model_change.specs.Store.{fill, holds, cited, cited_by, head_cited, marks_cited, white_cited}
use Rattle.ve_tx.specs.Making.{Extends}
use Rattle.ve_tx.proofs.ValuesLemmas.{extends_by_fill, filled_on, cites-extended, plain-extended, all-extended, list-extended}
use Rattle.ve_reader.specs.Holding.{Knows, Holds, More}

pub extends_same : (old new : List Value) → new ≡ old → Extends old new
extends_same old new e = ([], e ∙ sym (append-nil old))

-- ---- one item more

module _ (old new : List Value) (items all : List Item) (p : PlainItem) (m : More old new items all p) where
  extends : Extends old new
  extends = extends_by_fill old new (cited_by p) m.filled

  pub items_more : All (CitesWell old) items → plain_list new all ≡ plain_list old items ++ p ∷ []
  items_more made =
      ap (plain_list new) m.is ∙ map-append (plain new) items (m.item ∷ []) ∙ ap (λ l. l ++ plain new m.item ∷ []) (list-extended old new extends items made)
      ∙ ap (λ q. plain_list old items ++ q ∷ []) m.plain_is

  cites_more : All (CitesWell old) items → All (CitesWell new) all
  cites_more made =
      let P : List Item → Type 0 = All (CitesWell new) in
      subst P (sym m.is) (All-append (CitesWell new) items (m.item ∷ []) (all-extended old new extends items made) (All-cons (CitesWell new) m.item [] m.cites (All-nil (CitesWell new))))

  cited_more : cited (plain_list old items ++ p ∷ []) ≡ cited (plain_list old items) ++ cited_by p
  cited_more = flat_map-append cited_by (plain_list old items) (p ∷ []) ∙ ap (λ l. cited (plain_list old items) ++ l) (append-nil (cited_by p))

  pub holds_more : (marks : List Mark) (known now : Option ValueId) → Holds old items marks known → Knows new marks now → Holds new all marks now
  holds_more marks known now h k = record {
    cites = cites_more h.cites;
    filled = m.filled ∙ filled_on [] old (cited (plain_list old items)) (cited_by p) h.filled ∙ ap (fill []) (sym (ap cited (items_more h.cites) ∙ cited_more));
    knows = k;
  }

-- ---- marks that are known

still_there : (old more : List Value) (i : ℕ) (v : Value) → slice_get old i ≡ Some v → slice_get (old ++ more) i ≡ Some v
still_there [] more i v h = cc
still_there (x ∷ old) more zero v h = h
still_there (x ∷ old) more (suc i) v h = still_there old more i v h

holds_by : (v w : Value) (rest : Bool) → w ≡ v → (value_same v w || rest) ≡ true
holds_by v w rest e = rw (ap (value_same v) e ∙ Means-value_same.itself v) refl

or_true : (b : Bool) → (b || true) ≡ true
or_true true = refl
or_true false = refl

holds_at : (values : List Value) (i : ℕ) (v : Value) → slice_get values i ≡ Some v → holds values v ≡ true
holds_at [] zero v e = absurd cc
holds_at [] (suc i) v e = absurd cc
holds_at (w ∷ values) zero v e = holds_by v w (holds values v) cc
holds_at (w ∷ values) (suc i) v e = ap (λ b. value_same v w || b) (holds_at values i v e) ∙ or_true (value_same v w)

pub known_filled : (values : List Value) (marks : List Mark) (id : ValueId) → Knows values marks (Some id) → values ≡ fill values (marks_cited marks)
known_filled values [] id k = refl
known_filled values (m ∷ ms) id k = rw (holds_at values id.0 (value.Marks (m ∷ ms)) k.0) refl

pub known_cites : (values : List Value) (marks : List Mark) (known : Option ValueId) → Knows values marks known → CitesMarks values known
known_cites values marks None k = tt
known_cites values marks (Some id) k = (marks, k.0, k.1)

pub known_marks : (values : List Value) (marks : List Mark) (id : ValueId) → Knows values marks (Some id) → marks_in (value_at values (Some id)) ≡ marks
known_marks values marks id k = ap marks_in k.0

pub knows_cited : (values : List Value) (marks : List Mark) (id : Option ValueId) → CitesMarks values id → marks_in (value_at values id) ≡ marks → Knows values marks id
knows_cited values marks None c e = tt
knows_cited values marks (Some id) c e =
    let same : c.0 ≡ marks = sym (ap marks_in c.1) ∙ e in
    (c.1 ∙ ap (λ m. Some (value.Marks m)) same, λ z. c.2 (same ∙ z))

pub knows_on : (old new : List Value) (marks : List Mark) (known : Option ValueId) → Extends old new → Knows old marks known → Knows new marks known
knows_on old new marks None e k = tt
knows_on old new marks (Some id) e k = (ap (λ l. slice_get l id.0) e.1 ∙ still_there old e.0 id.0 (value.Marks marks) k.0, k.1)

-- ---- the items that are put in

-- the values as they are before an item, and with its parts in order
module _ (v0 v1 : List Value) where
  pub more_closing : (items all : List Item) (kind : Kind) (pre : Option ValueId) (white : List ℕ) → all ≡ items ++ item.Closing kind pre ∷ [] → CitesWhite v1 pre → white_in (value_at v1 pre) ≡ white → v1 ≡ fill v0 (white_cited white) →
      More v0 v1 items all (Closing kind white)
  more_closing items all kind pre white is c e f = record { item = item.Closing kind pre; is = is; cites = c; plain_is = ap (λ w. Closing kind w) e; filled = f }

  pub more_char : (items all : List Item) (ch : ℕ) (id : Option ValueId) (marks : List Mark) → all ≡ items ++ item.Char ch id ∷ [] → CitesMarks v1 id → marks_in (value_at v1 id) ≡ marks → v1 ≡ fill v0 (marks_cited marks) →
      More v0 v1 items all (Char ch marks)
  more_char items all ch id marks is c e f = record { item = item.Char ch id; is = is; cites = c; plain_is = ap (λ m. Char ch m) e; filled = f }

abbrev opening_with : PlainItem → List ℕ → PlainItem
opening_with (Opening kind head marks pre origin generated) white = Opening kind head marks white origin generated
opening_with (Closing kind pre) white = Closing kind pre
opening_with (Char c marks) white = Char c marks

abbrev marked_with : PlainItem → List Mark → PlainItem
marked_with (Opening kind head marks pre origin generated) more = Opening kind head more pre origin generated
marked_with (Closing kind pre) more = Closing kind pre
marked_with (Char c marks) more = Char c marks

module _ (v0 v1 v2 : List Value) (items all : List Item) (kind : Kind) (head : Head) (h : Option ValueId) (origin : Option ℕ) (generated : Bool) (ch : CitesHead v1 h) (eh : head_in (value_at v1 h) ≡ head) (fh : v1 ≡ fill v0 (head_cited head)) where
  pub more_block : (pre : Option ValueId) (white : List ℕ) → all ≡ items ++ item.Opening kind generated h None pre origin ∷ [] → CitesWhite v2 pre → white_in (value_at v2 pre) ≡ white → v2 ≡ fill v1 (white_cited white) →
      More v0 v2 items all (Opening kind head [] white origin generated)
  more_block pre white is c e f =
      let x = extends_by_fill v1 v2 (white_cited white) f in
      let cites1 : CitesWell v1 (item.Opening kind generated h None None origin) = (ch, tt, tt) in
      let cites2 = cites-extended v1 v2 x (item.Opening kind generated h None None origin) cites1 in
      let same = plain-extended v1 v2 x (item.Opening kind generated h None None origin) cites1 in
      record {
        item = item.Opening kind generated h None pre origin;
        is = is;
        cites = (cites2.0, tt, c);
        plain_is = ap (λ w. opening_with (plain v2 (item.Opening kind generated h None None origin)) w) e ∙ ap (λ p. opening_with p white) same ∙ ap (λ q. Opening kind q [] white origin generated) eh;
        filled = f ∙ filled_on v0 v1 (head_cited head) (white_cited white) fh;
      }

  pub more_leaf : (id : Option ValueId) (marks : List Mark) → all ≡ items ++ item.Opening kind generated h id None origin ∷ [] → CitesMarks v2 id → marks_in (value_at v2 id) ≡ marks → v2 ≡ fill v1 (marks_cited marks) →
      More v0 v2 items all (Opening kind head marks [] origin generated)
  more_leaf id marks is c e f =
      let x = extends_by_fill v1 v2 (marks_cited marks) f in
      let cites1 : CitesWell v1 (item.Opening kind generated h None None origin) = (ch, tt, tt) in
      let cites2 = cites-extended v1 v2 x (item.Opening kind generated h None None origin) cites1 in
      let same = plain-extended v1 v2 x (item.Opening kind generated h None None origin) cites1 in
      let none : marks_cited marks ++ white_cited [] ≡ marks_cited marks = append-nil (marks_cited marks) in
      record {
        item = item.Opening kind generated h id None origin;
        is = is;
        cites = (cites2.0, c, tt);
        plain_is = ap (λ m. marked_with (plain v2 (item.Opening kind generated h None None origin)) m) e ∙ ap (λ p. marked_with p marks) same ∙ ap (λ q. Opening kind q marks [] origin generated) eh;
        filled = f ∙ filled_on v0 v1 (head_cited head) (marks_cited marks) fh ∙ ap (λ l. fill v0 (head_cited head ++ l)) (sym none);
      }

pub known_store : (values : List Value) (marks : List Mark) (known : Option ValueId) (b : Bool) → b ≡ is_some known → b ≡ true → Knows values marks known → values ≡ fill values (marks_cited marks)
known_store values marks None b e t k = absurd cc
known_store values marks (Some id) b e t k = known_filled values marks id k
