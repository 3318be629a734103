-- A fragment that is pasted: what refuses it, and what its draft brings.
use Rattle.std.proofs.Common.{◌≡◌, ℕ, zero, suc, Bool, true, false, not, ◌&&◌, if◌then◌else◌, List, [], ◌∷◌, ◌++◌, length, map, take, drop, reverse, Contains, Option, Some, None, Result, Ok, Err, inl, inr, refl, sym, ap, ◌∙◌, subst, append-nil, encode_utf8_all}
use Rattle.std.proofs.lemmas.List.Concat.{flat_map-append}
use Rattle.ve_base.specs.declared.value.Value.{Value}
use Rattle.model_items.specs.declared.item.Item.{Item}
use Rattle.model_items.specs.declared.plain_item.PlainItem.{PlainItem}
use Rattle.model_items.specs.declared.plain_item.PlainItem.TheVariants.{Char, Opening, Closing}
use Rattle.model_items.specs.Offsets.{openings_after, openings_at, stack_at, kind_at}
use Rattle.model_items.specs.Plain.{plain_list}
use Rattle.ve_kinds.specs.declared.kind.Kind.{Kind}
use Rattle.ve_kinds.specs.declared.kind.Kind.TheVariants.{P}
use Rattle.ve_kinds.specs.Table.{is_content_branch}
use Rattle.model_spelling.specs.Faults.{ForestFault, fault_of}
use Rattle.model_change.specs.Store.{fill, cited, cited_by}
use Rattle.model_change.specs.Transaction.{Transaction, all_inserted}
use Rattle.model_change.proofs.StoreLemmas.{fill_appends}
use Rattle.model_edit.specs.Brackets.{closing_for, copy_of, opening_of, closing_of}
use Rattle.model_edit.specs.Causes.{BuildCause, build_fault}
use Rattle.model_edit.specs.Causes as cause
use Rattle.model_edit.specs.declared.build_fault.BuildFault.{BuildFault}
use Rattle.model_edit.specs.Edits.{Change, transaction_of}
use Rattle.model_edit.specs.Insert.{is_bad_offset, is_mixed, is_content_pieces, in_paragraph, levels_up, put_into, reopened, insertion}
use Rattle.model_world.specs.declared.refusal.Refusal.{Refusal}
use Rattle.model_world.specs.declared.refusal.Refusal.TheVariants as refusal
use Rattle.model_world.specs.Edits.{built_transaction, fragment_inserted}
use Rattle.model_world.specs.Refusals.{html_refusal, build_refusal}
use Rattle.ve_html_tree.specs.declared.fault.HtmlFault.{HtmlFault}
use Rattle.ve_html_tree.specs.declared.fault.HtmlFault.TheVariants as lent
use Rattle.ve_read.specs.declared.fragments.FragmentFault.{FragmentFault}
use Rattle.ve_read.specs.declared.fragments.FragmentFault.TheVariants as fragment
use Rattle.ve_read.specs.Faults.{HasFault}
use Rattle.ve_read.specs.Fragments.{RefusesFragment, fragment_in, limit_in}
use Rattle.ve_read.specs.Pages.{spelled_fault}
use Rattle.ve_edits.specs.Refused.{IsRefusal}
use Rattle.ve_edits.proofs.PieceLemmas.{inserts_pieces}
use Rattle.ve_store.specs.Following.{Following, together}
use Rattle.ve_tx.proofs.CopiesLemmas.{fill-append}
use Rattle.ve_tx.specs.Cites.{TxCites}
use Rattle.ve_tx.specs.Operation.{Operation, by_value}
use Rattle.ve_changes.specs.Stops.{IsRefused, build_stop}
use Rattle.ve_changes.specs.HtmlStops.{html_stop, fragment_stop}
use Rattle.ve_changes.specs.Drafts.{IsDrafted}
use Rattle.ve_changes.proofs.DraftLemmas.{all_there}

-- ---- what an insertion inserts

abbrev AreOpenings : List PlainItem → Type 0
AreOpenings [] = Unit {0}
AreOpenings (Opening kind head marks pre origin generated ∷ items) = AreOpenings items
AreOpenings (Closing kind pre ∷ items) = ⊥
AreOpenings (Char c marks ∷ items) = ⊥

openings_later : (items : List PlainItem) → AreOpenings items → AreOpenings (drop 1 items)
openings_later [] h = tt
openings_later (Opening kind head marks pre origin generated ∷ items) h = h
openings_later (Closing kind pre ∷ items) h = absurd h
openings_later (Char c marks ∷ items) h = absurd h

openings_open : (outer items : List PlainItem) → AreOpenings outer → AreOpenings (openings_after outer items)
openings_open outer [] h = h
openings_open outer (Char c marks ∷ items) h = openings_open outer items h
openings_open outer (Opening kind head marks pre origin generated ∷ items) h = openings_open (Opening kind head marks pre origin generated ∷ outer) items h
openings_open outer (Closing kind pre ∷ items) h = openings_open (drop 1 outer) items (openings_later outer h)

-- the closings of the first of them cite nothing
closings_cite : (j : ℕ) (items : List PlainItem) → AreOpenings items → cited (map closing_for (take j items)) ≡ []
closings_cite zero items h = refl
closings_cite (suc j) [] h = refl
closings_cite (suc j) (Opening kind head marks pre origin generated ∷ items) h = closings_cite j items h
closings_cite (suc j) (Closing kind pre ∷ items) h = absurd h
closings_cite (suc j) (Char c marks ∷ items) h = absurd h

-- one edit that removes nothing inserts its items
inserted_by_one : (items : List PlainItem) (at : ℕ) (inserted : List PlainItem) → all_inserted (transaction_of items (Change at 0 inserted ∷ [])) ≡ inserted
inserted_by_one items at inserted = inserts_pieces items (Change at 0 inserted ∷ []) ∙ append-nil inserted

cited-append : (xs ys : List PlainItem) → cited (xs ++ ys) ≡ cited xs ++ cited ys
cited-append xs ys = flat_map-append cited_by xs ys

-- a paragraph around pieces cites nothing more
placed_cites : (parent : Kind) (pieces : List PlainItem) → cited (in_paragraph parent pieces) ≡ cited pieces
placed_cites parent pieces = by (is_content_pieces pieces && not (is_content_branch parent))
  where
    by : (b : Bool) → cited (if b then opening_of P [] ∷ pieces ++ closing_of P ∷ [] else pieces) ≡ cited pieces
    by true = cited-append pieces (closing_of P ∷ []) ∙ append-nil (cited pieces)
    by false = refl

-- The inserted items cite the values of the pieces, and then more.
record Brings (pieces : List PlainItem) (t : Transaction) : Type 0 where
  more : List Value
  cites : cited (all_inserted t) ≡ cited pieces ++ more

put_brings : (items : List PlainItem) (at : ℕ) (pieces placed : List PlainItem) (levels : Option ℕ) (t : Transaction) → cited placed ≡ cited pieces → put_into items at placed levels ≡ Ok t → Brings pieces t
put_brings items at pieces placed None t same h = absurd cc
put_brings items at pieces placed (Some j) t same h =
    let openings = take j (openings_at items at) in
    let copies = reverse (map copy_of openings) in
    let is : transaction_of items (Change at 0 (reopened openings placed) ∷ []) ≡ t = cc in
    record {
      more = cited copies;
      cites =
          ap (λ u. cited (all_inserted u)) (sym is) ∙ ap cited (inserted_by_one items at (reopened openings placed))
          ∙ cited-append (map closing_for openings) (placed ++ copies)
          ∙ ap (λ l. l ++ cited (placed ++ copies)) (closings_cite j (openings_at items at) (openings_open [] (take at items) tt))
          ∙ cited-append placed copies ∙ ap (λ l. l ++ cited copies) same;
    }

abbrev insertion_by : List PlainItem → ℕ → List PlainItem → Bool → Bool → Result Transaction BuildCause
insertion_by items at pieces bad mixed =
    if bad then Err (cause.BadOffset at)
    else (if mixed then Err (cause.NoPlace at)
    else (let placed = in_paragraph (kind_at items at) pieces in
    put_into items at placed (levels_up placed (stack_at items at))))

insertion_brings : (items : List PlainItem) (at : ℕ) (pieces : List PlainItem) (t : Transaction) → insertion items at pieces ≡ Ok t → Brings pieces t
insertion_brings items at pieces t h = by (is_bad_offset items at) (is_mixed pieces) h
  where
    by : (bad mixed : Bool) → insertion_by items at pieces bad mixed ≡ Ok t → Brings pieces t
    by true mixed h = absurd cc
    by false true h = absurd cc
    by false false h =
        let placed = in_paragraph (kind_at items at) pieces in
        put_brings items at pieces placed (levels_up placed (stack_at items at)) t (placed_cites (kind_at items at) pieces) h

-- ---- what its draft brings

-- values that were filled with some of them first
filled_first : (start mid new xs ys : List Value) → mid ≡ fill start xs → new ≡ fill mid (xs ++ ys) → new ≡ fill start (xs ++ ys)
filled_first start mid new xs ys first is =
    let there : mid ≡ fill mid xs = all_there mid xs (λ v h. subst (λ l. Contains l v) (sym first) ((fill_appends start xs).all v h)) in
    is ∙ fill-append mid xs ys ∙ ap (λ l. fill l ys) (sym there) ∙ ap (λ l. fill l ys) first ∙ sym (fill-append start xs ys)

-- The findings for a page where a fragment is pasted: nothing is wrong with the offset, the
-- spelling or the marks.
pub record IsFine (items : List PlainItem) (at : ℕ) (html : List ℕ) : Type 0 where
  pub offset : is_bad_offset items at ≡ false
  pub spelled : fault_of (encode_utf8_all html) ≡ None
  pub within : limit_in (stack_at items at) (encode_utf8_all html) ≡ None

-- the fragment's items
abbrev pub pasted : List PlainItem → ℕ → List ℕ → List PlainItem
pasted items at html = fragment_in (stack_at items at) (encode_utf8_all html)

abbrev forest_by : List PlainItem → ℕ → List ℕ → Option ℕ → Result Transaction Refusal
forest_by items at html limit = elim limit [
  | Some byte ↦ Err (refusal.TooManyMarks byte)
  | None ↦ built_transaction (insertion items at (pasted items at html))
]

abbrev text_by : List PlainItem → ℕ → List ℕ → Option ForestFault → Result Transaction Refusal
text_by items at html fault = elim fault [
  | Some fault ↦ Err (html_refusal fault)
  | None ↦ forest_by items at html (limit_in (stack_at items at) (encode_utf8_all html))
]

abbrev offset_by : List PlainItem → ℕ → List ℕ → Bool → Result Transaction Refusal
offset_by items at html bad = elim bad [
  | true ↦ Err (refusal.BadOffset at)
  | false ↦ text_by items at html (fault_of (encode_utf8_all html))
]

pub pasted_badly : (items : List PlainItem) (at : ℕ) (html : List ℕ) → is_bad_offset items at ≡ true → fragment_inserted items at html ≡ Err (refusal.BadOffset at)
pasted_badly items at html bad = ap (offset_by items at html) bad

pub pasted_is : (items : List PlainItem) (at : ℕ) (html : List ℕ) → IsFine items at html → fragment_inserted items at html ≡ built_transaction (insertion items at (pasted items at html))
pasted_is items at html fine = ap (offset_by items at html) fine.offset ∙ ap (text_by items at html) fine.spelled ∙ ap (forest_by items at html) fine.within

-- ---- what refuses it

pub none_of : {X : Type 0} (o : Option X) → ((x : X) → o ≡ Some x → ⊥) → o ≡ None
none_of None h = refl
none_of (Some x) h = absurd (h x refl)

misspelled : (items : List PlainItem) (at : ℕ) (html : List ℕ) (f : HtmlFault) (first : Option ForestFault) → HasFault (spelled_fault f) first → IsRefused (html_stop f) (text_by items at html first)
misspelled items at html (lent.Scan f) first h = ap (text_by items at html) h
misspelled items at html (lent.Mismatched byte) first h = ap (text_by items at html) h
misspelled items at html (lent.Unclosed byte) first h = ap (text_by items at html) h
misspelled items at html (lent.Stray byte) first h = ap (text_by items at html) h
misspelled items at html (lent.TooDeep byte) first h = ap (text_by items at html) h
misspelled items at html lent.Memory first h = tt

refused_so : (items : List PlainItem) (at : ℕ) (html : List ℕ) (fault : FragmentFault) → RefusesFragment fault (stack_at items at) (encode_utf8_all html)
    → IsRefused (fragment_stop fault) (text_by items at html (fault_of (encode_utf8_all html)))
refused_so items at html (fragment.Html f) h = misspelled items at html f (fault_of (encode_utf8_all html)) h
refused_so items at html (fragment.TooManyMarks byte) h = ap (text_by items at html) h.0 ∙ ap (forest_by items at html) h.1
refused_so items at html fragment.Memory h = tt

pub fragment_refused : (items : List PlainItem) (at : ℕ) (html : List ℕ) (fault : FragmentFault) → is_bad_offset items at ≡ false → RefusesFragment fault (stack_at items at) (encode_utf8_all html)
    → IsRefused (fragment_stop fault) (fragment_inserted items at html)
fragment_refused items at html fault good h = subst (IsRefused (fragment_stop fault)) (sym (ap (offset_by items at html) good)) (refused_so items at html fault h)

cause_refused : (c : BuildCause) → IsRefused {A = Transaction} (build_stop (build_fault c)) (Err (build_refusal c))
cause_refused (cause.BadOffset at) = refl
cause_refused (cause.NoPlace at) = refl
cause_refused (cause.NotContent at) = refl
cause_refused (cause.BadDepth depth) = refl
cause_refused (cause.BadRange from to) = refl
cause_refused cause.BadMark = refl
cause_refused (cause.TooManyMarks at) = refl
cause_refused (cause.NotWrapped at) = refl
cause_refused (cause.NotBranch at) = refl
cause_refused (cause.NotOpening at) = refl
cause_refused (cause.BadAttr at) = refl

build_refused : (fault : BuildFault) (meant : Result Transaction BuildCause) → IsRefusal fault meant → IsRefused (build_stop fault) (built_transaction meant)
build_refused fault meant (inl e) = subst (λ f. IsRefused (build_stop f) (built_transaction meant)) (sym e) tt
build_refused fault meant (inr h) =
    subst (λ f. IsRefused (build_stop f) (built_transaction meant)) (sym h.2) (subst (λ m. IsRefused (build_stop (build_fault h.0)) (built_transaction m)) (sym h.1) (cause_refused h.0))

-- The fragment as it was read: its items, over the store and what follows it.
pub record IsRead (store : List Value) (items : List PlainItem) (at : ℕ) (html : List ℕ) (new : Following) (pieces : List Item) : Type 0 where
  pub fine : IsFine items at html
  pub reads : plain_list (together store new) pieces ≡ pasted items at html
  pub filled : together store new ≡ fill store (cited (pasted items at html))

pub insertion_refused : (store : List Value) (items : List PlainItem) (at : ℕ) (html : List ℕ) (new : Following) (pieces : List Item) (fault : BuildFault) → IsRead store items at html new pieces
    → IsRefusal fault (insertion items at (plain_list (together store new) pieces)) → IsRefused (build_stop fault) (fragment_inserted items at html)
insertion_refused store items at html new pieces fault read h =
    subst (IsRefused (build_stop fault)) (sym (pasted_is items at html read.fine))
    (build_refused fault (insertion items at (pasted items at html)) (subst (λ p. IsRefusal fault (insertion items at p)) read.reads h))

pub pasted_draft : (store : List Value) (items : List PlainItem) (at : ℕ) (html : List ℕ) (mid new : Following) (pieces : List Item) (tx : List Operation) → IsRead store items at html mid pieces
    → insertion items at (plain_list (together store mid) pieces) ≡ Ok (by_value (together store new) tx) → TxCites (together store new) tx → new.after ≡ length store
    → together store new ≡ fill (together store mid) (cited (all_inserted (by_value (together store new) tx)))
    → IsDrafted store (fragment_inserted items at html) (record { tx = tx; values = new })
pasted_draft store items at html mid new pieces tx read means cites follows filled =
    let N = together store new in
    let M = together store mid in
    let t = by_value N tx in
    let X = cited (pasted items at html) in
    let is : insertion items at (pasted items at html) ≡ Ok t = ap (insertion items at) (sym read.reads) ∙ means in
    let b = insertion_brings items at (pasted items at html) t is in
    record {
      draft = record {
        follows = follows;
        cites = cites;
        filled = filled_first store M N X b.more read.filled (filled ∙ ap (fill M) b.cites) ∙ ap (fill store) (sym b.cites);
      };
      same = pasted_is items at html read.fine ∙ ap built_transaction is;
    }

-- ---- as the calls say it

module _ (store : List Value) (items : List PlainItem) (at : ℕ) (html text : List ℕ) (stack : List Kind) (same_text : text ≡ encode_utf8_all html) (same_stack : stack_at items at ≡ stack)
    (good : is_bad_offset items at ≡ false) where
  pub refused_there : (fault : FragmentFault) → RefusesFragment fault stack text → IsRefused (fragment_stop fault) (fragment_inserted items at html)
  refused_there fault h =
      fragment_refused items at html fault good
      (subst (λ s. RefusesFragment fault s (encode_utf8_all html)) (sym same_stack) (subst (λ t. RefusesFragment fault stack t) same_text h))

  pub read_there : (old mid : Following) (pieces : List Item) → old ≡ record { after = length store; values = [] } → fault_of text ≡ None → limit_in stack text ≡ None
      → plain_list (together store mid) pieces ≡ fragment_in stack text → together store mid ≡ fill (together store old) (cited (fragment_in stack text)) → IsRead store items at html mid pieces
  read_there old mid pieces none spelled within reads filled =
      let whole : together store old ≡ store = ap (together store) none ∙ append-nil store in
      record {
        fine = record { offset = good; spelled = ap fault_of (sym same_text) ∙ spelled; within = (λ j. limit_in (same_stack j) (sym same_text j)) ∙ within };
        reads = reads ∙ (λ j. fragment_in (sym same_stack j) (same_text j));
        filled = filled ∙ (λ j. fill (whole j) (cited (fragment_in (sym same_stack j) (same_text j))));
      }
