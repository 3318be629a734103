-- Text as pieces, and the marks of what stands to the left.
use Rattle.std.proofs.Common.{◌≡◌, ◌≤◌, ◌<◌, ℕ, zero, suc, ◌-◌, Bool, true, false, if◌then◌else◌, Option, Some, None, List, [], ◌∷◌, length, map, slice_get, refl, sym, ap, ◌∙◌, subst, arith}
use Rattle.std.specs.Prelude.{All}
use Rattle.std.proofs.lemmas.List.{length-map}
use Rattle.std.proofs.lemmas.List.Elements.{All-nil, All-cons}
use Rattle.std.proofs.lemmas.Option.{slice_get_within}
use Rattle.ve_base.specs.declared.value.Value.{Value}
use Rattle.ve_base.specs.declared.value.ValueId.{ValueId}
use Rattle.ve_kinds.specs.declared.kind.Kind.{Kind}
use Rattle.ve_kinds.specs.Table.{is_inline_leaf}
use Rattle.model_items.specs.declared.item.Item.{Item}
use Rattle.model_items.specs.declared.item.Item.TheVariants as item
use Rattle.model_items.specs.declared.plain_item.PlainItem.{PlainItem}
use Rattle.model_items.specs.declared.plain_item.PlainItem.TheVariants.{Char}
use Rattle.model_items.specs.Offsets.{opens_at, first_from, partner}
use Rattle.model_items.specs.Plain.{plain, plain_list, value_at, marks_in, CitesMarks, CitesWell}
use Rattle.model_items.specs.Tree.{Open}
use Rattle.model_edit.specs.Insert.{marks_of, marks_after, marks_before, text_pieces}
use Rattle.ve_tree.specs.IsTree.{unvalued}
use Rattle.ve_edits.proofs.BracketLemmas.{slice_get-plain, node_at-from, partner-Closing, cites_there}
use Rattle.ve_edits.proofs.RoundLemmas.{round_at}
use Rattle.ve_build_insert.specs.Typed.{MarksAreCited, AreMarksBefore, AreLetters, LettersCite}
use Rattle.ve_store.specs.Following.{Following, together}
use Rattle.ve_tx.proofs.ValuesLemmas.{all-extended, list-extended}
use Rattle.ve_edits.proofs.FollowingLemmas.{store_extends}

-- the characters of a text, each with these marks
pub letters_plain : (values : List Value) (marks : Option ValueId) (text : List ℕ) → plain_list values (map (λ c. item.Char c marks) text) ≡ text_pieces (marks_in (value_at values marks)) text
letters_plain values marks [] = refl
letters_plain values marks (c ∷ text) = ap (λ l. Char c (marks_in (value_at values marks)) ∷ l) (letters_plain values marks text)

pub letters_cite : (values : List Value) (marks : Option ValueId) (text : List ℕ) → CitesMarks values marks → All (CitesWell values) (map (λ c. item.Char c marks) text)
letters_cite values marks [] cites = All-nil (CitesWell values)
letters_cite values marks (c ∷ text) cites =
    All-cons (CitesWell values) (item.Char c marks) (map (λ c. item.Char c marks) text) cites (letters_cite values marks text cites)

-- ---- the marks of one item

module _ (items : List Item) (at : ℕ) (x : Item) (there : slice_get items at ≡ Some x) where
  of_item : (values : List Value) (y : Item) → x ≡ y → slice_get (plain_list values items) at ≡ Some (plain values y)
  of_item values y is = slice_get-plain values items at x there ∙ ap (λ z. Some (plain values z)) is

  cites_as : (values : List Value) (y : Item) → x ≡ y → All (CitesWell values) items → CitesWell values y
  cites_as values y is all = subst (CitesWell values) is (cites_there values items at x all there)

  pub marks_of_char : (ch : ℕ) (marks : Option ValueId) → x ≡ item.Char ch marks → MarksAreCited items at marks
  marks_of_char ch marks is = record {
    marks = λ values. sym (ap marks_of (of_item values (item.Char ch marks) is));
    cites = λ values all. cites_as values (item.Char ch marks) is all;
  }

  pub marks_of_opening : (kind : Kind) (generated : Bool) (head marks pre : Option ValueId) (origin : Option ℕ) → x ≡ item.Opening kind generated head marks pre origin → MarksAreCited items at marks
  marks_of_opening kind generated head marks pre origin is = record {
    marks = λ values. sym (ap marks_of (of_item values (item.Opening kind generated head marks pre origin) is));
    cites = λ values all. (cites_as values (item.Opening kind generated head marks pre origin) is all).1;
  }

  pub marks_of_closing : (kind : Kind) (pre : Option ValueId) → x ≡ item.Closing kind pre → MarksAreCited items at None
  marks_of_closing kind pre is = record {
    marks = λ values. sym (ap marks_of (of_item values (item.Closing kind pre) is));
    cites = λ values all. tt;
  }

-- ---- the marks to the left

pub before_first : (items : List Item) (at : ℕ) → at ≡ 0 → AreMarksBefore items at None
before_first items at h = record { marks = λ values. sym (ap (marks_before (plain_list values items)) h); cites = λ values all. tt }

none_past : (items : List PlainItem) (at : ℕ) → length items ≤ at → slice_get items at ≡ None
none_past [] at h = refl
none_past (x ∷ items) zero h = absurd (omega arith)
none_past (x ∷ items) (suc at) h = none_past items at (omega arith)

before_is : (items : List PlainItem) (at : ℕ) → 0 < at → marks_before items at ≡ marks_after (slice_get items (at - 1)) items (at - 1)
before_is items zero h = absurd (omega arith)
before_is items (suc at) h = let e : at ≡ suc at - 1 = omega arith in ap (λ n. marks_after (slice_get items n) items n) e

pub before_past : (items : List Item) (at : ℕ) → length items < at → AreMarksBefore items at None
before_past items at h = record {
  marks = λ values.
      let n = length-map items (plain values) in
      let all = plain_list values items in
      sym (before_is all at (omega arith) ∙ ap (λ o. marks_after o all (at - 1)) (none_past all (at - 1) (omega arith)));
  cites = λ values all. tt;
}

module _ (items : List Item) (at : ℕ) (x : Item) (some : 0 < at) (there : slice_get items (at - 1) ≡ Some x) where
  here : (values : List Value) (y : Item) → x ≡ y → marks_before (plain_list values items) at ≡ marks_after (Some (plain values y)) (plain_list values items) (at - 1)
  here values y is =
      before_is (plain_list values items) at some ∙ ap (λ o. marks_after o (plain_list values items) (at - 1)) (of_item items (at - 1) x there values y is)

  pub before_char : (ch : ℕ) (marks : Option ValueId) → x ≡ item.Char ch marks → AreMarksBefore items at marks
  before_char ch marks is = record {
    marks = λ values. sym (here values (item.Char ch marks) is);
    cites = λ values all. cites_as items (at - 1) x there values (item.Char ch marks) is all;
  }

  pub before_opening : (kind : Kind) (generated : Bool) (head marks pre : Option ValueId) (origin : Option ℕ) → x ≡ item.Opening kind generated head marks pre origin → AreMarksBefore items at None
  before_opening kind generated head marks pre origin is = record {
    marks = λ values. sym (here values (item.Opening kind generated head marks pre origin) is);
    cites = λ values all. tt;
  }

  module _ (kind : Kind) (pre : Option ValueId) (is : x ≡ item.Closing kind pre) where
    pub before_other : is_inline_leaf kind ≡ false → AreMarksBefore items at None
    before_other other = record {
      marks = λ values.
          let all = plain_list values items in
          sym (here values (item.Closing kind pre) is ∙ ap (λ b. if b then marks_of (slice_get all (partner all (at - 1))) else []) other);
      cites = λ values all. tt;
    }

    pub before_leaf : (other : ℕ) (id : Option ValueId) → is_inline_leaf kind ≡ true → ((values : List Value) → other ≡ partner (plain_list values items) (at - 1)) → MarksAreCited items other id → AreMarksBefore items at id
    before_leaf other id leaf same cited = record {
      marks = λ values.
          let all = plain_list values items in
          cited.marks values ∙ ap (λ n. marks_of (slice_get all n)) (same values)
          ∙ sym (here values (item.Closing kind pre) is ∙ ap (λ b. if b then marks_of (slice_get all (partner all (at - 1))) else []) leaf);
      cites = λ values all. cited.cites values all;
    }

-- a closing's partner stands in the list
pub closed_within : (values : List Value) (items : List Item) (at : ℕ) (x : Item) (kind : Kind) (pre : Option ValueId) → slice_get items at ≡ Some x → x ≡ item.Closing kind pre →
    partner (plain_list values items) at < length items
closed_within values items at x kind pre there is =
    let within = slice_get_within items at x there in
    let same = partner-Closing values items at x kind pre there is in
    let begun = node_at-from (unvalued items) at in
    let first = by (opens_at (unvalued items) at) refl within in
    omega (arith, same, begun, first)
  where
    by : (opens : List Open) → opens_at (unvalued items) at ≡ opens → at < length items → first_from (opens_at (unvalued items) at) < length items
    by [] e within = let first = ap first_from e in omega arith
    by (o ∷ outer) e within =
        let round = round_at values items at (omega arith) (λ none. let two : o ∷ outer ≡ [] = sym e ∙ none in cc) in
        let inner = slice_get_within items _ round.item round.there in
        subst (λ n. n < length items) (node_at-from (unvalued items) at) inner

-- ---- the text as pieces, over the store and what follows it

module _ (store : List Value) (items : List Item) (at : ℕ) (id : Option ValueId) (text : List ℕ) (new : Following) (pieces lent : List Item) (listed : All (CitesWell store) items)
    (before : AreMarksBefore items at id) (given : AreLetters id text pieces) (same : lent ≡ pieces) where
  pub typed : plain_list (together store new) lent ≡ text_pieces (marks_before (plain_list store items) at) text
  typed =
      let V = together store new in
      ap (plain_list V) same ∙ given V ∙ ap (λ m. text_pieces m text) (before.marks V)
      ∙ ap (λ l. text_pieces (marks_before l at) text) (list-extended store V (store_extends store new) items listed)

  pub typed_cites : LettersCite id pieces → All (CitesWell (together store new)) lent
  typed_cites cite =
      let V = together store new in
      subst (All (CitesWell V)) (sym same) (cite V (before.cites V (all-extended store V (store_extends store new) items listed)))

-- the same of marks that are cited
pub letters_shown : (values : List Value) (id : Option ValueId) (text : List ℕ) (pieces lent : List Item) → AreLetters id text pieces → lent ≡ pieces →
    plain_list values lent ≡ text_pieces (marks_in (value_at values id)) text
letters_shown values id text pieces lent given same = ap (plain_list values) same ∙ given values

pub letters_cited : (values : List Value) (id : Option ValueId) (pieces lent : List Item) → CitesMarks values id → lent ≡ pieces → LettersCite id pieces → All (CitesWell values) lent
letters_cited values id pieces lent marks same cite = subst (All (CitesWell values)) (sym same) (cite values marks)
