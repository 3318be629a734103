-- Runs of characters with one list of marks, and what is shown first of items.
use Rattle.std.proofs.Common.{◌≡◌, ℕ, zero, suc, ◌<◌, ◌≤◌, Bool, true, false, if◌then◌else◌, List, [], ◌∷◌, ◌++◌, length, drop, Some, None, option_and_then, slice_get, refl, sym, ap, ◌∙◌, arith, append_assoc}
use Rattle.std.proofs.lemmas.List.{map-append}
use Rattle.serde_json.specs.Data.{Data}
use Rattle.serde_json.specs.Written.{compact_text, items_text}
use Rattle.ve_base.specs.declared.marks.Mark.{Mark}
use Rattle.ve_base.specs.declared.value.Value.{Value}
use Rattle.model_items.specs.declared.item.Item.{Item}
use Rattle.model_items.specs.declared.item.Item.TheVariants as cited
use Rattle.model_items.specs.Plain.{plain}
use Rattle.model_items.specs.declared.plain_item.PlainItem.{PlainItem}
use Rattle.model_items.specs.declared.plain_item.PlainItem.TheVariants.{Char, Opening, Closing}
use Rattle.model_items.specs.Same.{marks_same}
use Rattle.model_items.proofs.SameLemmas.{Means-marks_same}
use Rattle.model_world.specs.Shown.{Shown, Together, Apart, all_shown, char_shown, json_items, run_shown, as_shown}
use Rattle.model_edit.specs.Insert.{text_pieces}
use Rattle.ve_json.specs.Runs.{AddsFirst, IsMarkedRun, bracket_json, char_with, plain_before}
use Rattle.ve_json.proofs.RangeLemmas.{item_before, length_before}

none_some : {x : ℕ} → None ≡ Some x → ⊥
none_some e = absurd (cc)

pub marks_itself : (marks : List Mark) → marks_same marks marks ≡ true
marks_itself = Means-marks_same.itself

char_is : (marks : List Mark) (item : PlainItem) (ch : ℕ) → char_with marks item ≡ Some ch → item ≡ Char ch marks
char_is marks (Char c others) ch e = along (marks_same others marks) refl e
  where
    along : (b : Bool) → marks_same others marks ≡ b → (if b then Some c else None) ≡ Some ch → Char c others ≡ Char ch marks
    along true same e = let one : c ≡ ch = cc in (λ j. Char (one j) (Means-marks_same.equal others marks same j))
    along false same e = absurd (cc)
char_is marks (Opening kind head others pre origin generated) ch e = absurd (cc)
char_is marks (Closing kind pre) ch e = absurd (cc)

drop_one : (items : List PlainItem) (at : ℕ) (item : PlainItem) → slice_get items at ≡ Some item → drop at items ≡ item ∷ drop (suc at) items
drop_one [] at item e = absurd (cc)
drop_one (x ∷ items) zero item e = let same : x ≡ item = cc in ap (λ y. y ∷ items) same
drop_one (x ∷ items) (suc at) item e = drop_one items at item e

pub none_past : (items : List PlainItem) (at : ℕ) → length items ≤ at → slice_get items at ≡ None
none_past [] at past = refl
none_past (x ∷ items) zero past = absurd (omega (arith, past))
none_past (x ∷ items) (suc at) past = none_past items at (omega (arith, past))

-- one character more
pub run_on : (items : List PlainItem) (marks : List Mark) (at end : ℕ) (text : List ℕ) (item : PlainItem) (ch : ℕ) →
    drop at items ≡ text_pieces marks text ++ drop end items → slice_get items end ≡ Some item → char_with marks item ≡ Some ch →
    drop at items ≡ text_pieces marks (text ++ ch ∷ []) ++ drop (suc end) items
run_on items marks at end text item ch run got is =
    run
    ∙ ap (λ l. text_pieces marks text ++ l) (drop_one items end item got ∙ ap (λ i. i ∷ drop (suc end) items) (char_is marks item ch is))
    ∙ sym (append_assoc (text_pieces marks text) (Char ch marks ∷ []) (drop (suc end) items))
    ∙ ap (λ l. l ++ drop (suc end) items) (sym (map-append (λ c. Char c marks) text (ch ∷ [])))

-- ---- a run is shown as one

-- what is shown together is of the marks of the first item
first_marks : (items : List PlainItem) (marks : List Mark) (text : List ℕ) (later : List Data) → as_shown items ≡ Together marks text later →
    (c : ℕ) × slice_get items 0 ≡ Some (Char c marks)
first_marks [] marks text later e = absurd (cc)
first_marks (Char c others ∷ items) marks text later e = along (as_shown items) e
  where
    joined : (b : Bool) (there : List Mark) (t : List ℕ) (l : List Data) → marks_same others there ≡ b →
        (if b then Together there (c ∷ t) l else Together others (c ∷ []) (run_shown there t ∷ l)) ≡ Together marks text later → others ≡ marks
    joined true there t l same e = Means-marks_same.equal others there same ∙ cc
    joined false there t l same e = cc

    along : (s : Shown) → char_shown c others s ≡ Together marks text later → (d : ℕ) × Some (Char c others) ≡ Some (Char d marks)
    along (Together there t l) e = (c, ap (λ m. Some (Char c m)) (joined (marks_same others there) there t l refl e))
    along (Apart l) e = (c, cc)
first_marks (Opening kind head others pre origin generated ∷ items) marks text later e = absurd (cc)
first_marks (Closing kind pre ∷ items) marks text later e = absurd (cc)

-- a character before items that don't begin with one of its marks
last_shown : (marks : List Mark) (c : ℕ) (rest : List PlainItem) → option_and_then (char_with marks) (slice_get rest 0) ≡ None →
    char_shown c marks (as_shown rest) ≡ Together marks (c ∷ []) (all_shown (as_shown rest))
last_shown marks c rest stops = along (as_shown rest) refl
  where
    apart : (b : Bool) (there : List Mark) (t : List ℕ) (l : List Data) → marks_same marks there ≡ b → as_shown rest ≡ Together there t l →
        (if b then Together there (c ∷ t) l else Together marks (c ∷ []) (run_shown there t ∷ l)) ≡ Together marks (c ∷ []) (run_shown there t ∷ l)
    apart false there t l same is = refl
    apart true there t l same is =
        let first = first_marks rest there t l is in
        let equal : marks ≡ there = Means-marks_same.equal marks there same in
        let with_it : option_and_then (char_with marks) (slice_get rest 0) ≡ Some first.0 =
        ap (option_and_then (char_with marks)) first.1
        ∙ ap (λ b. if b then Some first.0 else None) (ap (λ m. marks_same m marks) (sym equal) ∙ marks_itself marks) in
        absurd (none_some (sym stops ∙ with_it))

    along : (s : Shown) → as_shown rest ≡ s → char_shown c marks s ≡ Together marks (c ∷ []) (all_shown s)
    along (Together there t l) is = apart (marks_same marks there) there t l refl is
    along (Apart l) is = refl

run_is_shown : (marks : List Mark) (c : ℕ) (text : List ℕ) (rest : List PlainItem) → option_and_then (char_with marks) (slice_get rest 0) ≡ None →
    as_shown (text_pieces marks (c ∷ text) ++ rest) ≡ Together marks (c ∷ text) (all_shown (as_shown rest))
run_is_shown marks c [] rest stops = last_shown marks c rest stops
run_is_shown marks c (d ∷ text) rest stops =
    ap (char_shown c marks) (run_is_shown marks d text rest stops)
    ∙ ap (λ b. if b then Together marks (c ∷ d ∷ text) (all_shown (as_shown rest)) else Together marks (c ∷ []) (run_shown marks (d ∷ text) ∷ all_shown (as_shown rest))) (marks_itself marks)

-- ---- what is added first

first_of_rest : (items : List PlainItem) (end : ℕ) → slice_get (drop end items) 0 ≡ slice_get items end
first_of_rest [] zero = refl
first_of_rest [] (suc end) = refl
first_of_rest (x ∷ items) zero = refl
first_of_rest (x ∷ items) (suc end) = first_of_rest items end

-- a run that is not empty
pub run_first : (items : List PlainItem) (marks : List Mark) (at end : ℕ) (text old new : List ℕ) (c : ℕ) → IsMarkedRun items marks at end text →
    slice_get items at ≡ Some (Char c marks) → new ≡ old ++ compact_text (run_shown marks text) → AddsFirst items at end old new
run_first items marks at end [] old new c run got adds = absurd (none_some (sym stops ∙ starts))
  where
    same : at ≡ end
    same = omega (arith, run.count)

    stops : option_and_then (char_with marks) (slice_get items at) ≡ None
    stops = ap (λ n. option_and_then (char_with marks) (slice_get items n)) same ∙ run.stops

    starts : option_and_then (char_with marks) (slice_get items at) ≡ Some c
    starts = ap (option_and_then (char_with marks)) got ∙ ap (λ b. if b then Some c else None) (marks_itself marks)
run_first items marks at end (d ∷ text) old new c run got adds = record {
  first = run_shown marks (d ∷ text);
  on = omega (arith, run.count);
  within = run.within;
  all = ap (λ l. all_shown (as_shown l)) run.run ∙ ap all_shown (run_is_shown marks d text (drop end items) (ap (option_and_then (char_with marks)) (first_of_rest items end) ∙ run.stops));
  text_is = adds;
}

bracket_first : (items : List PlainItem) (at : ℕ) (item : PlainItem) (value : Data) (old new : List ℕ) → at < length items → slice_get items at ≡ Some item →
    ((later : List PlainItem) → all_shown (as_shown (item ∷ later)) ≡ value ∷ all_shown (as_shown later)) → new ≡ old ++ compact_text value → AddsFirst items at (suc at) old new
bracket_first items at item value old new lies got alone adds = record {
  first = value;
  on = omega arith;
  within = omega (arith, lies);
  all = ap (λ l. all_shown (as_shown l)) (drop_one items at item got) ∙ alone (drop (suc at) items);
  text_is = adds;
}

abbrev pub IsBracket : Item → Type 0
IsBracket (cited.Char ch marks) = ⊥
IsBracket (cited.Opening kind generated head marks pre origin) = Unit {0}
IsBracket (cited.Closing kind pre) = Unit {0}

-- a bracket
pub bracket_added : (values : List Value) (items : List Item) (to at : ℕ) (item : Item) (old new : List ℕ) → at < to → to ≤ length items → slice_get items at ≡ Some item →
    IsBracket item → new ≡ old ++ bracket_json (plain values item) → AddsFirst (plain_before to values items) at (suc at) old new
bracket_added values items to at item old new lies within got is adds = along item is adds (item_before values items to at item lies got)
  where
    long : at < length (plain_before to values items)
    long = omega (arith, lies, length_before values items to within)

    along : (item : Item) → IsBracket item → new ≡ old ++ bracket_json (plain values item) → slice_get (plain_before to values items) at ≡ Some (plain values item) →
        AddsFirst (plain_before to values items) at (suc at) old new
    along (cited.Char ch marks) is adds got = absurd is
    along (cited.Opening kind generated head marks pre origin) is adds got = bracket_first (plain_before to values items) at _ _ old new long got (λ later. refl) adds
    along (cited.Closing kind pre) is adds got = bracket_first (plain_before to values items) at _ _ old new long got (λ later. refl) adds

-- and what comes after it
pub added : (items : List PlainItem) (at end : ℕ) (later : Bool) (before old new : List ℕ) → AddsFirst items at end old new → old ≡ before ++ (if later then 44 ∷ [] else []) →
    new ++ items_text true (json_items (all_shown (as_shown (drop end items)))) ≡ before ++ items_text later (json_items (all_shown (as_shown (drop at items))))
added items at end later before old new adds comma =
    let rest = items_text true (json_items (all_shown (as_shown (drop end items)))) in
    let text = compact_text adds.first in
    let mark : List ℕ = if later then 44 ∷ [] else [] in
    ap (λ s. s ++ rest) (adds.text_is ∙ ap (λ s. s ++ text) comma)
    ∙ append_assoc (before ++ mark) text rest
    ∙ append_assoc before mark (text ++ rest)
    ∙ ap (λ l. before ++ items_text later (json_items l)) (sym adds.all)
