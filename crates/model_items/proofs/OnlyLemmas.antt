-- The tree of a list is the only forest of whole runs that, written out, is the list.
use Rattle.std.proofs.Common.{◌≡◌, ℕ, zero, suc, ◌<◌, false, List, [], ◌∷◌, ◌++◌, map, drop, replicate, refl, sym, ap, ◌∙◌, append_assoc, append-nil, arith}
use Rattle.ve_base.specs.declared.value.Value.{Value}
use Rattle.model_items.specs.declared.item.Item.{Item}
use Rattle.model_items.specs.declared.item.Item.TheVariants as item
use Rattle.model_items.specs.declared.plain_item.PlainItem.{PlainItem}
use Rattle.model_items.specs.declared.plain_item.PlainItem.TheVariants.{Char, Opening, Closing}
use Rattle.model_items.specs.Plain.{plain_list}
use Rattle.model_items.specs.Tree.{Forest, Empty, Run, Branch, with_char, Reading, first_forest, reading, Shape, Letter, Begin, End, shape_of, shapes, begins_with_run, HasWholeRuns, TreeHasWholeRuns, TreeIsOnly, TreeReadsNoValues}

-- reading, by the shapes alone
abbrev reading_by : Shape → Reading → Reading
reading_by Letter r = record { here = with_char r.here; outer = r.outer }
reading_by (End kind) r = record { here = Empty; outer = r.here ∷ r.outer }
reading_by (Begin kind) r = record { here = Branch kind r.here (first_forest r.outer); outer = drop 1 r.outer }

abbrev reading_of : List Shape → Reading
reading_of [] = record { here = Empty; outer = [] }
reading_of (s ∷ ss) = reading_by s (reading_of ss)

reading-shapes : (items : List PlainItem) → reading items ≡ reading_of (map shape_of items)
reading-shapes [] = refl
reading-shapes (Char c marks ∷ items) = ap (reading_by Letter) (reading-shapes items)
reading-shapes (Opening kind head marks pre origin generated ∷ items) = ap (reading_by (Begin kind)) (reading-shapes items)
reading-shapes (Closing kind pre ∷ items) = ap (reading_by (End kind)) (reading-shapes items)

-- letters before a forest that does not begin with some are one run
letters : (count : ℕ) (later : Forest) (ss : List Shape) (outer : List Forest) → 0 < count → begins_with_run later ≡ false →
    reading_of ss ≡ record { here = later; outer = outer } →
    reading_of (replicate count Letter ++ ss) ≡ record { here = Run count later; outer = outer }
letters zero later ss outer some apart e = absurd (omega arith)
letters (suc zero) later ss outer some apart e = ap (reading_by Letter) e ∙ by_later later apart
  where
    by_later : (later : Forest) → begins_with_run later ≡ false →
        ◌≡◌ {A = Reading} (record { here = with_char later; outer = outer }) (record { here = Run 1 later; outer = outer })
    by_later Empty h = refl
    by_later (Run n more) h = cc
    by_later (Branch kind inside more) h = refl
letters (suc (suc n)) later ss outer some apart e = ap (reading_by Letter) (letters (suc n) later ss outer (omega arith) apart e)

-- a forest that is written out before what begins with no sibling of it is read back
read_back : (f : Forest) (rest : List Shape) → HasWholeRuns f → (reading_of rest).here ≡ Empty →
    reading_of (shapes f ++ rest) ≡ record { here = f; outer = (reading_of rest).outer }
read_back Empty rest whole h = λ i. record { here = h i; outer = (reading_of rest).outer }
read_back (Run count later) rest whole h =
    ap reading_of (append_assoc (replicate count Letter) (shapes later) rest)
    ∙ letters count later (shapes later ++ rest) (reading_of rest).outer whole.0 whole.1 (read_back later rest whole.2 h)
read_back (Branch kind inside later) rest whole h =
    let suffix = End kind ∷ (shapes later ++ rest) in
    let within = read_back inside suffix whole.0 refl in
    let after_it = read_back later rest whole.1 h in
    ap (λ ss. reading_by (Begin kind) (reading_of ss)) (append_assoc (shapes inside) (End kind ∷ shapes later) rest)
    ∙ ap (reading_by (Begin kind)) within
    ∙ ap (λ (r : Reading). reading_by (Begin kind) (record { here = inside; outer = r.here ∷ r.outer })) after_it

pub tree_is_only : TreeIsOnly
tree_is_only items f whole e =
    let back = read_back f [] whole refl in
    sym (ap (λ (r : Reading). r.here) (reading-shapes items ∙ ap reading_of (sym e ∙ sym (append-nil (shapes f))) ∙ back))

-- each forest of a list has whole runs
abbrev AllWhole : List Forest → Type 0
AllWhole [] = Unit {0}
AllWhole (f ∷ fs) = HasWholeRuns f × AllWhole fs

whole-with_char : (f : Forest) → HasWholeRuns f → HasWholeRuns (with_char f)
whole-with_char Empty h = (omega arith, refl, tt)
whole-with_char (Run count later) h = (omega arith, h.1, h.2)
whole-with_char (Branch kind inside later) h = (omega arith, refl, h)

whole-first_of : (fs : List Forest) → AllWhole fs → HasWholeRuns (first_forest fs)
whole-first_of [] h = tt
whole-first_of (f ∷ fs) h = h.0

whole-drop : (fs : List Forest) → AllWhole fs → AllWhole (drop 1 fs)
whole-drop [] h = tt
whole-drop (f ∷ fs) h = h.1

reading_whole : (items : List PlainItem) → HasWholeRuns (reading items).here × AllWhole (reading items).outer
reading_whole [] = (tt, tt)
reading_whole (Char c marks ∷ items) = let r = reading_whole items in (whole-with_char (reading items).here r.0, r.1)
reading_whole (Closing kind pre ∷ items) = let r = reading_whole items in (tt, (r.0, r.1))
reading_whole (Opening kind head marks pre origin generated ∷ items) =
    let r = reading_whole items in
    ((r.0, whole-first_of (reading items).outer r.1), whole-drop (reading items).outer r.1)

pub tree_has_whole_runs : TreeHasWholeRuns
tree_has_whole_runs items = (reading_whole items).0

same_reading : (values others : List Value) (items : List Item) → reading (plain_list values items) ≡ reading (plain_list others items)
same_reading values others [] = refl
same_reading values others (item.Char ch marks ∷ items) = ap (reading_by Letter) (same_reading values others items)
same_reading values others (item.Opening kind generated head marks pre origin ∷ items) = ap (reading_by (Begin kind)) (same_reading values others items)
same_reading values others (item.Closing kind pre ∷ items) = ap (reading_by (End kind)) (same_reading values others items)

pub tree_reads_no_values : TreeReadsNoValues
tree_reads_no_values values others items = ap (λ (r : Reading). r.here) (same_reading values others items)
