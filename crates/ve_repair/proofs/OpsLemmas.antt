-- Operations, as a reader reads them.
use Rattle.std.proofs.Common.{◌≡◌, ◌≤◌, ◌<◌, ◌+◌, ℕ, zero, suc, Option, Some, None, List, [], ◌∷◌, ◌++◌, length, get_or, take, replicate, refl, sym, ap, ◌∙◌, subst, arith, append_assoc, append-nil}
use Rattle.std.proofs.lemmas.List.{length-append, take_more, map-append}
use Rattle.model_items.specs.declared.item.Item.{Item}
use Rattle.model_items.specs.declared.item.Item.TheVariants as item
use Rattle.ve_tree.proofs.WalkLemmas.{Slots}
use Rattle.ve_tx.specs.declared.op.Op.{Op}
use Rattle.ve_tx.specs.declared.op.Op.TheVariants.{Retain, Replace, Attribute}
use Rattle.ve_tx.specs.Checked.{old_size}
use Rattle.ve_repair.specs.Agree.{step_of, steps_of}
use Rattle.ve_repair.specs.Script.{script_for, first_reader}
use Rattle.ve_repair.specs.Acts.{Stay, Go, ComeLetter, ComeBegin, ComeEnd, marks, come, rest_of, acts_of}
use Rattle.ve_repair.specs.Cursors.{past, items_in, IsAt, IsRestOfText}
use Rattle.ve_repair.specs.Reader.{Reading, end_of, end_steps, IsMadeText, IsEndText, RunEnds}
use Rattle.ve_repair.specs.declared.read.TextRun.{TextRun}
use Rattle.ve_arena.specs.declared.node.NodeId.{NodeId}
use Rattle.ve_repair.specs.Courses.{supply_of, AreTexts, Course, HasRead, with_acts, with_stays, with_gone, IsReading, openings, HaveCome, come_size, all_openings, AreDone, IsReadOut}
use Rattle.ve_repair.proofs.SupplyLemmas.{end_is}
use Rattle.ve_repair.proofs.CourseLemmas.{texts_more, texts_still, begun_still}
use Rattle.ve_repair.proofs.CursorsLemmas.{at_still}
use Rattle.ve_repair.proofs.PassedLemmas.{past_few, acts_join}

-- more numbers than the items need
come-more : (xs : List Item) (ns ms : List ℕ) → openings xs ≤ length ns → come xs (ns ++ ms) ≡ come xs ns
come-more [] ns ms h = refl
come-more (item.Char ch marks ∷ xs) ns ms h = ap (λ l. ComeLetter ∷ l) (come-more xs ns ms h)
come-more (item.Opening kind generated head marks pre origin ∷ xs) [] ms h = absurd (omega (arith, h))
come-more (item.Opening kind generated head marks pre origin ∷ xs) (n ∷ ns) ms h = ap (λ l. ComeBegin n kind ∷ l) (come-more xs ns ms (omega (arith, h)))
come-more (item.Closing kind pre ∷ xs) ns ms h = ap (λ l. ComeEnd kind ∷ l) (come-more xs ns ms h)

rest-more : (xs : List Item) (ns ms : List ℕ) → openings xs ≤ length ns → rest_of xs (ns ++ ms) ≡ rest_of xs ns ++ ms
rest-more [] ns ms h = refl
rest-more (item.Char ch marks ∷ xs) ns ms h = rest-more xs ns ms h
rest-more (item.Opening kind generated head marks pre origin ∷ xs) [] ms h = absurd (omega (arith, h))
rest-more (item.Opening kind generated head marks pre origin ∷ xs) (n ∷ ns) ms h = rest-more xs ns ms (omega (arith, h))
rest-more (item.Closing kind pre ∷ xs) ns ms h = rest-more xs ns ms h

rest-length : (xs : List Item) (ns : List ℕ) → openings xs ≤ length ns → length (rest_of xs ns) + openings xs ≡ length ns
rest-length [] ns h = omega arith
rest-length (item.Char ch marks ∷ xs) ns h = rest-length xs ns h
rest-length (item.Opening kind generated head marks pre origin ∷ xs) [] h = absurd (omega (arith, h))
rest-length (item.Opening kind generated head marks pre origin ∷ xs) (n ∷ ns) h = let e = rest-length xs ns (omega (arith, h)) in omega (arith, e)
rest-length (item.Closing kind pre ∷ xs) ns h = rest-length xs ns h

-- operations in two parts
pub acts_of-append : (xs ys : List Op) (ns ms : List ℕ) → length ns ≡ all_openings xs → acts_of (xs ++ ys) (ns ++ ms) ≡ acts_of xs ns ++ acts_of ys ms
acts_of-append [] ys [] ms e = refl
acts_of-append [] ys (n ∷ ns) ms e = absurd (omega (arith, e))
acts_of-append (Retain count ∷ xs) ys ns ms e =
    ap (λ l. replicate count Stay ++ l) (acts_of-append xs ys ns ms e) ∙ sym (append_assoc (replicate count Stay) (acts_of xs ns) (acts_of ys ms))
acts_of-append (Replace removed inserted ∷ xs) ys ns ms e =
    let enough : openings inserted ≤ length ns = omega (arith, e) in
    let left = rest-length inserted ns enough in
    let gone = replicate (length removed) Go in
    (λ i. gone ++ (come-more inserted ns ms enough i ++ acts_of (xs ++ ys) (rest-more inserted ns ms enough i)))
    ∙ ap (λ l. gone ++ (come inserted ns ++ l)) (acts_of-append xs ys (rest_of inserted ns) ms (omega (arith, left, e)))
    ∙ ap (λ l. gone ++ l) (sym (append_assoc (come inserted ns) (acts_of xs (rest_of inserted ns)) (acts_of ys ms)))
    ∙ sym (append_assoc gone (come inserted ns ++ acts_of xs (rest_of inserted ns)) (acts_of ys ms))
acts_of-append (Attribute name from to ∷ xs) ys ns ms e = acts_of-append xs ys ns ms e

pub old_size-append : (xs ys : List Op) → old_size (xs ++ ys) ≡ old_size xs + old_size ys
old_size-append [] ys = omega arith
old_size-append (Retain count ∷ xs) ys = let e = old_size-append xs ys in omega (arith, e)
old_size-append (Replace removed inserted ∷ xs) ys = let e = old_size-append xs ys in omega (arith, e)
old_size-append (Attribute name from to ∷ xs) ys = old_size-append xs ys

pub come_size-append : (xs ys : List Op) → come_size (xs ++ ys) ≡ come_size xs + come_size ys
come_size-append [] ys = omega arith
come_size-append (op ∷ xs) ys = let e = come_size-append xs ys in omega (arith, e)

pub all_openings-append : (xs ys : List Op) → all_openings (xs ++ ys) ≡ all_openings xs + all_openings ys
all_openings-append [] ys = omega arith
all_openings-append (Retain count ∷ xs) ys = all_openings-append xs ys
all_openings-append (Replace removed inserted ∷ xs) ys = let e = all_openings-append xs ys in omega (arith, e)
all_openings-append (Attribute name from to ∷ xs) ys = all_openings-append xs ys

take_within : (k : ℕ) (xs : List Op) → (old_size (take k xs) ≤ old_size xs) × (come_size (take k xs) ≤ come_size xs)
take_within zero xs = (omega arith, omega arith)
take_within (suc k) [] = (omega arith, omega arith)
take_within (suc k) (Retain count ∷ xs) = let e = take_within k xs in (omega (arith, e.0), omega (arith, e.1))
take_within (suc k) (Replace removed inserted ∷ xs) = let e = take_within k xs in (omega (arith, e.0), omega (arith, e.1))
take_within (suc k) (Attribute name from to ∷ xs) = let e = take_within k xs in (omega (arith, e.0), omega (arith, e.1))

pub replace_done : (removed inserted : List Item) (op : Op) (c : Course) (slots : Slots) (r : Reading) → op ≡ Replace removed inserted → HaveCome inserted (with_gone (length removed) c) slots r →
    AreDone (op ∷ []) c slots r
replace_done removed inserted op c slots r e h = subst (λ (o : Op). AreDone (o ∷ []) c slots r) (sym e) (record {
  numbers = h.numbers;
  counted = let k = h.counted in omega (arith, k);
  read =
      let z : 0 + length inserted ≡ length inserted + 0 = omega arith in
      subst (λ (d : Course). HasRead d slots r)
      (acts_join (replicate (length removed) Go) (come inserted h.numbers) (length removed) 0 0 (length inserted) c
      ∙ (λ i. with_acts (replicate (length removed) Go ++ sym (append-nil (come inserted h.numbers)) i) (length removed + 0) (z i) c)) h.read;
})

pub replace_op : (removed inserted xs ys : List Item) (op : Op) (old new : Slots) (r r1 : Reading) → op ≡ Replace removed inserted → xs ≡ removed → ys ≡ inserted →
    ((c : Course) → HasRead c old r → length xs ≤ items_in c.spot.rest → HaveCome ys (with_gone (length xs) c) new r1) → (c : Course) → HasRead c old r →
    old_size (op ∷ []) ≤ items_in c.spot.rest → AreDone (op ∷ []) c new r1
replace_op removed inserted xs ys op old new r r1 e a b f c h enough =
    let same : op ≡ Replace xs ys = e ∙ (λ i. Replace (sym a i) (sym b i)) in
    let size = ap (λ (o : Op). old_size (o ∷ [])) same in
    replace_done xs ys op c new r1 same (f c h (omega (arith, size, enough)))

-- So far the first so many operations are done.
pub record Doing (old now : Slots) (r0 r : Reading) (ops : List Op) (k : ℕ) : Type 0 where
  pub done : (c : Course) → HasRead c old r0 → old_size ops ≤ items_in c.spot.rest → AreDone (take k ops) c now r

pub sizes_more : (ops : List Op) (k : ℕ) (d : Op) → k < length ops →
    (old_size (take k ops) + old_size (get_or ops k d ∷ []) ≤ old_size ops) × (come_size (take k ops) + come_size (get_or ops k d ∷ []) ≤ come_size ops)
sizes_more ops k d within =
    let t = take_within (k + 1) ops in
    let more = take_more ops k d within in
    let old = ap old_size more ∙ old_size-append (take k ops) (get_or ops k d ∷ []) in
    let new = ap come_size more ∙ come_size-append (take k ops) (get_or ops k d ∷ []) in
    (omega (arith, t.0, old), omega (arith, t.1, new))

pub doing_on : (old now new : Slots) (r0 r r1 : Reading) (ops : List Op) (k : ℕ) (op d : Op) → k < length ops → op ≡ get_or ops k d → Doing old now r0 r ops k →
    ((c : Course) → HasRead c now r → old_size (op ∷ []) ≤ items_in c.spot.rest → AreDone (op ∷ []) c new r1) → Doing old new r0 r1 ops (k + 1)
doing_on old now new r0 r r1 ops k op d within is h step = record {
  done = λ c read enough.
      let a = h.done c read enough in
      let mid = with_acts (acts_of (take k ops) a.numbers) (old_size (take k ops)) (come_size (take k ops)) c in
      let sizes = (sizes_more ops k d within).0 in
      let same = ap (λ (o : Op). old_size (o ∷ [])) is in
      let passed = past_few (old_size (take k ops)) c.spot in
      let b = step mid a.read (omega (arith, sizes, same, passed, enough)) in
      let sum = length-append a.numbers b.numbers in
      let all = all_openings-append (take k ops) (op ∷ []) in
      let one = a.counted in
      let two = b.counted in
      let more : take k ops ++ op ∷ [] ≡ take (k + 1) ops = ap (λ o. take k ops ++ o ∷ []) is ∙ sym (take_more ops k d within) in
      subst (λ (l : List Op). AreDone l c new r1) more (record {
        numbers = a.numbers ++ b.numbers;
        counted = omega (arith, sum, all, one, two);
        read = subst (λ (q : Course). HasRead q new r1)
            (acts_join (acts_of (take k ops) a.numbers) (acts_of (op ∷ []) b.numbers) (old_size (take k ops)) (old_size (op ∷ [])) (come_size (take k ops)) (come_size (op ∷ [])) c
            ∙ (λ i. with_acts (sym (acts_of-append (take k ops) (op ∷ []) a.numbers b.numbers a.counted) i) (sym (old_size-append (take k ops) (op ∷ [])) i)
            (sym (come_size-append (take k ops) (op ∷ [])) i) c)) b.read;
      });
}

pub doing_reads : (old now : Slots) (r0 r : Reading) (ops : List Op) (k : ℕ) (op d : Op) → k < length ops → op ≡ get_or ops k d → IsReading old r0 (old_size ops) (come_size ops) → Doing old now r0 r ops k →
    IsReading now r (old_size (op ∷ [])) (come_size (op ∷ []))
doing_reads old now r0 r ops k op d within is i h =
    let a = h.done i.course i.read i.enough in
    let sizes = sizes_more ops k d within in
    let one = ap (λ (o : Op). old_size (o ∷ [])) is in
    let two = ap (λ (o : Op). come_size (o ∷ [])) is in
    let passed = past_few (old_size (take k ops)) i.course.spot in
    let enough = i.enough in
    let room = i.room in
    record {
      course = with_acts (acts_of (take k ops) a.numbers) (old_size (take k ops)) (come_size (take k ops)) i.course;
      read = a.read;
      enough = omega (arith, sizes.0, one, passed, enough);
      room = omega (arith, sizes.1, two, room);
    }

-- The rest of a text stays, and the run ends.
pub read_out : (c : Course) (old new : Slots) (r r1 : Reading) (tail : ℕ) → HasRead (with_stays tail c) old r → RunEnds old new r [] r1 → IsRestOfText c.spot tail → IsReadOut c new r1
read_out c old new r r1 tail h e rest = record {
  tail = tail;
  few = rest.few;
  at = subst (λ a. IsAt new a (past tail c.spot)) (sym (ap (λ (q : Reading). q.at) e.reader)) (at_still old new r.at (past tail c.spot) e.keeps h.at);
  whole = rest.whole;
  script =
      steps_now
      ∙ ap (λ l. steps_of r.script ++ l) (ends ∙ sym (end_is (steps_of r.script) e.text r.run [] [] [] h.fresh))
      ∙ sym (h.script (steps_of (end_steps e.text r.run ++ []) ++ []) [])
      ∙ (λ i. script_for (supply_of (whole i)) (marks (append-nil (c.acts ++ replicate tail Stay) i) c.start.rest) (first_reader 0));
  begun = begun_still old new (c.acts ++ replicate tail Stay) e.keeps h.begun;
  texts = subst (AreTexts new) (sym (steps_now ∙ ap (λ l. steps_of r.script ++ l) (ends ∙ append-nil (steps_of (end_steps e.text r.run)))))
      (texts_more new (steps_of r.script) (steps_of (end_steps e.text r.run)) (texts_still old new (steps_of r.script) e.keeps h.texts) (end_made e.text r.run e.made));
  spot_is = h.spot_is;
}
  where
    steps_now : steps_of r1.script ≡ steps_of r.script ++ steps_of (end_steps e.text r.run ++ [])
    steps_now = ap steps_of (ap (λ (q : Reading). q.script) e.reader) ∙ map-append step_of r.script (end_steps e.text r.run ++ [])

    ends : steps_of (end_steps e.text r.run ++ []) ≡ steps_of (end_steps e.text r.run) ++ []
    ends = map-append step_of (end_steps e.text r.run) []

    whole : steps_of r.script ++ (steps_of (end_steps e.text r.run ++ []) ++ []) ≡ steps_of r1.script
    whole = ap (λ l. steps_of r.script ++ l) (append-nil (steps_of (end_steps e.text r.run ++ []))) ∙ sym steps_now

    end_made : (text : NodeId) (run : Option TextRun) → IsEndText new text run → AreTexts new (steps_of (end_steps text run))
    end_made text None m = tt
    end_made text (Some run) m = by run.kept m
      where
        by : (kept : Option NodeId) → IsMadeText new text kept → AreTexts new (steps_of (end_of text kept (run.more + 1)))
        by None m = (m, (tt, tt))
        by (Some n) m = (tt, tt)
