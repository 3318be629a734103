-- Where a reader stops it has made no more nodes than what was to be read asks for.
use Rattle.std.proofs.Common.{◌≡◌, ◌≤◌, ◌<◌, ◌+◌, ◌-◌, ℕ, zero, suc, Option, Some, None, Result, Ok, Err, List, [], ◌∷◌, ◌++◌, length, map, take, drop, get_or, replicate, refl, sym, ap, ◌∙◌, subst, arith, append-nil, append_assoc, length-append}
use Rattle.std.specs.Prelude.{OnErr}
use Rattle.std.proofs.lemmas.List.{map-append, take_more, take-append-drop}
use Rattle.ve_kinds.specs.declared.kind.Kind.{Kind}
use Rattle.model_items.specs.declared.item.Item.{Item}
use Rattle.ve_arena.specs.declared.node.NodeId.{NodeId}
use Rattle.ve_arena.specs.declared.node.NodeWhat.TheVariants as what
use Rattle.ve_tree.specs.Grown.{id_of}
use Rattle.ve_tx.specs.declared.op.Op.{Op}
use Rattle.ve_tx.specs.Checked.{old_size}
use Rattle.ve_repair.specs.declared.cursor.Cursor.{Cursor}
use Rattle.ve_repair.specs.declared.cursor.Ahead.TheVariants.{Opening, Closing}
use Rattle.ve_repair.specs.declared.read.TextRun.{TextRun}
use Rattle.ve_repair.specs.declared.script.How.TheVariants.{Keep, Put}
use Rattle.ve_repair.specs.declared.script.Step.{Step}
use Rattle.ve_repair.specs.declared.script.Step.TheVariants.{Enter, Leave, Text}
use Rattle.ve_repair.specs.Acts.{Act, Stay, ComeBegin, ComeEnd, marks, come, acts_of}
use Rattle.ve_repair.specs.Agree.{step_of, steps_of}
use Rattle.ve_repair.specs.Charged.{made_count}
use Rattle.ve_repair.specs.Courses.{Course, HasRead, AreDone, reader_of, supply_of, with_acts, with_stays, come_size}
use Rattle.ve_repair.specs.Cursors.{Spot, spot_of, past, items_in, IsPassed, IsRestOfText}
use Rattle.ve_repair.specs.Frees.{nodes_of}
use Rattle.ve_repair.specs.Partly.{unnumbered_act, makes_of, IsPart, IsPartOut, made_at_end, made_by, made_when_ended}
use Rattle.ve_repair.specs.Reader.{Slots, Reading, running_of, with_cursor, with_steps, put_step, end_of, end_steps, grown, MakesSame, RunEnds}
use Rattle.ve_repair.specs.Script.{ended, script_for, first_reader}
use Rattle.ve_repair.specs.Spelled.{Sign, BeginOf, LettersOf, EndOf, NoLetters, Proper}
use Rattle.ve_repair.proofs.ComeLemmas.{Coming, came_bracket}
use Rattle.ve_repair.proofs.CourseLemmas.{Bracket}
use Rattle.ve_repair.proofs.CursorsLemmas.{past-text}
use Rattle.ve_repair.proofs.KeptLemmas.{keep_begin, keep_end, items_fit}
use Rattle.ve_repair.proofs.MakeLemmas.{nodes_of-append}
use Rattle.ve_repair.proofs.MakesLemmas.{makes, makes_run, makes_are, makes_then, made_running, come_blank, come_none, ops_blank, ops_none}
use Rattle.ve_repair.proofs.OpsLemmas.{Doing, sizes_more}
use Rattle.ve_repair.proofs.PassedLemmas.{past_few, replicate-add, Passing}

-- the whole script has the nodes that were made so far, and those that are made for the acts to
-- come
whole_makes : (c : Course) (slots : Slots) (r : Reading) (later : List Act) → HasRead c slots r →
    makes_of (c.acts ++ later) c.start.rest ≡ made_count r.script + makes (script_for (supply_of (steps_of r.script ++ [])) (marks later c.spot.rest) (reader_of r))
whole_makes c slots r later h =
    sym (makes_are (supply_of (steps_of r.script ++ [])) (c.acts ++ later) c.start.rest) ∙ ap makes (h.script [] later)
    ∙ makes_then r.script (script_for (supply_of (steps_of r.script ++ [])) (marks later c.spot.rest) (reader_of r))

-- nothing more was made
pub part_now : (c : Course) (slots : Slots) (r : Reading) (acts : List Act) (xs : List Step) → HasRead c slots r → made_count xs ≤ made_count r.script → IsPart c acts xs
part_now c slots r acts xs h few = λ later. let e = whole_makes c slots r (acts ++ later) h in omega (arith, e, few)

-- the run was ended for a bracket
pub part_ended : (c : Course) (slots : Slots) (r : Reading) (acts : List Act) (k more : ℕ) (x : Step) (xs : List Step) → HasRead c slots r → Bracket c acts k more x → made_count xs ≤ made_when_ended r →
    IsPart c acts xs
part_ended c slots r acts k more x xs h b few = λ later.
    let supply = supply_of (steps_of r.script ++ []) in
    let e = whole_makes c slots r (acts ++ later) h in
    let rest = step_of x ∷ script_for supply (marks later (past k c.spot).rest) (ended (reader_of r)) in
    let own = ap makes (b.script supply later (reader_of r)) ∙ makes_run supply (running_of r.run) (reader_of r).made rest in
    let run = made_running r.run in
    omega (arith, e, few, own, run)

-- at the end
pub end_makes : (c : Course) (slots : Slots) (r : Reading) (xs : List Step) → HasRead c slots r → made_count xs ≤ made_when_ended r → made_count xs ≤ makes_of c.acts c.start.rest
end_makes c slots r xs h few =
    let supply = supply_of (steps_of r.script ++ []) in
    let e = sym (ap (λ l. makes_of l c.start.rest) (append-nil c.acts)) ∙ whole_makes c slots r [] h in
    let own = makes_run supply (running_of r.run) (reader_of r).made [] in
    let run = made_running r.run in
    omega (arith, e, few, own, run)

-- more acts behind, and before
pub part_more : (c : Course) (acts more : List Act) (xs : List Step) → IsPart c acts xs → IsPart c (acts ++ more) xs
part_more c acts more xs p = λ later. subst (λ l. made_count xs ≤ makes_of (c.acts ++ l) c.start.rest) (sym (append_assoc acts more later)) (p (more ++ later))

pub part_behind : (c : Course) (acts more : List Act) (count given : ℕ) (xs : List Step) → IsPart (with_acts acts count given c) more xs → IsPart c (acts ++ more) xs
part_behind c acts more count given xs p = λ later.
    subst (λ l. made_count xs ≤ makes_of l c.start.rest) (append_assoc c.acts acts (more ++ later) ∙ ap (λ l. c.acts ++ l) (sym (append_assoc acts more later))) (p later)

-- whatever numbers the nodes get
pub same_makes_of : (xs ys : List Act) → map unnumbered_act xs ≡ map unnumbered_act ys → (ss : _) → makes_of xs ss ≡ makes_of ys ss
same_makes_of xs ys e ss = ap (λ l. makes (script_for (λ k. 0) (marks l ss) (first_reader 0))) e

pub blank_between : (before acts others later : List Act) → map unnumbered_act acts ≡ map unnumbered_act others → map unnumbered_act (before ++ (acts ++ later)) ≡ map unnumbered_act (before ++ (others ++ later))
blank_between before acts others later e = split acts ∙ ap (λ l. map unnumbered_act before ++ (l ++ map unnumbered_act later)) e ∙ sym (split others)
  where
    split : (xs : List Act) → map unnumbered_act (before ++ (xs ++ later)) ≡ map unnumbered_act before ++ (map unnumbered_act xs ++ map unnumbered_act later)
    split xs = map-append unnumbered_act before (xs ++ later) ∙ ap (λ l. map unnumbered_act before ++ l) (map-append unnumbered_act xs later)

pub part_as : (c : Course) (acts others : List Act) (xs : List Step) → map unnumbered_act acts ≡ map unnumbered_act others → IsPart c acts xs → IsPart c others xs
part_as c acts others xs e p = λ later.
    subst (λ k. made_count xs ≤ k) (same_makes_of (c.acts ++ (acts ++ later)) (c.acts ++ (others ++ later)) (blank_between c.acts acts others later e) c.start.rest) (p later)

-- an answer that is a refusal
pub on_err : {A E : Type 0} (r : Result A E) (P : Type 0) → P → OnErr r P
on_err (Ok a) P p = tt
on_err (Err e) P p = p

pub err_so : {A E : Type 0} (r : Result A E) (P Q : Type 0) → (P → Q) → OnErr r P → OnErr r Q
err_so (Ok a) P Q f p = tt
err_so (Err e) P Q f p = f p

-- nodes that are made where a run ends
made_append : (xs ys : List Step) → made_count (xs ++ ys) ≡ made_count xs + made_count ys
made_append xs ys = ap length (nodes_of-append Put xs ys) ∙ length-append (nodes_of Put xs) (nodes_of Put ys)

pub made_same : (xs ys : List Step) → MakesSame xs ys → made_count ys ≡ made_count xs
made_same xs ys e = ap length e

pub stopped_end : (r0 r1 : Reading) (n : NodeId) (run : TextRun) (xs : List Step) → r0.run ≡ Some run → run.kept ≡ None → r1 ≡ with_steps (put_step what.Run n ∷ []) r0 → xs ≡ r1.script →
    made_count xs ≤ made_when_ended r0
stopped_end r0 r1 n run xs own none e same =
    let count = ap made_count (same ∙ ap (λ (r : Reading). r.script) e) ∙ made_append r0.script (Text Put n ∷ []) in
    let ends : made_by r0.run ≡ 1 = ap made_by own ∙ ap made_at_end none in
    omega (arith, count, ends)

end_made : (text : NodeId) (run : Option TextRun) → made_count (end_steps text run ++ []) ≡ made_by run
end_made text None = refl
end_made text (Some run) = by run.kept
  where
    by : (kept : Option NodeId) → made_count (end_of text kept (run.more + 1) ++ []) ≡ made_at_end kept
    by None = refl
    by (Some n) = refl

pub stopped_ended : (old new : Slots) (r0 r1 : Reading) (xs : List Step) → RunEnds old new r0 [] r1 → xs ≡ r1.script → made_count xs ≤ made_when_ended r0
stopped_ended old new r0 r1 xs ends same =
    let count = ap made_count (same ∙ ap (λ (r : Reading). r.script) ends.reader) ∙ made_append r0.script (end_steps ends.text r0.run ++ []) in
    let own = end_made ends.text r0.run in
    omega (arith, count, own)

pub part_same : (c : Course) (slots : Slots) (r : Reading) (acts : List Act) (xs : List Step) → HasRead c slots r → MakesSame r.script xs → IsPart c acts xs
part_same c slots r acts xs h same = part_now c slots r acts xs h (let e = made_same r.script xs same in omega (arith, e))

-- what was to stay
pub opening_part : (c : Course) (slots : Slots) (r r0 : Reading) (n : NodeId) (k most : ℕ) (at : Cursor) (xs : List Step) → HasRead c slots r → IsPassed slots most c.spot (record { what = Opening n; count = k; at = at }) →
    r0 ≡ with_cursor at r → made_count xs ≤ made_when_ended r0 → IsPart c (replicate k Stay) xs
opening_part c slots r r0 n k most at xs h p e few =
    let f = p.first in
    subst (λ j. IsPart c (replicate j Stay) xs) (sym f.3)
    (part_ended c slots r (Stay ∷ []) 1 0 (Enter Keep n) xs h (keep_begin c n f.0 f.1 f.2 (items_fit c slots r h)) (subst (λ (q : Reading). made_count xs ≤ made_when_ended q) e few))

pub closing_part : (c : Course) (slots : Slots) (r r0 : Reading) (k most : ℕ) (at : Cursor) (xs : List Step) → HasRead c slots r → IsPassed slots most c.spot (record { what = Closing; count = k; at = at }) →
    r0 ≡ with_cursor at r → made_count xs ≤ made_when_ended r0 → IsPart c (replicate k Stay) xs
closing_part c slots r r0 k most at xs h p e few =
    let f = p.first in
    subst (λ j. IsPart c (replicate j Stay) xs) (sym f.3)
    (part_ended c slots r (Stay ∷ []) 1 0 (Leave Keep) xs h (keep_end c f.0 f.1 f.2 (items_fit c slots r h)) (subst (λ (q : Reading). made_count xs ≤ made_when_ended q) e few))

pub chars_part : (c : Course) (slots : Slots) (r r0 r1 : Reading) (k count : ℕ) (at : Cursor) (xs : List Step) → HasRead c slots r → r0 ≡ with_cursor at r → r1 ≡ grown count r0 → MakesSame r1.script xs →
    IsPart c (replicate k Stay) xs
chars_part c slots r r0 r1 k count at xs h e grows same =
    part_now c slots r (replicate k Stay) xs h
    (let one = made_same r1.script xs same in
    let two = ap (λ (q : Reading). made_count q.script) grows in
    let three = ap (λ (q : Reading). made_count q.script) e in
    omega (arith, one, two, three))

pub stays_part : (x : Act) (c : Course) (k most : ℕ) (xs : List Step) → k ≤ most → IsPart c (replicate k x) xs → IsPart c (replicate most x) xs
stays_part x c k most xs few p =
    let sum : k + (most - k) ≡ most = omega (arith, few) in
    subst (λ l. IsPart c l xs) (replicate-add x k (most - k) ∙ ap (λ m. replicate m x) sum) (part_more c (replicate k x) (replicate (most - k) x) xs p)

pub passing_part : (x : Act) (old now : Slots) (r0 r : Reading) (count left : ℕ) (xs : List Step) → Passing x old now r0 r count left →
    ((c : Course) → HasRead c now r → left ≤ items_in c.spot.rest → IsPart c (replicate left x) xs) → (c : Course) → HasRead c old r0 → count ≤ items_in c.spot.rest → IsPart c (replicate count x) xs
passing_part x old now r0 r count left xs p step c h enough =
    let few = p.few in
    let passed = past_few (count - left) c.spot in
    let sum : (count - left) + left ≡ count = omega (arith, few) in
    subst (λ l. IsPart c l xs) (replicate-add x (count - left) left ∙ ap (λ m. replicate m x) sum)
    (part_behind c (replicate (count - left) x) (replicate left x) (count - left) 0 xs
    (step (with_acts (replicate (count - left) x) (count - left) 0 c) (p.read c h enough) (omega (arith, passed, enough, few))))

-- what was to come
pub come_opening : (it : Item) (c : Course) (slots : Slots) (r : Reading) (kind : Kind) (xs : List Step) → come (it ∷ []) [] ≡ ComeBegin 0 kind ∷ [] → HasRead c slots r → made_count xs ≤ made_when_ended r →
    IsPart c (come (it ∷ []) []) xs
come_opening it c slots r kind xs e h few =
    subst (λ l. IsPart c l xs) (sym e)
    (part_ended c slots r (ComeBegin 0 kind ∷ []) 0 1 (Enter Put (id_of 0)) xs h (record { part = refl; script = λ supply later rd. refl; items = came_bracket c slots r h; count = refl }) few)

pub come_closing : (it : Item) (c : Course) (slots : Slots) (r : Reading) (kind : Kind) (xs : List Step) → come (it ∷ []) [] ≡ ComeEnd kind ∷ [] → HasRead c slots r → made_count xs ≤ made_when_ended r →
    IsPart c (come (it ∷ []) []) xs
come_closing it c slots r kind xs e h few =
    subst (λ l. IsPart c l xs) (sym e)
    (part_ended c slots r (ComeEnd kind ∷ []) 0 1 (Leave Put) xs h (record { part = refl; script = λ supply later rd. refl; items = came_bracket c slots r h; count = refl }) few)

pub coming_part : (old now : Slots) (r0 r : Reading) (items : List Item) (k : ℕ) (d : Item) (xs : List Step) → k < length items → Coming old now r0 r items k →
    ((c : Course) → HasRead c now r → IsPart c (come (get_or items k d ∷ []) []) xs) → (c : Course) → HasRead c old r0 → IsPart c (come items []) xs
coming_part old now r0 r items k d xs within p step c h =
    let came = p.came c h in
    let one = get_or items k d ∷ [] in
    let all : (take k items ++ one) ++ drop (k + 1) items ≡ items = ap (λ l. l ++ drop (k + 1) items) (sym (take_more items k d within)) ∙ take-append-drop (k + 1) items in
    subst (λ l. IsPart c l xs) (sym (come_none (take k items ++ one) (drop (k + 1) items)) ∙ ap (λ l. come l []) all)
    (part_more c (come (take k items ++ one) []) (come (drop (k + 1) items) []) xs
    (part_as c (come (take k items) came.numbers ++ come one []) (come (take k items ++ one) []) xs
    (map-append unnumbered_act (come (take k items) came.numbers) (come one []) ∙ ap (λ l. l ++ map unnumbered_act (come one [])) (come_blank (take k items) came.numbers)
    ∙ sym (map-append unnumbered_act (come (take k items) []) (come one [])) ∙ ap (map unnumbered_act) (sym (come_none (take k items) one)))
    (part_behind c (come (take k items) came.numbers) (come one []) 0 (length (take k items)) xs
    (step (with_acts (come (take k items) came.numbers) 0 (length (take k items)) c) came.read))))

-- what operations were to do
pub doing_part : (old now : Slots) (r0 r : Reading) (ops : List Op) (k : ℕ) (op d : Op) (xs : List Step) → k < length ops → op ≡ get_or ops k d → Doing old now r0 r ops k →
    ((c : Course) → HasRead c now r → old_size (op ∷ []) ≤ items_in c.spot.rest → IsPart c (acts_of (op ∷ []) []) xs) → (c : Course) → HasRead c old r0 → old_size ops ≤ items_in c.spot.rest →
    IsPart c (acts_of ops []) xs
doing_part old now r0 r ops k op d xs within is p step c h enough =
    let done = p.done c h enough in
    let mid = with_acts (acts_of (take k ops) done.numbers) (old_size (take k ops)) (come_size (take k ops)) c in
    let sizes = (sizes_more ops k d within).0 in
    let same = ap (λ (o : Op). old_size (o ∷ [])) is in
    let passed = past_few (old_size (take k ops)) c.spot in
    let one = op ∷ [] in
    let all : (take k ops ++ one) ++ drop (k + 1) ops ≡ ops =
    ap (λ l. l ++ drop (k + 1) ops) (ap (λ o. take k ops ++ o ∷ []) is ∙ sym (take_more ops k d within)) ∙ take-append-drop (k + 1) ops in
    subst (λ l. IsPart c l xs) (sym (ops_none (take k ops ++ one) (drop (k + 1) ops)) ∙ ap (λ l. acts_of l []) all)
    (part_more c (acts_of (take k ops ++ one) []) (acts_of (drop (k + 1) ops) []) xs
    (part_as c (acts_of (take k ops) done.numbers ++ acts_of one []) (acts_of (take k ops ++ one) []) xs
    (map-append unnumbered_act (acts_of (take k ops) done.numbers) (acts_of one []) ∙ ap (λ l. l ++ map unnumbered_act (acts_of one [])) (ops_blank (take k ops) done.numbers)
    ∙ sym (map-append unnumbered_act (acts_of (take k ops) []) (acts_of one [])) ∙ ap (map unnumbered_act) (sym (ops_none (take k ops) one)))
    (part_behind c (acts_of (take k ops) done.numbers) (acts_of one []) (old_size (take k ops)) (come_size (take k ops)) xs
    (step mid done.read (omega (arith, sizes, same, passed, enough))))))

-- some letters lead to the end of a text
text_ahead : (ss : List Sign) (os : List ℕ) → Proper ss → (k : ℕ) × IsRestOfText (spot_of os ss) k
text_ahead [] os p = (0, record { few = omega arith; whole = tt })
text_ahead (BeginOf n kind ∷ ss) os p = (0, record { few = omega arith; whole = tt })
text_ahead (EndOf kind ∷ ss) os p = (0, record { few = omega arith; whole = tt })
text_ahead (LettersOf n zero ∷ ss) os p = absurd p
text_ahead (LettersOf n (suc count) ∷ ss) os p =
    (suc count, record { few = omega arith; whole = subst (λ (s : Spot). NoLetters s.rest) (sym (past-text (suc count) n os ss (omega arith))) p.0 })

pub rest_ahead : (s : Spot) → Proper s.rest → (k : ℕ) × IsRestOfText s k
rest_ahead s p = text_ahead s.rest s.open_nodes p

-- a part of the operations, and then the rest of a text
pub part_out : (ops : List Op) (c : Course) (xs : List Step) → IsPart c (acts_of ops []) xs → IsPartOut ops c xs
part_out ops c xs p proper =
    let ahead = rest_ahead (past (old_size ops) c.spot) proper in
    let rest = ahead.1 in
    record {
      tail = ahead.0;
      few = rest.few;
      whole = rest.whole;
      part = subst (λ l. made_count xs ≤ makes_of l c.start.rest) (sym (append_assoc c.acts (acts_of ops []) (replicate ahead.0 Stay))) (p (replicate ahead.0 Stay));
    }

pub end_part : (c : Course) (slots : Slots) (r : Reading) (tail : ℕ) (xs : List Step) → HasRead (with_stays tail c) slots r → made_count xs ≤ made_when_ended r → IsRestOfText c.spot tail → IsPartOut [] c xs
end_part c slots r tail xs h few rest proper = record {
  tail = tail;
  few = rest.few;
  whole = rest.whole;
  part =
      subst (λ l. made_count xs ≤ makes_of l c.start.rest) (ap (λ l. l ++ replicate tail Stay) (sym (append-nil c.acts)))
      (end_makes (with_stays tail c) slots r xs h few);
}

pub ops_part : (ops : List Op) (c : Course) (slots : Slots) (r : Reading) (xs : List Step) → AreDone ops c slots r → ((d : Course) → HasRead d slots r → IsPartOut [] d xs) → IsPartOut ops c xs
ops_part ops c slots r xs done step proper =
    let e = step (with_acts (acts_of ops done.numbers) (old_size ops) (come_size ops) c) done.read proper in
    record {
      tail = e.tail;
      few = e.few;
      whole = e.whole;
      part =
          subst (λ k. made_count xs ≤ k)
          (ap (λ l. makes_of (l ++ replicate e.tail Stay) c.start.rest) (append-nil (c.acts ++ acts_of ops done.numbers))
          ∙ (λ i. makes_of (append_assoc c.acts (acts_of ops done.numbers) (replicate e.tail Stay) i) c.start.rest)
          ∙ same_makes_of (c.acts ++ (acts_of ops done.numbers ++ replicate e.tail Stay)) (c.acts ++ (acts_of ops [] ++ replicate e.tail Stay))
          (blank_between c.acts (acts_of ops done.numbers) (acts_of ops []) (replicate e.tail Stay) (ops_blank ops done.numbers)) c.start.rest
          ∙ (λ i. makes_of (sym (append_assoc c.acts (acts_of ops []) (replicate e.tail Stay)) i) c.start.rest)) e.part;
    }

pub front_part : (front : ℕ) (ops : List Op) (c : Course) (xs : List Step) → IsPart c (replicate front Stay) xs → IsPartOut ops (with_stays front c) xs
front_part front ops c xs p proper =
    let ahead = rest_ahead (past (old_size ops) (past front c.spot)) proper in
    let rest = ahead.1 in
    record {
      tail = ahead.0;
      few = rest.few;
      whole = rest.whole;
      part =
          subst (λ l. made_count xs ≤ makes_of l c.start.rest)
          (sym (append_assoc c.acts (replicate front Stay) (acts_of ops [] ++ replicate ahead.0 Stay)) ∙ sym (append_assoc (c.acts ++ replicate front Stay) (acts_of ops []) (replicate ahead.0 Stay)))
          (p (acts_of ops [] ++ replicate ahead.0 Stay));
    }
