-- One thing more is read: what a reader has read stays the beginning of the script.
use Rattle.std.proofs.Common.{◌≡◌, ◌≤◌, ◌+◌, ℕ, zero, suc, Option, Some, None, is_some, List, [], ◌∷◌, ◌++◌, replicate, option_map, refl, sym, ap, ◌∙◌, subst, arith, append_assoc}
use Rattle.std.proofs.lemmas.List.{map-append}
use Rattle.ve_arena.specs.declared.node.NodeId.{NodeId}
use Rattle.ve_arena.specs.declared.node.ArenaNode.{ArenaNode}
use Rattle.ve_arena.specs.Arena.{slot_at}
use Rattle.ve_tree.specs.Links.{number_of}
use Rattle.ve_tree.proofs.WalkLemmas.{Slots}
use Rattle.ve_repair.specs.declared.script.Step.{Step}
use Rattle.ve_repair.specs.declared.read.TextRun.{TextRun}
use Rattle.ve_repair.specs.Work as W
use Rattle.ve_repair.specs.Agree.{step_of, steps_of}
use Rattle.ve_repair.specs.Script.{ChangeReader, run_end, ended, script_for, first_reader}
use Rattle.ve_repair.specs.Acts.{Act, Stay, Go, ComeLetter, ComeBegin, ComeEnd, marks}
use Rattle.ve_repair.specs.Cursors.{Spot, one_past, past, items_in, IsAt}
use Rattle.ve_repair.specs.Reader.{Reading, running_of, letters_in, end_of, end_steps, Keeps, IsMadeText, IsEndText, RunEnds}
use Rattle.ve_repair.specs.Courses.{Part, Ends, Makes, Passes, part_of, ends_in, supply_of, IsFresh, reader_of, old_count, AreBegun, IsText, AreTexts, Course, HasRead, with_acts}
use Rattle.ve_repair.proofs.SupplyLemmas.{ends_in-append, fresh-append, end_is, end_fresh}

-- nodes that were there stay
kept_slot : (old new : Slots) (n : ℕ) (node : ArenaNode) → Keeps old new → slot_at old n ≡ Some node → slot_at new n ≡ Some node
kept_slot old new n node k h = k n (ap is_some h) ∙ h

pub begun_still : (old new : Slots) (acts : List Act) → Keeps old new → AreBegun old acts → AreBegun new acts
begun_still old new [] k h = tt
begun_still old new (Stay ∷ acts) k h = begun_still old new acts k h
begun_still old new (Go ∷ acts) k h = begun_still old new acts k h
begun_still old new (ComeLetter ∷ acts) k h = begun_still old new acts k h
begun_still old new (ComeBegin n kind ∷ acts) k h = (kept_slot old new n _ k h.0, begun_still old new acts k h.1)
begun_still old new (ComeEnd kind ∷ acts) k h = begun_still old new acts k h

pub begun_more : (slots : Slots) (xs ys : List Act) → AreBegun slots xs → AreBegun slots ys → AreBegun slots (xs ++ ys)
begun_more slots [] ys h k = k
begun_more slots (Stay ∷ xs) ys h k = begun_more slots xs ys h k
begun_more slots (Go ∷ xs) ys h k = begun_more slots xs ys h k
begun_more slots (ComeLetter ∷ xs) ys h k = begun_more slots xs ys h k
begun_more slots (ComeBegin n kind ∷ xs) ys h k = (h.0, begun_more slots xs ys h.1 k)
begun_more slots (ComeEnd kind ∷ xs) ys h k = begun_more slots xs ys h k

text_still : (old new : Slots) (p : Part) → Keeps old new → IsText old p → IsText new p
text_still old new Ends k h = tt
text_still old new (Makes n) k h = kept_slot old new n _ k h
text_still old new Passes k h = tt

pub texts_still : (old new : Slots) (ss : List W.Step) → Keeps old new → AreTexts old ss → AreTexts new ss
texts_still old new [] k h = tt
texts_still old new (s ∷ ss) k h = (text_still old new (part_of s) k h.0, texts_still old new ss k h.1)

pub texts_more : (slots : Slots) (xs ys : List W.Step) → AreTexts slots xs → AreTexts slots ys → AreTexts slots (xs ++ ys)
texts_more slots [] ys h k = k
texts_more slots (x ∷ xs) ys h k = (h.0, texts_more slots xs ys h.1 k)

pub old_count-append : (xs ys : List Act) → old_count (xs ++ ys) ≡ old_count xs + old_count ys
old_count-append [] ys = omega arith
old_count-append (Stay ∷ xs) ys = let e = old_count-append xs ys in omega (arith, e)
old_count-append (Go ∷ xs) ys = let e = old_count-append xs ys in omega (arith, e)
old_count-append (ComeLetter ∷ xs) ys = old_count-append xs ys
old_count-append (ComeBegin n kind ∷ xs) ys = old_count-append xs ys
old_count-append (ComeEnd kind ∷ xs) ys = old_count-append xs ys

pub old_count-stay : (k : ℕ) → old_count (replicate k Stay) ≡ k
old_count-stay zero = refl
old_count-stay (suc k) = ap suc (old_count-stay k)

pub old_count-go : (k : ℕ) → old_count (replicate k Go) ≡ k
old_count-go zero = refl
old_count-go (suc k) = ap suc (old_count-go k)

pub past-add : (j k : ℕ) (s : Spot) → past (j + k) s ≡ past k (past j s)
past-add zero k s = let e : 0 + k ≡ k = omega arith in ap (λ m. past m s) e
past-add (suc j) k s = let e : suc j + k ≡ suc (j + k) = omega arith in ap (λ m. past m s) e ∙ past-add j k (one_past s.open_nodes s.rest)

-- what one thing more asks for: acts of so many items, and steps
pub record Next (c : Course) (old new : Slots) (r : Reading) (acts : List Act) (k more : ℕ) (xs : List Step) (r1 : Reading) : Type 0 where
  pub script_is : r1.script ≡ r.script ++ xs
  pub at : IsAt new r1.at (past k c.spot)
  pub script : (steps : List W.Step) (later : List Act) →
      script_for (supply_of (steps_of r.script ++ (steps_of xs ++ steps))) (marks (acts ++ later) c.spot.rest) (reader_of r)
      ≡ steps_of xs ++ script_for (supply_of (steps_of r.script ++ (steps_of xs ++ steps))) (marks later (past k c.spot).rest) (reader_of r1)
  pub fresh : IsFresh (steps_of xs)
  pub fits : letters_in r1.run + items_in (past k c.spot).rest ≤ c.bound + more
  pub count : old_count acts ≡ k
  pub keeps : Keeps old new
  pub begun : AreBegun new acts
  pub texts : AreTexts new (steps_of xs)

pub read_on : (c : Course) (old new : Slots) (r : Reading) (acts : List Act) (k more : ℕ) (xs : List Step) (r1 : Reading) → HasRead c old r → Next c old new r acts k more xs r1 →
    HasRead (with_acts acts k more c) new r1
read_on c old new r acts k more xs r1 h n = record {
  at = n.at;
  script = λ steps later.
      let whole = joined steps in
      (λ i. script_for (supply_of (whole i)) (marks (append_assoc c.acts acts later i) c.start.rest) (first_reader 0))
      ∙ h.script (steps_of xs ++ steps) (acts ++ later)
      ∙ ap (λ l. steps_of r.script ++ l) (n.script steps later)
      ∙ sym (append_assoc (steps_of r.script) (steps_of xs) (script_for (supply_of (steps_of r.script ++ (steps_of xs ++ steps))) (marks later (past k c.spot).rest) (reader_of r1)))
      ∙ (λ i. sym steps_is i ++ script_for (supply_of (sym whole i)) (marks later (past k c.spot).rest) (reader_of r1));
  fresh = subst IsFresh (sym steps_is) (fresh-append (steps_of r.script) (steps_of xs) h.fresh n.fresh);
  fits = n.fits;
  spot_is = ap (past k) h.spot_is ∙ sym (past-add (old_count c.acts) k c.start) ∙ ap (λ m. past m c.start) (sym counts);
  begun = begun_more new c.acts acts (begun_still old new c.acts n.keeps h.begun) n.begun;
  texts = subst (AreTexts new) (sym steps_is) (texts_more new (steps_of r.script) (steps_of xs) (texts_still old new (steps_of r.script) n.keeps h.texts) n.texts);
}
  where
    steps_is : steps_of r1.script ≡ steps_of r.script ++ steps_of xs
    steps_is = ap steps_of n.script_is ∙ map-append step_of r.script xs

    joined : (steps : List W.Step) → steps_of r1.script ++ steps ≡ steps_of r.script ++ (steps_of xs ++ steps)
    joined steps = ap (λ l. l ++ steps) steps_is ∙ append_assoc (steps_of r.script) (steps_of xs) steps

    counts : old_count (c.acts ++ acts) ≡ old_count c.acts + k
    counts = old_count-append c.acts acts ∙ ap (λ m. old_count c.acts + m) n.count

-- A bracket of the new list: a run ends at it.
pub record Bracket (c : Course) (acts : List Act) (k more : ℕ) (x : Step) : Type 0 where
  pub part : part_of (step_of x) ≡ Ends
  pub script : (supply : ℕ → ℕ) (later : List Act) (rd : ChangeReader) →
      script_for supply (marks (acts ++ later) c.spot.rest) rd ≡ run_end supply rd.run rd.made (step_of x ∷ script_for supply (marks later (past k c.spot).rest) (ended rd))
  pub items : items_in (past k c.spot).rest ≤ c.bound + more
  pub count : old_count acts ≡ k

end_texts : (slots : Slots) (text : NodeId) (run : Option TextRun) (x : Step) → part_of (step_of x) ≡ Ends → IsEndText slots text run → AreTexts slots (steps_of (end_steps text run ++ x ∷ []))
end_texts slots text None x e h = (subst (IsText slots) (sym e) tt, tt)
end_texts slots text (Some run) x e h = by run.kept h
  where
    by : (kept : Option NodeId) → IsMadeText slots text kept → AreTexts slots (steps_of (end_of text kept (run.more + 1) ++ x ∷ []))
    by None h = (h, (tt, (subst (IsText slots) (sym e) tt, tt)))
    by (Some n) h = (tt, (subst (IsText slots) (sym e) tt, tt))

pub bracket_on : (c : Course) (old new : Slots) (r r0 r1 : Reading) (acts : List Act) (k more : ℕ) (x : Step) → HasRead c old r → r0.seen ≡ r.seen → r0.run ≡ r.run → r0.script ≡ r.script →
    RunEnds old new r0 (x ∷ []) r1 → IsAt new r0.at (past k c.spot) → AreBegun new acts → Bracket c acts k more x → HasRead (with_acts acts k more c) new r1
bracket_on c old new r r0 r1 acts k more x h seen run script e at begun b = read_on c old new r acts k more (end_steps e.text r.run ++ x ∷ []) r1 h (record {
  script_is = ap (λ (q : Reading). q.script) e.reader ∙ (λ i. script i ++ (end_steps e.text (run i) ++ x ∷ []));
  at = subst (λ a. IsAt new a (past k c.spot)) (sym (ap (λ (q : Reading). q.at) e.reader)) at;
  script = λ steps later.
      b.script (supply_of (steps_of r.script ++ (steps_of (end_steps e.text r.run ++ x ∷ []) ++ steps))) later (reader_of r)
      ∙ end_is (steps_of r.script) e.text r.run (x ∷ []) steps _ h.fresh
      ∙ split (script_for (supply_of (steps_of r.script ++ (steps_of (end_steps e.text r.run ++ x ∷ []) ++ steps))) (marks later (past k c.spot).rest) (ended (reader_of r)))
      ∙ ap (λ rd. steps_of (end_steps e.text r.run ++ x ∷ []) ++ script_for (supply_of (steps_of r.script ++ (steps_of (end_steps e.text r.run ++ x ∷ []) ++ steps))) (marks later (past k c.spot).rest) rd) reader_is;
  fresh = (end_fresh e.text r.run x b.part).0;
  fits = subst (λ o. letters_in o + items_in (past k c.spot).rest ≤ c.bound + more) (sym (ap (λ (q : Reading). q.run) e.reader)) (let i = b.items in omega (arith, i));
  count = b.count;
  keeps = e.keeps;
  begun = begun;
  texts = end_texts new e.text r.run x b.part (subst (IsEndText new e.text) run e.made);
})
  where
    steps_now : steps_of r1.script ≡ steps_of r.script ++ steps_of (end_steps e.text r.run ++ x ∷ [])
    steps_now = ap steps_of (ap (λ (q : Reading). q.script) e.reader ∙ (λ i. script i ++ (end_steps e.text (run i) ++ x ∷ []))) ∙ map-append step_of r.script (end_steps e.text r.run ++ x ∷ [])

    made_is : suc (ends_in (steps_of r.script)) ≡ ends_in (steps_of r1.script)
    made_is =
        let one = (end_fresh e.text r.run x b.part).1 in
        let sum = ap ends_in steps_now ∙ ends_in-append (steps_of r.script) (steps_of (end_steps e.text r.run ++ x ∷ [])) in
        omega (arith, one, sum)

    reader_is : ended (reader_of r) ≡ reader_of r1
    reader_is = λ i. record {
      seen = option_map number_of (sym (ap (λ (q : Reading). q.seen) e.reader ∙ seen) i);
      run = running_of (sym (ap (λ (q : Reading). q.run) e.reader) i);
      made = made_is i;
    }

    split : (ss : List W.Step) → steps_of (end_steps e.text r.run) ++ step_of x ∷ ss ≡ steps_of (end_steps e.text r.run ++ x ∷ []) ++ ss
    split ss = sym (append_assoc (steps_of (end_steps e.text r.run)) (step_of x ∷ []) ss) ∙ ap (λ l. l ++ ss) (sym (map-append step_of (end_steps e.text r.run) (x ∷ [])))

-- Steps that end no run and make no text, in an arena that stays.
pub record Plain (c : Course) (r : Reading) (acts : List Act) (k more : ℕ) (xs : List Step) (r1 : Reading) : Type 0 where
  pub script_is : r1.script ≡ r.script ++ xs
  pub script : (supply : ℕ → ℕ) (later : List Act) →
      script_for supply (marks (acts ++ later) c.spot.rest) (reader_of r)
      ≡ steps_of xs ++ script_for supply (marks later (past k c.spot).rest) (record { seen = option_map number_of r1.seen; run = running_of r1.run; made = ends_in (steps_of r.script) })
  pub none : ends_in (steps_of xs) ≡ 0
  pub fresh : IsFresh (steps_of xs)
  pub fits : letters_in r1.run + items_in (past k c.spot).rest ≤ c.bound + more
  pub count : old_count acts ≡ k

pub plain_on : (c : Course) (slots : Slots) (r r1 : Reading) (acts : List Act) (k more : ℕ) (xs : List Step) → HasRead c slots r → IsAt slots r1.at (past k c.spot) → AreBegun slots acts →
    AreTexts slots (steps_of xs) → Plain c r acts k more xs r1 → HasRead (with_acts acts k more c) slots r1
plain_on c slots r r1 acts k more xs h at begun texts p = read_on c slots slots r acts k more xs r1 h (record {
  script_is = p.script_is;
  at = at;
  script = λ steps later.
      p.script (supply_of (steps_of r.script ++ (steps_of xs ++ steps))) later
      ∙ ap (λ m. steps_of xs ++ script_for (supply_of (steps_of r.script ++ (steps_of xs ++ steps))) (marks later (past k c.spot).rest)
      (record { seen = option_map number_of r1.seen; run = running_of r1.run; made = m })) made_is;
  fresh = p.fresh;
  fits = p.fits;
  count = p.count;
  keeps = λ q live. refl;
  begun = begun;
  texts = texts;
})
  where
    made_is : ends_in (steps_of r.script) ≡ ends_in (steps_of r1.script)
    made_is =
        let none = p.none in
        let sum = ap ends_in (ap steps_of p.script_is ∙ map-append step_of r.script xs) ∙ ends_in-append (steps_of r.script) (steps_of xs) in
        omega (arith, none, sum)

-- items that stay or go make nothing
pub stays_begun : (slots : Slots) (k : ℕ) → AreBegun slots (replicate k Stay)
stays_begun slots zero = tt
stays_begun slots (suc k) = stays_begun slots k

pub gone_begun : (slots : Slots) (k : ℕ) → AreBegun slots (replicate k Go)
gone_begun slots zero = tt
gone_begun slots (suc k) = gone_begun slots k
