-- Nodes that stay and nodes that go, as a reader reads them.
use Rattle.std.proofs.Common.{◌≡◌, ◌≤◌, ◌<◌, ◌+◌, ℕ, zero, suc, Bool, true, false, nat_eq, Option, Some, None, List, [], ◌∷◌, ◌++◌, replicate, option_map, refl, sym, ap, ◌∙◌, subst, arith, tests}
use Rattle.ve_kinds.specs.declared.kind.Kind.{Kind}
use Rattle.ve_arena.specs.declared.node.NodeId.{NodeId}
use Rattle.ve_tree.specs.Links.{number_of}
use Rattle.ve_tree.proofs.WalkLemmas.{Slots}
use Rattle.ve_repair.specs.declared.script.How.TheVariants.{Keep, Cut}
use Rattle.ve_repair.specs.declared.script.Step.{Step}
use Rattle.ve_repair.specs.declared.script.Step.TheVariants.{Enter, Leave, Text}
use Rattle.ve_repair.specs.declared.cursor.Cursor.{Cursor}
use Rattle.ve_repair.specs.declared.cursor.Ahead.{Ahead}
use Rattle.ve_repair.specs.declared.cursor.Ahead.TheVariants.{Opening, Chars, Closing}
use Rattle.ve_repair.specs.declared.cursor.Passed.{Passed}
use Rattle.ve_repair.specs.declared.read.TextRun.{TextRun}
use Rattle.ve_repair.specs.Agree.{step_of, steps_of}
use Rattle.ve_repair.specs.Spelled.{Sign, BeginOf, LettersOf, EndOf}
use Rattle.ve_repair.specs.Script.{InRun, is_seen, one_more, kept_run, keep_step, cut_step, script_for}
use Rattle.ve_repair.specs.Acts.{Act, Stay, Go, marks}
use Rattle.ve_repair.specs.Cursors.{Spot, spot_of, one_past, past, items_in, IsAt, IsPassed}
use Rattle.ve_repair.specs.Reader.{Reading, running_of, letters_in, with_cursor, with_steps, grown_run, grown, seen_in, first_seen, kept_in, kept_text, cut_steps, RunEnds}
use Rattle.ve_repair.specs.Courses.{ends_in, IsFresh, reader_of, Course, HasRead, with_stays, with_gone}
use Rattle.ve_repair.proofs.SupplyLemmas.{keep_letters, cut_some, cut_all}
use Rattle.ve_repair.proofs.CourseLemmas.{Bracket, bracket_on, Plain, plain_on, old_count-stay, old_count-go, stays_begun, gone_begun}
use Rattle.ve_repair.proofs.CursorsLemmas.{at_still}

-- the spot behind what comes first
rest_past : (s : Spot) (x : Sign) (ss : List Sign) → ((os : List ℕ) → (one_past os (x ∷ ss)).rest ≡ ss) → s.rest ≡ x ∷ ss → (past 1 s).rest ≡ ss
rest_past s x ss one e = ap (λ l. (one_past s.open_nodes l).rest) e ∙ one s.open_nodes

-- a bracket that stays
pub keep_begin : (c : Course) (n : NodeId) (kind : Kind) (ss : List Sign) → c.spot.rest ≡ BeginOf n.0 kind ∷ ss → items_in c.spot.rest ≤ c.bound → Bracket c (Stay ∷ []) 1 0 (Enter Keep n)
keep_begin c n kind ss e fits =
    let rest = rest_past c.spot (BeginOf n.0 kind) ss (λ os. refl) e in record {
      part = refl;
      script = λ supply later rd.
          ap (λ l. script_for supply (marks (Stay ∷ later) l) rd) e
          ∙ ap (λ l. script_for supply (marks (Stay ∷ later) (BeginOf n.0 kind ∷ l)) rd) (sym rest);
      items = let a = ap items_in e in let b = ap items_in rest in omega (arith, a, b, fits);
      count = refl;
    }

pub keep_end : (c : Course) (kind : Kind) (ss : List Sign) → c.spot.rest ≡ EndOf kind ∷ ss → items_in c.spot.rest ≤ c.bound → Bracket c (Stay ∷ []) 1 0 (Leave Keep)
keep_end c kind ss e fits =
    let rest = rest_past c.spot (EndOf kind) ss (λ os. refl) e in record {
      part = refl;
      script = λ supply later rd.
          ap (λ l. script_for supply (marks (Stay ∷ later) l) rd) e
          ∙ ap (λ l. script_for supply (marks (Stay ∷ later) (EndOf kind ∷ l)) rd) (sym rest);
      items = let a = ap items_in e in let b = ap items_in rest in omega (arith, a, b, fits);
      count = refl;
    }

pub items_fit : (c : Course) (slots : Slots) (r : Reading) → HasRead c slots r → items_in c.spot.rest ≤ c.bound
items_fit c slots r h = let f = h.fits in omega (arith, f)

pub kept_opening : (c : Course) (old new : Slots) (r r0 r1 : Reading) (n : NodeId) (k most : ℕ) (at : Cursor) → HasRead c old r → IsPassed old most c.spot (record { what = Opening n; count = k; at = at }) →
    r0 ≡ with_cursor at r → RunEnds old new r0 (Enter Keep n ∷ []) r1 → HasRead (with_stays k c) new r1
kept_opening c old new r r0 r1 n k most at h p e ends =
    let f = p.first in
    let one : 1 ≡ k = sym f.3 in
    subst (λ j. HasRead (with_stays j c) new r1) one
    (bracket_on c old new r r0 r1 (Stay ∷ []) 1 0 (Enter Keep n) h (ap (λ (q : Reading). q.seen) e) (ap (λ (q : Reading). q.run) e) (ap (λ (q : Reading). q.script) e) ends
    (subst (λ (a : Cursor). IsAt new a (past 1 c.spot)) (sym (ap (λ (q : Reading). q.at) e)) (at_still old new at (past 1 c.spot) ends.keeps (subst (λ j. IsAt old at (past j c.spot)) (sym one) p.at)))
    tt (keep_begin c n f.0 f.1 f.2 (items_fit c old r h)))

pub kept_closing : (c : Course) (old new : Slots) (r r0 r1 : Reading) (k most : ℕ) (at : Cursor) → HasRead c old r → IsPassed old most c.spot (record { what = Closing; count = k; at = at }) →
    r0 ≡ with_cursor at r → RunEnds old new r0 (Leave Keep ∷ []) r1 → HasRead (with_stays k c) new r1
kept_closing c old new r r0 r1 k most at h p e ends =
    let f = p.first in
    let one : 1 ≡ k = sym f.3 in
    subst (λ j. HasRead (with_stays j c) new r1) one
    (bracket_on c old new r r0 r1 (Stay ∷ []) 1 0 (Leave Keep) h (ap (λ (q : Reading). q.seen) e) (ap (λ (q : Reading). q.run) e) (ap (λ (q : Reading). q.script) e) ends
    (subst (λ (a : Cursor). IsAt new a (past 1 c.spot)) (sym (ap (λ (q : Reading). q.at) e)) (at_still old new at (past 1 c.spot) ends.keeps (subst (λ j. IsAt old at (past j c.spot)) (sym one) p.at)))
    tt (keep_end c f.0 f.1 f.2 (items_fit c old r h)))

-- letters behind which others are left
items_letters : (k d n : ℕ) (os : List ℕ) (ss : List Sign) → k ≤ d → items_in (past k (spot_of os (LettersOf n d ∷ ss))).rest + k ≡ d + items_in ss
items_letters zero d n os ss h = omega arith
items_letters (suc k) zero n os ss h = absurd (omega (arith, h))
items_letters (suc (suc k)) (suc zero) n os ss h = absurd (omega (arith, h))
items_letters (suc zero) (suc zero) n os ss h = omega arith
items_letters (suc k) (suc (suc d)) n os ss h = let e = items_letters k (suc d) n os ss (omega (arith, h)) in omega (arith, e)

spot_with : (s : Spot) (ss : List Sign) (k : ℕ) → s.rest ≡ ss → past k s ≡ past k (spot_of s.open_nodes ss)
spot_with s ss k e = ap (λ l. past k (spot_of s.open_nodes l)) e

-- the run with so many letters more, by the definition's first step
pub record Grown (run : Option TextRun) (j : ℕ) : Type 0 where
  pub more : ℕ
  pub one : one_more (running_of run) ≡ InRun more (option_map number_of (grown_run (suc j) run).kept) (grown_run (suc j) run).any
  pub sum : more + j ≡ (grown_run (suc j) run).more
  pub letters : (grown_run (suc j) run).more + 1 ≡ letters_in run + suc j

pub grown_by : (run : Option TextRun) (j : ℕ) → Grown run j
grown_by None j = record { more = 0; one = refl; sum = omega arith; letters = omega arith }
grown_by (Some run) j = record { more = suc run.more; one = refl; sum = omega arith; letters = omega arith }

-- Letters of a text stay.
kept_letters : (c : Course) (slots : Slots) (r : Reading) (at : Cursor) (n : NodeId) (j d : ℕ) (ss : List Sign) → HasRead c slots r → IsAt slots at (past (suc j) c.spot) →
    c.spot.rest ≡ LettersOf n.0 d ∷ ss → suc j ≤ d → HasRead (with_stays (suc j) c) slots (kept_text n (grown (suc j) (with_cursor at r)))
kept_letters c slots r at n j d ss h is_at e few = by (is_seen (option_map number_of r.seen) n.0) run1.any refl refl
  where
    run1 : TextRun
    run1 = grown_run (suc j) r.run

    g : Grown r.run j
    g = grown_by r.run j

    behind : Spot
    behind = past (suc j) c.spot

    fits : run1.more + 1 + items_in (past (suc j) c.spot).rest ≤ c.bound + 0
    fits =
        let a = ap items_in e in
        let b = ap (λ (s : Spot). items_in s.rest) (spot_with c.spot (LettersOf n.0 d ∷ ss) (suc j) e) in
        let l = items_letters (suc j) d n.0 c.spot.open_nodes ss few in
        let letters = g.letters in
        let f = h.fits in
        omega (arith, a, b, l, letters, f)

    -- the steps of the definition
    read : (supply : ℕ → ℕ) (later : List Act) (known any : Bool) (kept : Option ℕ) → is_seen (option_map number_of r.seen) n.0 ≡ known → run1.any ≡ any →
        kept_run known n.0 (InRun g.more (option_map number_of run1.kept) any) ≡ InRun g.more kept true →
        script_for supply (marks (replicate (suc j) Stay ++ later) c.spot.rest) (reader_of r)
        ≡ keep_step known n.0 (InRun g.more (option_map number_of run1.kept) any)
        (script_for supply (marks later (past (suc j) c.spot).rest) (record { seen = Some n.0; run = InRun run1.more kept true; made = ends_in (steps_of r.script) }))
    read supply later known any kept ek ea er =
        let one : one_more (running_of r.run) ≡ InRun g.more (option_map number_of run1.kept) any = g.one ∙ ap (InRun g.more (option_map number_of run1.kept)) ea in
        ap (λ l. script_for supply (marks (replicate (suc j) Stay ++ later) l) (reader_of r)) e
        ∙ keep_letters supply j d n.0 c.spot.open_nodes ss later (reader_of r) g.more kept ((λ i. kept_run (ek i) n.0 (one i)) ∙ er) few
        ∙ (λ i. keep_step (ek i) n.0 (one i) (script_for supply (marks later (sym (spot_with c.spot (LettersOf n.0 d ∷ ss) (suc j) e) i).rest)
        (record { seen = Some n.0; run = InRun (g.sum i) kept true; made = ends_in (steps_of r.script) })))

    by : (known any : Bool) → is_seen (option_map number_of r.seen) n.0 ≡ known → run1.any ≡ any →
        HasRead (with_stays (suc j) c) slots (kept_text n (grown (suc j) (with_cursor at r)))
    by true any ek ea = subst (HasRead (with_stays (suc j) c) slots) (ap (λ b. kept_in b n (Some run1) (grown (suc j) (with_cursor at r))) (sym ek))
        (plain_on c slots r (seen_in n run1 run1.kept [] (grown (suc j) (with_cursor at r))) (replicate (suc j) Stay) (suc j) 0 [] h is_at (stays_begun slots (suc j)) tt (record {
          script_is = refl;
          script = λ supply later. read supply later true any (option_map number_of run1.kept) ek ea refl;
          none = refl;
          fresh = refl;
          fits = fits;
          count = old_count-stay (suc j);
        }))
    by false true ek ea = subst (HasRead (with_stays (suc j) c) slots)
        (sym ((λ i. kept_in (ek i) n (Some run1) (grown (suc j) (with_cursor at r))) ∙ ap (λ b. first_seen b n run1 (grown (suc j) (with_cursor at r))) ea))
        (plain_on c slots r (seen_in n run1 run1.kept (Text Cut n ∷ []) (grown (suc j) (with_cursor at r))) (replicate (suc j) Stay) (suc j) 0 (Text Cut n ∷ []) h is_at
        (stays_begun slots (suc j)) (tt, tt) (record {
          script_is = refl;
          script = λ supply later. read supply later false true (option_map number_of run1.kept) ek ea refl;
          none = refl;
          fresh = refl;
          fits = fits;
          count = old_count-stay (suc j);
        }))
    by false false ek ea = subst (HasRead (with_stays (suc j) c) slots)
        (sym ((λ i. kept_in (ek i) n (Some run1) (grown (suc j) (with_cursor at r))) ∙ ap (λ b. first_seen b n run1 (grown (suc j) (with_cursor at r))) ea))
        (plain_on c slots r (seen_in n run1 (Some n) (Text Keep n ∷ []) (grown (suc j) (with_cursor at r))) (replicate (suc j) Stay) (suc j) 0 (Text Keep n ∷ []) h is_at
        (stays_begun slots (suc j)) (tt, tt) (record {
          script_is = refl;
          script = λ supply later. read supply later false false (Some n.0) ek ea refl;
          none = refl;
          fresh = refl;
          fits = fits;
          count = old_count-stay (suc j);
        }))

pub kept_chars : (c : Course) (slots : Slots) (r r0 r1 r2 : Reading) (n : NodeId) (ends : Bool) (k most : ℕ) (at : Cursor) → HasRead c slots r →
    IsPassed slots most c.spot (record { what = Chars n ends; count = k; at = at }) → r0 ≡ with_cursor at r → r1 ≡ grown k r0 → r2 ≡ kept_text n r1 → HasRead (with_stays k c) slots r2
kept_chars c slots r r0 r1 r2 n ends zero most at h p e0 e1 e2 = absurd (let some = p.some in omega (arith, some))
kept_chars c slots r r0 r1 r2 n ends (suc j) most at h p e0 e1 e2 =
    let f = p.first in
    subst (HasRead (with_stays (suc j) c) slots) (sym (e2 ∙ ap (kept_text n) (e1 ∙ ap (grown (suc j)) e0))) (kept_letters c slots r at n j f.0 f.1 h p.at f.2 f.3)

-- A bracket that goes
gone_plain : (c : Course) (r : Reading) (at : Cursor) (x : Step) (ss : List Sign) → letters_in r.run + items_in c.spot.rest ≤ c.bound → (past 1 c.spot).rest ≡ ss → items_in c.spot.rest ≡ suc (items_in ss) →
    ((supply : ℕ → ℕ) (later : List Act) → script_for supply (marks (Go ∷ later) c.spot.rest) (reader_of r) ≡ step_of x ∷ script_for supply (marks later ss) (reader_of r)) →
    ends_in (step_of x ∷ []) ≡ 0 → IsFresh (step_of x ∷ []) → Plain c r (Go ∷ []) 1 0 (x ∷ []) (with_steps (x ∷ []) (with_cursor at r))
gone_plain c r at x ss fits rest items script none fresh = record {
  script_is = refl;
  script = λ supply later. script supply later ∙ ap (λ l. step_of x ∷ script_for supply (marks later l) (reader_of r)) (sym rest);
  none = none;
  fresh = fresh;
  fits = let a = ap items_in rest in omega (arith, a, items, fits);
  count = refl;
}

pub gone_opening : (c : Course) (slots : Slots) (r r0 r1 : Reading) (n : NodeId) (k most : ℕ) (at : Cursor) → HasRead c slots r → IsPassed slots most c.spot (record { what = Opening n; count = k; at = at }) →
    r0 ≡ with_cursor at r → r1 ≡ with_steps (Enter Cut n ∷ []) r0 → HasRead (with_gone k c) slots r1
gone_opening c slots r r0 r1 n k most at h p e0 e1 =
    let f = p.first in
    let one : 1 ≡ k = sym f.3 in
    subst (λ j. HasRead (with_gone j c) slots r1) one
    (subst (HasRead (with_gone 1 c) slots) (sym (e1 ∙ ap (with_steps (Enter Cut n ∷ [])) e0))
    (plain_on c slots r (with_steps (Enter Cut n ∷ []) (with_cursor at r)) (Go ∷ []) 1 0 (Enter Cut n ∷ []) h (subst (λ j. IsAt slots at (past j c.spot)) (sym one) p.at) tt (tt, tt)
    (gone_plain c r at (Enter Cut n) f.1 h.fits (rest_past c.spot (BeginOf n.0 f.0) f.1 (λ os. refl) f.2) (ap items_in f.2)
    (λ supply later. ap (λ l. script_for supply (marks (Go ∷ later) l) (reader_of r)) f.2) refl refl)))

pub gone_closing : (c : Course) (slots : Slots) (r r0 r1 : Reading) (k most : ℕ) (at : Cursor) → HasRead c slots r → IsPassed slots most c.spot (record { what = Closing; count = k; at = at }) →
    r0 ≡ with_cursor at r → r1 ≡ with_steps (Leave Cut ∷ []) r0 → HasRead (with_gone k c) slots r1
gone_closing c slots r r0 r1 k most at h p e0 e1 =
    let f = p.first in
    let one : 1 ≡ k = sym f.3 in
    subst (λ j. HasRead (with_gone j c) slots r1) one
    (subst (HasRead (with_gone 1 c) slots) (sym (e1 ∙ ap (with_steps (Leave Cut ∷ [])) e0))
    (plain_on c slots r (with_steps (Leave Cut ∷ []) (with_cursor at r)) (Go ∷ []) 1 0 (Leave Cut ∷ []) h (subst (λ j. IsAt slots at (past j c.spot)) (sym one) p.at) tt (tt, tt)
    (gone_plain c r at (Leave Cut) f.1 h.fits (rest_past c.spot (EndOf f.0) f.1 (λ os. refl) f.2) (ap items_in f.2)
    (λ supply later. ap (λ l. script_for supply (marks (Go ∷ later) l) (reader_of r)) f.2) refl refl)))

-- Letters of a text go.
gone_letters : (c : Course) (slots : Slots) (r : Reading) (at : Cursor) (n : NodeId) (ends : Bool) (k d : ℕ) (ss : List Sign) → HasRead c slots r → IsAt slots at (past k c.spot) →
    c.spot.rest ≡ LettersOf n.0 d ∷ ss → 1 ≤ k → k ≤ d → ends ≡ nat_eq k d →
    HasRead (with_gone k c) slots (with_steps (cut_steps (is_seen (option_map number_of r.seen) n.0) ends n) (with_cursor at r))
gone_letters c slots r at n ends k d ss h is_at e some few ee = by ends (is_seen (option_map number_of r.seen) n.0) ee refl
  where
    fits : letters_in r.run + items_in (past k c.spot).rest ≤ c.bound + 0
    fits =
        let a = ap items_in e in
        let b = ap (λ (s : Spot). items_in s.rest) (spot_with c.spot (LettersOf n.0 d ∷ ss) k e) in
        let l = items_letters k d n.0 c.spot.open_nodes ss few in
        let f = h.fits in
        omega (arith, a, b, l, f)

    some_read : (supply : ℕ → ℕ) (later : List Act) → k < d →
        script_for supply (marks (replicate k Go ++ later) c.spot.rest) (reader_of r) ≡ script_for supply (marks later (past k c.spot).rest) (reader_of r)
    some_read supply later lt =
        ap (λ l. script_for supply (marks (replicate k Go ++ later) l) (reader_of r)) e
        ∙ cut_some supply k d n.0 c.spot.open_nodes ss later (reader_of r) lt
        ∙ ap (λ (s : Spot). script_for supply (marks later s.rest) (reader_of r)) (sym (spot_with c.spot (LettersOf n.0 d ∷ ss) k e))

    all_read : (supply : ℕ → ℕ) (later : List Act) (known : Bool) → is_seen (option_map number_of r.seen) n.0 ≡ known → k ≡ d →
        script_for supply (marks (replicate k Go ++ later) c.spot.rest) (reader_of r) ≡ cut_step known true n.0 (script_for supply (marks later (past k c.spot).rest) (reader_of r))
    all_read supply later known ek same =
        ap (λ l. script_for supply (marks (replicate k Go ++ later) l) (reader_of r)) e
        ∙ ap (λ m. script_for supply (marks (replicate k Go ++ later) (LettersOf n.0 m ∷ ss)) (reader_of r)) (sym same)
        ∙ cut_all supply k n.0 c.spot.open_nodes ss later (reader_of r) some
        ∙ (λ i. cut_step (ek i) true n.0 (script_for supply (marks later (past k (spot_of c.spot.open_nodes (LettersOf n.0 (same i) ∷ ss))).rest) (reader_of r)))
        ∙ ap (λ (s : Spot). cut_step known true n.0 (script_for supply (marks later s.rest) (reader_of r))) (sym (spot_with c.spot (LettersOf n.0 d ∷ ss) k e))

    same_script : (known : Bool) → is_seen (option_map number_of r.seen) n.0 ≡ known → ((supply : ℕ → ℕ) (later : List Act) →
        script_for supply (marks (replicate k Go ++ later) c.spot.rest) (reader_of r) ≡ script_for supply (marks later (past k c.spot).rest) (reader_of r)) →
        HasRead (with_gone k c) slots (with_steps [] (with_cursor at r))
    same_script known ek script = plain_on c slots r (with_steps [] (with_cursor at r)) (replicate k Go) k 0 [] h is_at (gone_begun slots k) tt (record {
      script_is = refl;
      script = script;
      none = refl;
      fresh = refl;
      fits = fits;
      count = old_count-go k;
    })

    by : (ends known : Bool) → ends ≡ nat_eq k d → is_seen (option_map number_of r.seen) n.0 ≡ known →
        HasRead (with_gone k c) slots (with_steps (cut_steps (is_seen (option_map number_of r.seen) n.0) ends n) (with_cursor at r))
    by false known ee ek = same_script known ek (λ supply later. some_read supply later (less k d few (sym ee)))
      where
        less : (a b : ℕ) → a ≤ b → nat_eq a b ≡ false → a < b
        less a b h f = grind (arith, tests)
    by true true ee ek = subst (λ b. HasRead (with_gone k c) slots (with_steps (cut_steps b true n) (with_cursor at r))) (sym ek)
        (same_script true ek (λ supply later. all_read supply later true ek (alike k d (sym ee))))
      where
        alike : (a b : ℕ) → nat_eq a b ≡ true → a ≡ b
        alike a b f = grind (arith, tests)
    by true false ee ek = subst (λ b. HasRead (with_gone k c) slots (with_steps (cut_steps b true n) (with_cursor at r))) (sym ek)
        (plain_on c slots r (with_steps (Text Cut n ∷ []) (with_cursor at r)) (replicate k Go) k 0 (Text Cut n ∷ []) h is_at (gone_begun slots k) (tt, tt) (record {
          script_is = refl;
          script = λ supply later. all_read supply later false ek (alike k d (sym ee));
          none = refl;
          fresh = refl;
          fits = fits;
          count = old_count-go k;
        }))
      where
        alike : (a b : ℕ) → nat_eq a b ≡ true → a ≡ b
        alike a b f = grind (arith, tests)

pub gone_chars : (c : Course) (slots : Slots) (r r0 r1 : Reading) (n : NodeId) (ends : Bool) (k most : ℕ) (at : Cursor) → HasRead c slots r →
    IsPassed slots most c.spot (record { what = Chars n ends; count = k; at = at }) → r0 ≡ with_cursor at r →
    r1 ≡ with_steps (cut_steps (is_seen (option_map number_of r0.seen) n.0) ends n) r0 → HasRead (with_gone k c) slots r1
gone_chars c slots r r0 r1 n ends k most at h p e0 e1 =
    let f = p.first in
    subst (HasRead (with_gone k c) slots) (sym (e1 ∙ ap (λ (q : Reading). with_steps (cut_steps (is_seen (option_map number_of q.seen) n.0) ends n) q) e0))
    (gone_letters c slots r at n ends k f.0 f.1 h p.at f.2 p.some f.3 f.4)

-- what was passed is this
pub as_what : (slots : Slots) (most : ℕ) (spot : Spot) (passed : Passed) (w : Ahead) → passed.what ≡ w → IsPassed slots most spot passed →
    IsPassed slots most spot (record { what = w; count = passed.count; at = passed.at })
as_what slots most spot passed w e p = subst (IsPassed slots most spot) (λ i. record { what = e i; count = passed.count; at = passed.at }) p
