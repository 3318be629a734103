-- How many nodes a script makes does not go by their numbers, so they may be taken to be new ones.
use Rattle.std.proofs.Common.{◌≡◌, ◌≤◌, ℕ, zero, suc, ◌+◌, Bool, true, false, Option, Some, None, option_map, List, [], ◌∷◌, ◌++◌, length, replicate, refl, sym, ap, ◌∙◌, subst, arith}
use Rattle.model_items.specs.declared.plain_item.PlainItem.{PlainItem}
use Rattle.model_items.specs.Tree.{Shape, Letter, Begin, End}
use Rattle.ve_tree.specs.Links.{Apart, AllApart}
use Rattle.ve_tree.specs.Named.{Named}
use Rattle.ve_repair.specs.Work.{Keep, Put, Step, Enter, Leave}
use Rattle.ve_repair.specs.Tokens.{puts}
use Rattle.ve_repair.specs.Spelled.{Sign, BeginOf, LettersOf, EndOf, AllFrom, sign_shapes}
use Rattle.ve_repair.specs.Script.{Mark, KeptLetter, CutLetter, NewLetter, KeptBegin, CutBegin, NewBegin, KeptEnd, CutEnd, NewEnd, Running, NoRun, InRun, ChangeReader, is_seen, one_more, run_end, ended, keep_step, kept_reader, cut_step, script_for, first_reader}
use Rattle.ve_repair.specs.Acts.{Act, Stay, Go, ComeLetter, ComeBegin, ComeEnd, marks, Use, new_piece}
use Rattle.ve_repair.specs.Changed.{IsChangeOf}
use Rattle.ve_repair.specs.Sizes.{place_after}
use Rattle.ve_repair.specs.Moved.{act_place, Moves}

-- openings that come are numbered anew, by any numbers
abbrev pub renumbered : (ℕ → ℕ) → ℕ → List Act → List Act
renumbered f k [] = []
renumbered f k (Stay ∷ acts) = Stay ∷ renumbered f k acts
renumbered f k (Go ∷ acts) = Go ∷ renumbered f k acts
renumbered f k (ComeLetter ∷ acts) = ComeLetter ∷ renumbered f k acts
renumbered f k (ComeBegin n kind ∷ acts) = ComeBegin (f k) kind ∷ renumbered f (suc k) acts
renumbered f k (ComeEnd kind ∷ acts) = ComeEnd kind ∷ renumbered f k acts

abbrev remarked : (ℕ → ℕ) → ℕ → List Mark → List Mark
remarked f k [] = []
remarked f k (KeptLetter t ends ∷ ms) = KeptLetter t ends ∷ remarked f k ms
remarked f k (CutLetter t ends ∷ ms) = CutLetter t ends ∷ remarked f k ms
remarked f k (NewLetter ∷ ms) = NewLetter ∷ remarked f k ms
remarked f k (KeptBegin n kind ∷ ms) = KeptBegin n kind ∷ remarked f k ms
remarked f k (CutBegin n ∷ ms) = CutBegin n ∷ remarked f k ms
remarked f k (NewBegin n kind ∷ ms) = NewBegin (f k) kind ∷ remarked f (suc k) ms
remarked f k (KeptEnd kind ∷ ms) = KeptEnd kind ∷ remarked f k ms
remarked f k (CutEnd ∷ ms) = CutEnd ∷ remarked f k ms
remarked f k (NewEnd kind ∷ ms) = NewEnd kind ∷ remarked f k ms

same_marks : (f : ℕ → ℕ) (k : ℕ) (acts : List Act) (ss : List Sign) → marks (renumbered f k acts) ss ≡ remarked f k (marks acts ss)
same_marks f k [] ss = refl
same_marks f k (ComeLetter ∷ acts) ss = ap (λ l. NewLetter ∷ l) (same_marks f k acts ss)
same_marks f k (ComeBegin n kind ∷ acts) ss = ap (λ l. NewBegin (f k) kind ∷ l) (same_marks f (suc k) acts ss)
same_marks f k (ComeEnd kind ∷ acts) ss = ap (λ l. NewEnd kind ∷ l) (same_marks f k acts ss)
same_marks f k (Stay ∷ acts) [] = same_marks f k acts []
same_marks f k (Stay ∷ acts) (BeginOf n kind ∷ ss) = ap (λ l. KeptBegin n kind ∷ l) (same_marks f k acts ss)
same_marks f k (Stay ∷ acts) (EndOf kind ∷ ss) = ap (λ l. KeptEnd kind ∷ l) (same_marks f k acts ss)
same_marks f k (Stay ∷ acts) (LettersOf n zero ∷ ss) = same_marks f k acts ss
same_marks f k (Stay ∷ acts) (LettersOf n (suc zero) ∷ ss) = ap (λ l. KeptLetter n true ∷ l) (same_marks f k acts ss)
same_marks f k (Stay ∷ acts) (LettersOf n (suc (suc count)) ∷ ss) = ap (λ l. KeptLetter n false ∷ l) (same_marks f k acts (LettersOf n (suc count) ∷ ss))
same_marks f k (Go ∷ acts) [] = same_marks f k acts []
same_marks f k (Go ∷ acts) (BeginOf n kind ∷ ss) = ap (λ l. CutBegin n ∷ l) (same_marks f k acts ss)
same_marks f k (Go ∷ acts) (EndOf kind ∷ ss) = ap (λ l. CutEnd ∷ l) (same_marks f k acts ss)
same_marks f k (Go ∷ acts) (LettersOf n zero ∷ ss) = same_marks f k acts ss
same_marks f k (Go ∷ acts) (LettersOf n (suc zero) ∷ ss) = ap (λ l. CutLetter n true ∷ l) (same_marks f k acts ss)
same_marks f k (Go ∷ acts) (LettersOf n (suc (suc count)) ∷ ss) = ap (λ l. CutLetter n false ∷ l) (same_marks f k acts (LettersOf n (suc count) ∷ ss))

same_use : (f : ℕ → ℕ) (k : ℕ) (acts : List Act) (ss : List Sign) → Use acts ss → Use (renumbered f k acts) ss
same_use f k [] [] u = tt
same_use f k [] (s ∷ ss) u = u
same_use f k (ComeLetter ∷ acts) ss u = same_use f k acts ss u
same_use f k (ComeBegin n kind ∷ acts) ss u = same_use f (suc k) acts ss u
same_use f k (ComeEnd kind ∷ acts) ss u = same_use f k acts ss u
same_use f k (Stay ∷ acts) [] u = u
same_use f k (Stay ∷ acts) (BeginOf n kind ∷ ss) u = same_use f k acts ss u
same_use f k (Stay ∷ acts) (EndOf kind ∷ ss) u = same_use f k acts ss u
same_use f k (Stay ∷ acts) (LettersOf n zero ∷ ss) u = u
same_use f k (Stay ∷ acts) (LettersOf n (suc zero) ∷ ss) u = same_use f k acts ss u
same_use f k (Stay ∷ acts) (LettersOf n (suc (suc count)) ∷ ss) u = same_use f k acts (LettersOf n (suc count) ∷ ss) u
same_use f k (Go ∷ acts) [] u = u
same_use f k (Go ∷ acts) (BeginOf n kind ∷ ss) u = same_use f k acts ss u
same_use f k (Go ∷ acts) (EndOf kind ∷ ss) u = same_use f k acts ss u
same_use f k (Go ∷ acts) (LettersOf n zero ∷ ss) u = u
same_use f k (Go ∷ acts) (LettersOf n (suc zero) ∷ ss) u = same_use f k acts ss u
same_use f k (Go ∷ acts) (LettersOf n (suc (suc count)) ∷ ss) u = same_use f k acts (LettersOf n (suc count) ∷ ss) u

same_piece : (f : ℕ → ℕ) (k : ℕ) (acts : List Act) (xs : List Shape) → new_piece (renumbered f k acts) xs ≡ new_piece acts xs
same_piece f k [] xs = refl
same_piece f k (ComeLetter ∷ acts) xs = ap (λ l. Letter ∷ l) (same_piece f k acts xs)
same_piece f k (ComeBegin n kind ∷ acts) xs = ap (λ l. Begin kind ∷ l) (same_piece f (suc k) acts xs)
same_piece f k (ComeEnd kind ∷ acts) xs = ap (λ l. End kind ∷ l) (same_piece f k acts xs)
same_piece f k (Stay ∷ acts) [] = same_piece f k acts []
same_piece f k (Stay ∷ acts) (x ∷ xs) = ap (λ l. x ∷ l) (same_piece f k acts xs)
same_piece f k (Go ∷ acts) [] = same_piece f k acts []
same_piece f k (Go ∷ acts) (x ∷ xs) = same_piece f k acts xs

same_place : (f : ℕ → ℕ) (k : ℕ) (acts more : List Act) (p : ℕ) → act_place (renumbered f k acts ++ more) p ≡ act_place (acts ++ more) p
same_place f k [] more p = refl
same_place f k (ComeLetter ∷ acts) more p = ap (option_map suc) (same_place f k acts more p)
same_place f k (ComeBegin n kind ∷ acts) more p = ap (option_map suc) (same_place f (suc k) acts more p)
same_place f k (ComeEnd kind ∷ acts) more p = ap (option_map suc) (same_place f k acts more p)
same_place f k (Stay ∷ acts) more zero = refl
same_place f k (Stay ∷ acts) more (suc p) = ap (option_map suc) (same_place f k acts more p)
same_place f k (Go ∷ acts) more zero = refl
same_place f k (Go ∷ acts) more (suc p) = same_place f k acts more p

-- the change is one still
pub same_change : (f : ℕ → ℕ) (old : Named) (lefts ss rights : List Sign) (acts : List Act) (others : List PlainItem) →
    IsChangeOf old lefts ss rights acts others →
    IsChangeOf old lefts ss rights (renumbered f 0 acts) others
same_change f old lefts ss rights acts others c = record {
  signs = c.signs;
  proper = c.proper;
  left_whole = c.left_whole;
  right_whole = c.right_whole;
  uses = same_use f 0 acts ss c.uses;
  texts = c.texts;
  lawful = c.lawful;
  shapes = ap (λ l. sign_shapes lefts ++ (l ++ sign_shapes rights)) (same_piece f 0 acts (sign_shapes ss)) ∙ c.shapes;
}

-- as many nodes are made
count_end : (supply other : ℕ → ℕ) (run : Running) (made : ℕ) (xs ys : List Step) → length (puts xs) ≡ length (puts ys) →
    length (puts (run_end supply run made xs)) ≡ length (puts (run_end other run made ys))
count_end supply other NoRun made xs ys e = e
count_end supply other (InRun more (Some n) any) made xs ys e = e
count_end supply other (InRun more None any) made xs ys e = ap suc e

count_keep : (known : Bool) (t : ℕ) (run : Running) (xs : List Step) → puts (keep_step known t run xs) ≡ puts xs
count_keep true t run xs = refl
count_keep false t NoRun xs = refl
count_keep false t (InRun more kept true) xs = refl
count_keep false t (InRun more kept false) xs = refl

count_cut : (known ends : Bool) (t : ℕ) (xs : List Step) → puts (cut_step known ends t xs) ≡ puts xs
count_cut known false t xs = refl
count_cut true true t xs = refl
count_cut false true t xs = refl

same_count : (supply other f : ℕ → ℕ) (k : ℕ) (ms : List Mark) (r : ChangeReader) →
    length (puts (script_for supply ms r)) ≡ length (puts (script_for other (remarked f k ms) r))
same_count supply other f k [] r = count_end supply other r.run r.made [] [] refl
same_count supply other f k (KeptLetter t ends ∷ ms) r =
    ap length (count_keep (is_seen r.seen t) t (one_more r.run) (script_for supply ms (kept_reader t r))) ∙ same_count supply other f k ms (kept_reader t r)
    ∙ ap length (sym (count_keep (is_seen r.seen t) t (one_more r.run) (script_for other (remarked f k ms) (kept_reader t r))))
same_count supply other f k (CutLetter t ends ∷ ms) r =
    ap length (count_cut (is_seen r.seen t) ends t (script_for supply ms r)) ∙ same_count supply other f k ms r
    ∙ ap length (sym (count_cut (is_seen r.seen t) ends t (script_for other (remarked f k ms) r)))
same_count supply other f k (NewLetter ∷ ms) r = same_count supply other f k ms (record r { run = one_more r.run })
same_count supply other f k (KeptBegin n kind ∷ ms) r =
    count_end supply other r.run r.made (Enter Keep n ∷ script_for supply ms (ended r)) (Enter Keep n ∷ script_for other (remarked f k ms) (ended r)) (same_count supply other f k ms (ended r))
same_count supply other f k (CutBegin n ∷ ms) r = same_count supply other f k ms r
same_count supply other f k (NewBegin n kind ∷ ms) r =
    count_end supply other r.run r.made (Enter Put n ∷ script_for supply ms (ended r)) (Enter Put (f k) ∷ script_for other (remarked f (suc k) ms) (ended r)) (ap suc (same_count supply other f (suc k) ms (ended r)))
same_count supply other f k (KeptEnd kind ∷ ms) r =
    count_end supply other r.run r.made (Leave Keep ∷ script_for supply ms (ended r)) (Leave Keep ∷ script_for other (remarked f k ms) (ended r)) (same_count supply other f k ms (ended r))
same_count supply other f k (CutEnd ∷ ms) r = same_count supply other f k ms r
same_count supply other f k (NewEnd kind ∷ ms) r =
    count_end supply other r.run r.made (Leave Put ∷ script_for supply ms (ended r)) (Leave Put ∷ script_for other (remarked f k ms) (ended r)) (same_count supply other f k ms (ended r))

-- openings have these numbers, and texts those between them, from a number on
abbrev pub even_from : ℕ → ℕ → ℕ
even_from b i = b + (i + i)

abbrev pub odd_from : ℕ → ℕ → ℕ
odd_from b i = b + suc (i + i)

-- the number is of an opening from the k-th on, or of a text from the j-th on
data Later (b k j x : ℕ) : Type 0 where
  Opens : (i : ℕ) → k ≤ i → x ≡ even_from b i → Later b k j x
  Writes : (i : ℕ) → j ≤ i → x ≡ odd_from b i → Later b k j x

abbrev AllLater : ℕ → ℕ → ℕ → List ℕ → Type 0
AllLater b k j [] = Unit {0}
AllLater b k j (n ∷ ns) = Later b k j n × AllLater b k j ns

later_less : (b k j k' j' : ℕ) (ns : List ℕ) → k' ≤ k → j' ≤ j → AllLater b k j ns → AllLater b k' j' ns
later_less b k j k' j' [] lk lj h = tt
later_less b k j k' j' (n ∷ ns) lk lj h = (one h.0, later_less b k j k' j' ns lk lj h.1)
  where
    one : Later b k j n → Later b k' j' n
    one (Opens i l e) = Opens i (omega (arith, l, lk)) e
    one (Writes i l e) = Writes i (omega (arith, l, lj)) e

opening_before : (b k j x : ℕ) (ns : List ℕ) → x ≡ even_from b k → AllLater b (suc k) j ns → Apart x ns
opening_before b k j x [] e h = tt
opening_before b k j x (n ∷ ns) e h = (λ same. one h.0 same, opening_before b k j x ns e h.1)
  where
    one : Later b (suc k) j n → x ≡ n → ⊥
    one (Opens i l d) same = omega (arith, e, l, d, same)
    one (Writes i l d) same = omega (arith, e, l, d, same)

text_before : (b k j x : ℕ) (ns : List ℕ) → x ≡ odd_from b j → AllLater b k (suc j) ns → Apart x ns
text_before b k j x [] e h = tt
text_before b k j x (n ∷ ns) e h = (λ same. one h.0 same, text_before b k j x ns e h.1)
  where
    one : Later b k (suc j) n → x ≡ n → ⊥
    one (Opens i l d) same = omega (arith, e, l, d, same)
    one (Writes i l d) same = omega (arith, e, l, d, same)

-- so the numbers of what is made are distinct
record Distinct (b k j : ℕ) (ns : List ℕ) : Type 0 where
  later : AllLater b k j ns
  apart : AllApart ns

distinct_end : (b k : ℕ) (run : Running) (made : ℕ) (xs : List Step) → Distinct b k (suc made) (puts xs) →
    Distinct b k made (puts (run_end (odd_from b) run made xs))
distinct_end b k NoRun made xs h = record { later = later_less b k (suc made) k made (puts xs) (omega arith) (omega arith) h.later; apart = h.apart }
distinct_end b k (InRun more (Some n) any) made xs h = record { later = later_less b k (suc made) k made (puts xs) (omega arith) (omega arith) h.later; apart = h.apart }
distinct_end b k (InRun more None any) made xs h = record {
  later = (Writes made (omega arith) refl, later_less b k (suc made) k made (puts xs) (omega arith) (omega arith) h.later);
  apart = (text_before b k made (odd_from b made) (puts xs) refl h.later, h.apart);
}

distinct_all : (b k : ℕ) (ms : List Mark) (r : ChangeReader) → Distinct b k r.made (puts (script_for (odd_from b) (remarked (even_from b) k ms) r))
distinct_all b k [] r = distinct_end b k r.run r.made [] (record { later = tt; apart = tt })
distinct_all b k (KeptLetter t ends ∷ ms) r =
    subst (Distinct b k r.made) (sym (count_keep (is_seen r.seen t) t (one_more r.run) (script_for (odd_from b) (remarked (even_from b) k ms) (kept_reader t r)))) (distinct_all b k ms (kept_reader t r))
distinct_all b k (CutLetter t ends ∷ ms) r =
    subst (Distinct b k r.made) (sym (count_cut (is_seen r.seen t) ends t (script_for (odd_from b) (remarked (even_from b) k ms) r))) (distinct_all b k ms r)
distinct_all b k (NewLetter ∷ ms) r = distinct_all b k ms (record r { run = one_more r.run })
distinct_all b k (KeptBegin n kind ∷ ms) r =
    distinct_end b k r.run r.made (Enter Keep n ∷ script_for (odd_from b) (remarked (even_from b) k ms) (ended r)) (distinct_all b k ms (ended r))
distinct_all b k (CutBegin n ∷ ms) r = distinct_all b k ms r
distinct_all b k (NewBegin n kind ∷ ms) r =
    let rest = distinct_all b (suc k) ms (ended r) in
    let xs = script_for (odd_from b) (remarked (even_from b) (suc k) ms) (ended r) in
    distinct_end b k r.run r.made (Enter Put (even_from b k) ∷ xs) (record {
      later = (Opens k (omega arith) refl, later_less b (suc k) (suc r.made) k (suc r.made) (puts xs) (omega arith) (omega arith) rest.later);
      apart = (opening_before b k (suc r.made) (even_from b k) (puts xs) refl rest.later, rest.apart);
    })
distinct_all b k (KeptEnd kind ∷ ms) r =
    distinct_end b k r.run r.made (Leave Keep ∷ script_for (odd_from b) (remarked (even_from b) k ms) (ended r)) (distinct_all b k ms (ended r))
distinct_all b k (CutEnd ∷ ms) r = distinct_all b k ms r
distinct_all b k (NewEnd kind ∷ ms) r =
    distinct_end b k r.run r.made (Leave Put ∷ script_for (odd_from b) (remarked (even_from b) k ms) (ended r)) (distinct_all b k ms (ended r))

-- and none of these
abbrev pub above : List ℕ → ℕ
above [] = 0
above (n ∷ ns) = suc n + above ns

apart_above : (x : ℕ) (ns : List ℕ) → above ns ≤ x → Apart x ns
apart_above x [] h = tt
apart_above x (n ∷ ns) h = (λ e. omega (arith, h, e), apart_above x ns (omega (arith, h)))

none_above : (b k j : ℕ) (xs ns : List ℕ) → above ns ≤ b → AllLater b k j xs → AllFrom xs ns
none_above b k j [] ns h l = tt
none_above b k j (x ∷ xs) ns h l = (one l.0, none_above b k j xs ns h l.1)
  where
    one : Later b k j x → Apart x ns
    one (Opens i d e) = apart_above x ns (omega (arith, h, e))
    one (Writes i d e) = apart_above x ns (omega (arith, h, e))

-- A script with numbers of its own makes as many nodes, and their numbers are distinct and none of
-- those given.
pub record NewNumbers (numbers : List ℕ) (acts acts' : List Act) (ss : List Sign) (supply supply' : ℕ → ℕ) : Type 0 where
  pub distinct : AllApart (puts (script_for supply' (marks acts' ss) (first_reader 0)))
  pub made : AllFrom (puts (script_for supply' (marks acts' ss) (first_reader 0))) numbers
  pub count : length (puts (script_for supply (marks acts ss) (first_reader 0))) ≡ length (puts (script_for supply' (marks acts' ss) (first_reader 0)))

pub new_numbers : (numbers : List ℕ) (acts : List Act) (ss : List Sign) (supply : ℕ → ℕ) →
    NewNumbers numbers acts (renumbered (even_from (above numbers)) 0 acts) ss supply (odd_from (above numbers))
new_numbers numbers acts ss supply =
    let b = above numbers in
    let all = distinct_all b 0 (marks acts ss) (first_reader 0) in
    let same = same_marks (even_from b) 0 acts ss in
    record {
      distinct = subst (λ ms. AllApart (puts (script_for (odd_from b) ms (first_reader 0)))) (sym same) all.apart;
      made = subst (λ ms. AllFrom (puts (script_for (odd_from b) ms (first_reader 0))) numbers) (sym same) (none_above b 0 0 (puts (script_for (odd_from b) (remarked (even_from b) 0 (marks acts ss)) (first_reader 0))) numbers (omega arith) all.later);
      count = same_count supply (odd_from b) (even_from b) 0 (marks acts ss) (first_reader 0)
          ∙ ap (λ ms. length (puts (script_for (odd_from b) ms (first_reader 0)))) (sym same);
    }

stay_front : (a : ℕ) (us vs : List Act) → ((p : ℕ) → act_place us p ≡ act_place vs p) → (p : ℕ) →
    act_place (replicate a Stay ++ us) p ≡ act_place (replicate a Stay ++ vs) p
stay_front zero us vs h p = h p
stay_front (suc a) us vs h zero = refl
stay_front (suc a) us vs h (suc p) = ap (option_map suc) (stay_front a us vs h p)

pub same_moves : (f : ℕ → ℕ) (place : ℕ → Option ℕ) (lefts rights : List Sign) (acts : List Act) → Moves place lefts acts rights →
    Moves place lefts (renumbered f 0 acts) rights
same_moves f place lefts rights acts h x =
    let more = replicate (place_after rights 0) Stay in
    h x ∙ sym (stay_front (place_after lefts 0) (renumbered f 0 acts ++ more) (acts ++ more) (same_place f 0 acts more) x)
