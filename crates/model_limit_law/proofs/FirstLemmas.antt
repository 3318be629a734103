-- The first thing over a limit, as a function of what is counted.
use Rattle.std.specs.List.{AllByRecursion}
use Rattle.std.specs.Option.{option_or}
use Rattle.std.specs.Prelude.{nat_lt, option_map, slice_get}
use Rattle.std.proofs.Common.{◌≡◌, ◌<◌, ◌≤◌, ℕ, zero, suc, ◌-◌, Bool, true, false, if◌then◌else◌, List, [], ◌∷◌, ◌++◌, length, Option, Some, None, refl, ap, ◌∙◌, subst, arith}
use Rattle.std.proofs.lemmas.Bool.{le-ltb, lt-ltb, ltb-false, ltb-true}
use Rattle.ve_base.specs.Limits.{max_marks, max_open_kinds}
use Rattle.model_items.specs.declared.plain_item.PlainItem.{PlainItem}
use Rattle.model_items.specs.declared.plain_item.PlainItem.TheVariants.{Char, Closing, Opening}
use Rattle.model_page.specs.Limits.{Limit, TooDeep, TooManyMarks, deep_at, earlier}
use Rattle.model_page.specs.Pieces.{SourceSpan}
use Rattle.model_limit_law.specs.Counted.{openings}
use Rattle.model_limit_law.specs.First.{First, FirstDeep, FirstMarked}

-- ---- nesting

abbrev pub first_deep : List (ℕ × ℕ) → Option ℕ
first_deep [] = None
first_deep (o ∷ opens) = if nat_lt max_open_kinds o.0 then Some o.1 else first_deep opens

turned : (depth : ℕ) (inner : Option ℕ) (at : ℕ) (b c : Bool) → nat_lt depth max_open_kinds ≡ b → nat_lt max_open_kinds (suc depth) ≡ c →
    (if b then inner else Some at) ≡ (if c then Some at else inner)
turned depth inner at true true e f = absurd (let low = ltb-true depth max_open_kinds e in let high = ltb-true max_open_kinds (suc depth) f in omega (arith, low, high))
turned depth inner at true false e f = refl
turned depth inner at false true e f = refl
turned depth inner at false false e f = absurd (let low = ltb-false depth max_open_kinds e in let high = ltb-false max_open_kinds (suc depth) f in omega (arith, low, high))

pub deep_at-first : (depth : ℕ) (items : List PlainItem) (spans : List SourceSpan) → deep_at depth items spans ≡ first_deep (openings depth items spans)
deep_at-first depth [] spans = refl
deep_at-first depth (Char c marks ∷ items) spans = deep_at-first depth items spans
deep_at-first depth (Closing kind pre ∷ items) spans = deep_at-first (depth - 1) items spans
deep_at-first depth (Opening kind head marks pre origin generated ∷ items) [] = refl
deep_at-first depth (Opening kind head marks pre origin generated ∷ items) (span ∷ spans) =
    ap (λ o. if nat_lt depth max_open_kinds then o else Some span.from) (deep_at-first (suc depth) items spans)
    ∙ turned depth (first_deep (openings (suc depth) items spans)) span.from (nat_lt depth max_open_kinds) (nat_lt max_open_kinds (suc depth)) refl refl

pub some_same : (a b : ℕ) → ◌≡◌ {A = Option ℕ} (Some a) (Some b) → a ≡ b
some_same a b e = cc

deep_later : (o : ℕ × ℕ) (opens : List (ℕ × ℕ)) (at : ℕ) → o.0 ≤ max_open_kinds → FirstDeep opens at → FirstDeep (o ∷ opens) at
deep_later o opens at few f = record {
  before = o ∷ f.before;
  kinds = f.kinds;
  after = f.after;
  opens_are = ap (λ os. o ∷ os) f.opens_are;
  over = f.over;
  none_before = (few, f.none_before);
}

pub deep_found : (opens : List (ℕ × ℕ)) (at : ℕ) → first_deep opens ≡ Some at → FirstDeep opens at
deep_found [] at h = cc
deep_found (o ∷ opens) at h = by (nat_lt max_open_kinds o.0) refl h (deep_found opens at)
  where
    by : (b : Bool) → nat_lt max_open_kinds o.0 ≡ b → (if b then Some o.1 else first_deep opens) ≡ Some at → (first_deep opens ≡ Some at → FirstDeep opens at) →
        FirstDeep (o ∷ opens) at
    by true e h rest = record {
      before = [];
      kinds = o.0;
      after = opens;
      opens_are = ap (λ n. (o.0, n) ∷ opens) (some_same o.1 at h);
      over = ltb-true max_open_kinds o.0 e;
      none_before = tt;
    }
    by false e h rest = deep_later o opens at (ltb-false max_open_kinds o.0 e) (rest h)

deep_skipped : (before rest : List (ℕ × ℕ)) → AllByRecursion (λ o. o.0 ≤ max_open_kinds) before → first_deep (before ++ rest) ≡ first_deep rest
deep_skipped [] rest none = refl
deep_skipped (o ∷ before) rest none =
    ap (λ b. if b then Some o.1 else first_deep (before ++ rest)) (le-ltb max_open_kinds o.0 none.0) ∙ deep_skipped before rest none.1

pub deep_only : (opens : List (ℕ × ℕ)) (at : ℕ) → FirstDeep opens at → first_deep opens ≡ Some at
deep_only opens at f =
    ap first_deep f.opens_are ∙ deep_skipped f.before ((f.kinds, at) ∷ f.after) f.none_before
    ∙ ap (λ b. if b then Some at else first_deep f.after) (lt-ltb max_open_kinds f.kinds f.over)

-- ---- marks

abbrev pub first_marked : List (List ℕ) → Option ℕ
first_marked [] = None
first_marked (marks ∷ places) = option_or (slice_get marks max_marks) (first_marked places)

pub past_none : (xs : List ℕ) (n : ℕ) → length xs ≤ n → slice_get xs n ≡ None
past_none [] n l = refl
past_none (x ∷ xs) zero l = absurd (omega (arith, l))
past_none (x ∷ xs) (suc n) l = past_none xs n (omega (arith, l))

none_past : (xs : List ℕ) (n : ℕ) → slice_get xs n ≡ None → length xs ≤ n
none_past [] n e = omega arith
none_past (x ∷ xs) zero e = cc
none_past (x ∷ xs) (suc n) e = let l = none_past xs n e in omega (arith, l)

marked_later : (marks : List ℕ) (places : List (List ℕ)) (at : ℕ) → length marks ≤ max_marks → FirstMarked places at → FirstMarked (marks ∷ places) at
marked_later marks places at few f = record {
  before = marks ∷ f.before;
  marks = f.marks;
  after = f.after;
  places_are = ap (λ ps. marks ∷ ps) f.places_are;
  over = f.over;
  none_before = (few, f.none_before);
}

pub marked_found : (places : List (List ℕ)) (at : ℕ) → first_marked places ≡ Some at → FirstMarked places at
marked_found [] at h = cc
marked_found (marks ∷ places) at h = by (slice_get marks max_marks) refl h (marked_found places at)
  where
    by : (o : Option ℕ) → slice_get marks max_marks ≡ o → option_or o (first_marked places) ≡ Some at → (first_marked places ≡ Some at → FirstMarked places at) →
        FirstMarked (marks ∷ places) at
    by (Some n) e h rest = record { before = []; marks = marks; after = places; places_are = refl; over = e ∙ h; none_before = tt }
    by None e h rest = marked_later marks places at (none_past marks max_marks e) (rest h)

marked_skipped : (before rest : List (List ℕ)) → AllByRecursion (λ m. length m ≤ max_marks) before → first_marked (before ++ rest) ≡ first_marked rest
marked_skipped [] rest none = refl
marked_skipped (marks ∷ before) rest none =
    ap (λ o. option_or o (first_marked (before ++ rest))) (past_none marks max_marks none.0) ∙ marked_skipped before rest none.1

pub marked_only : (places : List (List ℕ)) (at : ℕ) → FirstMarked places at → first_marked places ≡ Some at
marked_only places at f =
    ap first_marked f.places_are ∙ marked_skipped f.before (f.marks ∷ f.after) f.none_before ∙ ap (λ o. option_or o (first_marked f.after)) f.over

-- ---- whichever begins first

abbrev pub one_limit : Option ℕ → Option ℕ → Option Limit
one_limit deep marked = earlier (option_map (λ n. TooDeep n) deep) (option_map (λ n. TooManyMarks n) marked)

pub limit_same : (a b : Limit) → ◌≡◌ {A = Option Limit} (Some a) (Some b) → a ≡ b
limit_same a b e = cc

none_is : (o : Option ℕ) (n : ℕ) → o ≡ None → o ≡ Some n → ⊥
none_is o n e f = cc

same_in : (o : Option ℕ) (m n : ℕ) → o ≡ Some m → o ≡ Some n → m ≡ n
same_in o m n e f = cc

first_by : (opens : List (ℕ × ℕ)) (places : List (List ℕ)) (l : Limit) (deep marked : Option ℕ) → first_deep opens ≡ deep → first_marked places ≡ marked →
    one_limit deep marked ≡ Some l → First opens places l
first_by opens places l None None d m h = cc
first_by opens places l (Some a) None d m h =
    subst (First opens places) (limit_same (TooDeep a) l h)
    (deep_found opens a d, λ other f. absurd (none_is (first_marked places) other m (marked_only places other f)))
first_by opens places l None (Some b) d m h =
    subst (First opens places) (limit_same (TooManyMarks b) l h)
    (marked_found places b m, λ other f. absurd (none_is (first_deep opens) other d (deep_only opens other f)))
first_by opens places l (Some a) (Some b) d m h = by (nat_lt b a) refl h
  where
    by : (c : Bool) → nat_lt b a ≡ c → (if c then Some (TooManyMarks b) else Some (TooDeep a)) ≡ Some l → First opens places l
    by true e h =
        subst (First opens places) (limit_same (TooManyMarks b) l h)
        (marked_found places b m, λ other f. subst (λ n. b < n) (same_in (first_deep opens) a other d (deep_only opens other f)) (ltb-true b a e))
    by false e h =
        subst (First opens places) (limit_same (TooDeep a) l h)
        (deep_found opens a d, λ other f. subst (λ n. a ≤ n) (same_in (first_marked places) b other m (marked_only places other f)) (ltb-false b a e))

pub limit_is_first : (opens : List (ℕ × ℕ)) (places : List (List ℕ)) (l : Limit) → one_limit (first_deep opens) (first_marked places) ≡ Some l → First opens places l
limit_is_first opens places l h = first_by opens places l (first_deep opens) (first_marked places) refl refl h

deep_first : (at : ℕ) (marked : Option ℕ) → ((other : ℕ) → marked ≡ Some other → at ≤ other) → one_limit (Some at) marked ≡ Some (TooDeep at)
deep_first at None none = refl
deep_first at (Some b) none = ap (λ c. if c then Some (TooManyMarks b) else Some (TooDeep at)) (le-ltb b at (none b refl))

marked_first : (at : ℕ) (deep : Option ℕ) → ((other : ℕ) → deep ≡ Some other → at < other) → one_limit deep (Some at) ≡ Some (TooManyMarks at)
marked_first at None none = refl
marked_first at (Some a) none = ap (λ c. if c then Some (TooManyMarks at) else Some (TooDeep a)) (lt-ltb at a (none a refl))

pub first_is_limit : (opens : List (ℕ × ℕ)) (places : List (List ℕ)) (l : Limit) → First opens places l → one_limit (first_deep opens) (first_marked places) ≡ Some l
first_is_limit opens places (TooDeep at) f =
    ap (λ o. one_limit o (first_marked places)) (deep_only opens at f.0) ∙ deep_first at (first_marked places) (λ other e. f.1 other (marked_found places other e))
first_is_limit opens places (TooManyMarks at) f =
    ap (λ o. one_limit (first_deep opens) o) (marked_only places at f.0) ∙ marked_first at (first_deep opens) (λ other e. f.1 other (deep_found opens other e))
