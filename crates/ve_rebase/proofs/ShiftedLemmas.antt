-- Two transactions as joining has moved them, and what joining makes of them.
use Rattle.std.proofs.Common.{◌≡◌, ◌≤◌, ℕ, ◌+◌, ◌^◌, true, false, List, [], ◌∷◌, length, Ok, Err, sym, ap, subst, ◌∙◌, arith, if◌then◌else◌}
use Rattle.ve_base.specs.declared.value.Value.{Value}
use Rattle.model_change.specs.Transaction.{Retain, Replace, Attribute, Transaction, old_length, new_length, all_inserted, is_reduced}
use Rattle.model_change.specs.Join.{first, last, core, reach, with_ends, conflict, join, join_row, row_with, range_conflict, RangeConflict}
use Rattle.model_change.proofs.JoinLaw.{joined_as}
use Rattle.model_change.proofs.JoinLemmas.{ends_split}
use Rattle.model_change.proofs.JoinLengths.{joins_insert}
use Rattle.ve_tx.specs.Operation.{Operation, by_value}
use Rattle.ve_rebase.specs.declared.fault.RebaseFault.TheVariants.{Conflict}
use Rattle.ve_rebase.specs.declared.span.ActiveSpan.{ActiveSpan}
use Rattle.ve_rebase.specs.declared.shifted.Shifted.{Shifted}
use Rattle.ve_rebase.specs.Span.{span_of, old_size, new_size, end, joined_first, joined_second}
use Rattle.ve_rebase.specs.Pair.{FitsIn, between, MayStandIn}
use Rattle.ve_rebase.specs.Lists.{IsRefusedAs}
use Rattle.ve_rebase.specs.Shifted.{MayMove, StandsIn, IsShifted, shifted_by_value, ArePaired}
use Rattle.ve_rebase.proofs.SpanLemmas.{old-spans, new-spans, spans_join}
use Rattle.ve_rebase.proofs.ReadLemmas.{end_within}
use Rattle.ve_rebase.proofs.PairLemmas.{joined_by, made_is}
use Rattle.ve_rebase.proofs.LengthLemmas.{lengths_joined}

-- before anything is joined a transaction stands between its own ends
pub begun_stands : (t : Transaction) (s : ActiveSpan) → s ≡ span_of t → is_reduced t ≡ true → StandsIn s t
begun_stands t s e h =
    let is : with_ends (first t) (core t) (last t) ≡ t = ends_split t h in
    subst (λ r. StandsIn r t) (sym e) (record {
      reduced = subst (λ u. is_reduced u ≡ true) (sym is) h;
      middle = ap core is;
      span = ap span_of is;
      inserts = ap (λ u. length (all_inserted u)) is;
    })

pub begun_is : (t : Transaction) (s : ActiveSpan) → s ≡ span_of t → is_reduced t ≡ true → t ≡ between s t
begun_is t s e h = sym (ends_split t h) ∙ ap (λ r. between r t) (sym e)

-- the span tells how long it is
pub old_stands : (s : ActiveSpan) (t : Transaction) → StandsIn s t → old_length (between s t) ≡ old_size s
old_stands s t h = old-spans (between s t) ∙ ap old_size h.span

pub new_stands : (s : ActiveSpan) (t : Transaction) → StandsIn s t → new_length (between s t) ≡ new_size s
new_stands s t h = new-spans (between s t) ∙ ap new_size h.span

pub may_stand : (s : ActiveSpan) (t : Transaction) → StandsIn s t → MayStandIn s t
may_stand s t h =
    let o = old_stands s t h in
    let i = h.inserts in
    record { reduced = h.reduced; total = omega arith }

-- what joining makes of it stands between the ends of the joined span
moved_stands : (s r : ActiveSpan) (t made : Transaction) → StandsIn s t → is_reduced made ≡ true → core made ≡ core (between s t) → span_of made ≡ r →
    length (all_inserted made) ≡ length (all_inserted (between s t)) → made ≡ between r (between s t) →
    StandsIn r t × (made ≡ between r t)
moved_stands s r t made h reduced middle span inserts is =
    let same : between r (between s t) ≡ between r t = ap (λ ops. with_ends r.first ops r.last) h.middle in
    let all : made ≡ between r t = is ∙ same in (
      record {
        reduced = subst (λ u. is_reduced u ≡ true) all reduced;
        middle = sym (ap core all) ∙ (middle ∙ h.middle);
        span = sym (ap span_of all) ∙ span;
        inserts = sym (ap (λ u. length (all_inserted u)) all) ∙ (inserts ∙ h.inserts);
      },
      all,
    )

-- what joining makes of two that stand so
pub record Pairs (s r s2 r2 : ActiveSpan) (t u : Transaction) : Type 0 where
  pub first : StandsIn s2 t
  pub second : StandsIn r2 u
  pub first_is : (join (between s t) (between r u)).0 ≡ between s2 t
  pub second_is : (join (between s t) (between r u)).1 ≡ between r2 u
  pub first_length : old_size s2 ≡ new_size r
  pub second_length : old_size r2 ≡ new_size s
  pub one_length : new_size s2 ≡ new_size r2
  pub small : new_size s2 ≤ new_size s + new_size r

pub pairs : (s r : ActiveSpan) (t u : Transaction) → StandsIn s t → StandsIn r u → old_size s ≡ old_size r → conflict (between s t) (between r u) ≡ false →
    Pairs s r (joined_first s r) (joined_second s r) t u
pairs s r t u h k one apart =
    let x = between s t in
    let y = between r u in
    let same : old_length x ≡ old_length y = old_stands s t h ∙ (one ∙ sym (old_stands r u k)) in
    let j = joined_by x y h.reduced k.reduced same (join x y) (joined_as x y apart) in
    let e = spans_join x y h.reduced k.reduced in
    let spans : joined_first (span_of x) (span_of y) ≡ joined_first s r = ap (λ a. joined_first a (span_of y)) h.span ∙ ap (λ b. joined_first s b) k.span in
    let spans_too : joined_second (span_of x) (span_of y) ≡ joined_second s r = ap (λ a. joined_second a (span_of y)) h.span ∙ ap (λ b. joined_second s b) k.span in
    let s2 = joined_first s r in
    let r2 = joined_second s r in
    let f : span_of (join x y).0 ≡ s2 = e.0 ∙ spans in
    let g : span_of (join x y).1 ≡ r2 = e.1 ∙ spans_too in
    let i = joins_insert x y apart in
    let p = made_is x y (join x y).0 s2 j.0 f i.0 in
    let q = made_is y x (join x y).1 r2 j.1 g i.1 in
    let a = moved_stands s s2 t (join x y).0 h j.0.reduced j.0.same f i.0 p.is in
    let b = moved_stands r r2 u (join x y).1 k j.1.reduced j.1.same g i.1 q.is in
    let l = lengths_joined x y h.reduced k.reduced same apart in
    let one_new : new_size s2 ≡ new_size r2 = sym (new-spans (join x y).0 ∙ ap new_size f) ∙ (l.one ∙ (new-spans (join x y).1 ∙ ap new_size g)) in
    record {
      first = a.0;
      second = b.0;
      first_is = a.1;
      second_is = b.1;
      first_length = sym (old-spans (join x y).0 ∙ ap old_size f) ∙ (l.first ∙ new_stands r u k);
      second_length = sym (old-spans (join x y).1 ∙ ap old_size g) ∙ (l.second ∙ new_stands s t h);
      one_length = one_new;
      small =
          let w : new_length (join x y).0 ≡ new_size s2 = new-spans (join x y).0 ∙ ap new_size f in
          let b = l.small in
          let n = new_stands s t h in
          let m = new_stands r u k in
          omega arith;
    }

-- within the bound the span fits
fits_in : (s : ActiveSpan) (t : Transaction) → StandsIn s t → old_size s ≤ 2 ^ 60 → new_size s ≤ 2 ^ 60 → FitsIn (2 ^ 60) s
fits_in s t h old new =
    let x = between s t in
    let w = end_within x h.reduced in
    let o = old_stands s t h in
    let e : first x + reach (core x) ≡ end s = ap end h.span in
    record { old = old; new = new; range = omega arith }

pub paired_so : (a b : Shifted) (s r : ActiveSpan) → IsShifted a → IsShifted b → old_size a.span ≡ old_size b.span → s ≡ joined_first a.span b.span → r ≡ joined_second a.span b.span →
    ((values others : List Value) → conflict (shifted_by_value values a) (shifted_by_value others b) ≡ false) → new_size s ≤ 2 ^ 60 → ArePaired a b s r
paired_so a b s r h k one e f apart room =
    let p : (values others : List Value) → Pairs a.span b.span s r (by_value values a.tx.now) (by_value others b.tx.now) =
    λ values others. subst (λ x. Pairs a.span b.span x r (by_value values a.tx.now) (by_value others b.tx.now)) (sym e)
    (subst (λ y. Pairs a.span b.span (joined_first a.span b.span) y (by_value values a.tx.now) (by_value others b.tx.now)) (sym f)
    (pairs a.span b.span (by_value values a.tx.now) (by_value others b.tx.now) (h.stands values) (k.stands others) one (apart values others))) in
    let here = p [] [] in
    let x = here.first_length in
    let y = here.second_length in
    let z = here.one_length in
    let hn = h.fits.new in
    let kn = k.fits.new in
    record {
      joined = λ values others.
          let q = p values others in
          let t = shifted_by_value values a in
          let u = shifted_by_value others b in
          ap (λ c. if c then Err (range_conflict t u) else row_with (join t u).0 (Ok ([], (join t u).1))) (apart values others)
          ∙ (ap (λ one. Ok (one ∷ [], (join t u).1)) q.first_is ∙ ap (λ two. Ok (between s (by_value values a.tx.now) ∷ [], two)) q.second_is);
      first = record { fits = fits_in s (by_value [] a.tx.now) here.first (omega arith) room; stands = λ values. (p values []).first };
      second = record { fits = fits_in r (by_value [] b.tx.now) here.second (omega arith) (omega arith); stands = λ values. (p [] values).second };
      first_length = x;
      second_length = y;
      one_length = z;
    }

-- what a transaction takes away lies within what it reaches
taken_within : (t : Transaction) → old_length t ≤ reach t
taken_within [] = omega arith
taken_within (Retain n ∷ ops) = let r = taken_within ops in omega arith
taken_within (Replace removed inserted ∷ ops) = let r = taken_within ops in omega arith
taken_within (Attribute c ∷ ops) = let r = taken_within ops in omega arith

pub removed_within : (s : ActiveSpan) (tx : List Operation) → MayMove s tx → s.removed ≤ s.reach
removed_within s tx h = subst (λ (r : ActiveSpan). r.removed ≤ r.reach) (h.stands []).span (taken_within (core (between s (by_value [] tx))))

-- the length of what is joined is a machine's number
pub joined_small : (a b : Shifted) → IsShifted a → IsShifted b → old_size a.span ≡ old_size b.span → conflict (shifted_by_value [] a) (shifted_by_value [] b) ≡ false →
    new_size (joined_first a.span b.span) ≤ 2 ^ 61
joined_small a b h k one apart =
    let p = pairs a.span b.span (by_value [] a.tx.now) (by_value [] b.tx.now) (h.stands []) (k.stands []) one apart in
    let w = p.small in
    let x = h.fits.new in
    let y = k.fits.new in
    omega arith

-- a conflict is named with both ranges
pub pair_refused : (a b : Shifted) (range other : ℕ × ℕ) → IsShifted a → IsShifted b →
    ((values others : List Value) → conflict (shifted_by_value values a) (shifted_by_value others b) ≡ true) →
    range.0 ≡ a.span.first → range.1 ≡ end a.span → other.0 ≡ b.span.first → other.1 ≡ end b.span →
    (values others : List Value) → IsRefusedAs (join_row (shifted_by_value values a ∷ []) (shifted_by_value others b)) (Conflict range other)
pair_refused a b range other h k met range_start range_end other_start other_end values others =
    let t = shifted_by_value values a in
    let u = shifted_by_value others b in
    let ps = (h.stands values).span in
    let qs = (k.stands others).span in
    let e : (span_of t).first ≡ range.0 = ap (λ s. s.first) ps ∙ sym range_start in
    let f : end (span_of t) ≡ range.1 = ap end ps ∙ sym range_end in
    let g : (span_of u).first ≡ other.0 = ap (λ s. s.first) qs ∙ sym other_start in
    let i : end (span_of u) ≡ other.1 = ap end qs ∙ sym other_end in
    ap (λ c. if c then Err (range_conflict t u) else row_with (join t u).0 (Ok ([], (join t u).1))) (met values others)
    ∙ ap (λ c. Err c) (named range other (span_of t).first (end (span_of t)) (span_of u).first (end (span_of u)) e f g i)
  where
    named : (range other : ℕ × ℕ) (p q v w : ℕ) → p ≡ range.0 → q ≡ range.1 → v ≡ other.0 → w ≡ other.1 →
        ◌≡◌ {A = RangeConflict} (record { committed = (p, q); mine = (v, w) }) (record { committed = range; mine = other })
    named (x, y) (z, o) p q v w e f g h = cc
