-- The entries of one person, and what counts behind each: those that are newer, and those of others.
use Rattle.std.proofs.Common.{◌≡◌, ◌<◌, ℕ, suc, Bool, true, false, ◌&&◌, ◌==◌, if◌then◌else◌, List, [], ◌∷◌, ◌++◌, length, drop, Option, Some, None, is_some, option_map, Result, Ok, Err, refl, sym, ap, ◌∙◌, subst, append_assoc, append-nil, eqb-true, arith}
use Rattle.std.proofs.lemmas.List.{length-append}
use Rattle.model_items.specs.Same.{option_same}
use Rattle.model_items.proofs.SameLemmas.{Means-nat}
use Rattle.model_change.specs.Join.{join_list}
use Rattle.model_change.specs.Replay.{reversal}
use Rattle.model_change.specs.Transaction.{Transaction}
use Rattle.model_site.specs.Live.{Hinted, Standing, all_standing, left_by, left_without, live, live_from, or_last, revoke_live, stand, with_txs, without, without_hint}
use Rattle.model_site_law.specs.LiveLaws.{is_among, next_of, own_of, with_entry_more}
use Rattle.model_site_law.proofs.BackLemmas.{all_alike-itself, live-more, with_more}
use Rattle.model_site_law.proofs.LiveLemmas.{under_live-ok}

-- ---- numbers that differ

abbrev pub Each : (ℕ → Type 0) → List Standing → Type 0
Each P [] = Unit {0}
Each P (s ∷ ss) = P s.number × Each P ss

abbrev Differs : ℕ → ℕ → Type 0
Differs n k = k ≡ n → ⊥

pub each-append : (P : ℕ → Type 0) (ss more : List Standing) → Each P ss → Each P more → Each P (ss ++ more)
each-append P [] more h g = g
each-append P (s ∷ ss) more h g = (h.0, each-append P ss more h.1 g)

each_weaker : (P Q : ℕ → Type 0) (ss : List Standing) → ((k : ℕ) → P k → Q k) → Each P ss → Each Q ss
each_weaker P Q [] f h = tt
each_weaker P Q (s ∷ ss) f h = (f s.number h.0, each_weaker P Q ss f h.1)

-- other transactions keep the numbers
each-with : (P : ℕ → Type 0) (ts : List Transaction) (ss : List Standing) → Each P ss → Each P (with_txs ts ss)
each-with P ts [] h = tt
each-with P ts (s ∷ ss) h = (h.0, each-with P (drop (length s.txs) ts) ss h.1)

-- none of these has the number that is named
abbrev Misses : Option ℕ → ℕ → Type 0
Misses None k = Unit {0}
Misses (Some m) k = Differs m k

other : (a b : ℕ) → (a ≡ b → ⊥) → (a == b) ≡ false
other a b differ = by_test (a == b) refl
  where
    by_test : (t : Bool) → (a == b) ≡ t → t ≡ false
    by_test false e = refl
    by_test true e = absurd (differ (eqb-true a b e))

without_none : (m : ℕ) (back : List Transaction) (ss : List Standing) → Each (Differs m) ss → without m back ss ≡ None
without_none m back [] d = refl
without_none m back (s ∷ ss) d =
    ap (λ b. if b then left_without back s.txs ss else option_map (λ l. s ∷ l) (without m back ss)) (other s.number m d.0)
    ∙ ap (option_map (λ l. s ∷ l)) (without_none m back ss d.1)

misses_none : (hint : Option ℕ) (back : List Transaction) (ss : List Standing) → Each (Misses hint) ss → without_hint hint back ss ≡ None
misses_none None back ss d = refl
misses_none (Some m) back ss d = without_none m back ss d

misses_one : (hint : Option ℕ) (k : ℕ) → Misses hint k → option_same (λ x y. x == y) hint (Some k) ≡ false
misses_one None k d = refl
misses_one (Some m) k d = other m k (λ e. d (sym e))

-- What takes one back, as those after it are joined, leaves those before it, and those after it as
-- they are without it.
without_found : (s : Standing) (after : List Standing) (left back : List Transaction) (before : List Standing) → Each (Differs s.number) before →
    join_list (all_standing after) (reversal s.txs) ≡ Ok (left, back) → without s.number back (before ++ s ∷ after) ≡ Some (before ++ with_txs left after)
without_found s after left back [] d joined =
    ap (λ b. if b then left_without back s.txs after else option_map (λ l. s ∷ l) (without s.number back after)) (Means-nat.itself s.number)
    ∙ ap (λ j. left_by back j after) joined ∙ ap (λ b. if b then Some (with_txs left after) else None) (all_alike-itself back)
without_found s after left back (r ∷ before) d joined =
    ap (λ b. if b then left_without back r.txs (before ++ s ∷ after) else option_map (λ l. r ∷ l) (without s.number back (before ++ s ∷ after))) (other r.number s.number d.0)
    ∙ ap (option_map (λ l. r ∷ l)) (without_found s after left back before d.1 joined)

-- ---- one of the person's entries, and those that count behind it

pub record One (entries : List Hinted) (above : List Standing) (s : Standing) : Type 0 where
  pub below : s.number < length entries
  pub own : own_of entries s.number ≡ s.txs
  pub counts : live entries s.number ≡ Ok above

abbrev pub with_one : List Hinted → Hinted → List Hinted
with_one entries e = entries ++ e ∷ []

-- where the next entry is not what takes it back, as that counts then
next_counts : (entries : List Hinted) (above result : List Standing) (s : Standing) (e : Hinted) → One entries above s →
    option_same (λ x y. x == y) e.takes_back (Some s.number) ≡ false → stand (length entries) e above ≡ result → One (with_one entries e) result s
next_counts entries above result s e h apart stands =
    let n = length entries in
    let own = own_of entries s.number in
    record {
      below = (let sum = length-append entries (e ∷ []) in let l = h.below in omega arith);
      own = (with_more entries (e ∷ []) s.number h.below).own ∙ h.own;
      counts = live-more entries (e ∷ []) s.number above h.below h.counts
          ∙ ap (λ b. if b && is_some (left_without e.txs own above) then Err n else Ok (stand n e above)) apart ∙ ap (λ r. Ok r) stands;
    }

-- it counts above those that it does not take back
push_one : (entries : List Hinted) (above : List Standing) (s : Standing) (e : Hinted) → One entries above s → Misses e.takes_back s.number → Each (Misses e.takes_back) above →
    One (with_one entries e) (above ++ next_of entries e.txs ∷ []) s
push_one entries above s e h d ds =
    next_counts entries above (above ++ next_of entries e.txs ∷ []) s e h (misses_one e.takes_back s.number d)
    (ap (or_last (next_of entries e.txs) above) (misses_none e.takes_back e.txs above ds))

-- it takes one of them back
pop_one : (entries : List Hinted) (s : Standing) (after : List Standing) (left back : List Transaction) (before : List Standing) (r : Standing) →
    One entries (before ++ s ∷ after) r → Differs s.number r.number → Each (Differs s.number) before → join_list (all_standing after) (reversal s.txs) ≡ Ok (left, back) →
    One (with_one entries (record { txs = back; takes_back = Some s.number })) (before ++ with_txs left after) r
pop_one entries s after left back before r h apart d joined =
    next_counts entries (before ++ s ∷ after) (before ++ with_txs left after) r (record { txs = back; takes_back = Some s.number }) h
    (other s.number r.number (λ e. apart (sym e)))
    (ap (or_last (next_of entries back) (before ++ s ∷ after)) (without_found s after left back before d joined))

-- it is the newest itself
newest_one : (entries : List Hinted) (e : Hinted) → One (with_one entries e) [] (next_of entries e.txs)
newest_one entries e = record {
  below = (let sum = length-append entries (e ∷ []) in omega arith);
  own = last_own entries;
  counts = ap (λ r. live_from (length entries) (own_of (with_one entries e) (length entries)) (suc (length entries)) r []) (none_later entries);
}
  where
    last_own : (es : List Hinted) → own_of (es ++ e ∷ []) (length es) ≡ e.txs
    last_own [] = refl
    last_own (f ∷ es) = last_own es

    none_later : (es : List Hinted) → drop (suc (length es)) (es ++ e ∷ []) ≡ []
    none_later [] = refl
    none_later (f ∷ es) = none_later es

-- ---- all of the person's entries, the newest first

-- an entry of the person, and those of others that count behind it, before the person's next
pub record Owned : Type 0 where
  pub own : Standing
  pub behind : List Standing

abbrev pub owns : List Owned → List Standing
owns [] = []
owns (o ∷ os) = o.own ∷ owns os

-- behind each count those of others, and those that are newer
abbrev pub AllCount : List Hinted → (above : List Standing) → List Owned → Type 0
AllCount entries above [] = Unit {0}
AllCount entries above (o ∷ os) = One entries (o.behind ++ above) o.own × AllCount entries (o.own ∷ (o.behind ++ above)) os

-- what comes above all counts behind the newest one
abbrev pub settled : List Standing → List Owned → List Owned
settled above [] = []
settled above (o ∷ os) = record { own = o.own; behind = o.behind ++ above } ∷ os

pub owns-settled : (above : List Standing) (os : List Owned) → owns (settled above os) ≡ owns os
owns-settled above [] = refl
owns-settled above (o ∷ os) = refl

settle : (entries : List Hinted) (above : List Standing) (os : List Owned) → AllCount entries above os → AllCount entries [] (settled above os)
settle entries above [] h = tt
settle entries above (o ∷ os) h =
    subst (λ view. One entries view o.own × AllCount entries (o.own ∷ view) os) (sym (append-nil (o.behind ++ above))) h

-- of the numbers of one's own, and of those of others behind them
abbrev pub EachOwn : (P Q : ℕ → Type 0) → List Owned → Type 0
EachOwn P Q [] = Unit {0}
EachOwn P Q (o ∷ os) = P o.own.number × Each Q o.behind × EachOwn P Q os

each_own_weaker : (P Q R S : ℕ → Type 0) (os : List Owned) → ((k : ℕ) → P k → R k) → ((k : ℕ) → Q k → S k) → EachOwn P Q os → EachOwn R S os
each_own_weaker P Q R S [] f g h = tt
each_own_weaker P Q R S (o ∷ os) f g h = (f o.own.number h.0, each_weaker Q S o.behind g h.1, each_own_weaker P Q R S os f g h.2)

each_own-settled : (P Q : ℕ → Type 0) (above : List Standing) (os : List Owned) → Each Q above → EachOwn P Q os → EachOwn P Q (settled above os)
each_own-settled P Q above [] a h = tt
each_own-settled P Q above (o ∷ os) a h = (h.0, each-append Q o.behind above h.1 a, h.2)

push_all : (entries : List Hinted) (above : List Standing) (os : List Owned) (e : Hinted) → AllCount entries above os → Each (Misses e.takes_back) above →
    EachOwn (Misses e.takes_back) (Misses e.takes_back) os → AllCount (with_one entries e) (above ++ next_of entries e.txs ∷ []) os
push_all entries above [] e h a d = tt
push_all entries above (o ∷ os) e h a d =
    let M = Misses e.takes_back in
    let view = o.behind ++ above in
    let misses = each-append M o.behind above d.1 a in
    subst (λ v. One (with_one entries e) v o.own × AllCount (with_one entries e) (o.own ∷ v) os) (append_assoc o.behind above (next_of entries e.txs ∷ []))
    (push_one entries view o.own e h.0 d.0 misses, push_all entries (o.own ∷ view) os e h.1 (d.0, misses) d.2)

pop_all : (entries : List Hinted) (s : Standing) (after : List Standing) (left back : List Transaction) → join_list (all_standing after) (reversal s.txs) ≡ Ok (left, back) →
    (before : List Standing) (os : List Owned) → AllCount entries (before ++ s ∷ after) os → Each (Differs s.number) before → EachOwn (Differs s.number) (Differs s.number) os →
    AllCount (with_one entries (record { txs = back; takes_back = Some s.number })) (before ++ with_txs left after) os
pop_all entries s after left back joined before [] h b d = tt
pop_all entries s after left back joined before (o ∷ os) h b d =
    let D = Differs s.number in
    let next = with_one entries (record { txs = back; takes_back = Some s.number }) in
    let seen = o.behind ++ before in
    let differ = each-append D o.behind before d.1 b in
    let old = subst (λ v. One entries v o.own × AllCount entries (o.own ∷ v) os) (sym (append_assoc o.behind before (s ∷ after))) h in
    subst (λ v. One next v o.own × AllCount next (o.own ∷ v) os) (append_assoc o.behind before (with_txs left after))
    (pop_one entries s after left back seen o.own old.0 d.0 differ joined, pop_all entries s after left back joined (o.own ∷ seen) os old.1 (d.0, differ) d.2)

abbrev AllApart : List Owned → Type 0
AllApart [] = Unit {0}
AllApart (o ∷ os) = EachOwn (Differs o.own.number) (Differs o.own.number) os × AllApart os

apart-settled : (above : List Standing) (os : List Owned) → AllApart os → AllApart (settled above os)
apart-settled above [] h = tt
apart-settled above (o ∷ os) h = h

-- no number of one's own among these is one of those
abbrev Across : (these those : List Owned) → Type 0
Across [] those = Unit {0}
Across (o ∷ os) those = EachOwn (Differs o.own.number) (Differs o.own.number) those × Across os those

across-settled : (above : List Standing) (os those : List Owned) → Across os those → Across (settled above os) those
across-settled above [] those h = tt
across-settled above (o ∷ os) those h = h

-- those become others, of which each one that differed still does
across_into : (these those next : List Owned) → ((n : ℕ) → EachOwn (Differs n) (Differs n) those → EachOwn (Differs n) (Differs n) next) → Across these those → Across these next
across_into [] those next f h = tt
across_into (o ∷ os) those next f h = (f o.own.number h.0, across_into os those next f h.1)

-- one more of those
across_more : (these those : List Owned) (s : Standing) → EachOwn (Differs s.number) (Differs s.number) these → Across these those →
    Across these (record { own = s; behind = [] } ∷ those)
across_more [] those s d h = tt
across_more (o ∷ os) those s d h = (((λ e. d.0 (sym e)), tt, h.0), across_more os those s d.2 h.1)

-- what comes above those
across_above : (these those : List Owned) (s : Standing) → EachOwn (Differs s.number) (Differs s.number) these → Across these those → Across these (settled (s ∷ []) those)
across_above [] those s d h = tt
across_above (o ∷ os) those s d h =
    (each_own-settled (Differs o.own.number) (Differs o.own.number) (s ∷ []) those ((λ e. d.0 (sym e)), tt) h.0, across_above os those s d.2 h.1)

across_none : (these : List Owned) → Across these []
across_none [] = tt
across_none (o ∷ os) = (tt, across_none os)

-- ---- the person's two lists

abbrev pub Below : ℕ → ℕ → Type 0
Below n k = k < n

-- it is below n, and another's
abbrev pub Theirs : ℕ → List ℕ → ℕ → Type 0
Theirs n others k = (k < n) × (is_among others k ≡ true)

pub record Free (entries : List Hinted) (others : List ℕ) (made taken : List Owned) : Type 0 where
  pub made_count : AllCount entries [] made
  pub taken_count : AllCount entries [] taken
  pub made_apart : AllApart made
  pub taken_apart : AllApart taken
  pub across : Across made taken
  pub across_back : Across taken made
  pub made_known : EachOwn (Below (length entries)) (Theirs (length entries) others) made
  pub taken_known : EachOwn (Below (length entries)) (Theirs (length entries) others) taken

pub turned : (entries : List Hinted) (others : List ℕ) (made taken : List Owned) → Free entries others made taken → Free entries others taken made
turned entries others made taken f = record {
  made_count = f.taken_count;
  taken_count = f.made_count;
  made_apart = f.taken_apart;
  taken_apart = f.made_apart;
  across = f.across_back;
  across_back = f.across;
  made_known = f.taken_known;
  taken_known = f.made_known;
}

-- the next number differs from all
fresh : (n : ℕ) (others : List ℕ) (os : List Owned) → EachOwn (Below n) (Theirs n others) os → EachOwn (Differs n) (Differs n) os
fresh n others os h = each_own_weaker (Below n) (Theirs n others) (Differs n) (Differs n) os (λ k l e. absurd (omega (arith, e, l))) (λ k t e. let l = t.0 in absurd (omega (arith, e, l))) h

among_more : (m : ℕ) (others : List ℕ) (k : ℕ) → is_among others k ≡ true → is_among (m ∷ others) k ≡ true
among_more m others k h = by_test (m == k)
  where
    by_test : (b : Bool) → (if b then true else is_among others k) ≡ true
    by_test true = refl
    by_test false = h

-- also where there is one more entry, and maybe one more of others
known_more : (entries : List Hinted) (e : Hinted) (others more : List ℕ) (os : List Owned) → ((k : ℕ) → is_among others k ≡ true → is_among more k ≡ true) →
    EachOwn (Below (length entries)) (Theirs (length entries) others) os → EachOwn (Below (length (with_one entries e))) (Theirs (length (with_one entries e)) more) os
known_more entries e others more os f h =
    let sum = length-append entries (e ∷ []) in
    each_own_weaker (Below (length entries)) (Theirs (length entries) others) (Below (length (with_one entries e))) (Theirs (length (with_one entries e)) more) os
    (λ k l. omega arith) (λ k t. ((let l = t.0 in omega arith), f k t.1)) h

-- an entry that takes nothing back misses all
misses_behind : (ss : List Standing) → Each (Misses None) ss
misses_behind [] = tt
misses_behind (s ∷ ss) = (tt, misses_behind ss)

misses_all : (os : List Owned) → EachOwn (Misses None) (Misses None) os
misses_all [] = tt
misses_all (o ∷ os) = (tt, misses_behind o.behind, misses_all os)

pub one_made : (entries : List Hinted) (others : List ℕ) (ts : List Transaction) (made taken : List Owned) → Free entries others made taken →
    Free (with_entry_more entries None ts) others (record { own = next_of entries ts; behind = [] } ∷ made) []
one_made entries others ts made taken f =
    let e : Hinted = record { txs = ts; takes_back = None } in
    let sum = length-append entries (e ∷ []) in
    record {
      made_count = (newest_one entries e, push_all entries [] made e f.made_count tt (misses_all made));
      taken_count = tt;
      made_apart = (fresh (length entries) others made f.made_known, f.made_apart);
      taken_apart = tt;
      across = across_none (record { own = next_of entries ts; behind = [] } ∷ made);
      across_back = tt;
      made_known = ((omega arith), tt, known_more entries e others others made (λ k h. h) f.made_known);
      taken_known = tt;
    }

pub one_other : (entries : List Hinted) (others : List ℕ) (ts : List Transaction) (made taken : List Owned) → Free entries others made taken →
    Free (with_entry_more entries None ts) (length entries ∷ others) (settled (next_of entries ts ∷ []) made) (settled (next_of entries ts ∷ []) taken)
one_other entries others ts made taken f =
    let e : Hinted = record { txs = ts; takes_back = None } in
    let n = length entries in
    let s = next_of entries ts in
    let sum = length-append entries (e ∷ []) in
    let theirs : Theirs (length (with_one entries e)) (n ∷ others) n = ((omega arith), ap (λ b. if b then true else is_among others n) (Means-nat.itself n)) in
    let known : (os : List Owned) → EachOwn (Below n) (Theirs n others) os → EachOwn (Below (length (with_one entries e))) (Theirs (length (with_one entries e)) (n ∷ others)) (settled (s ∷ []) os) =
    λ os h. each_own-settled (Below (length (with_one entries e))) (Theirs (length (with_one entries e)) (n ∷ others)) (s ∷ []) os (theirs, tt)
    (known_more entries e others (n ∷ others) os (among_more n others) h) in
    let made_fresh = fresh n others made f.made_known in
    let taken_fresh = fresh n others taken f.taken_known in
    record {
      made_count = settle (with_one entries e) (s ∷ []) made (push_all entries [] made e f.made_count tt (misses_all made));
      taken_count = settle (with_one entries e) (s ∷ []) taken (push_all entries [] taken e f.taken_count tt (misses_all taken));
      made_apart = apart-settled (s ∷ []) made f.made_apart;
      taken_apart = apart-settled (s ∷ []) taken f.taken_apart;
      across = across-settled (s ∷ []) made (settled (s ∷ []) taken) (across_above made taken s made_fresh f.across);
      across_back = across-settled (s ∷ []) taken (settled (s ∷ []) made) (across_above taken made s taken_fresh f.across_back);
      made_known = known made f.made_known;
      taken_known = known taken f.taken_known;
    }

-- the newest one is taken back
pub record TookOne (entries : List Hinted) (others : List ℕ) (back : List Transaction) (o : Owned) (made taken : List Owned) : Type 0 where
  pub left : List Owned
  pub same : owns left ≡ owns made
  pub free : Free (with_entry_more entries (Some o.own.number) back) others left (record { own = next_of entries back; behind = [] } ∷ taken)

pub one_back : (entries : List Hinted) (others : List ℕ) (back : List Transaction) (o : Owned) (made taken : List Owned) → Free entries others (o ∷ made) taken →
    revoke_live entries o.own.number ≡ Ok back → TookOne entries others back o made taken
one_back entries others back o made taken f revoked =
    let n = length entries in
    let m = o.own.number in
    let own = own_of entries m in
    let u = under_live-ok own (live entries m) back revoked in
    let one = f.made_count.0 in
    let after = o.behind ++ [] in
    let is_after : u.standing ≡ after = ok_same u.standing after (sym u.counts ∙ one.counts) in
    let joined : join_list (all_standing after) (reversal o.own.txs) ≡ Ok (u.without, back) =
    ap (λ ss. join_list (all_standing ss) (reversal o.own.txs)) (sym is_after) ∙ ap (λ ts. join_list (all_standing u.standing) (reversal ts)) (sym one.own) ∙ u.joined in
    let rest = with_txs u.without after in
    let e : Hinted = record { txs = back; takes_back = Some m } in
    let next = next_of entries back in
    let left = settled rest made in
    let made_known = f.made_known.2 in
    let made_fresh = fresh n others made made_known in
    let taken_fresh = fresh n others taken f.taken_known in
    let behind_known : Each (Theirs n others) rest =
    each-with (Theirs n others) u.without after (each-append (Theirs n others) o.behind [] f.made_known.1 tt) in
    let behind_fresh : Each (Differs n) rest = each_weaker (Theirs n others) (Differs n) rest (λ k t e. let l = t.0 in absurd (omega (arith, e, l))) behind_known in
    let sum = length-append entries (e ∷ []) in
    record {
      left = left;
      same = owns-settled rest made;
      free = record {
        made_count = settle (with_one entries e) rest made (pop_all entries o.own after u.without back joined [] made f.made_count.1 tt f.made_apart.0);
        taken_count = (newest_one entries e, push_all entries [] taken e f.taken_count tt f.across.0);
        made_apart = apart-settled rest made f.made_apart.1;
        taken_apart = (taken_fresh, f.taken_apart);
        across = across-settled rest made (record { own = next; behind = [] } ∷ taken) (across_more made taken next made_fresh f.across.1);
        across_back = (
          each_own-settled (Differs n) (Differs n) rest made behind_fresh made_fresh,
          across_into taken (o ∷ made) left
              (λ k d. each_own-settled (Differs k) (Differs k) rest made
              (each-with (Differs k) u.without after (each-append (Differs k) o.behind [] d.1 tt)) d.2)
              f.across_back,
        );
        made_known = known_more entries e others others left (λ k h. h) (each_own-settled (Below n) (Theirs n others) rest made behind_known made_known);
        taken_known = ((omega arith), tt, known_more entries e others others taken (λ k h. h) f.taken_known);
      };
    }
  where
    ok_same : (ss more : List Standing) → ◌≡◌ {A = Result (List Standing) ℕ} (Ok ss) (Ok more) → ss ≡ more
    ok_same ss more e = cc
