-- Reading one attribute more.
use Rattle.std.proofs.Common.{◌≡◌, ◌≢◌, ℕ, zero, suc, ◌+◌, ◌-◌, Bool, true, false, cond, ◌&&◌, List, [], ◌∷◌, ◌++◌, length, drop, take, Result, Ok, Err, refl, ◌∙◌, arith, eq-eqb, inl, inr, ◌⊎◌}
use Rattle.std.specs.Prelude.{slice_index}
use Rattle.std.proofs.lemmas.Bool.{ne_eqb}
use Rattle.std.specs.List.{prefix_len, list_all}
use Rattle.model_spelling.specs.Grammar.{Attr, has_name}
use Rattle.model_spelling.specs.Reading.{◌>>=◌, fault, value_end, head_at, judged, attr_at, attrs_at}
use Rattle.model_spelling.specs.declared.scan_fault.ScanFault.{ScanFault}
use Rattle.model_spelling.specs.declared.scan_fault.ScanWhat.TheVariants.{DuplicateAttribute, TooManyAttributes}

pub and_left : (a b : Bool) → (a && b) ≡ true → a ≡ true
and_left true b e = refl
and_left false b e = e

pub and_right : (a b : Bool) → (a && b) ≡ true → b ≡ true
and_right true b e = e
and_right false b e = absurd cc

-- the test is passed up to y
pub prefix_all : (p : ℕ → Bool) (xs ys : List ℕ) (y : ℕ) → list_all p xs ≡ true → p y ≡ false → prefix_len p (xs ++ y ∷ ys) ≡ length xs
prefix_all p [] ys y all fails = rw fails refl
prefix_all p (x ∷ xs) ys y all fails =
    rw (and_left (p x) (list_all p xs) all) (omega (arith, prefix_all p xs ys y (and_right (p x) (list_all p xs) all) fails))

-- one of four ways
pub four_ways : (s r a : Bool) (at to : ℕ) (f g : ScanFault) (rest : Result ℕ ScanFault) → cond s (Ok at) (cond r (Err f) (cond a (Err g) rest)) ≡ Ok to
    → ((s ≡ true) × (at ≡ to)) ⊎ ((s ≡ false) × (r ≡ false) × (a ≡ false) × (rest ≡ Ok to))
four_ways true r a at to f g rest e = inl (refl, cc)
four_ways false true a at to f g rest e = absurd cc
four_ways false false true at to f g rest e = absurd cc
four_ways false false false at to f g rest e = inr (refl, refl, refl, e)

pub attr_is : (room tag place n q : ℕ) (before : List Attr) (text : List ℕ) → head_at tag place text ≡ Ok (n, q)
    → attr_at room tag before place text ≡ (judged room (place + 1) before (take n text) >>= λ _. value_end tag q (place + n + 3) (drop (n + 2) text) >>= λ to. Ok (record { name = take n text; value = take (to - (place + n + 3)) (drop (n + 2) text); quote = q }, to + 1))
unfolding attr_at
attr_is room tag place n q before text h = rw h refl

pub attr_head_fault : (room tag place : ℕ) (before : List Attr) (text : List ℕ) (f : ScanFault) → head_at tag place text ≡ Err f → attr_at room tag before place text ≡ Err f
unfolding attr_at
attr_head_fault room tag place before text f h = rw h refl

pub attr_many : (tag place n q : ℕ) (before : List Attr) (text : List ℕ) → head_at tag place text ≡ Ok (n, q) → attr_at 0 tag before place text ≡ Err (fault (place + 1) TooManyAttributes)
attr_many tag place n q before text h = attr_is 0 tag place n q before text h

pub attr_twice : (room tag place n q : ℕ) (before : List Attr) (text : List ℕ) → head_at tag place text ≡ Ok (n, q) → has_name (take n text) before ≡ true
    → attr_at (suc room) tag before place text ≡ Err (fault (place + 1) DuplicateAttribute)
attr_twice room tag place n q before text h d = attr_is (suc room) tag place n q before text h ∙ rw d refl

pub attr_value_fault : (room tag place n q : ℕ) (before : List Attr) (text : List ℕ) (f : ScanFault) → head_at tag place text ≡ Ok (n, q) → has_name (take n text) before ≡ false
    → value_end tag q (place + n + 3) (drop (n + 2) text) ≡ Err f → attr_at (suc room) tag before place text ≡ Err f
attr_value_fault room tag place n q before text f h d v = attr_is (suc room) tag place n q before text h ∙ rw (d, v) refl

pub attr_whole : (room tag place n q to : ℕ) (before : List Attr) (text : List ℕ) → head_at tag place text ≡ Ok (n, q) → has_name (take n text) before ≡ false
    → value_end tag q (place + n + 3) (drop (n + 2) text) ≡ Ok to
    → attr_at (suc room) tag before place text ≡ Ok (record { name = take n text; value = take (to - (place + n + 3)) (drop (n + 2) text); quote = q }, to + 1)
attr_whole room tag place n q to before text h d v = attr_is (suc room) tag place n q before text h ∙ rw (d, v) refl

pub attrs_stop : (room tag at : ℕ) (before : List Attr) (text : List ℕ) → slice_index text 0 ≢ 32 → attrs_at room tag before at text ≡ Ok (before, at)
unfolding attrs_at
attrs_stop zero tag at before text n = rw (ne_eqb _ _ n) refl
attrs_stop (suc room) tag at before text n = rw (ne_eqb _ _ n) refl

pub attrs_fault : (room tag at : ℕ) (before : List Attr) (text : List ℕ) (f : ScanFault) → slice_index text 0 ≡ 32 → attr_at room tag before at (drop 1 text) ≡ Err f → attrs_at room tag before at text ≡ Err f
unfolding attrs_at
attrs_fault zero tag at before text f s h = rw (eq-eqb _ _ s, h) refl
attrs_fault (suc room) tag at before text f s h = rw (eq-eqb _ _ s, h) refl

pub attrs_more : (room tag at to : ℕ) (before : List Attr) (text : List ℕ) (a : Attr) → slice_index text 0 ≡ 32 → attr_at (suc room) tag before at (drop 1 text) ≡ Ok (a, to)
    → attrs_at (suc room) tag before at text ≡ attrs_at room tag (before ++ a ∷ []) to (drop (to - at) text)
unfolding attrs_at
attrs_more room tag at to before text a s h = rw (eq-eqb _ _ s, h) refl
