-- Attributes read one by one: what was read so far, whose names are known, and one more.
use Rattle.std.proofs.Common.{◌≡◌, ◌≢◌, ℕ, suc, ◌+◌, ◌-◌, ◌<◌, ◌≤◌, Bool, true, false, cond, not, ◌&&◌, ◌||◌, eqb, List, [], ◌∷◌, ◌++◌, length, get_or, drop, take, Some, Ok, Err, refl, sym, ap, ◌∙◌, arith, append_assoc, add-zero, subst, inl, inr}
use Rattle.std.specs.Prelude.{◌==◌, IsTrue, slice_index}
use Rattle.std.proofs.lemmas.List.{drop-drop, get_or-drop, get_or_past, append-nil, drop_more, take-append-drop}
use Rattle.std.proofs.lemmas.List.Folds.{length-prefix_len, list_any-append}
use Rattle.std.proofs.Math.Seq.{drop-append_seam}
use Rattle.std.proofs.lemmas.Bool.{cases_lt}
use Rattle.std.specs.List.{prefix_len, slice_range, flat_map, list_all}
use Rattle.model_spelling.specs.Grammar.{is_barred, starts_reference, is_name_byte, is_attr_name, name_same, Attr, attr_text, has_name}
use Rattle.ve_kinds.specs.Tags.{is_one_of}
use Rattle.model_spelling.specs.declared.scan_fault.ScanFault.{ScanFault}
use Rattle.model_spelling.specs.declared.scan_fault.ScanWhat.TheVariants.{DuplicateAttribute, TooManyAttributes, BadChar, UnclosedTag}
use Rattle.model_spelling.specs.Reading.{fault, reference_fault, run_end, value_end, head_at, attr_at, attrs_at, attrs_read, attrs_from}
use Rattle.ve_html_scan.specs.Parts.{IsQuote, IsSpelled, AreSpelled}
use Rattle.model_spelling.proofs.AttrReading.{four_ways, attr_head_fault, attr_many, attr_twice, attr_value_fault, attr_whole, attrs_stop, attrs_fault, attrs_more}

-- what follows a part of the text
pub rest_after : (t xs ys : List ℕ) (at : ℕ) → drop at t ≡ xs ++ ys → drop (at + length xs) t ≡ ys
rest_after t xs ys at e = sym (drop-drop (length xs) at t) ∙ ap (drop (length xs)) e ∙ drop-append_seam xs ys

pub names_all : (name : List ℕ) → IsTrue (is_attr_name name) → list_all is_name_byte name ≡ true
names_all [] e = refl
names_all (b ∷ bs) e = e

pub value_len_is : (t : List ℕ) (name_to mark : ℕ) (n : ℕ) (a : Attr) → name_to ≡ n → mark ≡ get_or t (name_to + 1) 0 → get_or t (n + 1) 0 ≡ a.quote
    → prefix_len (λ b. not (b == a.quote)) (drop (n + 2) t) ≡ length a.value → prefix_len (λ b. not (b == mark)) (drop (name_to + 2) t) ≡ length a.value
value_len_is t name_to mark n a e m q v =
    let same : mark ≡ a.quote = m ∙ ap (λ k. get_or t (k + 1) 0) e ∙ q in
    rw (same, e) v

-- ---- the loop that reads attributes

-- what was read before the byte at, where room more may come, and the names are those of what was
-- read
pub record SoFar (names : List (List ℕ)) (t : List ℕ) (tag from at room : ℕ) : Type 0 where
  pub before : List Attr
  pub read : attrs_at room tag before at (drop at t) ≡ attrs_at 256 tag [] from (drop from t)
  pub spelled : AreSpelled before
  pub text : drop from t ≡ flat_map attr_text before ++ drop at t
  pub named : (x : List ℕ) → is_one_of names x ≡ has_name x before

pub so_far_begins : (t : List ℕ) (tag from : ℕ) → SoFar [] t tag from from 256
so_far_begins t tag from = record { before = []; read = refl; spelled = tt; text = refl; named = λ x. refl }

here : (t : List ℕ) (at : ℕ) → slice_index (drop at t) 0 ≡ get_or t at 0
here t at = get_or-drop at t 0 0 ∙ ap (λ k. get_or t k 0) (add-zero at)

past : (t : List ℕ) (at : ℕ) → drop 1 (drop at t) ≡ drop (at + 1) t
past t at = drop-drop 1 at t

-- reading stops where no space stands
pub so_far_ends : {names : List (List ℕ)} (t : List ℕ) (tag from at room : ℕ) → get_or t at 0 ≢ 32 → SoFar names t tag from at room → attrs_at 256 tag [] from (drop from t) ≡ Ok (attrs_from tag from t, at)
so_far_ends t tag from at room n s =
    let all : attrs_at 256 tag [] from (drop from t) ≡ Ok (s.before, at) = sym s.read ∙ attrs_stop room tag at s.before (drop at t) (λ e. n (sym (here t at) ∙ e)) in
    all ∙ ap (λ (attrs : List Attr). Ok (attrs, at)) (sym (ap attrs_read all))

pub so_far_ends_at_end : {names : List (List ℕ)} (t : List ℕ) (tag from at room : ℕ) → at ≡ length t → SoFar names t tag from at room → attrs_at 256 tag [] from (drop from t) ≡ Ok (attrs_from tag from t, at)
so_far_ends_at_end t tag from at room e s = so_far_ends t tag from at room (λ h. absurd (omega (arith, h, get_or_past t at 0 (omega arith)))) s

so_far_fault : {names : List (List ℕ)} (t : List ℕ) (tag from at room : ℕ) (f : ScanFault) → get_or t at 0 ≡ 32 → (s : SoFar names t tag from at room) → attr_at room tag s.before at (drop (at + 1) t) ≡ Err f → attrs_at 256 tag [] from (drop from t) ≡ Err f
so_far_fault t tag from at room f e s h = sym s.read ∙ attrs_fault room tag at s.before (drop at t) f (here t at ∙ e) (ap (attr_at room tag s.before at) (past t at) ∙ h)

pub so_far_bad_head : {names : List (List ℕ)} (t : List ℕ) (tag from at room : ℕ) (f : ScanFault) → get_or t at 0 ≡ 32 → head_at tag at (drop (at + 1) t) ≡ Err f → SoFar names t tag from at room → attrs_at 256 tag [] from (drop from t) ≡ Err f
so_far_bad_head t tag from at room f e h s = so_far_fault t tag from at room f e s (attr_head_fault room tag at s.before (drop (at + 1) t) f h)

pub so_far_many : {names : List (List ℕ)} (t : List ℕ) (tag from at n q : ℕ) → get_or t at 0 ≡ 32 → head_at tag at (drop (at + 1) t) ≡ Ok (n, q) → SoFar names t tag from at 0 → attrs_at 256 tag [] from (drop from t) ≡ Err (fault (at + 1) TooManyAttributes)
so_far_many t tag from at n q e h s = so_far_fault t tag from at 0 (fault (at + 1) TooManyAttributes) e s (attr_many tag at n q s.before (drop (at + 1) t) h)

pub so_far_twice : {names : List (List ℕ)} (t : List ℕ) (tag from at room n q : ℕ) → get_or t at 0 ≡ 32 → head_at tag at (drop (at + 1) t) ≡ Ok (n, q) → is_one_of names (take n (drop (at + 1) t)) ≡ true
    → SoFar names t tag from at (suc room) → attrs_at 256 tag [] from (drop from t) ≡ Err (fault (at + 1) DuplicateAttribute)
so_far_twice t tag from at room n q e h tells s =
    so_far_fault t tag from at (suc room) (fault (at + 1) DuplicateAttribute) e s (attr_twice room tag at n q s.before (drop (at + 1) t) h (sym (s.named (take n (drop (at + 1) t))) ∙ tells))

pub so_far_bad_value : {names : List (List ℕ)} (t : List ℕ) (tag from at room n q : ℕ) (f : ScanFault) → get_or t at 0 ≡ 32 → head_at tag at (drop (at + 1) t) ≡ Ok (n, q) → is_one_of names (take n (drop (at + 1) t)) ≡ false
    → value_end tag q (at + n + 3) (drop (at + n + 3) t) ≡ Err f
    → SoFar names t tag from at (suc room) → attrs_at 256 tag [] from (drop from t) ≡ Err f
so_far_bad_value t tag from at room n q f e h tells v s =
    let d : drop (n + 2) (drop (at + 1) t) ≡ drop (at + n + 3) t = drop-drop (n + 2) (at + 1) t ∙ ap (λ k. drop k t) (omega arith) in
    so_far_fault t tag from at (suc room) f e s (attr_value_fault room tag at n q s.before (drop (at + 1) t) f h (sym (s.named (take n (drop (at + 1) t))) ∙ tells) (ap (value_end tag q (at + n + 3)) d ∙ v))

abbrev no_quote : ℕ → List ℕ → Bool
no_quote q text = list_all (λ b. not (b == q)) text

none_taken : (q n : ℕ) (text : List ℕ) → n ≡ 0 → no_quote q (take n text) ≡ true
none_taken q n text e = rw e refl

one_more_taken : (q b n k : ℕ) (bs : List ℕ) → n ≡ suc k → eqb b q ≡ false → no_quote q (take k bs) ≡ true → no_quote q (take n (b ∷ bs)) ≡ true
one_more_taken q b n k bs e f h = rw (e, f) h

-- no quote stands in a value
pub run_passes : (f : ScanFault) (q at to : ℕ) (text : List ℕ) → run_end (Some f) q at text ≡ Ok to → (at ≤ to) × (no_quote q (take (to - at) text) ≡ true)
unfolding run_end
run_passes f q at to [] e = absurd cc
run_passes f q at to (b ∷ bs) e =
    elim (four_ways (eqb b q) (is_barred b) (eqb b 38 && not (starts_reference (b ∷ bs))) at to (fault at BadChar) (reference_fault (Some f) at (b ∷ bs)) (run_end (Some f) q (at + 1) bs) e) [
      | inl stop ↦ (omega arith, none_taken q (to - at) (b ∷ bs) (omega arith))
      | inr on ↦ let more = run_passes f q (at + 1) to bs on.3 in (omega (arith, more.0), one_more_taken q b (to - at) (to - (at + 1)) bs (omega (arith, more.0)) on.0 more.1)
    ]

-- ---- one attribute more

-- the attribute whose parts are at these positions
abbrev pub attr_here : List ℕ → ℕ → ℕ → ℕ → ℕ → Attr
attr_here t at n q to = record { name = take n (drop (at + 1) t); value = take (to - (at + n + 3)) (drop (at + n + 3) t); quote = q }

pub attr_then_one : (a : Attr) (d : List ℕ) → attr_text a ++ d ≡ 32 ∷ (a.name ++ (61 ∷ (a.quote ∷ (a.value ++ (a.quote ∷ d)))))
attr_then_one a d = simp append_assoc

parted : (t : List ℕ) (at n : ℕ) → drop at t ≡ take n (drop at t) ++ drop (at + n) t
parted t at n = sym (take-append-drop n (drop at t)) ∙ ap (λ (l : List ℕ). take n (drop at t) ++ l) (drop-drop n at t)

pub attr_stands : (t : List ℕ) (at n q to : ℕ) → get_or t at 0 ≡ 32 → get_or t (at + 1 + n) 0 ≡ 61 → get_or t (at + 1 + n + 1) 0 ≡ q → get_or t to 0 ≡ q → at + n + 3 ≤ to → to < length t
    → drop at t ≡ attr_text (attr_here t at n q to) ++ drop (to + 1) t
attr_stands t at n q to space equals mark close le lt =
    let l0 : at < length t = omega arith in
    let l1 : at + 1 + n < length t = omega arith in
    let l2 : at + 1 + n + 1 < length t = omega arith in
    let e0 : drop at t ≡ 32 ∷ drop (at + 1) t = drop_more t at 0 l0 ∙ ap (λ (b : ℕ). b ∷ drop (at + 1) t) space in
    let e1 = parted t (at + 1) n in
    let e2 : drop (at + 1 + n) t ≡ 61 ∷ drop (at + 1 + n + 1) t = drop_more t (at + 1 + n) 0 l1 ∙ ap (λ (b : ℕ). b ∷ drop (at + 1 + n + 1) t) equals in
    let e3 : drop (at + 1 + n + 1) t ≡ q ∷ drop (at + 1 + n + 1 + 1) t = drop_more t (at + 1 + n + 1) 0 l2 ∙ ap (λ (b : ℕ). b ∷ drop (at + 1 + n + 1 + 1) t) mark in
    let n3 : at + 1 + n + 1 + 1 ≡ at + n + 3 = omega arith in
    let e4 = parted t (at + n + 3) (to - (at + n + 3)) in
    let n4 : at + n + 3 + (to - (at + n + 3)) ≡ to = omega arith in
    let e5 : drop to t ≡ q ∷ drop (to + 1) t = drop_more t to 0 lt ∙ ap (λ (b : ℕ). b ∷ drop (to + 1) t) close in
    let value = take (to - (at + n + 3)) (drop (at + n + 3) t) in
    let f4 : drop (at + n + 3) t ≡ value ++ (q ∷ drop (to + 1) t) = e4 ∙ ap (λ (k : ℕ). value ++ drop k t) n4 ∙ ap (λ (l : List ℕ). value ++ l) e5 in
    let f3 : drop (at + 1 + n + 1) t ≡ q ∷ (value ++ (q ∷ drop (to + 1) t)) = e3 ∙ ap (λ (k : ℕ). q ∷ drop k t) n3 ∙ ap (λ (l : List ℕ). q ∷ l) f4 in
    let f2 : drop (at + 1 + n) t ≡ 61 ∷ (q ∷ (value ++ (q ∷ drop (to + 1) t))) = e2 ∙ ap (λ (l : List ℕ). 61 ∷ l) f3 in
    let f1 = e1 ∙ ap (λ (l : List ℕ). take n (drop (at + 1) t) ++ l) f2 in
    e0 ∙ ap (λ (l : List ℕ). 32 ∷ l) f1 ∙ sym (attr_then_one (attr_here t at n q to) (drop (to + 1) t))

prefix_by : (p : ℕ → Bool) (found : Bool) (b : ℕ) (bs : List ℕ) → p b ≡ found → list_all p (take (prefix_len p bs) bs) ≡ true → list_all p (take (cond found (1 + prefix_len p bs) 0) (b ∷ bs)) ≡ true
prefix_by p false b bs e all = refl
prefix_by p true b bs e all = let n : 1 + prefix_len p bs ≡ suc (prefix_len p bs) = omega arith in rw (n, e) all

all_in_prefix : (p : ℕ → Bool) (text : List ℕ) → list_all p (take (prefix_len p text) text) ≡ true
all_in_prefix p [] = refl
all_in_prefix p (b ∷ bs) = prefix_by p (p b) b bs refl (all_in_prefix p bs)

named_by : (name : List ℕ) → 0 < length name → list_all is_name_byte name ≡ true → IsTrue (is_attr_name name)
named_by [] lt e = absurd (omega arith)
named_by (b ∷ bs) lt e = e

names_taken : (n : ℕ) (text : List ℕ) → 0 < n → n ≡ prefix_len is_name_byte text → IsTrue (is_attr_name (take n text))
names_taken n text lt e = named_by (take n text) (omega (arith, ap length (ap (λ k. take k text) e), length-prefix_len is_name_byte text)) (rw e (all_in_prefix is_name_byte text))

attrs_pushed : (attrs : List Attr) (a : Attr) → flat_map attr_text (attrs ++ a ∷ []) ≡ flat_map attr_text attrs ++ attr_text a
attrs_pushed [] a = append-nil (attr_text a)
attrs_pushed (b ∷ attrs) a = ap (λ (l : List ℕ). attr_text b ++ l) (attrs_pushed attrs a) ∙ sym (append_assoc (attr_text b) (flat_map attr_text attrs) (attr_text a))

spelled_more : (attrs : List Attr) (a : Attr) → AreSpelled attrs → IsSpelled a → AreSpelled (attrs ++ a ∷ [])
spelled_more [] a s h = (h, tt)
spelled_more (b ∷ attrs) a s h = (s.0, spelled_more attrs a s.1 h)

-- the names more are these and the one
abbrev pub Joins : List (List ℕ) → List ℕ → List (List ℕ) → Type 0
Joins names name more = (x : List ℕ) → is_one_of more x ≡ (name_same name x || is_one_of names x)

or_swaps : (a b : Bool) → (a || b) ≡ (b || (a || false))
or_swaps true true = refl
or_swaps true false = refl
or_swaps false true = refl
or_swaps false false = refl

named_more : (names more : List (List ℕ)) (before : List Attr) (a : Attr) → Joins names a.name more → ((x : List ℕ) → is_one_of names x ≡ has_name x before) → (x : List ℕ) → is_one_of more x ≡ has_name x (before ++ a ∷ [])
named_more names more before a joins named x =
    joins x
    ∙ ap (λ (r : Bool). name_same a.name x || r) (named x)
    ∙ or_swaps (name_same a.name x) (has_name x before)
    ∙ sym (list_any-append (λ (b : Attr). name_same b.name x) before (a ∷ []))

pub so_far_more : {names more : List (List ℕ)} (t : List ℕ) (tag from at room n q to : ℕ) → get_or t at 0 ≡ 32 → head_at tag at (drop (at + 1) t) ≡ Ok (n, q) → 0 < n → n ≡ prefix_len is_name_byte (drop (at + 1) t)
    → get_or t (at + 1 + n) 0 ≡ 61 → get_or t (at + 1 + n + 1) 0 ≡ q → is_one_of names (take n (drop (at + 1) t)) ≡ false
    → value_end tag q (at + n + 3) (drop (at + n + 3) t) ≡ Ok to → get_or t to 0 ≡ q → to < length t → IsQuote q
    → Joins names (take n (drop (at + 1) t)) more → SoFar names t tag from at (suc room) → SoFar more t tag from (to + 1) room
so_far_more {names = names} {more = more} t tag from at room n q to space h some len equals mark tells v close lt quote joins s =
    let d : drop (n + 2) (drop (at + 1) t) ≡ drop (at + n + 3) t = drop-drop (n + 2) (at + 1) t ∙ ap (λ k. drop k t) (omega arith) in
    let run = run_passes (fault tag UnclosedTag) q (at + n + 3) to (drop (at + n + 3) t) v in
    let le : at + n + 3 ≤ to = run.0 in
    let a = attr_here t at n q to in
    let whole : attr_at (suc room) tag s.before at (drop (at + 1) t) ≡ Ok (a, to + 1) =
    attr_whole room tag at n q to s.before (drop (at + 1) t) h (sym (s.named (take n (drop (at + 1) t))) ∙ tells) (ap (value_end tag q (at + n + 3)) d ∙ v)
    ∙ ap (λ (l : List ℕ). Ok (record { name = take n (drop (at + 1) t); value = take (to - (at + n + 3)) l; quote = q }, to + 1)) d in
    let step = attrs_more room tag at (to + 1) s.before (drop at t) a (here t at ∙ space) (ap (attr_at (suc room) tag s.before at) (past t at) ∙ whole) in
    let rest : drop (to + 1 - at) (drop at t) ≡ drop (to + 1) t = drop-drop (to + 1 - at) at t ∙ ap (λ k. drop k t) (omega arith) in
    let stands = attr_stands t at n q to space equals mark close le lt in
    record {
      before = s.before ++ a ∷ [];
      read = sym (ap (attrs_at room tag (s.before ++ a ∷ []) (to + 1)) rest) ∙ sym step ∙ s.read;
      named = named_more names more s.before a joins s.named;
      spelled = spelled_more s.before a s.spelled (record { name = names_taken n (drop (at + 1) t) some len; quote = quote; value = run.1 });
      text = s.text ∙ ap (λ (l : List ℕ). flat_map attr_text s.before ++ l) stands ∙ sym (append_assoc (flat_map attr_text s.before) (attr_text a) (drop (to + 1) t)) ∙ ap (λ (l : List ℕ). l ++ drop (to + 1) t) (sym (attrs_pushed s.before a));
    }

-- ---- one turn of the loop, where the name ends at p and count attributes stand before

pub turn_bad_head : {names : List (List ℕ)} (t : List ℕ) (tag from at count : ℕ) (f : ScanFault) → get_or t at 0 ≡ 32 → head_at tag at (drop (at + 1) t) ≡ Err f → SoFar names t tag from at (256 - count) → attrs_at 256 tag [] from (drop from t) ≡ Err f
turn_bad_head t tag from at count f e h s = so_far_bad_head t tag from at (256 - count) f e h s

pub turn_many : {names : List (List ℕ)} (t : List ℕ) (tag from at p count q : ℕ) → get_or t at 0 ≡ 32 → head_at tag at (drop (at + 1) t) ≡ Ok (p - (at + 1), q) → count ≡ 256 → SoFar names t tag from at (256 - count)
    → attrs_at 256 tag [] from (drop from t) ≡ Err (fault (at + 1) TooManyAttributes)
turn_many {names = names} t tag from at p count q e h full s =
    let none : 256 - count ≡ 0 = omega arith in
    so_far_many t tag from at (p - (at + 1)) q e h (subst (SoFar names t tag from at) none s)

room_left : (count : ℕ) → count ≤ 256 → count ≢ 256 → 256 - count ≡ suc (256 - (count + 1))
room_left count le ne = omega arith

pub turn_twice : {names : List (List ℕ)} (t : List ℕ) (tag from at p count q : ℕ) → get_or t at 0 ≡ 32 → head_at tag at (drop (at + 1) t) ≡ Ok (p - (at + 1), q) → count ≤ 256 → count ≢ 256
    → is_one_of names (slice_range t (at + 1) p) ≡ true → SoFar names t tag from at (256 - count)
    → attrs_at 256 tag [] from (drop from t) ≡ Err (fault (at + 1) DuplicateAttribute)
turn_twice {names = names} t tag from at p count q e h le ne tells s =
    so_far_twice t tag from at (256 - (count + 1)) (p - (at + 1)) q e h tells (subst (SoFar names t tag from at) (room_left count le ne) s)

pub turn_bad_value : {names : List (List ℕ)} (t : List ℕ) (tag from at p count : ℕ) (f : ScanFault) → get_or t at 0 ≡ 32 → head_at tag at (drop (at + 1) t) ≡ Ok (p - (at + 1), get_or t (p + 1) 0) → at + 1 < p → count ≤ 256 → count ≢ 256
    → is_one_of names (slice_range t (at + 1) p) ≡ false → value_end tag (get_or t (p + 2 - 1) 0) (p + 2) (drop (p + 2) t) ≡ Err f → SoFar names t tag from at (256 - count)
    → attrs_at 256 tag [] from (drop from t) ≡ Err f
turn_bad_value {names = names} t tag from at p count f e h lt le ne tells v s =
    let place : at + (p - (at + 1)) + 3 ≡ p + 2 = omega arith in
    let mark : p + 2 - 1 ≡ p + 1 = omega arith in
    let w : value_end tag (get_or t (p + 1) 0) (at + (p - (at + 1)) + 3) (drop (at + (p - (at + 1)) + 3) t) ≡ Err f =
    ap (λ (k : ℕ). value_end tag (get_or t (p + 1) 0) k (drop k t)) place ∙ ap (λ (k : ℕ). value_end tag (get_or t k 0) (p + 2) (drop (p + 2) t)) (sym mark) ∙ v in
    so_far_bad_value t tag from at (256 - (count + 1)) (p - (at + 1)) (get_or t (p + 1) 0) f e h tells w (subst (SoFar names t tag from at) (room_left count le ne) s)

pub turn_more : {names more : List (List ℕ)} (t : List ℕ) (tag from at p count to : ℕ) → get_or t at 0 ≡ 32 → head_at tag at (drop (at + 1) t) ≡ Ok (p - (at + 1), get_or t (p + 1) 0) → at + 1 < p → p ≡ at + 1 + prefix_len is_name_byte (drop (at + 1) t) → get_or t p 0 ≡ 61
    → count ≤ 256 → count ≢ 256 → is_one_of names (slice_range t (at + 1) p) ≡ false
    → value_end tag (get_or t (p + 2 - 1) 0) (p + 2) (drop (p + 2) t) ≡ Ok to → get_or t to 0 ≡ get_or t (p + 2 - 1) 0 → to < length t → IsQuote (get_or t (p + 1) 0)
    → Joins names (slice_range t (at + 1) p) more → SoFar names t tag from at (256 - count) → SoFar more t tag from (to + 1) (256 - (count + 1))
turn_more {names = names} t tag from at p count to e h lt len equals le ne tells v close end quote joins s =
    let place : at + (p - (at + 1)) + 3 ≡ p + 2 = omega arith in
    let mark : p + 2 - 1 ≡ p + 1 = omega arith in
    let name_to : at + 1 + (p - (at + 1)) ≡ p = omega arith in
    let w : value_end tag (get_or t (p + 1) 0) (at + (p - (at + 1)) + 3) (drop (at + (p - (at + 1)) + 3) t) ≡ Ok to =
    ap (λ (k : ℕ). value_end tag (get_or t (p + 1) 0) k (drop k t)) place ∙ ap (λ (k : ℕ). value_end tag (get_or t k 0) (p + 2) (drop (p + 2) t)) (sym mark) ∙ v in
    so_far_more t tag from at (256 - (count + 1)) (p - (at + 1)) (get_or t (p + 1) 0) to e h (omega arith) (omega arith)
    (ap (λ (k : ℕ). get_or t k 0) name_to ∙ equals) (ap (λ (k : ℕ). get_or t (k + 1) 0) name_to) tells w (close ∙ ap (λ (k : ℕ). get_or t k 0) mark) end quote joins
    (subst (SoFar names t tag from at) (room_left count le ne) s)

pub first_stays : (t : List ℕ) (from at : ℕ) → from ≤ at → get_or t at 0 ≡ 32 → (from < at → get_or t from 0 < 128) → (to : ℕ) → from < to + 1 → get_or t from 0 < 128
first_stays t from at le space known to lt2 =
    elim (cases_lt from at) [
      | inl lt ↦ known lt
      | inr ge ↦ let same : from ≡ at = omega arith in omega (arith, ap (λ (k : ℕ). get_or t k 0) same)
    ]

so_far_attrs : {names : List (List ℕ)} (t : List ℕ) (tag from at room : ℕ) → get_or t at 0 ≢ 32 → (s : SoFar names t tag from at room) → attrs_from tag from t ≡ s.before
so_far_attrs t tag from at room n s =
    ap attrs_read (sym s.read ∙ attrs_stop room tag at s.before (drop at t) (λ e. n (sym (here t at) ∙ e)))

pub so_far_text : {names : List (List ℕ)} (t : List ℕ) (tag from at room : ℕ) → get_or t at 0 ≢ 32 → SoFar names t tag from at room → drop from t ≡ flat_map attr_text (attrs_from tag from t) ++ drop at t
so_far_text t tag from at room n s = s.text ∙ ap (λ (a : List Attr). flat_map attr_text a ++ drop at t) (sym (so_far_attrs t tag from at room n s))

pub so_far_text_at_end : {names : List (List ℕ)} (t : List ℕ) (tag from at room : ℕ) → at ≡ length t → SoFar names t tag from at room → drop from t ≡ flat_map attr_text (attrs_from tag from t) ++ drop at t
so_far_text_at_end t tag from at room e s = so_far_text t tag from at room (λ h. absurd (omega (arith, h, get_or_past t at 0 (omega arith)))) s

pub so_far_spelled : {names : List (List ℕ)} (t : List ℕ) (tag from at room : ℕ) → get_or t at 0 ≢ 32 → SoFar names t tag from at room → AreSpelled (attrs_from tag from t)
so_far_spelled t tag from at room n s = subst AreSpelled (sym (so_far_attrs t tag from at room n s)) s.spelled

pub so_far_spelled_at_end : {names : List (List ℕ)} (t : List ℕ) (tag from at room : ℕ) → at ≡ length t → SoFar names t tag from at room → AreSpelled (attrs_from tag from t)
so_far_spelled_at_end t tag from at room e s = so_far_spelled t tag from at room (λ h. absurd (omega (arith, h, get_or_past t at 0 (omega arith)))) s
