-- One step of looking for the body of a page.
use Rattle.std.proofs.Common.{Ok, Err, IsUtf8, IsCharBoundary, subst, add-zero, lit<}
use Rattle.std.specs.Prelude.{codes}
use Rattle.std.proofs.lemmas.List.{drop-drop}
use Rattle.std.proofs.lemmas.Str.{IsCharBoundary-start, IsCharBoundary-end, IsCharBoundary-before_ascii}
use Rattle.model_spelling.specs.declared.scan_fault.ScanFault.{ScanFault}
use Rattle.model_spelling.specs.declared.scan_fault.ScanWhat.TheVariants.{NoBody}
use Rattle.model_spelling.specs.Grammar.{Token, begins_with}
use Rattle.model_spelling.specs.Reading.{fault, start_at, tag_at}
use Rattle.model_spelling.specs.Page.{is_whole, body_at}
use Rattle.model_spelling.proofs.Found.{ok}
use Rattle.model_spelling.proofs.BodyPlace.{first_found, last_found, last_within, nothing_ends, body_prefix, after_prefix_is, tag_is_start, no_doctype, no_start, bad_start, no_end, body_between}
use Rattle.ve_html_scan.proofs.Lent.{prefix_byte, cut_after_close}
use Rattle.std.proofs.Common.{◌≡◌, ℕ, zero, suc, ◌+◌, ◌-◌, ◌<◌, ◌≤◌, true, false, cond, List, length, drop, Some, None, refl, sym, ap, ◌∙◌, arith, get_or}
use Rattle.std.proofs.lemmas.List.{drop_more, at_drop_all}
use Rattle.model_spelling.specs.Page.{starts_body, ends_body, first_place, last_place}
use Rattle.std.specs.Option.{option_or}

-- ---- upward

first_is : (at : ℕ) (t : List ℕ) → at < length t → first_place starts_body at (drop at t) ≡ cond (starts_body (drop at t)) (Some at) (first_place starts_body (at + 1) (drop (at + 1) t))
unfolding first_place
first_is at t lt = rw (drop_more t at 0 lt) refl

pub first_here : (at : ℕ) (t : List ℕ) → at < length t → starts_body (drop at t) ≡ true → first_place starts_body at (drop at t) ≡ Some at
first_here at t lt e = first_is at t lt ∙ rw e refl

pub first_later : (at : ℕ) (t : List ℕ) → at < length t → starts_body (drop at t) ≡ false → first_place starts_body at (drop at t) ≡ first_place starts_body (at + 1) (drop (at + 1) t)
first_later at t lt e = first_is at t lt ∙ rw e refl

pub first_none : (at : ℕ) (t : List ℕ) → length t ≤ at → first_place starts_body at (drop at t) ≡ None
unfolding first_place
first_none at t le = at_drop_all (first_place starts_body at) t at le

pub ruleset first_steps = (first_here, first_later, first_none)

-- ---- downward

last_is : (at : ℕ) (t : List ℕ) → at < length t → last_place ends_body at (drop at t) ≡ option_or (last_place ends_body (at + 1) (drop (at + 1) t)) (cond (ends_body (drop at t)) (Some at) None)
unfolding last_place
last_is at t lt = rw (drop_more t at 0 lt) refl

last_past : (at : ℕ) (t : List ℕ) → length t ≤ at → last_place ends_body at (drop at t) ≡ None
unfolding last_place
last_past at t le = at_drop_all (last_place ends_body at) t at le

-- no position from that byte on ends a body
abbrev pub NoneFrom : ℕ → List ℕ → Type 0
NoneFrom at t = last_place ends_body at (drop at t) ≡ None

pub none_at_end : (t : List ℕ) → NoneFrom (length t) t
none_at_end t = last_past (length t) t (omega arith)

pub none_before : (at : ℕ) (t : List ℕ) → 0 < at → at ≤ length t → ends_body (drop (at - 1) t) ≡ false → NoneFrom at t → NoneFrom (at - 1) t
none_before at t some le e none =
    let n : at - 1 + 1 ≡ at = omega arith in
    last_is (at - 1) t (omega arith) ∙ rw (ap (λ (k : ℕ). last_place ends_body k (drop k t)) n ∙ none, e) refl

here_is : (at : ℕ) (t : List ℕ) → at < length t → ends_body (drop at t) ≡ true → NoneFrom (at + 1) t → last_place ends_body at (drop at t) ≡ Some at
here_is at t lt e none = last_is at t lt ∙ rw (none, e) refl

up_to : (n from at : ℕ) (t : List ℕ) → at ≡ from + n → at < length t → last_place ends_body at (drop at t) ≡ Some at → last_place ends_body from (drop from t) ≡ Some at
up_to zero from at t e lt h = let same : at ≡ from = omega arith in ap (λ (k : ℕ). last_place ends_body k (drop k t)) (sym same) ∙ h
up_to (suc n) from at t e lt h = last_is from t (omega (arith, e)) ∙ rw (up_to n (from + 1) at t (omega (arith, e)) lt h) refl

pub last_here : (from at : ℕ) (t : List ℕ) → from < at → at ≤ length t → ends_body (drop (at - 1) t) ≡ true → NoneFrom at t → last_place ends_body from (drop from t) ≡ Some (at - 1)
last_here from at t lt le e none =
    let n : at ≡ at - 1 + 1 = omega arith in
    up_to (at - 1 - from) from (at - 1) t (omega arith) (omega arith) (here_is (at - 1) t (omega arith) e (ap (λ (k : ℕ). last_place ends_body k (drop k t)) (sym n) ∙ none))

pub last_none : (from at : ℕ) (t : List ℕ) → at ≤ from → from ≤ at → NoneFrom at t → last_place ends_body from (drop from t) ≡ None
last_none from at t le ge none = let same : from ≡ at = omega arith in ap (λ (k : ℕ). last_place ends_body k (drop k t)) same ∙ none

pub ruleset last_steps = (none_at_end, none_before, last_here, last_none)

-- ---- a page t whose bytes are b

pub tag_inside : (b : List ℕ) (tag : ℕ) → first_place starts_body 0 b ≡ Some tag → tag + 1 ≤ length b
tag_inside b tag e = let f = first_found starts_body 0 b tag e in omega (arith, f.is, f.inside)

-- what stands at the first position is a start tag
reads_start : (b : List ℕ) (tag : ℕ) → first_place starts_body 0 b ≡ Some tag → tag_at tag (drop (tag + 1) b) ≡ start_at tag (drop (tag + 1) b)
reads_start b tag e =
    let f = first_found starts_body 0 b tag e in
    let tag_is : tag ≡ f.k = omega (arith, f.is) in
    let prefix = body_prefix (drop tag b) (ap (λ (k : ℕ). starts_body (drop k b)) tag_is ∙ f.here) in
    let is = after_prefix_is b tag prefix in
    ap (tag_at tag) is ∙ tag_is_start tag prefix.c prefix.more ∙ sym (ap (start_at tag) is)

pub all_body : (t b : List ℕ) → b ≡ t → is_whole b ≡ false → body_at t ≡ Ok (0, length b)
all_body t b same e = ap body_at (sym same) ∙ no_doctype b e

pub whole_cuts : (t b : List ℕ) → b ≡ t → IsUtf8 t → IsCharBoundary t 0 × IsCharBoundary t (length b) × (0 ≤ length b)
whole_cuts t b same u = (IsCharBoundary-start t u, subst (IsCharBoundary t) (ap length (sym same)) (IsCharBoundary-end t), omega arith)

pub without_start : (t b : List ℕ) (f : ScanFault) → b ≡ t → is_whole b ≡ true → None ≡ first_place starts_body 0 b → f ≡ fault 0 NoBody → body_at t ≡ Err f
without_start t b f same whole first e = ap body_at (sym same) ∙ no_start b whole (sym first) ∙ ap (λ (x : ScanFault). Err x) (sym e)

pub start_fault : (t b : List ℕ) (tag : ℕ) (f : ScanFault) → b ≡ t → is_whole b ≡ true → Some tag ≡ first_place starts_body 0 b → start_at tag (drop (tag + 1) b) ≡ Err f → body_at t ≡ Err f
start_fault t b tag f same whole first read = ap body_at (sym same) ∙ bad_start b tag f whole (sym first) (reads_start b tag (sym first) ∙ read)

pub without_end : (t b : List ℕ) (tag from : ℕ) (token : Token) (f : ScanFault) → b ≡ t → is_whole b ≡ true → Some tag ≡ first_place starts_body 0 b → start_at tag (drop (tag + 1) b) ≡ ok (token, from)
    → None ≡ last_place ends_body from (drop from b) → f ≡ fault from NoBody → body_at t ≡ Err f
without_end t b tag from token f same whole first read last e =
    ap body_at (sym same) ∙ no_end b tag from token whole (sym first) (reads_start b tag (sym first) ∙ read) (sym last) ∙ ap (λ (x : ScanFault). Err x) (sym e)

pub between_tags : (t b : List ℕ) (tag from to : ℕ) (token : Token) → b ≡ t → is_whole b ≡ true → Some tag ≡ first_place starts_body 0 b → start_at tag (drop (tag + 1) b) ≡ ok (token, from)
    → Some to ≡ last_place ends_body from (drop from b) → body_at t ≡ ok {A = ℕ × ℕ} (from, to)
between_tags t b tag from to token same whole first read last =
    ap body_at (sym same) ∙ body_between b tag from to token whole (sym first) (reads_start b tag (sym first) ∙ read) (sym last)

pub tag_cuts : (t b : List ℕ) (from to : ℕ) → b ≡ t → IsUtf8 t → get_or b (from - 1) 0 ≡ 62 → 0 < from → from ≤ length b → Some to ≡ last_place ends_body from (drop from b)
    → IsCharBoundary t from × IsCharBoundary t to × (from ≤ to)
tag_cuts t b from to same u close some le last =
    let l = last_found ends_body from (drop from b) to nothing_ends (sym last) in
    let mark : begins_with (codes "</body>") (drop to b) ≡ true = ap (λ (k : ℕ). begins_with (codes "</body>") (drop k b)) l.is ∙ ap (begins_with (codes "</body>")) (sym (drop-drop l.k from b)) ∙ l.here in
    let byte : get_or b to 0 ≡ 60 = ap (λ (k : ℕ). get_or b k 0) (sym (add-zero to)) ∙ prefix_byte (codes "</body>") b to 0 mark (lit< tt) in
    let within = last_within b from to (sym last) in
    (cut_after_close t b from same u close some le, IsCharBoundary-before_ascii t to (omega (arith, within.1, ap length same)) (omega (arith, byte, ap (λ (x : List ℕ). get_or x to 0) same)), within.0)
