-- Draws, and the line that each gives.
use Rattle.std.proofs.Common.{◌≡◌, ◌≢◌, ◌<◌, ◌≤◌, ℕ, ◌+◌, ◌*◌, ◌%◌, ◌==◌, nat_lt, Bool, true, false, if◌then◌else◌, refl, sym, ap, ◌∙◌, lt-ltb, le-ltb, eq-eqb, ne_eqb, arith}
use Rattle.std.proofs.Math.Nat.{add-mod, mod-mod}
use Rattle.ve_gen.specs.Generated.{next_state, drawn, line_of, edit_line, state_after_edit, text_line, remove_line, split_line, mark_line, undo_line}

-- a remainder that is taken of a product before a sum changes nothing
pub mod_first : (a b m : ℕ) → (a % m + b) % m ≡ (a + b) % m
mod_first a b m = add-mod (a % m) b m ∙ ap (λ x. (x + b % m) % m) (mod-mod a m) ∙ sym (add-mod a b m)

pub next_is : (s : ℕ) → (s * 6364136223846793005 % 18446744073709551616 + 1442695040888963407) % 18446744073709551616 ≡ next_state s
unfolding next_state
next_is s = mod_first (s * 6364136223846793005) 1442695040888963407 18446744073709551616

-- ---- which line

if_true : {A : Type 0} (b : Bool) (x y : A) → b ≡ true → (if b then x else y) ≡ x
if_true true x y h = refl
if_true false x y h = absurd (cc)

if_false : {A : Type 0} (b : Bool) (x y : A) → b ≡ false → (if b then x else y) ≡ y
if_false true x y h = absurd (cc)
if_false false x y h = refl

pub line_text : (choice at more : ℕ) → choice < 4 → line_of choice at more ≡ text_line at
unfolding line_of
line_text choice at more h = if_true _ _ _ (lt-ltb choice 4 h)

pub line_remove : (choice at more : ℕ) → choice ≡ 4 → line_of choice at more ≡ remove_line at (at + 1 + more)
unfolding line_of
line_remove choice at more h = if_false _ _ _ (le-ltb choice 4 (omega arith)) ∙ if_true _ _ _ (eq-eqb choice 4 h)

pub line_split : (choice at more : ℕ) → choice ≡ 5 → line_of choice at more ≡ split_line at
unfolding line_of
line_split choice at more h =
    if_false _ _ _ (le-ltb choice 4 (omega arith)) ∙ if_false _ _ _ (ne_eqb choice 4 (λ e. omega (arith, e))) ∙ if_true _ _ _ (eq-eqb choice 5 h)

pub line_mark : (choice at more : ℕ) → choice ≡ 6 → line_of choice at more ≡ mark_line at (at + 5)
unfolding line_of
line_mark choice at more h =
    if_false _ _ _ (le-ltb choice 4 (omega arith)) ∙ if_false _ _ _ (ne_eqb choice 4 (λ e. omega (arith, e)))
    ∙ if_false _ _ _ (ne_eqb choice 5 (λ e. omega (arith, e))) ∙ if_true _ _ _ (eq-eqb choice 6 h)

pub line_undo : (choice at more : ℕ) → 4 ≤ choice → choice ≢ 4 → choice ≢ 5 → choice ≢ 6 → line_of choice at more ≡ undo_line
unfolding line_of
line_undo choice at more h k l m =
    if_false _ _ _ (le-ltb choice 4 h) ∙ if_false _ _ _ (ne_eqb choice 4 k) ∙ if_false _ _ _ (ne_eqb choice 5 l) ∙ if_false _ _ _ (ne_eqb choice 6 m)

same_else : {A : Type 0} (b : Bool) (x y z : A) → b ≡ false → (if b then x else z) ≡ (if b then y else z)
same_else true x y z h = absurd (cc)
same_else false x y z h = refl

-- but for a removal it is the same line, however many items were drawn
pub line_alike : (choice at more other : ℕ) → choice ≢ 4 → line_of choice at more ≡ line_of choice at other
unfolding line_of
line_alike choice at more other h =
    let not_four : (choice == 4) ≡ false = ne_eqb choice 4 h in
    ap (λ x. if nat_lt choice 4 then text_line at else x) (same_else (choice == 4) (remove_line at (at + 1 + more)) (remove_line at (at + 1 + other)) _ not_four)

pub edit_removes : (s s1 s2 s3 : ℕ) → s1 ≡ next_state s → s2 ≡ next_state s1 → s3 ≡ next_state s2 → edit_line s ≡ line_of (drawn s1 % 8) (1 + drawn s2 % 4000) (drawn s3 % 30)
unfolding edit_line
edit_removes s s1 s2 s3 h k l = cc

pub edit_keeps : (s s1 s2 more : ℕ) → s1 ≡ next_state s → s2 ≡ next_state s1 → drawn s1 % 8 ≢ 4 → edit_line s ≡ line_of (drawn s1 % 8) (1 + drawn s2 % 4000) more
edit_keeps s s1 s2 more h k other = edit_removes s s1 s2 (next_state s2) h k refl ∙ line_alike _ _ _ more other

pub after_removal : (s s1 s2 s3 : ℕ) → s1 ≡ next_state s → s2 ≡ next_state s1 → s3 ≡ next_state s2 → drawn s1 % 8 ≡ 4 → s3 ≡ state_after_edit s
unfolding state_after_edit
after_removal s s1 s2 s3 h k l four =
    l ∙ ap next_state (k ∙ ap next_state h) ∙ sym (if_true _ _ _ (eq-eqb (drawn (next_state s) % 8) 4 (ap (λ x. drawn x % 8) (sym h) ∙ four)))

pub after_other : (s s1 s2 : ℕ) → s1 ≡ next_state s → s2 ≡ next_state s1 → drawn s1 % 8 ≢ 4 → s2 ≡ state_after_edit s
unfolding state_after_edit
after_other s s1 s2 h k other =
    k ∙ ap next_state h ∙ sym (if_false _ _ _ (ne_eqb (drawn (next_state s) % 8) 4 (λ e. other (ap (λ x. drawn x % 8) h ∙ e))))

-- ---- an edit, by what was drawn

pub line_when_removal : (s s1 s2 s3 d a m more : ℕ) → s1 ≡ next_state s → s2 ≡ next_state s1 → s3 ≡ next_state s2
    → d ≡ drawn s1 → a ≡ drawn s2 → m ≡ drawn s3 → more ≡ m % 30 → line_of (d % 8) (1 + a % 4000) more ≡ edit_line s
line_when_removal s s1 s2 s3 d a m more h k l d_is a_is m_is more_is =
    ap (λ x. line_of (x % 8) (1 + a % 4000) more) d_is ∙ ap (λ x. line_of (drawn s1 % 8) (1 + x % 4000) more) a_is
    ∙ ap (λ x. line_of (drawn s1 % 8) (1 + drawn s2 % 4000) x) (more_is ∙ ap (λ x. x % 30) m_is) ∙ sym (edit_removes s s1 s2 s3 h k l)

pub line_when_other : (s s1 s2 d a more : ℕ) → s1 ≡ next_state s → s2 ≡ next_state s1 → d ≡ drawn s1 → a ≡ drawn s2 → d % 8 ≢ 4
    → line_of (d % 8) (1 + a % 4000) more ≡ edit_line s
line_when_other s s1 s2 d a more h k d_is a_is other =
    ap (λ x. line_of (x % 8) (1 + a % 4000) more) d_is ∙ ap (λ x. line_of (drawn s1 % 8) (1 + x % 4000) more) a_is
    ∙ sym (edit_keeps s s1 s2 more h k (λ e. other (ap (λ x. x % 8) d_is ∙ e)))
