-- Escaped text is UTF-8 where the text is.
use Rattle.std.proofs.Common.{◌≡◌, ◌≢◌, ℕ, ◌+◌, ◌/◌, ◌%◌, ◌<◌, ◌≤◌, Bool, true, false, ◌&&◌, List, [], ◌∷◌, ◌++◌, refl, sym, ap, ◌∙◌, subst, arith, if◌then◌else◌, codes, inl, inr, ◌⊎◌, IsUtf8}
use Rattle.std.specs.Prelude.{◌==◌, encode_utf8_all, nat_lt}
use Rattle.std.specs.List.{list_all}
use Rattle.std.proofs.lemmas.List.{append-nil}
use Rattle.std.proofs.Math.Utf8.{encode, scalars, scalar}
use Rattle.std.proofs.lemmas.Bool.{cases_eq, ne_eqb, and_parts}
use Rattle.std.proofs.lemmas.Bool.Decides.{nat_tests}
use Rattle.std.proofs.lemmas.Str.{IsUtf8-append, IsUtf8-nil, encode_ascii}
use Rattle.model_spelling.specs.Written.{escaped_byte, escaped}
use Rattle.ve_html_write.proofs.Escaping.{prefix_byte, prefix_nbsp, byte_plain, and_false}

-- ---- the bytes of a character that has several

-- each continues a character
abbrev AllContinue : List ℕ → Type 0
AllContinue [] = Unit {0}
AllContinue (x ∷ xs) = (128 ≤ x) × (x < 192) × AllContinue xs

record Several (c : ℕ) : Type 0 where
  pub first : ℕ
  pub second : ℕ
  pub later : List ℕ
  pub is : encode c ≡ first ∷ second ∷ later
  pub begins : 192 ≤ first
  pub continues : AllContinue (second ∷ later)
  pub other : c ≢ 160 → first ≡ 194 → second ≢ 160

not_below : (c n : ℕ) → n ≤ c → nat_lt c n ≡ false
not_below c n le = grind (arith, nat_tests)

below : (c n : ℕ) → c < n → nat_lt c n ≡ true
below c n lt = grind (arith, nat_tests)

two : (c : ℕ) → 128 ≤ c → c < 2048 → encode c ≡ (192 + c / 64) ∷ (128 + c % 64) ∷ []
unfolding encode
two c l h = rw (not_below c 128 l, below c 2048 h) refl

three : (c : ℕ) → 2048 ≤ c → c < 65536 → encode c ≡ (224 + c / 4096) ∷ (128 + c / 64 % 64) ∷ (128 + c % 64) ∷ []
unfolding encode
three c l h = rw (not_below c 128 (omega arith), not_below c 2048 l, below c 65536 h) refl

four : (c : ℕ) → 65536 ≤ c → encode c ≡ (240 + c / 262144) ∷ (128 + c / 4096 % 64) ∷ (128 + c / 64 % 64) ∷ (128 + c % 64) ∷ []
unfolding encode
four c l = rw (not_below c 128 (omega arith), not_below c 2048 (omega arith), not_below c 65536 l) refl

several_two : (c : ℕ) → 128 ≤ c → c < 2048 → Several c
several_two c l h = record {
  first = 192 + c / 64;
  second = 128 + c % 64;
  later = [];
  is = two c l h;
  begins = omega arith;
  continues = (omega arith, omega arith, tt);
  other = λ n e f. n (omega (arith, e, f));
}

several_three : (c : ℕ) → 2048 ≤ c → c < 65536 → Several c
several_three c l h = record {
  first = 224 + c / 4096;
  second = 128 + c / 64 % 64;
  later = (128 + c % 64) ∷ [];
  is = three c l h;
  begins = omega arith;
  continues = (omega arith, omega arith, (omega arith, omega arith, tt));
  other = λ n e f. absurd (omega (arith, e));
}

several_four : (c : ℕ) → 65536 ≤ c → Several c
several_four c l = record {
  first = 240 + c / 262144;
  second = 128 + c / 4096 % 64;
  later = (128 + c / 64 % 64) ∷ (128 + c % 64) ∷ [];
  is = four c l;
  begins = omega arith;
  continues = (omega arith, omega arith, (omega arith, omega arith, (omega arith, omega arith, tt)));
  other = λ n e f. absurd (omega (arith, e));
}

order : (m n : ℕ) → (m < n) ⊎ (n ≤ m)
order m n = grind arith

several : (c : ℕ) → 128 ≤ c → Several c
several c high =
    elim (order c 2048) [
      | inl l ↦ several_two c high l
      | inr h ↦ elim (order c 65536) [
        | inl l ↦ several_three c h l
        | inr g ↦ several_four c g
      ]
    ]

-- ---- a character

high_plain : (v : Bool) (x : ℕ) → 128 ≤ x → escaped_byte v x ≡ x ∷ []
high_plain v x h = byte_plain v x (λ e. absurd (omega (arith, e, h))) (λ e. absurd (omega (arith, e, h))) (λ e. absurd (omega (arith, e, h))) (rw (ne_eqb x 34 (λ e. absurd (omega (arith, e, h)))) (and_false v))

continued : (v : Bool) (xs rest : List ℕ) → AllContinue xs → escaped v (xs ++ rest) ≡ xs ++ escaped v rest
continued v [] rest h = refl
continued v (x ∷ xs) rest h =
    prefix_byte v x (xs ++ rest) (rw (ne_eqb x 194 (λ e. absurd (omega (arith, e, h.1)))) refl)
    ∙ (ap (λ (l : List ℕ). l ++ escaped v (xs ++ rest)) (high_plain v x h.0) ∙ ap (λ (l : List ℕ). x ∷ l) (continued v xs rest h.2))

no_break : (x y : ℕ) → (x ≡ 194 → y ≢ 160) → (x == 194 && y == 160) ≡ false
no_break x y h =
    elim (cases_eq x 194) [
      | inl e ↦ rw (ne_eqb y 160 (h e)) (and_false (x == 194))
      | inr n ↦ rw (ne_eqb x 194 n) refl
    ]

-- a character of several bytes is written as it is, but for U+00A0
written_whole : (v : Bool) (c : ℕ) (rest : List ℕ) (s : Several c) → c ≢ 160 → escaped v (encode c ++ rest) ≡ encode c ++ escaped v rest
written_whole v c rest s n =
    let tail : List ℕ = s.second ∷ s.later in
    ap (λ (l : List ℕ). escaped v (l ++ rest)) s.is
    ∙ (prefix_byte v s.first (tail ++ rest) (no_break s.first s.second (s.other n))
    ∙ (ap (λ (l : List ℕ). l ++ escaped v (tail ++ rest)) (high_plain v s.first (omega (arith, s.begins)))
    ∙ (ap (λ (l : List ℕ). s.first ∷ l) (continued v tail rest s.continues) ∙ ap (λ (l : List ℕ). l ++ escaped v rest) (sym s.is))))

no_break_space : encode 160 ≡ 194 ∷ 160 ∷ []
unfolding encode
no_break_space = refl

ascii_utf8 : (b : ℕ) → b < 128 → IsUtf8 (b ∷ [])
ascii_utf8 b lt = (b ∷ [], (rw (below b 55296 (omega arith)) refl, ap (λ (l : List ℕ). l ++ []) (encode_ascii b lt)))

below_is : (b : ℕ) → nat_lt b 128 ≡ true → b < 128
below_is b e = grind (arith, nat_tests)

-- ASCII that is written out
pub ascii_all_utf8 : (bs : List ℕ) → list_all (λ b. nat_lt b 128) bs ≡ true → IsUtf8 bs
ascii_all_utf8 [] e = IsUtf8-nil
ascii_all_utf8 (b ∷ bs) e =
    let parts = and_parts (nat_lt b 128) (list_all (λ b. nat_lt b 128) bs) e in
    IsUtf8-append (b ∷ []) bs (ascii_utf8 b (below_is b parts.0)) (ascii_all_utf8 bs parts.1)

chosen : (c : Bool) (a b : List ℕ) → IsUtf8 a → IsUtf8 b → IsUtf8 (if c then a else b)
chosen true a b u w = u
chosen false a b u w = w

amp_utf8 : IsUtf8 (codes "&amp;")
unfolding encode
amp_utf8 = (codes "&amp;", (refl, refl))

lt_utf8 : IsUtf8 (codes "&lt;")
unfolding encode
lt_utf8 = (codes "&lt;", (refl, refl))

gt_utf8 : IsUtf8 (codes "&gt;")
unfolding encode
gt_utf8 = (codes "&gt;", (refl, refl))

quot_utf8 : IsUtf8 (codes "&quot;")
unfolding encode
quot_utf8 = (codes "&quot;", (refl, refl))

nbsp_utf8 : IsUtf8 (codes "&nbsp;")
unfolding encode
nbsp_utf8 = (codes "&nbsp;", (refl, refl))

byte_utf8 : (v : Bool) (b : ℕ) → b < 128 → IsUtf8 (escaped_byte v b)
byte_utf8 v b lt =
    chosen (b == 38) _ _ amp_utf8 (chosen (b == 60) _ _ lt_utf8 (chosen (b == 62) _ _ gt_utf8 (chosen (v && b == 34) _ _ quot_utf8 (ascii_utf8 b lt))))

-- ---- a text

small_char : (v : Bool) (c : ℕ) (rest : List ℕ) → c < 128 → IsUtf8 (escaped v rest) → IsUtf8 (escaped v (encode c ++ rest))
small_char v c rest lt u =
    let e : escaped v (encode c ++ rest) ≡ escaped_byte v c ++ escaped v rest =
    ap (λ (l : List ℕ). escaped v (l ++ rest)) (encode_ascii c lt) ∙ prefix_byte v c rest (rw (ne_eqb c 194 (λ h. absurd (omega (arith, h, lt)))) refl) in
    subst IsUtf8 (sym e) (IsUtf8-append (escaped_byte v c) (escaped v rest) (byte_utf8 v c lt) u)

large_char : (v : Bool) (c : ℕ) (rest : List ℕ) → 128 ≤ c → IsUtf8 (encode c) → IsUtf8 (escaped v rest) → IsUtf8 (escaped v (encode c ++ rest))
large_char v c rest high one u =
    elim (cases_eq c 160) [
      | inl e ↦
          let is : escaped v (encode c ++ rest) ≡ codes "&nbsp;" ++ escaped v rest =
          ap (λ (n : ℕ). escaped v (encode n ++ rest)) e ∙ (ap (λ (l : List ℕ). escaped v (l ++ rest)) no_break_space ∙ prefix_nbsp v 194 160 rest refl refl) in
          subst IsUtf8 (sym is) (IsUtf8-append (codes "&nbsp;") (escaped v rest) nbsp_utf8 u)
      | inr n ↦ subst IsUtf8 (sym (written_whole v c rest (several c high) n)) (IsUtf8-append (encode c) (escaped v rest) one u)
    ]

any_char : (v : Bool) (c : ℕ) (rest : List ℕ) → IsUtf8 (encode c) → IsUtf8 (escaped v rest) → IsUtf8 (escaped v (encode c ++ rest))
any_char v c rest one u =
    elim (order c 128) [
      | inl lt ↦ small_char v c rest lt u
      | inr high ↦ large_char v c rest high one u
    ]

char_utf8 : (c : ℕ) (cs : List ℕ) → scalars (c ∷ cs) ≡ true → IsUtf8 (encode c)
char_utf8 c cs s = (c ∷ [], (rw (and_parts (scalar c) (scalars cs) s).0 refl, append-nil (encode c)))

characters_utf8 : (v : Bool) (cs : List ℕ) → scalars cs ≡ true → IsUtf8 (escaped v (encode_utf8_all cs))
unfolding escaped
characters_utf8 v [] s = IsUtf8-nil
characters_utf8 v (c ∷ cs) s = any_char v c (encode_utf8_all cs) (char_utf8 c cs s) (characters_utf8 v cs (and_parts (scalar c) (scalars cs) s).1)

pub escaped_utf8 : (v : Bool) (bs : List ℕ) → IsUtf8 bs → IsUtf8 (escaped v bs)
escaped_utf8 v bs (cs, (s, e)) = subst (λ (l : List ℕ). IsUtf8 (escaped v l)) e (characters_utf8 v cs s)

-- ---- what is appended

pub more_utf8 : (old new piece : List ℕ) → new ≡ old ++ piece → IsUtf8 piece → IsUtf8 old → IsUtf8 new
more_utf8 old new piece e p u = subst IsUtf8 (sym e) (IsUtf8-append old piece u p)
