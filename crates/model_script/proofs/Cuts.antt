-- Cutting a script into its lines.
use Rattle.std.proofs.Common.{◌≡◌, ◌≢◌, ◌==◌, ◌⊎◌, inl, inr, ℕ, List, [], ◌∷◌, ◌++◌, refl, sym, ap, ◌∙◌, append_assoc, append-nil, ◌<◌, length, if◌then◌else◌, arith}
use Rattle.model_script.specs.Lines.{lines_of, onto_first, with_newlines, last_line, newline, IsLine, AreLines, IsCut}
use Rattle.model_script.specs.Laws.{ScriptIsItsLines}

other_byte : {A : Type 0} (b : ℕ) (x y : A) → b ≢ 10 → (if b == 10 then x else y) ≡ y
other_byte b x y h = grind arith

-- a line before more bytes
pub lines_of-line : (line bs : List ℕ) → IsLine line → lines_of (line ++ (10 ∷ bs)) ≡ line ∷ lines_of bs
lines_of-line [] bs h = refl
lines_of-line (b ∷ line) bs h = other_byte b _ _ h.0 ∙ ap (onto_first b) (lines_of-line line bs h.1)

-- whole lines before more bytes
pub lines_of-with_newlines : (lines : List (List ℕ)) (bs : List ℕ) → AreLines lines → lines_of (with_newlines lines ++ bs) ≡ lines ++ lines_of bs
lines_of-with_newlines [] bs h = refl
lines_of-with_newlines (line ∷ lines) bs h =
    ap lines_of (append_assoc line (10 ∷ with_newlines lines) bs) ∙ lines_of-line line (with_newlines lines ++ bs) h.0 ∙ ap (λ ls. line ∷ ls) (lines_of-with_newlines lines bs h.1)

rest_with : (b : ℕ) (line : List ℕ) → IsLine (b ∷ line) → lines_of (b ∷ line) ≡ (b ∷ line) ∷ []
rest_with b [] h = other_byte b _ _ h.0
rest_with b (c ∷ line) h = other_byte b _ _ h.0 ∙ ap (onto_first b) (rest_with c line h.1)

-- a rest with no newline is a line where it isn't empty
pub lines_of-rest : (rest : List ℕ) → IsLine rest → lines_of rest ≡ last_line rest
lines_of-rest [] h = refl
lines_of-rest (b ∷ rest) h = rest_with b rest h

pub last_line-some : (rest : List ℕ) → 0 < length rest → last_line rest ≡ rest ∷ []
last_line-some [] l = absurd (omega arith)
last_line-some (b ∷ rest) l = refl

pub lines_of-cut : (script : List ℕ) (whole : List (List ℕ)) (rest : List ℕ) → IsCut script whole rest → lines_of script ≡ whole ++ last_line rest
lines_of-cut script whole rest h = ap lines_of h.parts ∙ lines_of-with_newlines whole rest h.lines ∙ ap (λ ls. whole ++ ls) (lines_of-rest rest h.last)

pub with_newlines-append : (ls ms : List (List ℕ)) → with_newlines (ls ++ ms) ≡ with_newlines ls ++ with_newlines ms
with_newlines-append [] ms = refl
with_newlines-append (l ∷ ls) ms = ap (λ r. l ++ (10 ∷ r)) (with_newlines-append ls ms) ∙ sym (append_assoc l (10 ∷ with_newlines ls) (with_newlines ms))

pub AreLines-append : (ls ms : List (List ℕ)) → AreLines ls → AreLines ms → AreLines (ls ++ ms)
AreLines-append [] ms h k = k
AreLines-append (l ∷ ls) ms h k = (h.0, AreLines-append ls ms h.1 k)

pub IsLine-append : (a b : List ℕ) → IsLine a → IsLine b → IsLine (a ++ b)
IsLine-append [] b h k = k
IsLine-append (x ∷ a) b h k = (h.0, IsLine-append a b h.1 k)

-- one line more
pub IsCut-line : (script : List ℕ) (whole : List (List ℕ)) (kept end : List ℕ) → IsCut script whole kept → IsLine end
    → IsCut (script ++ (end ++ newline ∷ [])) (whole ++ (kept ++ end) ∷ []) []
IsCut-line script whole kept end h k = record {
  parts = ap (λ s. s ++ (end ++ newline ∷ [])) h.parts ∙ append_assoc (with_newlines whole) kept (end ++ newline ∷ [])
      ∙ ap (λ s. with_newlines whole ++ s) (sym (append_assoc kept end (newline ∷ []))) ∙ sym (with_newlines-append whole ((kept ++ end) ∷ [])) ∙ sym (append-nil (with_newlines (whole ++ (kept ++ end) ∷ [])));
  lines = AreLines-append whole ((kept ++ end) ∷ []) h.lines (IsLine-append kept end h.last k, tt);
  last = tt;
}

-- more bytes without a newline
pub IsCut-bytes : (script : List ℕ) (whole : List (List ℕ)) (kept more : List ℕ) → IsCut script whole kept → IsLine more → IsCut (script ++ more) whole (kept ++ more)
IsCut-bytes script whole kept more h k = record {
  parts = ap (λ s. s ++ more) h.parts ∙ append_assoc (with_newlines whole) kept more;
  lines = h.lines;
  last = IsLine-append kept more h.last k;
}

-- what follows the lines of a script, after more bytes
pub parts-more : (script : List ℕ) (whole : List (List ℕ)) (kept piece : List ℕ) (lines : List (List ℕ)) (more : List ℕ) → script ≡ with_newlines whole ++ kept → kept ++ piece ≡ with_newlines lines ++ more
    → script ++ piece ≡ with_newlines (whole ++ lines) ++ more
parts-more script whole kept piece lines more h k =
    ap (λ s. s ++ piece) h ∙ append_assoc (with_newlines whole) kept piece ∙ ap (λ s. with_newlines whole ++ s) k
    ∙ sym (append_assoc (with_newlines whole) (with_newlines lines) more) ∙ ap (λ s. s ++ more) (sym (with_newlines-append whole lines))

pub IsCut-more : (script : List ℕ) (whole : List (List ℕ)) (kept piece : List ℕ) (lines : List (List ℕ)) (rest : List ℕ) → IsCut script whole kept → IsCut (kept ++ piece) lines rest
    → IsCut (script ++ piece) (whole ++ lines) rest
IsCut-more script whole kept piece lines rest h k = record {
  parts = parts-more script whole kept piece lines rest h.parts k.parts;
  lines = AreLines-append whole lines h.lines k.lines;
  last = k.last;
}

-- b before a script that is cut
cut_before : (b : ℕ) (bs : List ℕ) (whole : List (List ℕ)) (rest : List ℕ) → b ≢ 10 → IsCut bs whole rest → (lines : List (List ℕ)) × (left : List ℕ) × IsCut (b ∷ bs) lines left
cut_before b bs [] rest other h = ([], b ∷ rest, record { parts = ap (λ s. b ∷ s) h.parts; lines = tt; last = (other, h.last) })
cut_before b bs (line ∷ lines) rest other h =
    ((b ∷ line) ∷ lines, rest, record { parts = ap (λ s. b ∷ s) h.parts; lines = ((other, h.lines.0), h.lines.1); last = h.last })

newline_or_not : (b : ℕ) → (b ≡ 10) ⊎ (b ≢ 10)
newline_or_not b = search (arith)

-- every script is cut somehow
pub cut_of : (script : List ℕ) → (whole : List (List ℕ)) × (rest : List ℕ) × IsCut script whole rest
cut_of [] = ([], [], record { parts = refl; lines = tt; last = tt })
cut_of (b ∷ bs) =
    let (whole, rest, h) = cut_of bs in
    elim (newline_or_not b) [
      | inl is ↦ ([] ∷ whole, rest, record { parts = ap (λ x. x ∷ bs) is ∙ ap (λ s. 10 ∷ s) h.parts; lines = (tt, h.lines); last = h.last })
      | inr other ↦ cut_before b bs whole rest other h
    ]

-- ---- the law

lines_from : (script : List ℕ) (lines : List (List ℕ)) → lines ≡ lines_of script → (whole : List (List ℕ)) × (rest : List ℕ) × IsCut script whole rest × (lines ≡ whole ++ last_line rest)
lines_from script lines e = let (whole, rest, h) = cut_of script in (whole, rest, h, e ∙ lines_of-cut script whole rest h)

lines_to : (script : List ℕ) (lines : List (List ℕ)) → (whole : List (List ℕ)) × (rest : List ℕ) × IsCut script whole rest × (lines ≡ whole ++ last_line rest) → lines ≡ lines_of script
lines_to script lines x = x.3 ∙ sym (lines_of-cut script x.0 x.1 x.2)

pub script_is_its_lines : ScriptIsItsLines
script_is_its_lines script lines = (lines_from script lines, lines_to script lines)
