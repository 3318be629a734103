-- A machine's replies, one piece of the script after another.
use Rattle.std.proofs.Common.{◌≡◌, ◌+◌, ◌≤◌, ◌<◌, inl, inr, ℕ, List, [], ◌∷◌, ◌++◌, Option, arith, refl, sym, ap, ◌∙◌, subst, append_assoc, append-nil, length}
use Rattle.std.specs.Io.KnownBytes.{Appends}
use Rattle.std.proofs.KnownBytes.{Appends-nil, Appends-trans}
use Rattle.model_script.specs.Lines.{lines_of, with_newlines, newline, IsLine, AreLines}
use Rattle.model_script.specs.Output.{Meaning, state_after, cost_of, written, output}
use Rattle.model_script.proofs.Turns.{written-append, state_follows_on, cost_follows_on}
use Rattle.model_world.specs.declared.reply.Reply.{Reply}
use Rattle.model_world.specs.Spelled.{reply_text}
use Rattle.ve_run.specs.Run.{reply_line, Scene, AppendsPrefix, Stepped, Answers, Answered, IsNextLine, BrokeOff, GaveUp}
use Rattle.model_script.proofs.Cuts.{lines_of-with_newlines, lines_of-line, lines_of-rest, lines_of-cut, last_line-some, AreLines-append, IsLine-append, IsCut-line, IsCut-bytes, IsCut-more, parts-more}

-- ---- whole lines

pub Answers-nil : {W : Type 0} (m : Meaning W Reply) (a : Scene W) → Answers m a a []
Answers-nil m a = record { state = refl; steps = omega arith; written = Appends-nil a.held }

pub Answers-one : {W : Type 0} (m : Meaning W Reply) (a b : Scene W) (line : List ℕ) → Stepped m a b line → Appends a.held b.held (reply_line (m.reply a.world line)) → Answers m a b (line ∷ [])
Answers-one m a b line h w = record {
  state = h.state;
  steps = omega (arith, h.steps);
  written = w;
}

pub Answers-trans : {W : Type 0} (m : Meaning W Reply) (a b c : Scene W) (ls ms : List (List ℕ)) → Answers m a b ls → Answers m b c ms → Answers m a c (ls ++ ms)
Answers-trans m a b c ls ms h k = record {
  state = k.state ∙ ap (λ w. state_after m w ms) h.state ∙ sym (state_follows_on _ _ m a.world ls ms);
  steps = let more = subst (λ w. c.steps ≤ b.steps + cost_of m w ms) h.state k.steps in omega (arith, h.steps, more, cost_follows_on _ _ m a.world ls ms);
  written = subst (Appends a.held c.held) (ap (λ w. written reply_text m a.world ls ++ written reply_text m w ms) h.state ∙ sym (written-append reply_text m a.world ls ms))
      (Appends-trans a.held b.held c.held (written reply_text m a.world ls) (written reply_text m b.world ms) h.written k.written);
}

-- ---- a piece of the script

-- nothing is answered yet
pub Answered-nothing : {W : Type 0} (m : Meaning W Reply) (a : Scene W) (kept : List ℕ) → IsLine kept → Answered m a a kept kept
Answered-nothing m a kept h = record { whole = []; cut = record { parts = refl; lines = tt; last = h }; answers = Answers-nil m a }

-- more bytes without a newline
pub Answered-bytes : {W : Type 0} (m : Meaning W Reply) (a b : Scene W) (script kept more : List ℕ) → Answered m a b script kept → IsLine more → Answered m a b (script ++ more) (kept ++ more)
Answered-bytes m a b script kept more h k = record { whole = h.whole; cut = IsCut-bytes script h.whole kept more h.cut k; answers = h.answers }

-- a line more, which was answered
pub Answered-line : {W : Type 0} (m : Meaning W Reply) (a b c : Scene W) (script kept end : List ℕ) → Answered m a b script kept → IsLine end
    → Stepped m b c (kept ++ end) → Appends b.held c.held (reply_line (m.reply b.world (kept ++ end))) → Answered m a c (script ++ (end ++ newline ∷ [])) []
Answered-line m a b c script kept end h k s w = record {
  whole = h.whole ++ (kept ++ end) ∷ [];
  cut = IsCut-line script h.whole kept end h.cut k;
  answers = Answers-trans m a b c h.whole ((kept ++ end) ∷ []) h.answers (Answers-one m b c (kept ++ end) s w);
}

-- one piece after another
pub Answered-more : {W : Type 0} (m : Meaning W Reply) (a b c : Scene W) (script kept piece rest : List ℕ) → Answered m a b script kept → Answered m b c (kept ++ piece) rest → Answered m a c (script ++ piece) rest
Answered-more m a b c script kept piece rest h k = record {
  whole = h.whole ++ k.whole;
  cut = IsCut-more script h.whole kept piece k.whole rest h.cut k.cut;
  answers = Answers-trans m a b c h.whole k.whole h.answers k.answers;
}

-- ---- where a write failed

-- in the reply to a line that a newline ends
pub BrokeOff-line : {W : Type 0} (m : Meaning W Reply) (a b c : Scene W) (script kept end more all : List ℕ) (P : Type 0) → Answered m a b script kept → all ≡ script ++ (end ++ newline ∷ more) → IsLine end
    → Stepped m b c (kept ++ end) → AppendsPrefix b.held c.held (reply_line (m.reply b.world (kept ++ end))) → BrokeOff m a c all P
BrokeOff-line m a b c script kept end more all P h e k s w = record {
  lines = h.whole;
  line = kept ++ end;
  more = (kept ++ end) ++ newline ∷ more;
  parts = e ∙ ap (λ x. x ++ (end ++ newline ∷ more)) h.cut.parts ∙ append_assoc (with_newlines h.whole) kept (end ++ newline ∷ more)
      ∙ ap (λ x. with_newlines h.whole ++ x) (sym (append_assoc kept end (newline ∷ more)));
  whole = h.cut.lines;
  is_line = IsLine-append kept end h.cut.last k;
  comes = inl (more, refl);
  turn = b;
  answers = h.answers;
  stepped = s;
  written = w;
}

-- in the reply to the last line, which no newline ends
pub BrokeOff-last : {W : Type 0} (m : Meaning W Reply) (a b c : Scene W) (script line : List ℕ) (P : Type 0) → Answered m a b script line → 0 < length line → P
    → Stepped m b c line → AppendsPrefix b.held c.held (reply_line (m.reply b.world line)) → BrokeOff m a c script P
BrokeOff-last m a b c script line P h some end s w = record {
  lines = h.whole;
  line = line;
  more = line;
  parts = h.cut.parts;
  whole = h.cut.lines;
  is_line = h.cut.last;
  comes = inr (end, some, refl);
  turn = b;
  answers = h.answers;
  stepped = s;
  written = w;
}

next_line : (line more : List ℕ) (P Q : Type 0) → (P → Q) → IsNextLine line more P → IsNextLine line more Q
next_line line more P Q f (inl x) = inl x
next_line line more P Q f (inr x) = inr (f x.0, x.1, x.2)

-- in a later piece
pub BrokeOff-more : {W : Type 0} (m : Meaning W Reply) (a b c : Scene W) (script kept piece : List ℕ) (P Q : Type 0) → Answered m a b script kept → BrokeOff m b c (kept ++ piece) P → (P → Q) → BrokeOff m a c (script ++ piece) Q
BrokeOff-more m a b c script kept piece P Q h k f = record {
  lines = h.whole ++ k.lines;
  line = k.line;
  more = k.more;
  parts = parts-more script h.whole kept piece k.lines k.more h.cut.parts k.parts;
  whole = AreLines-append h.whole k.lines h.cut.lines k.whole;
  is_line = k.is_line;
  comes = next_line k.line k.more P Q f k.comes;
  turn = k.turn;
  answers = Answers-trans m a b k.turn h.whole k.lines h.answers k.answers;
  stepped = k.stepped;
  written = k.written;
}

-- ---- where memory was wanting

pub GaveUp-now : {W : Type 0} (m : Meaning W Reply) (a b c : Scene W) (script kept more all : List ℕ) → Answered m a b script kept → all ≡ script ++ more → c.held ≡ b.held → GaveUp m a c all
GaveUp-now m a b c script kept more all h e same = record {
  lines = h.whole;
  more = kept ++ more;
  parts = e ∙ ap (λ x. x ++ more) h.cut.parts ∙ append_assoc (with_newlines h.whole) kept more;
  whole = h.cut.lines;
  written = subst (λ held. Appends a.held held (written reply_text m a.world h.whole)) (sym same) h.answers.written;
}

-- in a later piece
pub GaveUp-more : {W : Type 0} (m : Meaning W Reply) (a b c : Scene W) (script kept piece : List ℕ) → Answered m a b script kept → GaveUp m b c (kept ++ piece) → GaveUp m a c (script ++ piece)
GaveUp-more m a b c script kept piece h k = record {
  lines = h.whole ++ k.lines;
  more = k.more;
  parts = parts-more script h.whole kept piece k.lines k.more h.cut.parts k.parts;
  whole = AreLines-append h.whole k.lines h.cut.lines k.whole;
  written = subst (Appends a.held c.held) (ap (λ w. written reply_text m a.world h.whole ++ written reply_text m w k.lines) h.answers.state ∙ sym (written-append reply_text m a.world h.whole k.lines))
      (Appends-trans a.held b.held c.held (written reply_text m a.world h.whole) (written reply_text m b.world k.lines) h.answers.written k.written);
}

-- ---- the whole script

-- with the line that no newline ends
pub Answers-last : {W : Type 0} (m : Meaning W Reply) (a b c : Scene W) (script line : List ℕ) → Answered m a b script line → 0 < length line
    → Stepped m b c line → Appends b.held c.held (reply_line (m.reply b.world line)) → Answers m a c (lines_of script)
Answers-last m a b c script line h some s w =
    subst (Answers m a c) (ap (λ ls. h.whole ++ ls) (sym (last_line-some line some)) ∙ sym (lines_of-cut script h.whole line h.cut))
    (Answers-trans m a b c h.whole (line ∷ []) h.answers (Answers-one m b c line s w))

-- where a newline is at its end, or it is empty
pub Answers-whole : {W : Type 0} (m : Meaning W Reply) (a b : Scene W) (script : List ℕ) → Answered m a b script [] → Answers m a b (lines_of script)
Answers-whole m a b script h = subst (Answers m a b) (sym (append-nil h.whole) ∙ sym (lines_of-cut script h.whole [] h.cut)) h.answers

-- ---- a prefix of the output was written

pub AppendsPrefix-whole : (old new : Option (List ℕ)) (all : List ℕ) → Appends old new all → AppendsPrefix old new all
AppendsPrefix-whole old new all h = (all, [], sym (append-nil all), h)

-- the replies to the lines, and then what was written of those to the rest
prefix_of : {W : Type 0} (m : Meaning W Reply) (w : W) (script : List ℕ) (lines : List (List ℕ)) (more prefix suffix : List ℕ) → script ≡ with_newlines lines ++ more → AreLines lines
    → written reply_text m (state_after m w lines) (lines_of more) ≡ prefix ++ suffix → output reply_text m w script ≡ (written reply_text m w lines ++ prefix) ++ suffix
prefix_of m w script lines more prefix suffix e h k =
    ap (written reply_text m w) (ap lines_of e ∙ lines_of-with_newlines lines more h) ∙ written-append reply_text m w lines (lines_of more)
    ∙ ap (λ s. written reply_text m w lines ++ s) k ∙ sym (append_assoc (written reply_text m w lines) prefix suffix)

pub AppendsPrefix-gave_up : {W : Type 0} (m : Meaning W Reply) (a b : Scene W) (script : List ℕ) → GaveUp m a b script → AppendsPrefix a.held b.held (output reply_text m a.world script)
AppendsPrefix-gave_up m a b script h = (
  written reply_text m a.world h.lines ++ [],
  written reply_text m (state_after m a.world h.lines) (lines_of h.more),
  prefix_of m a.world script h.lines h.more [] (written reply_text m (state_after m a.world h.lines) (lines_of h.more)) h.parts h.whole refl,
  subst (Appends a.held b.held) (sym (append-nil (written reply_text m a.world h.lines))) h.written,
)

pub AppendsPrefix-answered : {W : Type 0} (m : Meaning W Reply) (a b : Scene W) (script rest : List ℕ) → Answered m a b script rest → AppendsPrefix a.held b.held (output reply_text m a.world script)
AppendsPrefix-answered m a b script rest h =
    AppendsPrefix-gave_up m a b script (record { lines = h.whole; more = rest; parts = h.cut.parts; whole = h.cut.lines; written = h.answers.written })

-- the lines of what follows begin with the next one
lines_of-next : (line more : List ℕ) (P : Type 0) → IsLine line → IsNextLine line more P → (later : List (List ℕ)) × (lines_of more ≡ line ∷ later)
lines_of-next line more P h (inl x) = (lines_of x.0, ap lines_of x.1 ∙ lines_of-line line x.0 h)
lines_of-next line more P h (inr x) = ([], ap lines_of x.2 ∙ lines_of-rest line h ∙ last_line-some line x.1)

pub AppendsPrefix-broke_off : {W : Type 0} (m : Meaning W Reply) (a b : Scene W) (script : List ℕ) (P : Type 0) → BrokeOff m a b script P → AppendsPrefix a.held b.held (output reply_text m a.world script)
AppendsPrefix-broke_off m a b script P h =
    let (later, next) = lines_of-next h.line h.more P h.is_line h.comes in
    let (prefix, suffix, reply, appended) = h.written in
    let turn = h.turn in
    let at_turn = state_after m a.world h.lines in
    let rest = written reply_text m (m.next at_turn h.line) later in (
      written reply_text m a.world h.lines ++ prefix,
      suffix ++ rest,
      prefix_of m a.world script h.lines h.more prefix (suffix ++ rest) h.parts h.whole
          (ap (written reply_text m at_turn) next ∙ sym (append_assoc (reply_text (m.reply at_turn h.line)) (newline ∷ []) rest) ∙ ap (λ w. reply_line (m.reply w h.line) ++ rest) (sym h.answers.state) ∙ ap (λ s. s ++ rest) reply ∙ append_assoc prefix suffix rest),
      Appends-trans a.held turn.held b.held (written reply_text m a.world h.lines) prefix h.answers.written appended,
    )
