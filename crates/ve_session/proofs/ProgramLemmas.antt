-- A run of a new world, taken over to the plain machine of the definitions.
use Rattle.std.proofs.Common.{◌≡◌, ◌≤◌, ◌+◌, ℕ, List, [], ◌∷◌, Option, Some, None, map, refl, ap, subst, ◌∙◌}
use Rattle.std.specs.Option.{IfSome}
use Rattle.std.specs.Io.KnownBytes.{Appends}
use Rattle.model_script.specs.Lines.{lines_of, with_newlines}
use Rattle.model_script.specs.Output.{output, replies, state_after, cost_of, written}
use Rattle.model_world.specs.Spelled.{reply_text}
use Rattle.model_world.specs.World.{World, Closed, output_of, reply}
use Rattle.model_world.specs.Cost.{cost}
use Rattle.ve_gen.specs.Generated.{script_lines}
use Rattle.ve_words.specs.Words.{Meant, Asks, Refused, HelpWanted}
use Rattle.ve_words.specs.declared.read.Mode.TheVariants as mode
use Rattle.ve_run.specs.declared.status.Status.{Status}
use Rattle.ve_run.specs.declared.status.Status.TheVariants.{Done, Usage, ReadFault, WriteFault, InputTooLong, Memory, Help}
use Rattle.ve_run.specs.Asked.{asked_for}
use Rattle.ve_run.specs.Ended.{moment, Moment, Ended, EndedAs, LinesEnded, SoakEnded, WroteText}
use Rattle.ve_run.specs.Run.{Scene, scene, reply_line, Answers, Answered, Stepped, BrokeOff, GaveUp, Ran, Stopped, Broke, Starved, WrotePrefix, AppendsPrefix}
use Rattle.ve_run.specs.Soak.{soak_text, summed_up, TookLines}
use Rattle.ve_session.specs.Program.{counting_meaning, EndedNew, Seen, WrotePrefixNew, with_world}
use Rattle.ve_session.specs.States.{after, closed_state, meaning, State}
use Rattle.ve_session.proofs.PlainLemmas.{writes_as_defined}

-- ---- lines

states_are : (s : State) (lines : List (List ℕ)) → (state_after meaning s lines).world ≡ state_after counting_meaning s.world lines
states_are s [] = refl
states_are s (line ∷ lines) = states_are (after s line) lines

costs_are : (s : State) (lines : List (List ℕ)) → cost_of meaning s lines ≡ cost_of counting_meaning s.world lines
costs_are s [] = refl
costs_are s (line ∷ lines) = ap (λ n. cost s.world line + n) (costs_are (after s line) lines)

replies_are : (s : State) (lines : List (List ℕ)) → replies meaning s lines ≡ replies counting_meaning s.world lines
replies_are s [] = refl
replies_are s (line ∷ lines) = ap (λ rs. (reply s.world line).0 ∷ rs) (replies_are (after s line) lines)

written_are : (s : State) (lines : List (List ℕ)) → written reply_text meaning s lines ≡ written reply_text counting_meaning s.world lines
written_are s lines = ap (λ rs. with_newlines (map reply_text rs)) (replies_are s lines)

-- ---- runs

plain : Scene State → Scene World
plain x = scene x.world.world x.steps x.held

answers_to : (a b : Scene State) (lines : List (List ℕ)) → Answers meaning a b lines → Answers counting_meaning (plain a) (plain b) lines
unfolding plain
answers_to a b lines h = record {
  state = ap (λ s. s.world) h.state ∙ states_are a.world lines;
  steps = subst (λ n. b.steps ≤ a.steps + n) (costs_are a.world lines) h.steps;
  written = subst (λ bs. Appends a.held b.held bs) (written_are a.world lines) h.written;
}

answered_to : (a b : Scene State) (script rest : List ℕ) → Answered meaning a b script rest → Answered counting_meaning (plain a) (plain b) script rest
answered_to a b script rest h = record { whole = h.whole; cut = h.cut; answers = answers_to a b h.whole h.answers }

stepped_to : (a b : Scene State) (line : List ℕ) → Stepped meaning a b line → Stepped counting_meaning (plain a) (plain b) line
unfolding plain
stepped_to a b line h = record { state = ap (λ s. s.world) h.state; steps = h.steps }

broke_off_to : (a b : Scene State) (script : List ℕ) (is_end : Type 0) → BrokeOff meaning a b script is_end → BrokeOff counting_meaning (plain a) (plain b) script is_end
unfolding plain
broke_off_to a b script is_end h = record {
  lines = h.lines;
  line = h.line;
  more = h.more;
  parts = h.parts;
  whole = h.whole;
  is_line = h.is_line;
  comes = h.comes;
  turn = plain h.turn;
  answers = answers_to a h.turn h.lines h.answers;
  stepped = stepped_to h.turn b h.line h.stepped;
  written = h.written;
}

gave_up_to : (a b : Scene State) (script : List ℕ) → GaveUp meaning a b script → GaveUp counting_meaning (plain a) (plain b) script
unfolding plain
gave_up_to a b script h = record {
  lines = h.lines;
  more = h.more;
  parts = h.parts;
  whole = h.whole;
  written = subst (λ bs. Appends a.held b.held bs) (written_are a.world h.lines) h.written;
}

ran_to : (left_before left : Option (List ℕ)) (a b : Scene State) → Ran meaning left_before left a b → Ran counting_meaning left_before left (plain a) (plain b)
ran_to left_before left a b h = record { script = h.script; took = h.took; end = h.end; answers = answers_to a b (lines_of h.script) h.answers }

stopped_to : (left_before left : Option (List ℕ)) (a b : Scene State) (extra : List ℕ) → Stopped meaning left_before left a b extra → Stopped counting_meaning left_before left (plain a) (plain b) extra
stopped_to left_before left a b extra h = record { script = h.script; took = h.took; rest = h.rest; answered = answered_to a b h.script h.rest h.answered }

broke_to : (left_before left : Option (List ℕ)) (a b : Scene State) → Broke meaning left_before left a b → Broke counting_meaning left_before left (plain a) (plain b)
broke_to left_before left a b h = record { script = h.script; extra = h.extra; took = h.took; broke_off = broke_off_to a b h.script _ h.broke_off }

starved_to : (left_before left : Option (List ℕ)) (a b : Scene State) → Starved meaning left_before left a b → Starved counting_meaning left_before left (plain a) (plain b)
starved_to left_before left a b h = record { script = h.script; extra = h.extra; took = h.took; gave_up = gave_up_to a b h.script h.gave_up }

with_state : State → Seen → Moment State
with_state s x = moment (scene s x.steps x.held) x.left x.reads_failed x.writes_failed

lines_ended_to : (a b : State) (x y : Seen) (status : Status) → LinesEnded meaning (with_state a x) (with_state b y) status
    → LinesEnded counting_meaning (with_world a.world x) (with_world b.world y) status
unfolding with_state plain
lines_ended_to a b x y Done h = ran_to _ _ _ _ h
lines_ended_to a b x y ReadFault h = (h.0, stopped_to _ _ _ _ _ h.1)
lines_ended_to a b x y InputTooLong h = (h.0, stopped_to _ _ _ _ _ h.1)
lines_ended_to a b x y WriteFault h = (h.0, broke_to _ _ _ _ h.1)
lines_ended_to a b x y Memory h = starved_to _ _ _ _ h
lines_ended_to a b x y Usage h = h
lines_ended_to a b x y Help h = h

-- ---- the lines of a generated script

soak_texts_are : (s : State) (lines : List (List ℕ)) → soak_text meaning s lines ≡ soak_text counting_meaning s.world lines
soak_texts_are s lines = ap (λ rs. summed_up (map reply_line rs)) (replies_are s lines)

took_to : (a b : State) (j k : ℕ) (lines : List (List ℕ)) → TookLines meaning a b j k lines → TookLines counting_meaning a.world b.world j k lines
took_to a b j k lines h = record {
  state = ap (λ s. s.world) h.state ∙ states_are a lines;
  cost = subst (λ n. k ≤ j + n) (costs_are a lines) h.cost;
}

soak_ended_to : (a b : State) (x y : Seen) (lines : List (List ℕ)) (status : Status) → SoakEnded meaning lines (with_state a x) (with_state b y) status
    → SoakEnded counting_meaning lines (with_world a.world x) (with_world b.world y) status
unfolding with_state
soak_ended_to a b x y lines status h = record {
  text = subst (λ text. WroteText Done text (with_world a.world x) (with_world b.world y) status) (soak_texts_are a lines) h.text;
  took = λ some. took_to a b x.steps y.steps lines (h.took some);
}

-- ---- in each mode

ended_to : (asked : Meant) (a b : State) (x y : Seen) (status : Status) → EndedAs meaning asked (with_state a x) (with_state b y) status
    → EndedAs counting_meaning asked (with_world a.world x) (with_world b.world y) status
unfolding with_state
ended_to (Asks mode.Run start edits) a b x y status h = lines_ended_to a b x y status h
ended_to (Asks mode.Make start edits) a b x y status h = h
ended_to (Asks mode.Soak start edits) a b x y status h = soak_ended_to a b x y (script_lines start edits) status h
ended_to Refused a b x y status h = h
ended_to HelpWanted a b x y status h = h

-- ---- so the run of a new world

pub ended_new : (words : List (List ℕ)) (s t : State) (before after : Seen) (status : Status) → s ≡ closed_state
    → Ended meaning words (moment (scene s before.steps before.held) before.left before.reads_failed before.writes_failed)
    (moment (scene t after.steps after.held) after.left after.reads_failed after.writes_failed) status → EndedNew words before after status
unfolding with_state
ended_new words s t before after status new h =
    record { world = t.world; ended = subst (λ (x : State). Ended counting_meaning words (with_world x.world before) (with_world t.world after) status) new (ended_to (asked_for words) s t before after status h) }

pub prefix_new : (s t : State) (before after : Seen) → s ≡ closed_state
    → WrotePrefix meaning before.left after.left (scene s before.steps before.held) (scene t after.steps after.held) → WrotePrefixNew before after
prefix_new s t before after new h = record {
  script = h.script;
  extra = h.extra;
  took = h.took;
  written = subst (λ bs. AppendsPrefix before.held after.held bs) (writes_as_defined s h.script ∙ ap (λ (x : State). output_of x.world h.script) new) h.written;
}

pub headline_new : (s t : State) (left_before left held_before held : Option (List ℕ)) → s ≡ closed_state
    → IfSome left_before (λ script. Appends held_before held (output reply_text meaning s script) × (left ≡ Some []) × (t ≡ state_after meaning s (lines_of script)))
    → IfSome left_before (λ script. Appends held_before held (output_of Closed script) × (left ≡ Some []))
headline_new s t None left held_before held new h = tt
headline_new s t (Some script) left held_before held new h =
    (subst (λ bs. Appends held_before held bs) (writes_as_defined s script ∙ ap (λ (x : State). output_of x.world script) new) h.0, h.1)
