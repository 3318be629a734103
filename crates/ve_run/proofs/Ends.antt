-- How a run ends, by what its words mean.
use Rattle.std.proofs.Common.{◌≡◌, inl, inr, ◌⊎◌, ℕ, List, [], Bool, true, false, Option, None, Some, arith, refl, sym, ap, ◌∙◌, subst}
use Rattle.std.specs.Option.{IfSome}
use Rattle.std.proofs.KnownBytes.{Appends-nil, Consumes-nil}
use Rattle.ve_base.specs.Outside.{Rose}
use Rattle.model_script.specs.Output.{Meaning}
use Rattle.model_world.specs.declared.reply.Reply.{Reply}
use Rattle.ve_words.specs.Words.{Meant, Asks, Refused, HelpWanted, meaning_of}
use Rattle.ve_words.specs.declared.read.Mode.TheVariants.{Run, Make, Soak}
use Rattle.ve_run.specs.declared.status.Status.{Status}
use Rattle.ve_run.specs.declared.status.Status.TheVariants.{Done, Usage, ReadFault, WriteFault, InputTooLong, Memory, Help}
use Rattle.ve_run.specs.Asked.{asked_for, IsRun, IsSoak}
use Rattle.ve_run.specs.Ended.{Moment, Ended, EndedAs, EndsByLength, EndsByWords, TextEnded}
use Rattle.ve_run.specs.Run.{Scene, AppendsPrefix, Took, Starved, WrotePrefix}

-- ---- words

pub means : (words : List (List ℕ)) (x : Meant) → meaning_of words ≡ x → asked_for words ≡ x
unfolding asked_for
means words x h = h

pub is_run : Meant → Bool
is_run (Asks Run start edits) = true
is_run (Asks Make start edits) = false
is_run (Asks Soak start edits) = false
is_run Refused = false
is_run HelpWanted = false

pub is_soak : Meant → Bool
is_soak (Asks Run start edits) = false
is_soak (Asks Make start edits) = false
is_soak (Asks Soak start edits) = true
is_soak Refused = false
is_soak HelpWanted = false

-- words that mean something else don't ask for a run
pub no_run : (words : List (List ℕ)) (x : Meant) → asked_for words ≡ x → is_run x ≡ false → IsRun words → ⊥
unfolding is_run
no_run words x e other h = let both : true ≡ false = sym (ap is_run h.2) ∙ ap is_run e ∙ other in absurd (cc both)

pub no_soak : (words : List (List ℕ)) (x : Meant) → asked_for words ≡ x → is_soak x ≡ false → IsSoak words → ⊥
unfolding is_soak
no_soak words x e other h = let both : true ≡ false = sym (ap is_soak h.2) ∙ ap is_soak e ∙ other in absurd (cc both)

pub make_runs_not : (words : List (List ℕ)) (start edits : ℕ) → asked_for words ≡ Asks Make start edits → IsRun words → ⊥
unfolding is_run
make_runs_not words start edits e = no_run words _ e refl

pub soak_runs_not : (words : List (List ℕ)) (start edits : ℕ) → asked_for words ≡ Asks Soak start edits → IsRun words → ⊥
unfolding is_run
soak_runs_not words start edits e = no_run words _ e refl

pub refused_runs_not : (words : List (List ℕ)) → asked_for words ≡ Refused → IsRun words → ⊥
unfolding is_run
refused_runs_not words e = no_run words _ e refl

pub help_runs_not : (words : List (List ℕ)) → asked_for words ≡ HelpWanted → IsRun words → ⊥
unfolding is_run
help_runs_not words e = no_run words _ e refl

-- ---- by what they mean

pub ended_as : {W : Type 0} (m : Meaning W Reply) (words : List (List ℕ)) (before after : Moment W) (status : Status) (x : Meant) → asked_for words ≡ x → EndedAs m x before after status → Ended m words before after status
ended_as m words before after status x e h = subst (λ y. EndedAs m y before after status) (sym e) h

pub ends_by : (words : List (List ℕ)) (status : Status) (x : Meant) → asked_for words ≡ x → EndsByWords x status → EndsByWords (asked_for words) status
ends_by words status x e h = subst (λ y. EndsByWords y status) (sym e) h

pub text_completes : (so : Status) (text : List ℕ) (held_before held : Option (List ℕ)) (failed_before failed : ℕ) (status : Status) → TextEnded so text held_before held failed_before failed status
    → (Rose failed_before failed → ⊥) → (status ≡ so) ⊎ (status ≡ Memory)
text_completes so text a b f g Done h no_fault = inl h.0
text_completes so text a b f g Usage h no_fault = inl h.0
text_completes so text a b f g ReadFault h no_fault = inl h.0
text_completes so text a b f g WriteFault h no_fault = absurd (no_fault h.0)
text_completes so text a b f g InputTooLong h no_fault = inl h.0
text_completes so text a b f g Memory h no_fault = inr refl
text_completes so text a b f g Help h no_fault = inl h.0

-- ---- where there was no memory to read the words

nothing_of : (held : Option (List ℕ)) (text : List ℕ) → AppendsPrefix held held text
nothing_of held text = ([], text, refl, Appends-nil held)

nothing_took : (left : Option (List ℕ)) → Took left left [] []
nothing_took left = record { consumed = Consumes-nil left; short = omega arith; beyond = inl refl }

nothing_starved : {W : Type 0} (m : Meaning W Reply) (left : Option (List ℕ)) (x : Scene W) → Starved m left left x x
nothing_starved m left x = record {
  script = [];
  extra = [];
  took = nothing_took left;
  gave_up = record { lines = []; more = []; parts = refl; whole = tt; written = Appends-nil x.held };
}

nothing_ended : {W : Type 0} (m : Meaning W Reply) (x : Moment W) (y : Meant) → EndedAs m y x x Memory
nothing_ended m x (Asks Run start edits) = nothing_starved m x.left x.scene
nothing_ended m x (Asks Make start edits) = nothing_of x.scene.held _
nothing_ended m x (Asks Soak start edits) = record { text = nothing_of x.scene.held _; took = λ other. absurd (other refl) }
nothing_ended m x Refused = nothing_of x.scene.held _
nothing_ended m x HelpWanted = nothing_of x.scene.held _

pub unread_words : {W : Type 0} (m : Meaning W Reply) (words : List (List ℕ)) (x : Moment W) → Ended m words x x Memory
unread_words m words x = nothing_ended m x (asked_for words)

pub nothing_written : {W : Type 0} (m : Meaning W Reply) (left : Option (List ℕ)) (x : Scene W) → WrotePrefix m left left x x
nothing_written m left x = record { script = []; extra = []; took = nothing_took left; written = nothing_of x.held _ }

pub memory_ends_by_length : (left : Option (List ℕ)) → IfSome left (λ script. EndsByLength script Memory)
memory_ends_by_length None = tt
memory_ends_by_length (Some script) = record { whole = λ _. inr refl; too_long = λ _. inr refl }

memory_ends : (x : Meant) → EndsByWords x Memory
memory_ends (Asks mode start edits) = inr refl
memory_ends Refused = inr refl
memory_ends HelpWanted = inr refl

pub memory_ends_by_words : (words : List (List ℕ)) → EndsByWords (asked_for words) Memory
memory_ends_by_words words = memory_ends (asked_for words)
