use Rattle.std.proofs.Common.{◌≡◌, inl, inr, ◌<◌, ◌++◌, ◌∷◌, [], ℕ, List, Option, None, Some, arith, refl, ap, subst, length, length-append}
use Rattle.std.specs.Option.{IfSome}
use Rattle.ve_run.specs.declared.stop.Stop.{Stop}
use Rattle.ve_run.specs.declared.stop.Stop.TheVariants.{Memory, ReadFault, WriteFault, InputTooLong}
use Rattle.model_script.specs.Output.{Meaning}
use Rattle.model_world.specs.declared.reply.Reply.{Reply}
use Rattle.ve_base.specs.Limits.{max_script}
use Rattle.ve_run.specs.Run.{Scene, Took, Stopped, Broke, Starved, WrotePrefix}
use Rattle.ve_run.specs.declared.status.Status.{Status}
use Rattle.ve_run.specs.Ended.{EndsByLength}
use Rattle.ve_run.specs.Status.{status_of}
use Rattle.ve_run.proofs.Runs.{AppendsPrefix-answered, AppendsPrefix-broke_off, AppendsPrefix-gave_up}
use Rattle.ve_run.proofs.top.end_lines.Goals as goal

-- whatever stopped it
by_cause : (P : Type 0) (s : Stop) → (s ≡ Memory → P) → (s ≡ ReadFault → P) → (s ≡ WriteFault → P) → (s ≡ InputTooLong → P) → P
by_cause P Memory m r w l = m refl
by_cause P ReadFault m r w l = r refl
by_cause P WriteFault m r w l = w refl
by_cause P InputTooLong m r w l = l refl

prefix_at_stop : {W : Type 0} (m : Meaning W Reply) (left_before left : Option (List ℕ)) (a b : Scene W) (extra : List ℕ) → Stopped m left_before left a b extra → WrotePrefix m left_before left a b
prefix_at_stop m left_before left a b extra h = record { script = h.script; extra = extra; took = h.took; written = AppendsPrefix-answered m a b h.script h.rest h.answered }

prefix_at_fault : {W : Type 0} (m : Meaning W Reply) (left_before left : Option (List ℕ)) (a b : Scene W) → Broke m left_before left a b → WrotePrefix m left_before left a b
prefix_at_fault m left_before left a b h = record { script = h.script; extra = h.extra; took = h.took; written = AppendsPrefix-broke_off m a b h.script _ h.broke_off }

prefix_at_want : {W : Type 0} (m : Meaning W Reply) (left_before left : Option (List ℕ)) (a b : Scene W) → Starved m left_before left a b → WrotePrefix m left_before left a b
prefix_at_want m left_before left a b h = record { script = h.script; extra = h.extra; took = h.took; written = AppendsPrefix-gave_up m a b h.script h.gave_up }

pub returns-in-Err-clause-prefix : goal.returns-in-Err-clause-prefix
returns-in-Err-clause-prefix g c =
    by_cause _ c.in-Err.stop
    (λ e. prefix_at_want _ _ _ _ _ (c.run_script.ensures.starved (cc (e, c.in-Err.is))))
    (λ e. prefix_at_stop _ _ _ _ _ [] (c.run_script.ensures.read_fault (cc (e, c.in-Err.is))))
    (λ e. prefix_at_fault _ _ _ _ _ (c.run_script.ensures.write_fault (cc (e, c.in-Err.is))))
    (λ e. let (x, stopped) = c.run_script.ensures.too_long (cc (e, c.in-Err.is)) in prefix_at_stop _ _ _ _ _ (x ∷ []) stopped)

-- a byte past the limit was taken only where more than the limit were left
took_past : (s : List ℕ) (c : Option (List ℕ)) (script : List ℕ) (x : ℕ) → Took (Some s) c script (x ∷ []) → max_script < length s
took_past s None script x h = absurd h.consumed
took_past s (Some ys) script x h =
    elim h.beyond [
      | inl none ↦ cc none
      | inr past ↦ omega (arith, past.0, ap length h.consumed, length-append (script ++ x ∷ []) ys, length-append script (x ∷ []))
    ]

-- what is known of an option holds of its value
if_known : (a : Option (List ℕ)) (P : List ℕ → Type 0) → ((s : List ℕ) → a ≡ Some s → P s) → IfSome a P
if_known None P f = tt
if_known (Some s) P f = f s refl

-- where nothing failed, only a script that is too long or want of memory stops a run
ends_by_length : {W : Type 0} (m : Meaning W Reply) (left_before left : Option (List ℕ)) (a b : Scene W) (script : List ℕ) (status : Status) (stop : Stop) → status ≡ status_of stop → left_before ≡ Some script
    → (stop ≡ ReadFault → ⊥) → (stop ≡ WriteFault → ⊥) → (stop ≡ InputTooLong → (x : ℕ) × Stopped m left_before left a b (x ∷ [])) → EndsByLength script status
ends_by_length m left_before left a b script status Memory e known reads writes past = record { whole = λ _. inr e; too_long = λ _. inr e }
ends_by_length m left_before left a b script status ReadFault e known reads writes past = absurd (reads refl)
ends_by_length m left_before left a b script status WriteFault e known reads writes past = absurd (writes refl)
ends_by_length m left_before left a b script status InputTooLong e known reads writes past =
    let (x, stopped) = past refl in
    let beyond = took_past script left stopped.script x (subst (λ before. Took before left stopped.script (x ∷ [])) known stopped.took) in
    record { whole = λ short. absurd (omega (arith, short, beyond)); too_long = λ _. inl e }

pub returns-in-Err-clause-complete : goal.returns-in-Err-clause-complete
returns-in-Err-clause-complete g c no_faults =
    if_known _ _ (λ script known. ends_by_length _ _ _ _ _ script _ c.in-Err.stop c.status.ensures known
    (λ e. no_faults.0 (c.run_script.ensures.read_cause (cc (e, c.in-Err.is))))
    (λ e. no_faults.1 (c.run_script.ensures.write_cause (cc (e, c.in-Err.is))))
    (λ e. c.run_script.ensures.too_long (cc (e, c.in-Err.is))))
