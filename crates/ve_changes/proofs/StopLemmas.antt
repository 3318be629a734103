-- Why a transaction isn't performed is what the line is refused for.
use Rattle.std.proofs.Common.{◌≡◌, refl, subst, Option, Some, None}
use Rattle.std.specs.Prelude.{option_map}
use Rattle.model_change.specs.Transaction.{Transaction}
use Rattle.model_edit.specs.declared.build_fault.BuildFault.{BuildFault}
use Rattle.model_edit.specs.declared.build_fault.BuildFault.TheVariants as build
use Rattle.model_edit.specs.declared.list_fault.ListFault.{ListFault}
use Rattle.model_edit.specs.declared.list_fault.ListFault.TheVariants as moved
use Rattle.model_site.specs.Causes.{EditCause, edit_fault}
use Rattle.model_site.specs.Causes as cause
use Rattle.model_site.specs.declared.edit_fault.EditFault.{EditFault}
use Rattle.model_site.specs.declared.edit_fault.EditFault.TheVariants as edit
use Rattle.model_world.specs.Edits.{unless_faulty}
use Rattle.ve_editor.specs.Refusal.{IsEditRefusal}
use Rattle.ve_changes.specs.declared.faults.ChangeStop.TheVariants as stop
use Rattle.ve_changes.specs.Stops.{IsRefused, build_stop, edit_stop, list_stop}

of_cause : (c : EditCause) (t : Transaction) → IsRefused (edit_stop (edit_fault c)) (unless_faulty (Some c) t)
of_cause (cause.BadLength has needs) t = refl
of_cause (cause.Mismatch at) t = refl
of_cause (cause.BadAttr at) t = refl
of_cause (cause.Unlawful at) t = refl
of_cause (cause.TooDeep at) t = refl
of_cause (cause.TooManyItems count) t = refl
of_cause cause.StoreFull t = refl

of_named : (c : Option EditCause) (t : Transaction) (why : EditFault) → option_map edit_fault c ≡ Some why → IsRefused (edit_stop why) (unless_faulty c t)
of_named None t why e = cc
of_named (Some c) t why e = let same : edit_fault c ≡ why = cc in subst (λ w. IsRefused (edit_stop w) (unless_faulty (Some c) t)) same (of_cause c t)

pub edit_stops : (why : EditFault) (c : Option EditCause) (t : Transaction) → IsEditRefusal c why → IsRefused (edit_stop why) (unless_faulty c t)
edit_stops (edit.BadLength has needs) c t e = of_named c t (edit.BadLength has needs) e
edit_stops (edit.Mismatch at) c t e = of_named c t (edit.Mismatch at) e
edit_stops (edit.BadAttr at) c t e = of_named c t (edit.BadAttr at) e
edit_stops (edit.Unlawful at) c t e = of_named c t (edit.Unlawful at) e
edit_stops (edit.TooDeep at) c t e = of_named c t (edit.TooDeep at) e
edit_stops (edit.TooManyItems count) c t e = of_named c t (edit.TooManyItems count) e
edit_stops edit.StoreFull c t e = of_named c t edit.StoreFull e
edit_stops edit.Memory c t e = tt

-- want of memory is told of as itself alone
pub build_memory : (X : Type 0) (fault : BuildFault) → (fault ≡ build.Memory → X) → build_stop fault ≡ stop.Memory → X
build_memory X (build.BadOffset at) h e = absurd (cc)
build_memory X (build.NoPlace at) h e = absurd (cc)
build_memory X (build.NotContent at) h e = absurd (cc)
build_memory X (build.BadDepth depth) h e = absurd (cc)
build_memory X (build.BadRange from to) h e = absurd (cc)
build_memory X build.BadMark h e = absurd (cc)
build_memory X (build.TooManyMarks at) h e = absurd (cc)
build_memory X (build.NotWrapped at) h e = absurd (cc)
build_memory X (build.NotBranch at) h e = absurd (cc)
build_memory X (build.NotOpening at) h e = absurd (cc)
build_memory X (build.BadAttr at) h e = absurd (cc)
build_memory X build.Memory h e = h refl

pub list_memory : (X : Type 0) (fault : ListFault) → (fault ≡ moved.Memory → X) → list_stop fault ≡ stop.Memory → X
list_memory X (moved.NotListItem at) h e = absurd (cc)
list_memory X (moved.NoSibling at) h e = absurd (cc)
list_memory X (moved.NotNested at) h e = absurd (cc)
list_memory X moved.Memory h e = h refl
