-- The law reads kinds alone, and no values.
use Rattle.std.proofs.Common.{◌≡◌, suc, List, [], ◌∷◌, length, refl, ap, ◌∙◌}
use Rattle.ve_base.specs.declared.value.Value.{Value}
use Rattle.model_items.specs.declared.item.Item.{Item}
use Rattle.model_items.specs.declared.item.Item.TheVariants as item
use Rattle.model_items.specs.Plain.{plain, plain_list}
use Rattle.model_items.specs.Law.{State, start, step, outcome_then, after, verdict_at, LawReadsNoValues, VerdictReadsNoValues}

step_reads_no_values : (values others : List Value) (x : Item) (s : State) → step s (plain values x) ≡ step s (plain others x)
step_reads_no_values values others (item.Char ch marks) s = refl
step_reads_no_values values others (item.Opening kind generated head marks pre origin) s = refl
step_reads_no_values values others (item.Closing kind pre) s = refl

pub law_reads_no_values : LawReadsNoValues
law_reads_no_values values others [] s = refl
law_reads_no_values values others (x ∷ items) s =
    ap (λ r. outcome_then 1 r (λ next. after next (plain_list values items))) (step_reads_no_values values others x s)
    ∙ ap (outcome_then 1 (step s (plain others x))) (λ i next. law_reads_no_values values others items next i)

same_length : (values others : List Value) (items : List Item) → length (plain_list values items) ≡ length (plain_list others items)
same_length values others [] = refl
same_length values others (x ∷ items) = ap suc (same_length values others items)

pub verdict_reads_no_values : VerdictReadsNoValues
verdict_reads_no_values values others items =
    ap (λ n. verdict_at n (after start (plain_list values items))) (same_length values others items)
    ∙ ap (verdict_at (length (plain_list others items))) (law_reads_no_values values others items start)
