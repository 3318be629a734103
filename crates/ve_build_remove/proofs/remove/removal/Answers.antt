use Rattle.std.proofs.Common.{◌≡◌, true, false, ◌||◌, if◌then◌else◌, Ok, Err, is_ok, inr, refl, sym, ap, ◌∙◌}
use Rattle.model_items.specs.Plain.{plain_list}
use Rattle.model_edit.specs.Causes.{BadRange}
use Rattle.model_edit.specs.Brackets.{is_internal_bracket}
use Rattle.model_edit.specs.Edits.{transaction_of}
use Rattle.model_items.specs.Offsets.{is_bad_span, some_in_range, unmatched_places}
use Rattle.model_edit.specs.Remove.{removal_edits, join_at, removal}
use Rattle.ve_build_remove.proofs.remove.removal.Goals as goal

pub returns-then-is_bad_span-clause-refused : goal.returns-then-is_bad_span-clause-refused
returns-then-is_bad_span-clause-refused c =
    let values = c.args.doc.store.now in
    let all = plain_list values c.args.doc.list.now.items in
    let from = c.args.from in
    let to = c.args.to in
    let given = transaction_of all (removal_edits all from to (join_at all (unmatched_places all from to))) in
    let bad : is_bad_span all from to ≡ true = sym (c.is_bad_span.ensures.bad values) ∙ c.if-is_bad_span.true in
    inr (BadRange from to, ap (λ b. if (b || some_in_range is_internal_bracket all from to) then Err (BadRange from to) else Ok given) bad, refl)

pub returns-then-has_internal-clause-refused : goal.returns-then-has_internal-clause-refused
returns-then-has_internal-clause-refused c =
    let values = c.args.doc.store.now in
    let all = plain_list values c.args.doc.list.now.items in
    let from = c.args.from in
    let to = c.args.to in
    let given = transaction_of all (removal_edits all from to (join_at all (unmatched_places all from to))) in
    let fine : is_bad_span all from to ≡ false = sym (c.is_bad_span.ensures.bad values) ∙ c.if-is_bad_span.false in
    let held : some_in_range is_internal_bracket all from to ≡ true = sym (c.has_internal.ensures values) ∙ c.if-has_internal.true in
    inr (
      BadRange from to,
      ap (λ b. if (b || some_in_range is_internal_bracket all from to) then Err (BadRange from to) else Ok given) fine
          ∙ ap (λ b. if b then Err (BadRange from to) else Ok given) held,
      refl,
    )

pub returns-in-Ok-clause-means : goal.returns-in-Ok-clause-means
returns-in-Ok-clause-means c =
    let values = c.args.doc.store.now in
    let all = plain_list values c.args.doc.list.now.items in
    let from = c.args.from in
    let to = c.args.to in
    let given = transaction_of all (removal_edits all from to (join_at all (unmatched_places all from to))) in
    let fine : is_bad_span all from to ≡ false = sym (c.is_bad_span.ensures.bad values) ∙ c.if-is_bad_span.false in
    let free : some_in_range is_internal_bracket all from to ≡ false = sym (c.has_internal.ensures values) ∙ c.if-has_internal.false in
    ap (λ b. if (b || some_in_range is_internal_bracket all from to) then Err (BadRange from to) else Ok given) fine
    ∙ ap (λ b. if b then Err (BadRange from to) else Ok given) free
    ∙ ap Ok (sym (c.in-Ok.ensures.means values c.requires.cites))

pub returns-in-Ok-clause-cites : goal.returns-in-Ok-clause-cites
returns-in-Ok-clause-cites c = c.in-Ok.ensures.cites c.args.doc.store.now c.requires.cites

pub returns-in-Err-clause-memory : goal.returns-in-Err-clause-memory
returns-in-Err-clause-memory c = λ _.
    let values = c.args.doc.store.now in
    let all = plain_list values c.args.doc.list.now.items in
    let from = c.args.from in
    let to = c.args.to in
    let given = transaction_of all (removal_edits all from to (join_at all (unmatched_places all from to))) in
    let fine : is_bad_span all from to ≡ false = sym (c.is_bad_span.ensures.bad values) ∙ c.if-is_bad_span.false in
    let free : some_in_range is_internal_bracket all from to ≡ false = sym (c.has_internal.ensures values) ∙ c.if-has_internal.false in
    let made : removal all from to ≡ Ok given =
    ap (λ b. if (b || some_in_range is_internal_bracket all from to) then Err (BadRange from to) else Ok given) fine
    ∙ ap (λ b. if b then Err (BadRange from to) else Ok given) free in
    ap is_ok made
