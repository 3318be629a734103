-- Typing, and where its caret stands.
use Rattle.std.proofs.Common.{◌≡◌, ◌==◌, ℕ, Bool, true, false, if◌then◌else◌, List, [], ◌∷◌, ◌++◌, ◌≢◌, map, Ok, refl, ap, ◌∙◌, sym, eq-eqb, eqb-true}
use Rattle.ve_base.specs.declared.value.Value.{Value}
use Rattle.model_edit.specs.declared.selection.Selection.{Selection}
use Rattle.model_site.specs.Entries.{Entry}
use Rattle.model_world.specs.declared.edit_command.EditCommand.{EditCommand}
use Rattle.model_world.specs.declared.edit_command.EditCommand.TheVariants as change
use Rattle.model_world.specs.declared.edit_command.TextMarks.TheVariants.{Left}
use Rattle.model_world.specs.Answers.{after_text, is_collapsed, lower, higher, typing}
use Rattle.model_world.specs.Edits.{batch_on}
use Rattle.model_world_law.specs.Fit.{AllWritten}
use Rattle.ve_tx.specs.declared.entry.Entry.{Entry as KeptEntry}
use Rattle.ve_tx.specs.Operation.{by_value}
use Rattle.ve_editor.specs.Page.{LinkedPage, replica_of}
use Rattle.ve_editor.specs.Trials.{IsMade}
use Rattle.ve_changes.specs.Batches.{IsBatch}
use Rattle.ve_changes.proofs.TypedCaretLemmas.{filled_text}

-- the changes of a caret, and those of a range

same_place : (s : Selection) → s.anchor ≡ s.focus → is_collapsed s ≡ true
same_place s e = eq-eqb s.anchor s.focus e

not_same : (m n : ℕ) → m ≢ n → (m == n) ≡ false
not_same m n h = cases (m == n) refl
  where
    cases : (b : Bool) → (m == n) ≡ b → b ≡ false
    cases false e = refl
    cases true e = absurd (h (eqb-true _ _ e))

pub typing_caret : (s : Selection) (text copy : List ℕ) (from : ℕ) (first all : List EditCommand) → s.anchor ≡ s.focus → from ≡ lower s → copy ≡ text → first ≡ [] →
    all ≡ first ++ change.Text from copy Left ∷ [] → all ≡ typing s text
typing_caret s text copy from first all same f t e h =
    h ∙ ap (λ l. l ++ change.Text from copy Left ∷ []) e ∙ ap (λ n. change.Text n copy Left ∷ []) f ∙ ap (λ l. change.Text (lower s) l Left ∷ []) t
    ∙ sym (ap (λ b. if b then change.Text (lower s) text Left ∷ [] else change.Remove (lower s) (higher s) ∷ change.Text (lower s) text Left ∷ []) (same_place s same))

pub typing_range : (s : Selection) (text copy : List ℕ) (from to : ℕ) (none first all : List EditCommand) → s.anchor ≢ s.focus → from ≡ lower s → to ≡ higher s → copy ≡ text → none ≡ [] →
    first ≡ none ++ change.Remove from to ∷ [] → all ≡ first ++ change.Text from copy Left ∷ [] → all ≡ typing s text
typing_range s text copy from to none first all apart f u t n e h =
    h ∙ ap (λ l. l ++ change.Text from copy Left ∷ []) (e ∙ ap (λ l. l ++ change.Remove from to ∷ []) n)
    ∙ ap (λ k. change.Remove k to ∷ change.Text k copy Left ∷ []) f ∙ ap (λ k. change.Remove (lower s) k ∷ change.Text (lower s) copy Left ∷ []) u
    ∙ ap (λ l. change.Remove (lower s) (higher s) ∷ change.Text (lower s) l Left ∷ []) t
    ∙ sym (ap (λ b. if b then change.Text (lower s) text Left ∷ [] else change.Remove (lower s) (higher s) ∷ change.Text (lower s) text Left ∷ []) (not_same s.anchor s.focus apart))

pub typing_is_written : (s : Selection) (text : List ℕ) → AllWritten (typing s text)
typing_is_written s text = by (is_collapsed s)
  where
    by : (b : Bool) → AllWritten (if b then change.Text (lower s) text Left ∷ [] else change.Remove (lower s) (higher s) ∷ change.Text (lower s) text Left ∷ [])
    by true = (tt, tt)
    by false = (tt, (tt, tt))

-- what typing made, with the caret that its entry tells
pub typed : (old new : LinkedPage) (text : List ℕ) (cs : List EditCommand) (e : KeptEntry) (caret : ℕ) → cs ≡ typing old.selection text → IsBatch old (batch_on (replica_of old) cs) new e →
    ((values : List Value) → caret ≡ after_text (map (by_value values) e.txs)) →
    IsMade (λ ts. (batch_on (replica_of old) (typing old.selection text) ≡ Ok ts) × (caret ≡ after_text ts)) old new e
typed old new text cs e caret same made h = record {
  ts = made.ts;
  asked = (ap (batch_on (replica_of old)) (sym same) ∙ made.asked, h new.store ∙ ap (λ (x : Entry). after_text x.txs) made.entry ∙ filled_text made.ts old.items);
  may = made.may;
  page = made.page;
  entry = made.entry;
  cites = made.cites;
  numbers = made.numbers;
}
