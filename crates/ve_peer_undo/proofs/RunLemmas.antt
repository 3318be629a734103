-- Entries that run from a page meet what is asked, and those before one that is taken back don't
-- matter.
use Rattle.std.proofs.Common.{◌≡◌, ◌<◌, ℕ, zero, suc, List, [], ◌∷◌, ◌++◌, length, refl, sym, ap, ◌∙◌, subst, append_assoc, arith}
use Rattle.model_items.specs.declared.plain_item.PlainItem.{PlainItem}
use Rattle.model_items.specs.Law.{Lawful}
use Rattle.model_change.specs.Attributes.{AllNamesApart}
use Rattle.model_change.specs.Transaction.{Transaction, edited}
use Rattle.model_change.specs.Replay.{AllRun, entry_at, flattened, made_after, made_before, replay, reversal}
use Rattle.model_change.proofs.Fits.{gives_new_length, parts_of_Applies}
use Rattle.model_change.proofs.FilledLemmas.{names_stay_apart}
use Rattle.model_change.proofs.ReversalLaw.{reversal_undoes}
use Rattle.ve_rebase.specs.Lists.{RunOnLength}
use Rattle.ve_peer_undo.specs.Laws.{EarlierDoNotMatter, RevokesRun}

pub runs_on : (ts : List Transaction) (items : List PlainItem) → AllRun ts items → RunOnLength (length items) ts
runs_on [] items run = tt
runs_on (t ∷ ts) items run =
    ((parts_of_Applies t items run.0.applies).0, subst (λ n. RunOnLength n ts) (gives_new_length t items run.0.applies) (runs_on ts (edited t items) run.1))

-- the list before the entry is lawful with names apart, the entry runs on it, and the later ones
-- after that
record Parted (before entry later : List Transaction) (base : List PlainItem) : Type 0 where
  there : List PlainItem
  lawful : Lawful there
  apart : AllNamesApart there
  entry_runs : AllRun entry there
  later_run : AllRun later (replay entry there)

parted : (before entry later : List Transaction) (base : List PlainItem) → Lawful base → AllNamesApart base → AllRun (before ++ (entry ++ later)) base →
    Parted before entry later base
parted (t ∷ before) entry later base lawful apart run =
    let p = parted before entry later (edited t base) run.0.lawful (names_stay_apart t base run.0.applies run.0.apart apart) run.1 in
    record { there = p.there; lawful = p.lawful; apart = p.apart; entry_runs = p.entry_runs; later_run = p.later_run }
parted [] entry later base lawful apart run =
    let two = halves entry base run in
    record { there = base; lawful = lawful; apart = apart; entry_runs = two.0; later_run = two.1 }
  where
    halves : (ts : List Transaction) (items : List PlainItem) → AllRun (ts ++ later) items → AllRun ts items × AllRun later (replay ts items)
    halves [] items runs = (tt, runs)
    halves (t ∷ ts) items runs = let rest = halves ts (edited t items) runs.1 in ((runs.0, rest.0), rest.1)

three_parts : (entries : List (List Transaction)) (i : ℕ) → i < length entries →
    flattened entries ≡ made_before entries i ++ (entry_at entries i ++ made_after entries i)
three_parts [] i h = absurd (omega arith)
three_parts (entry ∷ entries) zero h = refl
three_parts (entry ∷ entries) (suc i) h =
    ap (λ ts. entry ++ ts) (three_parts entries i (omega arith))
    ∙ sym (append_assoc entry (made_before entries i) (entry_at entries i ++ made_after entries i))

pub revokes_run : RevokesRun
revokes_run entries i base inside lawful apart run =
    let entry = entry_at entries i in
    let p = parted (made_before entries i) entry (made_after entries i) base lawful apart (subst (λ ts. AllRun ts base) (three_parts entries i inside) run) in
    let back = reversal_undoes entry p.there p.lawful p.apart p.entry_runs in
    record {
      length = length (replay entry p.there);
      committed_run = runs_on (made_after entries i) (replay entry p.there) p.later_run;
      mine_run = runs_on (reversal entry) (replay entry p.there) back.runs;
    }

pub earlier_do_not_matter : EarlierDoNotMatter
earlier_do_not_matter [] i inside = absurd (omega arith)
earlier_do_not_matter (entry ∷ entries) zero inside = refl
earlier_do_not_matter (entry ∷ entries) (suc i) inside = earlier_do_not_matter entries i (omega arith)
