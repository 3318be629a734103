-- What may be performed: a change that is allowed, and the changes of a batch in turn.
use Rattle.std.proofs.Common.{◌≡◌, ℕ, suc, Bool, true, false, List, [], ◌∷◌, Option, Some, None, Result, Ok, Err, if◌then◌else◌, refl, ap, subst}
use Rattle.std.specs.List.{AllByRecursion}
use Rattle.model_items.specs.declared.plain_item.PlainItem.{PlainItem}
use Rattle.ve_base.specs.declared.attrs.Attr.{Attr}
use Rattle.model_change.specs.Transaction.{Transaction, edited}
use Rattle.model_change.proofs.FilledLemmas.{names_stay_apart}
use Rattle.model_edit.specs.declared.selection.Selection.{Selection}
use Rattle.model_site.specs.Causes.{EditCause}
use Rattle.model_site.specs.Replica.{Replica, performed}
use Rattle.model_site.specs.Refused.{edit_cause}
use Rattle.model_site_law.specs.Sound.{Sound, MayRun, AllMayRun}
use Rattle.model_site_law.proofs.EditLemmas.{edit_may_run}
use Rattle.model_world.specs.declared.edit_command.TextMarks.TheVariants.{Left}
use Rattle.model_world.specs.declared.edit_command.EditCommand.{EditCommand}
use Rattle.model_world.specs.declared.edit_command.EditCommand.TheVariants as change
use Rattle.model_world.specs.declared.refusal.Refusal.{Refusal}
use Rattle.model_world.specs.Edits.{BatchRefusal, checked_transaction, unless_faulty, change_of, change_on, batch_from}
use Rattle.model_world.specs.Answers.{lower, higher, is_collapsed, typing}
use Rattle.model_change.proofs.Fits.{parts_of_Applies}
use Rattle.model_site_law.specs.ItemLaws.{AllPass, AllPutIn, PutsIn, SettingKeeps}
use Rattle.model_site_law.proofs.ItemLemmas.{edited_all}
use Rattle.model_world_law.specs.Fit.{Fit}
use Rattle.model_world_law.proofs.ChangeLemmas.{formed_fits}
use Rattle.model_world_law.proofs.CompletedLemmas.{AllFormed, AllInsertWell, IsFormed, InsertsWell}
use Rattle.model_world_law.specs.Writable.{ChangeIsWritable, is_text}

-- a transaction that is allowed is the one that was given, and the site does not refuse it
pub record IsAllowed (r : Replica) (result : Result Transaction Refusal) (t : Transaction) : Type 0 where
  pub given : result ≡ Ok t
  pub faultless : edit_cause t r ≡ None

pub allowed_is : (r : Replica) (result : Result Transaction Refusal) (t : Transaction) → checked_transaction r result ≡ Ok t → IsAllowed r result t
allowed_is r (Err refusal) t h = cc
allowed_is r (Ok u) t h = by_fault (edit_cause u r) refl h
  where
    by_fault : (o : Option EditCause) → edit_cause u r ≡ o → unless_faulty o u ≡ Ok t → IsAllowed r (Ok u) t
    by_fault (Some f) e h = cc
    by_fault None e h =
        let same : u ≡ t = cc in
        record { given = ap (λ v. Ok v) same; faultless = subst (λ v. edit_cause v r ≡ None) same e }

pub may_run : (r : Replica) (result : Result Transaction Refusal) (t : Transaction) → ((u : Transaction) → result ≡ Ok u → Fit u) → checked_transaction r result ≡ Ok t → MayRun t r.items
may_run r result t fit h =
    let a = allowed_is r result t h in
    let f = fit t a.given in
    edit_may_run t r f.reduced f.apart a.faultless

pub sound_next : (t : Transaction) (items : List PlainItem) → Sound items → MayRun t items → Sound (edited t items)
sound_next t items s m = record { lawful = m.lawful; apart = names_stay_apart t items m.applies m.apart s.apart }

pub batch_may : (i : ℕ) (cs : List EditCommand) (r : Replica) (ts : List Transaction) → AllFormed cs → Sound r.items → batch_from i cs r ≡ Ok ts → AllMayRun ts r.items
batch_may i [] r ts formed sound h = let e : ◌≡◌ {A = List Transaction} [] ts = cc in subst (λ us. AllMayRun us r.items) e tt
batch_may i (c ∷ cs) r ts formed sound h = by_first (λ j s us. batch_may j cs s us formed.1) (change_on r c) refl h
  where
    by_first : ((j : ℕ) (s : Replica) (us : List Transaction) → Sound s.items → batch_from j cs s ≡ Ok us → AllMayRun us s.items) →
        (first : Result Transaction Refusal) → change_on r c ≡ first →
        (elim first as (λ _. Result (List Transaction) BatchRefusal) [
          | Err f ↦ Err (record { at = i; refusal = f })
          | Ok t ↦ elim (batch_from (suc i) cs (performed t r)) as (λ _. Result (List Transaction) BatchRefusal) [ Err f ↦ Err f | Ok us ↦ Ok (t ∷ us) ]
        ]) ≡ Ok ts → AllMayRun ts r.items
    by_first rest_may (Err f) e h = cc
    by_first rest_may (Ok t) e h = by_rest (batch_from (suc i) cs (performed t r)) refl h
      where
        by_rest : (rest : Result (List Transaction) BatchRefusal) → batch_from (suc i) cs (performed t r) ≡ rest →
            (elim rest as (λ _. Result (List Transaction) BatchRefusal) [ Err f ↦ Err f | Ok us ↦ Ok (t ∷ us) ]) ≡ Ok ts → AllMayRun ts r.items
        by_rest (Err f) d h = cc
        by_rest (Ok us) d h =
            let may = may_run r (change_of r.items c) t (λ u k. formed_fits r.items c u formed.0 sound k) e in
            let same : t ∷ us ≡ ts = cc in
            subst (λ vs. AllMayRun vs r.items) same (may, rest_may (suc i) (performed t r) us (sound_next t r.items sound may) d)

-- each change of a batch inserts items that pass, since those before it leave such items
pub batch_inserts : (test : PlainItem → Bool) (sets : Attr → Bool) (Q : EditCommand → Type 0) → SettingKeeps test sets →
    ((items : List PlainItem) (c : EditCommand) (t : Transaction) → Q c → Sound items → AllPass test items → change_of items c ≡ Ok t → PutsIn test sets t) →
    (i : ℕ) (cs : List EditCommand) (r : Replica) (ts : List Transaction) → AllFormed cs → AllByRecursion Q cs → Sound r.items → AllPass test r.items → batch_from i cs r ≡ Ok ts → AllPutIn test sets ts
batch_inserts test sets Q keeps one i [] r ts formed well sound p h = let e : ◌≡◌ {A = List Transaction} [] ts = cc in subst (AllPutIn test sets) e tt
batch_inserts test sets Q keeps one i (c ∷ cs) r ts formed well sound p h = by_first (λ j s us. batch_inserts test sets Q keeps one j cs s us formed.1 well.1) (change_on r c) refl h
  where
    by_first : ((j : ℕ) (s : Replica) (us : List Transaction) → Sound s.items → AllPass test s.items → batch_from j cs s ≡ Ok us → AllPutIn test sets us) →
        (first : Result Transaction Refusal) → change_on r c ≡ first →
        (elim first as (λ _. Result (List Transaction) BatchRefusal) [
          | Err f ↦ Err (record { at = i; refusal = f })
          | Ok t ↦ elim (batch_from (suc i) cs (performed t r)) as (λ _. Result (List Transaction) BatchRefusal) [ Err f ↦ Err f | Ok us ↦ Ok (t ∷ us) ]
        ]) ≡ Ok ts → AllPutIn test sets ts
    by_first rest_inserts (Err f) e h = cc
    by_first rest_inserts (Ok t) e h = by_rest (batch_from (suc i) cs (performed t r)) refl h
      where
        by_rest : (rest : Result (List Transaction) BatchRefusal) → batch_from (suc i) cs (performed t r) ≡ rest →
            (elim rest as (λ _. Result (List Transaction) BatchRefusal) [ Err f ↦ Err f | Ok us ↦ Ok (t ∷ us) ]) ≡ Ok ts → AllPutIn test sets ts
        by_rest (Err f) d h = cc
        by_rest (Ok us) d h =
            let may = may_run r (change_of r.items c) t (λ u k. formed_fits r.items c u formed.0 sound k) e in
            let inserts = one r.items c t well.0 sound p (allowed_is r (change_of r.items c) t e).given in
            let same : t ∷ us ≡ ts = cc in
            subst (AllPutIn test sets) same (inserts, rest_inserts (suc i) (performed t r) us (sound_next t r.items sound may) (edited_all test sets keeps t r.items (parts_of_Applies t r.items may.applies).1 inserts p) d)

pub typing_each : (P : EditCommand → Type 0) → ((at : ℕ) (text : List ℕ) → P (change.Text at text Left)) → ((from to : ℕ) → P (change.Remove from to)) →
    (s : Selection) (text : List ℕ) → AllByRecursion P (typing s text)
typing_each P put remove s text = by_test (is_collapsed s)
  where
    by_test : (b : Bool) → AllByRecursion P (if b then change.Text (lower s) text Left ∷ [] else change.Remove (lower s) (higher s) ∷ change.Text (lower s) text Left ∷ [])
    by_test true = (put (lower s) text, tt)
    by_test false = (remove (lower s) (higher s), (put (lower s) text, tt))

pub typing_formed : (s : Selection) (text : List ℕ) → AllFormed (typing s text)
typing_formed = typing_each IsFormed (λ at text. tt) (λ from to. tt)

pub typing_inserts_well : (s : Selection) (text : List ℕ) → AllInsertWell (typing s text)
typing_inserts_well = typing_each InsertsWell (λ at text. tt) (λ from to. tt)

pub typing_writable : (s : Selection) (text : List ℕ) → is_text text ≡ true → AllByRecursion ChangeIsWritable (typing s text)
typing_writable s text w = by_test (is_collapsed s)
  where
    by_test : (b : Bool) → AllByRecursion ChangeIsWritable (if b then change.Text (lower s) text Left ∷ [] else change.Remove (lower s) (higher s) ∷ change.Text (lower s) text Left ∷ [])
    by_test true = (w, tt)
    by_test false = (tt, (w, tt))
