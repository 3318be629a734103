use Rattle.std.specs.Prelude.{nat_lt}
use Rattle.std.proofs.Common.{◌≡◌, true, ◌&&◌, ◌==◌, if◌then◌else◌, List, take, Contains, sym, ap, ◌∙◌, subst, eq-eqb}
use Rattle.std.proofs.lemmas.Bool.{lt-ltb}
use Rattle.ve_base.specs.declared.value.Value.{Value}
use Rattle.model_items.specs.Plain.{plain_list, AreDistinct}
use Rattle.model_change.specs.Store.{cited}
use Rattle.ve_tx.specs.Spliced.{spliced_by}
use Rattle.ve_editor.specs.Back.{HasFirst, first_values}
use Rattle.ve_editor.specs.Page.{IsPage, first_nodes, linked_page, page_of}
use Rattle.ve_editor.specs.Trials.{Tried}
use Rattle.ve_editor.proofs.CutLemmas.{cut_list}
use Rattle.ve_editor.proofs.GoBackLemmas.{cut_goes_back}
use Rattle.ve_editor.proofs.trial.Trial.cut_back.Goals as goal

pub keep-requires : goal.keep-requires
keep-requires c = c.self.invariant.1.stored

pub invariant_of-self-then-entry : goal.invariant_of-self-then-entry
invariant_of-self-then-entry c =
    let n = c.args.entry.now.store_before in
    let t = c.self.inside in
    let kept = subst (λ (r : Tried). (v : Value) → Contains (cited r.page.items) v → Contains (take n r.page.store) v) (sym c.self.view_is) (c.requires.uncited c.if-was-entry.true c.if-entry.true) in
    let distinct = subst (λ (r : Tried). AreDistinct r.page.store) (sym c.self.view_is) c.requires.distinct in
    let cut = cut_list t.store n distinct t.list.items c.self.invariant.0.cites kept in
    let has = subst (λ s. HasFirst s c.keep.new.self) (sym c.truncate.ensures) c.in_ok-keep.ensures.has in
    let same = ap (λ s. first_values s c.keep.new.self) c.truncate.ensures ∙ c.in_ok-keep.ensures.first in (
      subst (λ s. IsPage s t.list.items t.tree) (sym c.truncate.ensures) (record { cites = cut.0; tree = c.self.invariant.0.tree }),
      cut_goes_back t.store c.truncate.new.self t.list t.back t.values c.keep.new.self t.tree c.self.invariant.1 has same,
    )

pub returns-in_ok-keep-clause-page : goal.returns-in_ok-keep-clause-page
returns-in_ok-keep-clause-page c =
    let n = c.args.entry.now.store_before in
    let L = c.self.inside.list.items in
    let kept = subst (λ (r : Tried). (v : Value) → Contains (cited r.page.items) v → Contains (take n r.page.store) v) (sym c.self.view_is) (c.requires.uncited c.if-was-entry.true c.if-entry.true) in
    let distinct = subst (λ (r : Tried). AreDistinct r.page.store) (sym c.self.view_is) c.requires.distinct in
    let cut = cut_list c.self.inside.store n distinct L c.self.invariant.0.cites kept in
    let one : (c.args.was == c.args.entry.now.store_after) ≡ true = eq-eqb c.args.was c.args.entry.now.store_after c.if-was-entry.true in
    let two : nat_lt n c.args.entry.now.store_after ≡ true = lt-ltb n c.args.entry.now.store_after c.if-entry.true in
    let test : ((c.args.was == c.args.entry.now.store_after) && nat_lt n c.args.entry.now.store_after) ≡ true = ap (λ b. b && nat_lt n c.args.entry.now.store_after) one ∙ two in
    let items = ap (λ s. plain_list s L) c.truncate.ensures ∙ cut.1 ∙ ap (λ (r : Tried). r.page.items) c.self.view_is in
    let was = c.args.self.now.page.store in
    let store = c.truncate.ensures ∙ ap (λ (r : Tried). take n r.page.store) c.self.view_is ∙ ap (λ b. if b then take n was else was) (sym test) in
    let selection = ap (λ (r : Tried). r.page.selection) c.self.view_is in
    let nodes = ap (λ (r : Tried). r.page.nodes) c.self.view_is in
    λ i. record { items = items i; store = store i; selection = selection i; nodes = nodes i }

pub returns-in_ok-keep-clause-first : goal.returns-in_ok-keep-clause-first
returns-in_ok-keep-clause-first c =
    let t = c.self.inside in
    let same = ap (λ s. first_values s c.keep.new.self) c.truncate.ensures ∙ c.in_ok-keep.ensures.first in
    ap (λ s. linked_page (page_of s (spliced_by t.list.items t.back) t.first_selection) (first_nodes t.tree)) same ∙ ap (λ (r : Tried). r.first) c.self.view_is
