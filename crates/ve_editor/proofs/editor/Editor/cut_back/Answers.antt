use Rattle.std.specs.Prelude.{nat_lt}
use Rattle.std.proofs.Common.{◌≡◌, true, ◌&&◌, ◌==◌, if◌then◌else◌, take, Contains, sym, ap, ◌∙◌, subst, eq-eqb}
use Rattle.std.proofs.lemmas.Bool.{lt-ltb}
use Rattle.ve_base.specs.declared.value.Value.{Value}
use Rattle.model_items.specs.Plain.{plain_list, AreDistinct}
use Rattle.model_change.specs.Store.{cited}
use Rattle.ve_editor.specs.Page.{IsPage, LinkedPage}
use Rattle.ve_editor.proofs.CutLemmas.{cut_list}
use Rattle.ve_editor.proofs.editor.Editor.cut_back.Goals as goal

pub invariant_of-self : goal.invariant_of-self
invariant_of-self c =
    let n = c.args.entry.now.store_before in
    let kept = subst (λ (r : LinkedPage). (v : Value) → Contains (cited r.items) v → Contains (take n r.store) v) (sym c.self.view_is) (c.requires.uncited c.if-was-entry.true c.if-entry.true) in
    let distinct = subst (λ (r : LinkedPage). AreDistinct r.store) (sym c.self.view_is) c.requires.distinct in
    let cut = cut_list c.self.inside.store n distinct c.self.inside.list.items c.self.invariant.0.cites kept in
    (subst (λ s. IsPage s c.self.inside.list.items c.self.inside.tree) (sym c.truncate.ensures) (record { cites = cut.0; tree = c.self.invariant.0.tree }), c.self.invariant.1)

pub returns-then-entry : goal.returns-then-entry
returns-then-entry c =
    let n = c.args.entry.now.store_before in
    let L = c.self.inside.list.items in
    let kept = subst (λ (r : LinkedPage). (v : Value) → Contains (cited r.items) v → Contains (take n r.store) v) (sym c.self.view_is) (c.requires.uncited c.if-was-entry.true c.if-entry.true) in
    let distinct = subst (λ (r : LinkedPage). AreDistinct r.store) (sym c.self.view_is) c.requires.distinct in
    let cut = cut_list c.self.inside.store n distinct L c.self.invariant.0.cites kept in
    let one : (c.args.was == c.args.entry.now.store_after) ≡ true = eq-eqb c.args.was c.args.entry.now.store_after c.if-was-entry.true in
    let two : nat_lt n c.args.entry.now.store_after ≡ true = lt-ltb n c.args.entry.now.store_after c.if-entry.true in
    let test : ((c.args.was == c.args.entry.now.store_after) && nat_lt n c.args.entry.now.store_after) ≡ true = ap (λ b. b && nat_lt n c.args.entry.now.store_after) one ∙ two in
    let items = ap (λ s. plain_list s L) c.truncate.ensures ∙ cut.1 ∙ ap (λ (r : LinkedPage). r.items) c.self.view_is in
    let store = c.truncate.ensures ∙ ap (λ (r : LinkedPage). take n r.store) c.self.view_is ∙ ap (λ b. if b then take n c.args.self.now.store else c.args.self.now.store) (sym test) in
    let selection = ap (λ (r : LinkedPage). r.selection) c.self.view_is in
    let nodes = ap (λ (r : LinkedPage). r.nodes) c.self.view_is in
    λ i. record { items = items i; store = store i; selection = selection i; nodes = nodes i }
