use Rattle.std.proofs.Common.{◌≡◌, [], true, false, length, map, ap, sym, subst, ◌∙◌, arith, eq-eqb}
use Rattle.std.proofs.lemmas.List.{length-append, length-map}
use Rattle.std.specs.Vec.{vec_len}
use Rattle.model_site.specs.Site.{pending}
use Rattle.ve_editor.specs.Edited.{entry_by_value}
use Rattle.ve_site.specs.Numbered.{Numbered}
use Rattle.ve_site.proofs.site.Site.is_untouched.Goals as goal

pub returns-then-not-is_empty : goal.returns-then-not-is_empty
returns-then-not-is_empty c = (
  λ (no : false ≡ true). cc,
  λ both.
      let s = c.self.inside in
      let none = ap length (subst (λ (v : Numbered). pending v.site ≡ []) (sym c.self.view_is) both.1) in
      let sent : vec_len s.sent ≡ 0 =
      omega (arith, none, length-append (map (entry_by_value s.editor.store) s.sent.items) (map (entry_by_value s.editor.store) s.history.done), length-map s.sent.items (entry_by_value s.editor.store)) in
      sym c.if-not-is_empty.true ∙ c.is_empty.ensures ∙ eq-eqb _ _ sent,
)
