use Rattle.std.proofs.Common.{◌≡◌, ◌∙◌, sym, ap, arith, not, take, true, false, List, ℕ, ◌||◌, subst, length, Bor}
use Rattle.std.proofs.lemmas.List.{length-take, length-map}
use Rattle.model_spelling.specs.Grammar.{name_same}
use Rattle.ve_kinds.specs.Tags.{is_one_of}
use Rattle.ve_html_scan.specs.Names.{texts, CanBeSearched}
use Rattle.ve_html_scan.proofs.NameOrder.{not_among, is_among, among_more, searched_more, already}
use Rattle.ve_html_scan.proofs.attr_names.AttrNames.insert.Goals as goal

pub invariant_of-self : goal.invariant_of-self
invariant_of-self c =
    let names : List (Bor (List ℕ)) = take c.self.inside.len c.self.inside.sorted in
    let parted = c.in-Err.ensures.position (c.self.invariant.1 c.args.name.now) in
    (omega (arith, ap length c.self.view_is, length-map names (λ (n : Bor (List ℕ)). n.now), length-take c.self.inside.len c.self.inside.sorted), subst CanBeSearched (sym c.put_name.ensures) (searched_more names c.args.name c.in-Err.place c.self.invariant.1 c.in-Err.ensures.bound parted))

pub returns-in-Ok-clause-added : goal.returns-in-Ok-clause-added
returns-in-Ok-clause-added c =
    let names : List (Bor (List ℕ)) = take c.self.inside.len c.self.inside.sorted in
    ap not (sym (subst (λ l. is_one_of l c.args.name.now ≡ true) c.self.view_is (is_among names c.args.name c.in-Ok.field-0 c.in-Ok.ensures.bound c.in-Ok.ensures.position)))

pub returns-in-Ok-clause-known : goal.returns-in-Ok-clause-known
returns-in-Ok-clause-known c = λ x.
    let names : List (Bor (List ℕ)) = take c.self.inside.len c.self.inside.sorted in
    already c.args.self.now c.args.name.now x (subst (λ l. is_one_of l c.args.name.now ≡ true) c.self.view_is (is_among names c.args.name c.in-Ok.field-0 c.in-Ok.ensures.bound c.in-Ok.ensures.position))

pub returns-in-Err-clause-added : goal.returns-in-Err-clause-added
returns-in-Err-clause-added c =
    let names : List (Bor (List ℕ)) = take c.self.inside.len c.self.inside.sorted in
    ap not (sym (subst (λ l. is_one_of l c.args.name.now ≡ false) c.self.view_is (not_among names c.args.name.now c.in-Err.place (c.in-Err.ensures.position (c.self.invariant.1 c.args.name.now)))))

pub returns-in-Err-clause-known : goal.returns-in-Err-clause-known
returns-in-Err-clause-known c = λ x.
    let names : List (Bor (List ℕ)) = take c.self.inside.len c.self.inside.sorted in
    ap (λ (l : List (Bor (List ℕ))). is_one_of (texts l) x) c.put_name.ensures ∙ among_more names c.args.name c.in-Err.place x ∙ ap (λ (l : List (List ℕ)). name_same c.args.name.now x || is_one_of l x) c.self.view_is
