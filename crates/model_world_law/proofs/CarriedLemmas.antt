-- The written form of a reference that may stand: it is editable, so the laws of composed texts
-- hold of it.
use Rattle.std.specs.Prelude.{codes, is_some, option_and_then, option_map}
use Rattle.std.proofs.Common.{◌≡◌, ℕ, true, List, Option, Some, None, refl, ap, ◌∙◌, subst}
use Rattle.std.proofs.lemmas.Bool.{and_parts}
use Rattle.model_page.specs.DataMw.{RefRead, composed_mw, reference_of}
use Rattle.model_page.specs.Editable.{data_mw, head_refers}
use Rattle.model_page.specs.Elements.{value_named}
use Rattle.model_page_law.proofs.ComposedLemmas.{composed_is_barred, composed_owns, composed_reuses}
use Rattle.model_page_law.proofs.ReferenceLemmas.{reference_is_written}
use Rattle.model_world_law.specs.Written.{ReferencesAreWritten}

some_of : (o : Option RefRead) → is_some o ≡ true → (r : RefRead) × (o ≡ Some r)
some_of None h = cc
some_of (Some r) h = (r, refl)

-- of what a text says when it is composed
said_then : (mw : Option (List ℕ)) (html : Option (List ℕ)) (r : RefRead) (end : Option RefRead) → option_and_then reference_of mw ≡ Some r →
    ((m : List ℕ) → reference_of m ≡ Some r → reference_of (composed_mw m html) ≡ end) → option_and_then reference_of (option_map (λ m. composed_mw m html) mw) ≡ end
said_then None html r end e h = cc
said_then (Some m) html r end e h = h m e

pub references_are_written : ReferencesAreWritten
references_are_written w s children kind stands spelled =
    let refers = (and_parts (head_refers s.kind s.head) _ stands).0 in
    let editable = subst (λ k. head_refers k s.head ≡ true) kind refers in
    let r = some_of (option_and_then reference_of (data_mw s.head.attrs)) (and_parts (is_some s.head.reference) _ editable).1 in
    let element = reference_is_written w s children spelled in
    let mw = data_mw s.head.attrs in
    let with_html : (html : Option (List ℕ)) → option_map w.html s.body ≡ html → value_named (codes "data-mw") element.attrs ≡ option_map (λ m. composed_mw m html) mw =
    λ html e. element.mw ∙ ap (λ x. option_map (λ m. composed_mw m x) mw) e in
    record {
      element = element;
      said = r.0;
      says = r.1;
      body = λ html f e spells. ap (option_and_then reference_of) (with_html (Some html) e) ∙ said_then mw (Some html) r.0 _ r.1 (λ m d. composed_owns m html r.0 f d spells);
      barred = λ html e none. ap (option_and_then reference_of) (with_html (Some html) e) ∙ said_then mw (Some html) r.0 None r.1 (λ m d. composed_is_barred m html r.0 d none);
      reuses = λ e. ap (option_and_then reference_of) (with_html None e) ∙ said_then mw None r.0 _ r.1 (λ m d. composed_reuses m r.0 d);
    }
