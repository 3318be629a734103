-- In a page that opens, each opening with an origin is the one that was read for it.
use Rattle.std.proofs.Common.{◌≡◌, ◌≤◌, ℕ, zero, suc, Bool, true, false, ◌||◌, if◌then◌else◌, List, [], ◌∷◌, length, Some, None, Ok, refl, ap, ◌∙◌, arith}
use Rattle.std.specs.Prelude.{encode_utf8_all}
use Rattle.std.proofs.lemmas.Bool.{and_from, eq-eqb, ne_eqb}
use Rattle.ve_base.specs.declared.head.Head.{Head}
use Rattle.ve_kinds.specs.declared.kind.Kind.{Kind}
use Rattle.ve_kinds.specs.Table.{is_element, kind_same}
use Rattle.model_items.proofs.SameLemmas.{Means-head_same, Means-kind_same}
use Rattle.model_items.specs.declared.plain_item.PlainItem.{PlainItem}
use Rattle.model_items.specs.declared.plain_item.PlainItem.TheVariants.{Char, Closing, Opening}
use Rattle.model_items.specs.Same.{head_same}
use Rattle.model_page.specs.OpenPage.{read_page}
use Rattle.model_page.specs.PageItems.{Opened}
use Rattle.model_page_law.specs.Origins.{counted_from, origins_of}
use Rattle.model_page_law.proofs.OpenPageLemmas.{read_is_within}
use Rattle.model_page_law.proofs.OriginLemmas.{origins_number_spans}
use Rattle.model_site_law.specs.ItemLaws.{AllPass}
use Rattle.model_world.specs.Completed.{read_for}
use Rattle.model_world.specs.Opening.{open_page}
use Rattle.model_world.specs.Refusals.{open_refusal}
use Rattle.model_world_law.specs.PutBack.{has_first, is_as_read}
use Rattle.model_world_law.proofs.ChangeLemmas.{given}

itself : (kind : Kind) (head : Head) → is_as_read kind head (Some (kind, head)) ≡ true
itself kind head =
    and_from (kind_same kind kind) (is_element kind || head_same head head) (Means-kind_same.itself kind) (last (is_element kind) (head_same head head) (Means-head_same.itself head))
  where
    last : (b c : Bool) → c ≡ true → (b || c) ≡ true
    last true c h = refl
    last false c h = h

-- the origins of the rest are counted from k, and what was read for them is found in the rest
rest_first : (items rest : List PlainItem) (k count : ℕ) → origins_of rest ≡ counted_from k count → ((n : ℕ) → k ≤ n → read_for n items ≡ read_for n rest) → AllPass (has_first items) rest
rest_first items [] k count e h = tt
rest_first items (Char c marks ∷ rest) k count e h = (refl, rest_first items rest k count e h)
rest_first items (Closing kind pre ∷ rest) k count e h = (refl, rest_first items rest k count e h)
rest_first items (Opening kind head marks pre None generated ∷ rest) k count e h = (refl, rest_first items rest k count e h)
rest_first items (Opening kind head marks pre (Some origin) generated ∷ rest) k zero e h = cc
rest_first items (Opening kind head marks pre (Some origin) generated ∷ rest) k (suc count) e h =
    let here : origin ≡ k = cc in
    let later : origins_of rest ≡ counted_from (suc k) count = cc in
    let found : read_for origin items ≡ Some (kind, head) =
    h origin (omega (arith, here)) ∙ ap (λ b. if b then Some (kind, head) else read_for origin rest) (eq-eqb origin origin refl) in (
      ap (is_as_read kind head) found ∙ itself kind head,
      rest_first items rest (suc k) count later (λ n more. h n (omega (arith, more)) ∙ ap (λ b. if b then Some (kind, head) else read_for n rest) (ne_eqb origin n (λ same. omega (arith, here, more, same)))),
    )

pub page_first : (page : List ℕ) (o : Opened) → open_page page ≡ Ok o → AllPass (has_first o.items) o.items
page_first page o h =
    let bytes = encode_utf8_all page in
    let within = read_is_within bytes o (given open_refusal (read_page bytes) o h) in
    rest_first o.items o.items 0 (length o.spans) (origins_number_spans bytes o within.opens) (λ n more. refl)
