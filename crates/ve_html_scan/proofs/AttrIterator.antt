-- Going over the attributes of a tag that was read.
use Rattle.std.proofs.Common.{◌≡◌, ℕ, ◌+◌, ◌-◌, ◌<◌, ◌≤◌, Bool, true, false, not, ◌&&◌, ◌||◌, List, [], ◌∷◌, ◌++◌, length, get_or, drop, take, Some, refl, sym, ap, ◌∙◌, arith, eq-eqb, append_assoc, add-zero, subst, ◌⊎◌}
use Rattle.std.specs.Prelude.{◌==◌}
use Rattle.std.proofs.lemmas.List.{length-drop, length-append, get_or-drop}
use Rattle.std.proofs.Math.Seq.{take-append_seam, take-length}
use Rattle.std.proofs.lemmas.Bool.Decides.{nat_tests}
use Rattle.std.specs.List.{prefix_len, slice_range, flat_map, list_all}
use Rattle.model_spelling.specs.Grammar.{is_barred, starts_reference, is_name_byte, is_attr_name, Attr, attr_text}
use Rattle.ve_html_scan.specs.Parts.{IsQuote, IsSpelled}
use Rattle.model_spelling.proofs.AttrReading.{prefix_all}
use Rattle.ve_html_scan.proofs.AttrWalk.{rest_after, attr_then_one, names_all, value_len_is}
use Rattle.std.specs.Prelude.{◌||◌, ◌&&◌}
use Rattle.model_spelling.specs.Grammar.{is_attr, is_run}
use Rattle.model_spelling.proofs.AttrReading.{and_left, and_right}
use Rattle.ve_html_scan.specs.Shown.{AttrsStep}
use Rattle.ve_html_scan.specs.Parts.{close_text, IsQuote, IsSpelled}
use Rattle.ve_html_scan.specs.declared.attr_tokens.AttrTokens.{AttrTokens}
use Rattle.std.proofs.Common.{None, Bor}
use Rattle.std.proofs.lemmas.Str.{IsCharBoundary-after_ascii}
use Rattle.std.proofs.Common.{IsUtf8, IsCharBoundary}

no_quote_in : (q : ℕ) (value : List ℕ) → is_run q value ≡ true → list_all (λ b. not (b == q)) value ≡ true
no_quote_in q [] e = refl
no_quote_in q (b ∷ bs) e =
    let most = and_left (not (b == q) && not (is_barred b) && (not (b == 38) || starts_reference (b ∷ bs))) (is_run q bs) e in
    let first = and_left (not (b == q)) (not (is_barred b)) (and_left (not (b == q) && not (is_barred b)) (not (b == 38) || starts_reference (b ∷ bs)) most) in
    rw first (no_quote_in q bs (and_right (not (b == q) && not (is_barred b) && (not (b == 38) || starts_reference (b ∷ bs))) (is_run q bs) e))

quote_of : (q : ℕ) → (q == 34 || q == 39) ≡ true → IsQuote q
quote_of q e = grind (arith, nat_tests)

pub spelled_by : (a : Attr) → is_attr a ≡ true → IsSpelled a
spelled_by a e =
    let named = and_left (is_attr_name a.name && (a.quote == 34 || a.quote == 39)) (is_run a.quote a.value) e in
    record {
      name = and_left (is_attr_name a.name) (a.quote == 34 || a.quote == 39) named;
      quote = quote_of a.quote (and_right (is_attr_name a.name) (a.quote == 34 || a.quote == 39) named);
      value = no_quote_in a.quote a.value (and_right (is_attr_name a.name && (a.quote == 34 || a.quote == 39)) (is_run a.quote a.value) e);
    }

-- what the bytes are, where an attribute stands at the byte at and rest follows
pub record Stands (t : List ℕ) (at : ℕ) (a : Attr) (rest : List ℕ) : Type 0 where
  pub space : get_or t at 0 ≡ 32
  pub name_len : prefix_len is_name_byte (drop (at + 1) t) ≡ length a.name
  pub name : take (length a.name) (drop (at + 1) t) ≡ a.name
  pub equals : get_or t (at + 1 + length a.name) 0 ≡ 61
  pub quote : get_or t (at + 1 + length a.name + 1) 0 ≡ a.quote
  pub value_len : prefix_len (λ b. not (b == a.quote)) (drop (at + 1 + length a.name + 2) t) ≡ length a.value
  pub value : take (length a.value) (drop (at + 1 + length a.name + 2) t) ≡ a.value
  pub after : drop (at + 1 + length a.name + 2 + length a.value + 1) t ≡ rest
  pub len : at + 1 + length a.name + 2 + length a.value + 1 + length rest ≡ length t

pub stands : (t : List ℕ) (at : ℕ) (a : Attr) (rest : List ℕ) → IsSpelled a → drop at t ≡ attr_text a ++ rest → Stands t at a rest
stands t at a rest s e =
    let d0 : drop at t ≡ (32 ∷ []) ++ (a.name ++ (61 ∷ (a.quote ∷ (a.value ++ (a.quote ∷ rest))))) = e ∙ attr_then_one a rest in
    let d1 : drop (at + 1) t ≡ a.name ++ (61 ∷ (a.quote ∷ (a.value ++ (a.quote ∷ rest)))) = rest_after t (32 ∷ []) (a.name ++ (61 ∷ (a.quote ∷ (a.value ++ (a.quote ∷ rest))))) at d0 in
    let d2 : drop (at + 1 + length a.name) t ≡ 61 ∷ (a.quote ∷ (a.value ++ (a.quote ∷ rest))) = rest_after t a.name (61 ∷ (a.quote ∷ (a.value ++ (a.quote ∷ rest)))) (at + 1) d1 in
    let d3 : drop (at + 1 + length a.name + 2) t ≡ a.value ++ (a.quote ∷ rest) = rest_after t (61 ∷ a.quote ∷ []) (a.value ++ (a.quote ∷ rest)) (at + 1 + length a.name) d2 in
    let d4 : drop (at + 1 + length a.name + 2 + length a.value) t ≡ a.quote ∷ rest = rest_after t a.value (a.quote ∷ rest) (at + 1 + length a.name + 2) d3 in
    let d5 : drop (at + 1 + length a.name + 2 + length a.value + 1) t ≡ rest = rest_after t (a.quote ∷ []) rest (at + 1 + length a.name + 2 + length a.value) d4 in
    let l4 : length (drop (at + 1 + length a.name + 2 + length a.value) t) ≡ 1 + length rest = ap length d4 ∙ omega arith in
    record {
      space = ap (λ (k : ℕ). get_or t k 0) (sym (add-zero at)) ∙ sym (get_or-drop at t 0 0) ∙ ap (λ (l : List ℕ). get_or l 0 0) d0;
      name_len = ap (prefix_len is_name_byte) d1 ∙ prefix_all is_name_byte a.name (a.quote ∷ (a.value ++ (a.quote ∷ rest))) 61 (names_all a.name s.name) refl;
      name = ap (take (length a.name)) d1 ∙ take-append_seam a.name (61 ∷ (a.quote ∷ (a.value ++ (a.quote ∷ rest))));
      equals = ap (λ (k : ℕ). get_or t k 0) (sym (add-zero (at + 1 + length a.name))) ∙ sym (get_or-drop (at + 1 + length a.name) t 0 0) ∙ ap (λ (l : List ℕ). get_or l 0 0) d2;
      quote = sym (get_or-drop (at + 1 + length a.name) t 1 0) ∙ ap (λ (l : List ℕ). get_or l 1 0) d2;
      value_len = ap (prefix_len (λ b. not (b == a.quote))) d3 ∙ prefix_all (λ b. not (b == a.quote)) a.value rest a.quote s.value (ap not (eq-eqb a.quote a.quote refl));
      value = ap (take (length a.value)) d3 ∙ take-append_seam a.value (a.quote ∷ rest);
      after = d5;
      len = omega (arith, l4, length-drop (at + 1 + length a.name + 2 + length a.value) t);
    }

-- the positions that the iterator finds
pub record Found (b : List ℕ) (at name_to value_to : ℕ) (a : Attr) (rest : List ℕ) : Type 0 where
  pub name_to_is : name_to ≡ at + 1 + length a.name
  pub value_to_is : value_to ≡ name_to + 2 + length a.value
  pub value_in : value_to + 1 ≤ length b
  pub name : slice_range b (at + 1) name_to ≡ a.name
  pub value : slice_range b (name_to + 2) value_to ≡ a.value
  pub after : drop (value_to + 1) b ≡ rest

pub name_in : (b : List ℕ) (at name_to : ℕ) (a : Attr) (rest : List ℕ) → IsSpelled a → drop at b ≡ attr_text a ++ rest → name_to ≡ at + 1 + prefix_len is_name_byte (drop (at + 1) b) → (name_to + 1 < length b) × (get_or b name_to 0 ≡ 61) × (get_or b (name_to + 1) 0 ≡ a.quote)
name_in b at name_to a rest s e n =
    let w = stands b at a rest s e in
    let same : at + 1 + length a.name ≡ name_to = omega (arith, w.name_len) in
    (omega (arith, w.len, w.name_len), ap (λ (k : ℕ). get_or b k 0) (sym same) ∙ w.equals, ap (λ (k : ℕ). get_or b (k + 1) 0) (sym same) ∙ w.quote)

pub found_at : (b : List ℕ) (at name_to value_to q : ℕ) (a : Attr) (rest : List ℕ) → IsSpelled a → drop at b ≡ attr_text a ++ rest → name_to ≡ at + 1 + prefix_len is_name_byte (drop (at + 1) b) → q ≡ get_or b (name_to + 1) 0
    → value_to ≡ name_to + 2 + prefix_len (λ x. not (x == q)) (drop (name_to + 2) b) → Found b at name_to value_to a rest
found_at b at name_to value_to q a rest s e n m v =
    let w = stands b at a rest s e in
    let same : name_to ≡ at + 1 + length a.name = omega (arith, w.name_len) in
    let len = value_len_is b name_to q (at + 1 + length a.name) a same m w.quote w.value_len in
    let to_is : value_to ≡ name_to + 2 + length a.value = omega (arith, len) in
    let k1 : name_to - (at + 1) ≡ length a.name = omega arith in
    let k2 : value_to - (name_to + 2) ≡ length a.value = omega arith in
    let k3 : value_to + 1 ≡ at + 1 + length a.name + 2 + length a.value + 1 = omega arith in
    record {
      name_to_is = same;
      value_to_is = to_is;
      value_in = omega (arith, w.len);
      name = ap (λ (k : ℕ). take k (drop (at + 1) b)) k1 ∙ w.name;
      value = ap (λ (k : ℕ). take k (drop (name_to + 2) b)) k2 ∙ ap (λ (k : ℕ). take (length a.value) (drop (k + 2) b)) same ∙ w.value;
      after = ap (λ (k : ℕ). drop k b) k3 ∙ w.after;
    }

pub quote_ascii : (b : ℕ) → (b == 34 || b == 39) ≡ true → b < 128
quote_ascii b e = grind (arith, nat_tests)

pub quote_told : (b : ℕ) → (b == 34 || b == 39) ≡ false → (b ≡ 34) ⊎ (b ≡ 39) → ⊥
quote_told b e h = grind (arith, nat_tests)

pub quote_kept : (a : Attr) → IsSpelled a → (q : ℕ) → q ≡ a.quote → (q ≡ 34) ⊎ (q ≡ 39)
quote_kept a s q e = rw e s.quote

pub attr_len : (a : Attr) → length (attr_text a) ≡ length a.name + length a.value + 4
attr_len a = omega (arith, length-append (32 ∷ a.name ++ 61 ∷ a.quote ∷ a.value) (a.quote ∷ []), length-append (32 ∷ a.name) (61 ∷ a.quote ∷ a.value))

pub to_end : (s : List ℕ) (k : ℕ) → slice_range s k (length s) ≡ drop k s
to_end s k = ap (λ (n : ℕ). take n (drop k s)) (sym (length-drop k s)) ∙ take-length (drop k s)

-- ---- one call

closes_tag : (t : List ℕ) (at : ℕ) (slash : Bool) → drop at t ≡ close_text slash → get_or t at 0 ≡ get_or (close_text slash) 0 0
closes_tag t at slash e = ap (λ (k : ℕ). get_or t k 0) (sym (add-zero at)) ∙ sym (get_or-drop at t 0 0) ∙ ap (λ (l : List ℕ). get_or l 0 0) e

no_space_closes : (slash : Bool) → get_or (close_text slash) 0 0 ≡ 32 → ⊥
no_space_closes true e = absurd (omega (arith, e))
no_space_closes false e = absurd (omega (arith, e))

first_text : (a : Attr) (attrs : List Attr) (slash : Bool) → flat_map attr_text (a ∷ attrs) ++ close_text slash ≡ attr_text a ++ (flat_map attr_text attrs ++ close_text slash)
first_text a attrs slash = append_assoc (attr_text a) (flat_map attr_text attrs) (close_text slash)

-- where no attribute stands, none is to come
pub step_none : (b : List ℕ) (before : AttrTokens) → b ≡ before.source.now → ((a : Attr) (rest : List ℕ) → IsSpelled a → drop before.at b ≡ attr_text a ++ rest → ⊥) → AttrsStep before None before
step_none b before same bad [] slash s = (refl, s, refl)
step_none b before same bad (a ∷ attrs) slash s =
    absurd (bad a (flat_map attr_text attrs ++ close_text slash) (spelled_by a (and_left (is_attr a) (list_all is_attr attrs) s.allowed)) (ap (drop before.at) same ∙ s.source ∙ first_text a attrs slash))

pub step_some : (b : List ℕ) (before : AttrTokens) (name_to value_to q : ℕ) (name value : Bor (List ℕ)) → b ≡ before.source.now → get_or b before.at 0 ≡ 32
    → name_to ≡ before.at + 1 + prefix_len is_name_byte (drop (before.at + 1) b) → q ≡ get_or b (name_to + 1) 0 → value_to ≡ name_to + 2 + prefix_len (λ x. not (x == q)) (drop (name_to + 2) b)
    → name.now ≡ slice_range before.source.now (before.at + 1) name_to → value.now ≡ slice_range before.source.now (name_to + 2) value_to
    → AttrsStep before (Some (record { name = name; value = value; span = record { from = before.at + 1; to = value_to + 1 } })) (record { source = before.source; at = value_to + 1 })
step_some b before name_to value_to q name value same space n m v name_is value_is [] slash s =
    absurd (no_space_closes slash (sym (closes_tag before.source.now before.at slash s.source) ∙ ap (λ (x : List ℕ). get_or x before.at 0) (sym same) ∙ space))
step_some b before name_to value_to q name value same space n m v name_is value_is (a ∷ attrs) slash s =
    let f = found_at b before.at name_to value_to q a (flat_map attr_text attrs ++ close_text slash) (spelled_by a (and_left (is_attr a) (list_all is_attr attrs) s.allowed)) (ap (drop before.at) same ∙ s.source ∙ first_text a attrs slash) n m v in
    let to : value_to + 1 ≡ before.at + length (attr_text a) = omega (arith, f.name_to_is, f.value_to_is, attr_len a) in (
      record {
        name = name_is ∙ ap (λ (x : List ℕ). slice_range x (before.at + 1) name_to) (sym same) ∙ f.name;
        value = value_is ∙ ap (λ (x : List ℕ). slice_range x (name_to + 2) value_to) (sym same) ∙ f.value;
        from = refl;
        to = to;
      },
      record { source = ap (drop (value_to + 1)) (sym same) ∙ f.after; allowed = and_right (is_attr a) (list_all is_attr attrs) s.allowed },
      to,
    )

-- after a quote, which is ASCII
pub cut_after_quote : (t b : List ℕ) (at : ℕ) → b ≡ t → IsUtf8 b → at + 1 < length b → (get_or b (at + 1) 0 == 34 || get_or b (at + 1) 0 == 39) ≡ true → IsCharBoundary t (at + 2)
cut_after_quote t b at same utf8 lt quote =
    let n : at + 1 + 1 ≡ at + 2 = omega arith in
    subst (λ (x : List ℕ). IsCharBoundary x (at + 2)) same (subst (IsCharBoundary b) n (IsCharBoundary-after_ascii b (at + 1) utf8 lt (quote_ascii (get_or b (at + 1) 0) quote)))
