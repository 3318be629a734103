-- The page, paragraph by paragraph.
use Rattle.std.proofs.Common.{◌≡◌, ℕ, zero, suc, ◌+◌, List, [], ◌∷◌, ◌++◌, map, flat_map, ap, sym, ◌∙◌, append_assoc, append-nil, add-zero, arith, subst}
use Rattle.std.specs.List.{range_with_len}
use Rattle.std.proofs.lemmas.List.FromFn.{map-range_with_len_more}
use Rattle.ve_gen.specs.Generated.{letter, letters, paragraph, page}

pub letters_more : (o mid out : List ℕ) (p k b : ℕ) → out ≡ mid ++ b ∷ [] → mid ≡ o ++ map (letter p) (range_with_len 0 k) → b ≡ letter p k → out ≡ o ++ map (letter p) (range_with_len 0 (k + 1))
letters_more o mid out p k b h m is =
    h ∙ ap (λ x. x ++ b ∷ []) m ∙ append_assoc o (map (letter p) (range_with_len 0 k)) (b ∷ []) ∙ ap (λ x. o ++ (map (letter p) (range_with_len 0 k) ++ x ∷ [])) is
    ∙ ap (λ x. o ++ x) (sym (map-range_with_len_more (letter p) 0 k k (omega arith)))

pub letters_all : (o out : List ℕ) (p k : ℕ) → out ≡ o ++ map (letter p) (range_with_len 0 k) → k ≡ 18 → out ≡ o ++ letters p
unfolding letters
letters_all o out p k h e = subst (λ n. out ≡ o ++ map (letter p) (range_with_len 0 n)) e h

paragraphs_one_more : (a n : ℕ) → flat_map paragraph (range_with_len a (suc n)) ≡ flat_map paragraph (range_with_len a n) ++ paragraph (a + n)
paragraphs_one_more a zero = append-nil (paragraph a) ∙ ap paragraph (sym (add-zero a))
paragraphs_one_more a (suc n) =
    let step = paragraphs_one_more (a + 1) n in
    let at : a + 1 + n ≡ a + suc n = omega arith in
    ap (λ x. paragraph a ++ x) (step ∙ ap (λ k. flat_map paragraph (range_with_len (a + 1) n) ++ paragraph k) at)
    ∙ sym (append_assoc (paragraph a) (flat_map paragraph (range_with_len (a + 1) n)) (paragraph (a + suc n)))

pub paragraphs_more : (o mid out : List ℕ) (k : ℕ) → out ≡ mid ++ paragraph k → mid ≡ o ++ flat_map paragraph (range_with_len 0 k) → out ≡ o ++ flat_map paragraph (range_with_len 0 (k + 1))
paragraphs_more o mid out k h m =
    let zero_more : 0 + k ≡ k = omega arith in
    let next : suc k ≡ k + 1 = omega arith in
    h ∙ ap (λ x. x ++ paragraph k) m ∙ append_assoc o (flat_map paragraph (range_with_len 0 k)) (paragraph k)
    ∙ ap (λ x. o ++ x) (sym (paragraphs_one_more 0 k ∙ ap (λ n. flat_map paragraph (range_with_len 0 k) ++ paragraph n) zero_more))
    ∙ ap (λ n. o ++ flat_map paragraph (range_with_len 0 n)) next

pub paragraphs_all : (o out : List ℕ) (k : ℕ) → out ≡ o ++ flat_map paragraph (range_with_len 0 k) → k ≡ 200 → out ≡ o ++ page
unfolding page
paragraphs_all o out k h e = subst (λ n. out ≡ o ++ flat_map paragraph (range_with_len 0 n)) e h
