-- The two sides of a script as signs, and what is open after them.
use Rattle.std.proofs.Common.{◌≡◌, ℕ, suc, ◌+◌, ◌-◌, Bool, true, false, Option, Some, None, List, [], ◌∷◌, map, option_map, refl, ap, ◌∙◌}
use Rattle.ve_kinds.specs.declared.kind.Kind.TheVariants.{Root}
use Rattle.ve_arena.specs.declared.node.ArenaNode.{ArenaNode}
use Rattle.ve_arena.specs.Arena.{slot_at}
use Rattle.ve_repair.specs.Work as W
use Rattle.ve_repair.specs.Tokens.{Token, old_side}
use Rattle.ve_repair.specs.Tokens as T
use Rattle.ve_repair.specs.Spelled.{Sign, BeginOf, LettersOf, EndOf, token_of}
use Rattle.ve_repair.specs.Script.{Mark, KeptLetter, CutLetter, NewLetter, KeptBegin, CutBegin, NewBegin, KeptEnd, CutEnd, NewEnd, Running, NoRun, InRun, ChangeReader, is_seen, one_more, run_end, ended, keep_step, kept_reader, cut_step, script_for, run_sign, signs_for}
use Rattle.ve_repair.specs.Sizes.{Begun, sizes, open_after, place_after, HaveSizes}
use Rattle.ve_repair.specs.Labels.{len_in}
use Rattle.ve_repair.specs.Lengths.{kindless, new_signs}

-- what a script makes are the signs beside it
ran : (supply : ℕ → ℕ) (run : Running) (made : ℕ) (xs : List W.Step) (ss : List Sign) → new_signs xs ≡ kindless ss → new_signs (run_end supply run made xs) ≡ kindless (run_sign supply run made ss)
ran supply NoRun made xs ss h = h
ran supply (InRun more None any) made xs ss h = ap (λ l. LettersOf (supply made) (suc more) ∷ l) h
ran supply (InRun more (Some n) any) made xs ss h = ap (λ l. LettersOf n (suc more) ∷ l) h

kept : (known : Bool) (t : ℕ) (run : Running) (xs : List W.Step) → new_signs (keep_step known t run xs) ≡ new_signs xs
kept true t run xs = refl
kept false t NoRun xs = refl
kept false t (InRun more text true) xs = refl
kept false t (InRun more text false) xs = refl

cut : (known ends : Bool) (t : ℕ) (xs : List W.Step) → new_signs (cut_step known ends t xs) ≡ new_signs xs
cut known false t xs = refl
cut true true t xs = refl
cut false true t xs = refl

pub makes_signs : (supply : ℕ → ℕ) (ms : List Mark) (r : ChangeReader) → new_signs (script_for supply ms r) ≡ kindless (signs_for supply ms r)
makes_signs supply [] r = ran supply r.run r.made [] [] refl
makes_signs supply (KeptLetter t ends ∷ ms) r =
    kept (is_seen r.seen t) t (one_more r.run) (script_for supply ms (kept_reader t r)) ∙ makes_signs supply ms (kept_reader t r)
makes_signs supply (CutLetter t ends ∷ ms) r = cut (is_seen r.seen t) ends t (script_for supply ms r) ∙ makes_signs supply ms r
makes_signs supply (NewLetter ∷ ms) r = makes_signs supply ms (record r { run = one_more r.run })
makes_signs supply (KeptBegin n kind ∷ ms) r = ran supply r.run r.made _ (BeginOf n kind ∷ signs_for supply ms (ended r)) (ap (λ l. BeginOf n Root ∷ l) (makes_signs supply ms (ended r)))
makes_signs supply (CutBegin n ∷ ms) r = makes_signs supply ms r
makes_signs supply (NewBegin n kind ∷ ms) r = ran supply r.run r.made _ (BeginOf n kind ∷ signs_for supply ms (ended r)) (ap (λ l. BeginOf n Root ∷ l) (makes_signs supply ms (ended r)))
makes_signs supply (KeptEnd kind ∷ ms) r = ran supply r.run r.made _ (EndOf kind ∷ signs_for supply ms (ended r)) (ap (λ l. EndOf Root ∷ l) (makes_signs supply ms (ended r)))
makes_signs supply (CutEnd ∷ ms) r = makes_signs supply ms r
makes_signs supply (NewEnd kind ∷ ms) r = ran supply r.run r.made _ (EndOf kind ∷ signs_for supply ms (ended r)) (ap (λ l. EndOf Root ∷ l) (makes_signs supply ms (ended r)))

-- kinds decide no length
pub sizes-kindless : (ss : List Sign) (open_ : List Begun) (at : ℕ) → sizes (kindless ss) open_ at ≡ sizes ss open_ at
sizes-kindless [] open_ at = refl
sizes-kindless (BeginOf n kind ∷ ss) open_ at = sizes-kindless ss (record { node = n; from = at } ∷ open_) (suc at)
sizes-kindless (LettersOf n count ∷ ss) open_ at = ap (λ l. record { node = n; len = count } ∷ l) (sizes-kindless ss open_ (at + count))
sizes-kindless (EndOf kind ∷ ss) [] at = sizes-kindless ss [] (suc at)
sizes-kindless (EndOf kind ∷ ss) (b ∷ open_) at = ap (λ l. record { node = b.node; len = suc at - b.from } ∷ l) (sizes-kindless ss open_ (suc at))

pub open-kindless : (ss : List Sign) (open_ : List Begun) (at : ℕ) → open_after (kindless ss) open_ at ≡ open_after ss open_ at
open-kindless [] open_ at = refl
open-kindless (BeginOf n kind ∷ ss) open_ at = open-kindless ss (record { node = n; from = at } ∷ open_) (suc at)
open-kindless (LettersOf n count ∷ ss) open_ at = open-kindless ss open_ (at + count)
open-kindless (EndOf kind ∷ ss) [] at = open-kindless ss [] (suc at)
open-kindless (EndOf kind ∷ ss) (b ∷ open_) at = open-kindless ss open_ (suc at)

pub place-kindless : (ss : List Sign) (at : ℕ) → place_after (kindless ss) at ≡ place_after ss at
place-kindless [] at = refl
place-kindless (BeginOf n kind ∷ ss) at = place-kindless ss (suc at)
place-kindless (LettersOf n count ∷ ss) at = place-kindless ss (at + count)
place-kindless (EndOf kind ∷ ss) at = place-kindless ss (suc at)

-- what a script passes, with the lengths of its texts
abbrev pub old_signs : (ℕ → ℕ) → List W.Step → List Sign
old_signs len [] = []
old_signs len (W.Enter W.Keep n ∷ xs) = BeginOf n Root ∷ old_signs len xs
old_signs len (W.Enter W.Drop n ∷ xs) = BeginOf n Root ∷ old_signs len xs
old_signs len (W.Enter W.Put n ∷ xs) = old_signs len xs
old_signs len (W.Leave W.Keep ∷ xs) = EndOf Root ∷ old_signs len xs
old_signs len (W.Leave W.Drop ∷ xs) = EndOf Root ∷ old_signs len xs
old_signs len (W.Leave W.Put ∷ xs) = old_signs len xs
old_signs len (W.Text W.Keep n ∷ xs) = LettersOf n (len n) ∷ old_signs len xs
old_signs len (W.Text W.Drop n ∷ xs) = LettersOf n (len n) ∷ old_signs len xs
old_signs len (W.Text W.Put n ∷ xs) = old_signs len xs
old_signs len (W.Count n count ∷ xs) = old_signs len xs

abbrev token_sign : (ℕ → ℕ) → Token → Sign
token_sign len (T.Begin n) = BeginOf n Root
token_sign len (T.Letters n) = LettersOf n (len n)
token_sign len T.End = EndOf Root

by_tokens : (len : ℕ → ℕ) (xs : List W.Step) → old_signs len xs ≡ map (token_sign len) (old_side xs [])
by_tokens len [] = refl
by_tokens len (W.Enter W.Keep n ∷ xs) = ap (λ l. BeginOf n Root ∷ l) (by_tokens len xs)
by_tokens len (W.Enter W.Drop n ∷ xs) = ap (λ l. BeginOf n Root ∷ l) (by_tokens len xs)
by_tokens len (W.Enter W.Put n ∷ xs) = by_tokens len xs
by_tokens len (W.Leave W.Keep ∷ xs) = ap (λ l. EndOf Root ∷ l) (by_tokens len xs)
by_tokens len (W.Leave W.Drop ∷ xs) = ap (λ l. EndOf Root ∷ l) (by_tokens len xs)
by_tokens len (W.Leave W.Put ∷ xs) = by_tokens len xs
by_tokens len (W.Text W.Keep n ∷ xs) = ap (λ l. LettersOf n (len n) ∷ l) (by_tokens len xs)
by_tokens len (W.Text W.Drop n ∷ xs) = ap (λ l. LettersOf n (len n) ∷ l) (by_tokens len xs)
by_tokens len (W.Text W.Put n ∷ xs) = by_tokens len xs
by_tokens len (W.Count n count ∷ xs) = by_tokens len xs

abbrev pub lens : List (Option ArenaNode) → ℕ → ℕ
lens slots n = len_in (slot_at slots n)

len-some : (o : Option ArenaNode) (len : ℕ) → option_map (λ node. node.len) o ≡ Some len → len_in o ≡ len
len-some None len h = let bad : ◌≡◌ {A = Option ℕ} None (Some len) = h in cc
len-some (Some node) len h = cc

signs_again : (slots : List (Option ArenaNode)) (ss : List Sign) (open_ : List Begun) (at : ℕ) → HaveSizes slots (sizes ss open_ at) → map (token_sign (lens slots)) (map token_of ss) ≡ kindless ss
signs_again slots [] open_ at h = refl
signs_again slots (BeginOf n kind ∷ ss) open_ at h = ap (λ l. BeginOf n Root ∷ l) (signs_again slots ss (record { node = n; from = at } ∷ open_) (suc at) h)
signs_again slots (LettersOf n count ∷ ss) open_ at h = λ i. LettersOf n (len-some (slot_at slots n) count h.0 i) ∷ signs_again slots ss open_ (at + count) h.1 i
signs_again slots (EndOf kind ∷ ss) [] at h = ap (λ l. EndOf Root ∷ l) (signs_again slots ss [] (suc at) h)
signs_again slots (EndOf kind ∷ ss) (b ∷ open_) at h = ap (λ l. EndOf Root ∷ l) (signs_again slots ss open_ (suc at) h.1)

-- a script that passes signs passes them with the lengths that the arena has
pub passes_signs : (slots : List (Option ArenaNode)) (xs : List W.Step) (ss : List Sign) (open_ : List Begun) (at : ℕ) → old_side xs [] ≡ map token_of ss → HaveSizes slots (sizes ss open_ at) →
    old_signs (lens slots) xs ≡ kindless ss
passes_signs slots xs ss open_ at e h = by_tokens (lens slots) xs ∙ ap (map (token_sign (lens slots))) e ∙ signs_again slots ss open_ at h
