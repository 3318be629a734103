-- The buffer after pieces are appended one by one.
use Rattle.std.proofs.Common.{◌≡◌, ℕ, List, ◌++◌, Result, Ok, Err, OnOk, ap, ◌∙◌, append_assoc}

pub on_ok : {A E : Type 0} {P Q : Type 0} (r : Result A E) → (P → Q) → OnOk r P → OnOk r Q
on_ok (Ok x) f h = f h
on_ok (Err e) f h = h

pub two : (o o1 o2 a b : List ℕ) → o1 ≡ o ++ a → o2 ≡ o1 ++ b → o2 ≡ o ++ (a ++ b)
two o o1 o2 a b h k = k ∙ ap (λ x. x ++ b) h ∙ append_assoc o a b

pub three : (o o1 o2 o3 a b c : List ℕ) → o1 ≡ o ++ a → o2 ≡ o1 ++ b → o3 ≡ o2 ++ c → o3 ≡ o ++ (a ++ b ++ c)
three o o1 o2 o3 a b c h k l = two o o2 o3 (a ++ b) c (two o o1 o2 a b h k) l

pub five : (o o1 o2 o3 o4 o5 a b c d e : List ℕ) → o1 ≡ o ++ a → o2 ≡ o1 ++ b → o3 ≡ o2 ++ c → o4 ≡ o3 ++ d → o5 ≡ o4 ++ e → o5 ≡ o ++ (a ++ b ++ c ++ d ++ e)
five o o1 o2 o3 o4 o5 a b c d e h k l m n =
    two o o4 o5 (a ++ b ++ c ++ d) e (two o o3 o4 (a ++ b ++ c) d (three o o1 o2 o3 a b c h k l) m) n

pub on_ok_same : {A E : Type 0} (r : Result A E) (o out a b : List ℕ) → a ≡ b → OnOk r (out ≡ o ++ a) → OnOk r (out ≡ o ++ b)
on_ok_same (Ok x) o out a b e h = h ∙ ap (λ l. o ++ l) e
on_ok_same (Err x) o out a b e h = h
