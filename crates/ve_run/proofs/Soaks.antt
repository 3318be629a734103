-- Lines of a script that a machine takes, and what is counted of its replies.
use Rattle.std.proofs.Common.{◌≡◌, ◌+◌, ◌≤◌, ◌<◌, cond, ℕ, List, [], ◌∷◌, ◌++◌, Bool, true, false, Option, map, length, count_by, arith, refl, sym, ap, ◌∙◌, subst, append_assoc, append-nil, length-append, codes, suc, ◌^◌, if◌then◌else◌, MatchBool, Result, Ok, Err, OnErr}
use Rattle.std.specs.List.{concat}
use Rattle.std.specs.Io.KnownBytes.{Appends}
use Rattle.std.proofs.KnownBytes.{Appends-trans}
use Rattle.std.proofs.lemmas.List.{map-append}
use Rattle.std.proofs.lemmas.List.Folds.{concat-append}
use Rattle.std.proofs.lemmas.List.Sums.{count_by-le-length, sum_by_push}
use Rattle.sha2.specs.Hashers.{Holds256}
use Rattle.model_script.specs.Lines.{with_newlines}
use Rattle.model_script.specs.Output.{Meaning, replies, state_after}
use Rattle.model_script.proofs.Turns.{replies_follow_on, state_follows_on, cost_follows_on}
use Rattle.model_world.specs.declared.reply.Reply.{Reply}
use Rattle.ve_run.specs.declared.tally.Tally.{Tally}
use Rattle.ve_run.specs.Run.{reply_line, AppendsPrefix}
use Rattle.ve_run.specs.Soak.{how_many_begin, begins, reply_lines, IsTally, TookLines}

-- ---- a machine

pub took_none : {W : Type 0} (m : Meaning W Reply) (world : W) (steps : ℕ) → TookLines m world world steps steps []
took_none m world steps = record { state = refl; cost = omega arith }

pub took_one_more : {W : Type 0} (m : Meaning W Reply) (a b c : W) (j k l : ℕ) (done : List (List ℕ)) (line : List ℕ) → TookLines m a b j k done
    → c ≡ m.next b line → l ≤ k + m.cost b line → TookLines m a c j l (done ++ line ∷ [])
took_one_more m a b c j k l done line h next cost = record {
  state = next ∙ ap (λ w. m.next w line) h.state ∙ sym (state_follows_on _ _ m a done (line ∷ []));
  cost = let spent = subst (λ w. l ≤ k + m.cost w line) h.state cost in omega (arith, h.cost, spent, cost_follows_on _ _ m a done (line ∷ []));
}

pub took_all : {W : Type 0} (m : Meaning W Reply) (a b : W) (j k : ℕ) (done lines ahead : List (List ℕ)) → TookLines m a b j k done → lines ≡ done ++ ahead → ahead ≡ [] → TookLines m a b j k lines
took_all m a b j k done lines ahead h parts none = subst (TookLines m a b j k) (sym (parts ∙ ap (λ x. done ++ x) none ∙ append-nil done)) h

-- ---- its replies

pub reply_lines_one_more : {W : Type 0} (m : Meaning W Reply) (a b : W) (j k : ℕ) (done : List (List ℕ)) (line reply : List ℕ) → TookLines m a b j k done → reply ≡ reply_line (m.reply b line)
    → reply_lines m a done ++ reply ∷ [] ≡ reply_lines m a (done ++ line ∷ [])
reply_lines_one_more m a b j k done line reply h is =
    ap (λ r. reply_lines m a done ++ r ∷ []) (is ∙ ap (λ w. reply_line (m.reply w line)) h.state)
    ∙ sym (ap (map reply_line) (replies_follow_on _ _ m a done (line ∷ [])) ∙ map-append reply_line (replies m a done) (m.reply (state_after m a done) line ∷ []))

pub tally_one_more : {W : Type 0} (m : Meaning W Reply) (a b : W) (j k : ℕ) (done : List (List ℕ)) (line reply : List ℕ) (old new : Tally) → TookLines m a b j k done → reply ≡ reply_line (m.reply b line)
    → IsTally old (reply_lines m a done) → ((answers : List (List ℕ)) → IsTally old answers → IsTally new (answers ++ reply ∷ [])) → IsTally new (reply_lines m a (done ++ line ∷ []))
tally_one_more m a b j k done line reply old new h is tally add =
    subst (IsTally new) (reply_lines_one_more m a b j k done line reply h is) (add (reply_lines m a done) tally)

length-reply_lines : {W : Type 0} (m : Meaning W Reply) (a : W) (done : List (List ℕ)) → length (reply_lines m a done) ≡ length done
length-reply_lines m a [] = refl
length-reply_lines m a (line ∷ done) = ap suc (length-reply_lines m (m.next a line) done)

count_at_most : (word : List ℕ) (answers : List (List ℕ)) → how_many_begin word answers ≤ length answers
count_at_most word answers = count_by-le-length (begins word) answers

-- counts stay below the number of lines
pub few : {W : Type 0} (m : Meaning W Reply) (a : W) (done lines ahead more : List (List ℕ)) (line : List ℕ) (tally : Tally) → IsTally tally (reply_lines m a done)
    → lines ≡ done ++ ahead → ahead ≡ line ∷ more → length lines < 2 ^ 63 → (tally.lines < 2 ^ 63) × (tally.accepted < 2 ^ 63) × (tally.refused < 2 ^ 63)
few m a done lines ahead more line tally h parts some small =
    let count = length-reply_lines m a done in
    let all = ap length parts ∙ length-append done ahead in
    let oks = count_at_most (codes "ok") (reply_lines m a done) in
    let nos = count_at_most (codes "no") (reply_lines m a done) in
    (omega (arith, h.lines, count, all, small), omega (arith, h.accepted, oks, count, all, small), omega (arith, h.refused, nos, count, all, small))

-- ---- one reply counted

count_one_more : (p : List ℕ → Bool) (answers : List (List ℕ)) (line : List ℕ) → count_by p (answers ++ line ∷ []) ≡ count_by p answers + cond (p line) 1 0
count_one_more p answers line = sum_by_push (λ x. cond (p x) 1 0) answers line

concat_one_more : (answers : List (List ℕ)) (line : List ℕ) → concat (answers ++ line ∷ []) ≡ concat answers ++ line
concat_one_more answers line = concat-append answers (line ∷ []) ∙ ap (λ x. concat answers ++ x) (append-nil line)

if_cond : (b : Bool) (m n : ℕ) → (if b then m else n) ≡ cond b m n
if_cond true m n = refl
if_cond false m n = refl

counted_more : (word line : List ℕ) (answers : List (List ℕ)) (old new : ℕ) → old ≡ how_many_begin word answers → new ≡ old + (if begins word line then 1 else 0) → new ≡ how_many_begin word (answers ++ line ∷ [])
counted_more word line answers old new h e =
    e ∙ ap (λ n. n + (if begins word line then 1 else 0)) h ∙ ap (λ n. how_many_begin word answers + n) (if_cond (begins word line) 1 0) ∙ sym (count_one_more (begins word) answers line)

pub tally_added : (old new : Tally) (answers : List (List ℕ)) (line : List ℕ) → IsTally old answers → new.lines ≡ old.lines + 1
    → new.accepted ≡ old.accepted + (if begins (codes "ok") line then 1 else 0) → new.refused ≡ old.refused + (if begins (codes "no") line then 1 else 0)
    → Holds256 new.hashed (concat answers ++ line) → IsTally new (answers ++ line ∷ [])
tally_added old new answers line h lines oks nos hashed = record {
  lines = let count = h.lines in omega (arith, lines, count, length-append answers (line ∷ []));
  accepted = counted_more (codes "ok") line answers old.accepted new.accepted h.accepted oks;
  refused = counted_more (codes "no") line answers old.refused new.refused h.refused nos;
  hashed = subst (Holds256 new.hashed) (sym (concat_one_more answers line)) hashed;
}

-- ---- a text in parts

pub on_err : {A E P : Type 0} (r : Result A E) → P → OnErr r P
on_err (Ok x) h = tt
on_err (Err e) h = h

pub prefix_of_whole : (a b : Option (List ℕ)) (done ahead whole : List ℕ) → whole ≡ done ++ ahead → Appends a b done → AppendsPrefix a b whole
prefix_of_whole a b done ahead whole e h = (done, ahead, e, h)

pub prefix_further : (a b c : Option (List ℕ)) (done piece ahead whole : List ℕ) → whole ≡ done ++ (piece ++ ahead) → Appends a b done → AppendsPrefix b c piece → AppendsPrefix a c whole
prefix_further a b c done piece ahead whole e h k =
    let (first, rest, parts, appended) = k in (
      done ++ first,
      rest ++ ahead,
      e ∙ ap (λ x. done ++ (x ++ ahead)) parts ∙ ap (λ x. done ++ x) (append_assoc first rest ahead) ∙ sym (append_assoc done first (rest ++ ahead)),
      Appends-trans a b c done first h appended,
    )

-- ---- whether a line comes

pub line_comes : (b : Bool) (ahead more : List (List ℕ)) (line : List ℕ) → b ≡ true → MatchBool b (ahead ≡ line ∷ more) (ahead ≡ []) → ahead ≡ line ∷ more
line_comes true ahead more line e h = h
line_comes false ahead more line e h = absurd (cc e)

pub none_comes : (b : Bool) (ahead more : List (List ℕ)) (line : List ℕ) → b ≡ false → MatchBool b (ahead ≡ line ∷ more) (ahead ≡ []) → ahead ≡ []
none_comes true ahead more line e h = absurd (cc e)
none_comes false ahead more line e h = h

-- the whole is what was done, the next line with its newline, and the rest
pub line_further : (done whole : List ℕ) (line : List ℕ) (ahead more : List (List ℕ)) → whole ≡ done ++ with_newlines ahead → ahead ≡ line ∷ more → whole ≡ done ++ ((line ++ 10 ∷ []) ++ with_newlines more)
line_further done whole line ahead more e is =
    e ∙ ap (λ x. done ++ with_newlines x) is ∙ ap (λ x. done ++ x) (sym (append_assoc line (10 ∷ []) (with_newlines more)))

pub whole_done : (done whole : List ℕ) (ahead : List (List ℕ)) → whole ≡ done ++ with_newlines ahead → ahead ≡ [] → done ≡ whole
whole_done done whole ahead e none = sym (e ∙ ap (λ x. done ++ with_newlines x) none ∙ append-nil done)

pub one_less : (line : List ℕ) (ahead more : List (List ℕ)) → ahead ≡ line ∷ more → length more < length ahead
one_less line ahead more e = omega (arith, ap length e)

pub done_further : (done lines ahead more : List (List ℕ)) (line : List ℕ) → lines ≡ done ++ ahead → ahead ≡ line ∷ more → lines ≡ (done ++ line ∷ []) ++ more
done_further done lines ahead more line e is = e ∙ ap (λ x. done ++ x) is ∙ sym (append_assoc done (line ∷ []) more)
