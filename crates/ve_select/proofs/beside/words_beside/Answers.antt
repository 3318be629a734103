use Rattle.std.proofs.Common.{◌≡◌, ◌+◌, ◌≤◌, length, subst, arith, rules}
use Rattle.std.specs.Str.{chars}
use Rattle.unicode_segmentation.specs.Word.{word_bounds, is_word_break}
use Rattle.unicode_segmentation.specs.Iter.{word_bounds_left}
use Rattle.ve_select.specs.Passing.{IsPassing, char_total}
use Rattle.ve_select.proofs.CharLemmas.{char_total-segments, chars-within}
use Rattle.ve_select.proofs.PassingLemmas.{passing_start, passing_on, passed_below, passed_within}
use Rattle.ve_select.proofs.beside.words_beside.Goals as goal

pub loop-word-init : goal.loop-word-init
loop-word-init c =
    rw (c.lower-below.ensures, c.into_iter-word-iterator.ensures.into_iter_gives, c.split_word_bounds-word-items.ensures.left)
    (passing_start c.args.bound (word_bounds c.args.text.now))

pub overflow_add-end : goal.overflow_add-end
overflow_add-end c =
    let all = word_bounds c.args.text.now in
    let here = subst (λ l. IsPassing c.args.bound all l c.loop-word.end c.loop-word.below) c.in-Some.ensures.steps c.loop-word.invariant in
    let room = passed_within c.args.bound all c.in-Some.word.now (word_bounds_left c.next.new.self) c.loop-word.end c.loop-word.below here in
    let total : char_total all ≡ length (chars c.args.text.now) = char_total-segments is_word_break c.args.text.now in
    let bytes = chars-within c.args.text.now c.utf8.text in
    let count = c.char_count-end.ensures in
    let fits : c.loop-word.end + c.char_count-end.result ≤ length c.args.text.now = omega arith in
    search (rules, arith)

pub returns-then-end-bound-clause-below : goal.returns-then-end-bound-clause-below
returns-then-end-bound-clause-below c =
    let all = word_bounds c.args.text.now in
    let here = subst (λ l. IsPassing c.args.bound all l c.loop-word.end c.loop-word.below) c.in-Some.ensures.steps c.loop-word.invariant in
    let count = c.char_count-end.ensures in
    let high = c.if-end-bound.true in
    passed_below c.args.bound all c.in-Some.word.now (word_bounds_left c.next.new.self) c.loop-word.end c.loop-word.below here (omega arith)

pub returns-then-end-bound-clause-within : goal.returns-then-end-bound-clause-within
returns-then-end-bound-clause-within c x e =
    let all = word_bounds c.args.text.now in
    let here = subst (λ l. IsPassing c.args.bound all l c.loop-word.end c.loop-word.below) c.in-Some.ensures.steps c.loop-word.invariant in
    let room = passed_within c.args.bound all c.in-Some.word.now (word_bounds_left c.next.new.self) c.loop-word.end c.loop-word.below here in
    let total : char_total all ≡ length (chars c.args.text.now) = char_total-segments is_word_break c.args.text.now in
    let count = c.char_count-end.ensures in
    let same : c.loop-word.end + c.char_count-end.result ≡ x = cc in
    omega arith

pub loop-word-preserved : goal.loop-word-preserved
loop-word-preserved c =
    let all = word_bounds c.args.text.now in
    let here = subst (λ l. IsPassing c.args.bound all l c.loop-word.end c.loop-word.below) c.in-Some.ensures.steps c.loop-word.invariant in
    let count = c.char_count-end.ensures in
    let low = c.if-end-bound.false in
    rw (c.lower-below-in-loop-word.ensures, c.char_count-end.ensures)
    (passing_on c.args.bound all c.in-Some.word.now (word_bounds_left c.next.new.self) c.loop-word.end c.loop-word.below here (omega arith))
