use Rattle.std.proofs.Common.{◌≡◌, ◌≢◌, ◌↔◌, Bool, IsTrue, List, ℕ, length, Fits, w64, rules, sym, ◌∙◌, subst, arith}
use Rattle.model_items.specs.declared.item.Item.{Item}
use Rattle.ve_offsets.specs.Nearest.{IsContentBefore, IsContentAfter}
use Rattle.ve_offsets.proofs.NearestLemmas.{NoneNearer, none_yet, nearest_before, nearest_after, none_further, none_at_all, so, not_so}
use Rattle.ve_offsets.proofs.nearest.search.Goals as goal

-- a reader is its list
of_before : {read items : List Item} {o away : ℕ} {b : Bool} → read ≡ items → (IsTrue b ↔ IsContentBefore read o away) → IsTrue b ↔ IsContentBefore items o away
of_before {o = o} {away = away} {b = b} is h = subst (λ items. IsTrue b ↔ IsContentBefore items o away) is h

of_after : {read items : List Item} {o away : ℕ} {b : Bool} → read ≡ items → (IsTrue b ↔ IsContentAfter read o away) → IsTrue b ↔ IsContentAfter items o away
of_after {o = o} {away = away} {b = b} is h = subst (λ items. IsTrue b ↔ IsContentAfter items o away) is h

pub loop-before-init : goal.loop-before-init
loop-before-init c = record { none = none_yet c.args.doc.list.now.items c.args.o; before = c.new-before.ensures; after = c.new-after.ensures }

pub returns-then-is_content_before-clause-nearest : goal.returns-then-is_content_before-clause-nearest
returns-then-is_content_before-clause-nearest c =
    nearest_before c.args.doc.list.now.items c.args.o c.loop-before.away c.requires.within c.loop-before.invariant.none
    (so c.is_content_before.result c.if-is_content_before.true (of_before c.loop-before.invariant.before c.is_content_before.ensures.content))

pub returns-then-is_content_after-clause-nearest : goal.returns-then-is_content_after-clause-nearest
returns-then-is_content_after-clause-nearest c =
    nearest_after c.args.doc.list.now.items c.args.o c.loop-before.away c.requires.within c.loop-before.invariant.none
    (not_so c.is_content_before.result c.if-is_content_before.false (of_before c.loop-before.invariant.before c.is_content_before.ensures.content))
    (so c.is_content_after.result c.if-is_content_after.true (of_after c.loop-before.invariant.after c.is_content_after.ensures.content))

pub returns-then-away-len-clause-none : goal.returns-then-away-len-clause-none
returns-then-away-len-clause-none c =
    let items = c.args.doc.list.now.items in
    let e : c.loop-before.away ≡ length items = c.if-away-len.true ∙ c.len-len.ensures in
    none_at_all items c.args.o c.requires.within (subst (NoneNearer items c.args.o) e c.loop-before.invariant.none)
    (subst (λ away. ¬ IsContentBefore items c.args.o away) e
    (not_so c.is_content_before.result c.if-is_content_before.false (of_before c.loop-before.invariant.before c.is_content_before.ensures.content)))
    (subst (λ away. ¬ IsContentAfter items c.args.o away) e
    (not_so c.is_content_after.result c.if-is_content_after.false (of_after c.loop-before.invariant.after c.is_content_after.ensures.content)))

pub overflow_add-away : goal.overflow_add-away
overflow_add-away c =
    let all : Fits w64 c.len-len.result = search rules in
    let more : c.loop-before.away ≢ c.len-len.result = c.if-away-len.false in
    omega (arith, all, c.loop-before.invariant.none.within, more, c.len-len.ensures)

pub loop-before-smaller : goal.loop-before-smaller
loop-before-smaller c =
    let more : c.loop-before.away ≢ c.len-len.result = c.if-away-len.false in
    omega (arith, c.loop-before.invariant.none.within, more, c.len-len.ensures)

pub loop-before-preserved : goal.loop-before-preserved
loop-before-preserved c = record {
  none = none_further c.args.doc.list.now.items c.args.o c.loop-before.away (λ e. c.if-away-len.false (e ∙ sym c.len-len.ensures)) c.loop-before.invariant.none
      (not_so c.is_content_before.result c.if-is_content_before.false (of_before c.loop-before.invariant.before c.is_content_before.ensures.content))
      (not_so c.is_content_after.result c.if-is_content_after.false (of_after c.loop-before.invariant.after c.is_content_after.ensures.content));
  before = c.is_content_before.ensures.list ∙ c.loop-before.invariant.before;
  after = c.is_content_after.ensures.list ∙ c.loop-before.invariant.after;
}
