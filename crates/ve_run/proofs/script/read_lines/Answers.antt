use Rattle.std.proofs.Common.{◌≡◌, ◌+◌, ◌-◌, ◌<◌, ◌≤◌, ◌++◌, ◌∷◌, [], inl, inr, ℕ, List, Option, arith, length, take, get_or, refl, sym, ap, ◌∙◌, subst, append_assoc, append-nil, length-append, length-take}
use Rattle.std.proofs.lemmas.List.{take_more}
use Rattle.std.proofs.lemmas.Result.{err_from_is_err_and}
use Rattle.std.proofs.KnownBytes.{Consumes-nil, Consumes-trans}
use Rattle.std.specs.Io.KnownBytes.{Consumes}
use Rattle.ve_base.specs.Limits.{max_script}
use Rattle.ve_run.specs.Run.{Took}
use Rattle.ve_run.proofs.Runs.{Answered-nothing, Answered-more, BrokeOff-more, GaveUp-more}
use Rattle.ve_run.proofs.script.read_lines.Goals as goal

-- all of what was given counts
took_all : (a c : Option (List ℕ)) (script : List ℕ) → length script ≤ max_script → Consumes a c script → Took a c script []
took_all a c script short h = record { consumed = subst (Consumes a c) (sym (append-nil script)) h; short = short; beyond = inl refl }

-- the last byte of what was given is past the limit
took_past : (a b c : Option (List ℕ)) (script room : List ℕ) (space given : ℕ) → length script + space ≡ max_script → given ≡ space + 1 → space < length room
    → Consumes a b script → Consumes b c (take given room) → Took a c (script ++ take space room) (get_or room space 0 ∷ [])
took_past a b c script room space given count e l h k =
    let whole : length (script ++ take space room) ≡ max_script = omega (arith, length-append script (take space room), length-take space room, count, l) in
    record {
      consumed = subst (Consumes a c)
          (ap (λ n. script ++ take n room) e ∙ ap (λ r. script ++ r) (take_more room space 0 l) ∙ sym (append_assoc script (take space room) (get_or room space 0 ∷ [])))
          (Consumes-trans a b c script (take given room) h k);
      short = omega arith;
      beyond = inr (whole, refl);
    }

pub script-init : goal.script-init
script-init g c = record {
  script = [];
  count = refl;
  short = omega arith;
  consumed = Consumes-nil (g.S.Source.left c.args.source.now);
  answered = rw c.requires (Answered-nothing _ _ [] tt);
  source_later = omega arith;
  sink_later = omega arith;
  counted = omega arith;
}

pub script-preserved : goal.script-preserved
script-preserved g c =
    let inv = c.script.invariant in
    let given = c.in-Ok.given in
    let room = c.read_at_most.new.buffer in
    record {
      script = inv.script ++ take given room;
      count = length-append inv.script (take given room) ∙ omega (arith, length-take given room, inv.count, c.in-Ok.ensures.bound.0);
      short = omega arith;
      consumed = Consumes-trans _ _ _ _ _ inv.consumed c.in-Ok.ensures.bytes.0;
      answered = Answered-more _ _ _ _ _ _ _ _ inv.answered c.in_ok-feed-2.ensures.ok;
      source_later = omega (arith, inv.source_later, c.in-Ok.ensures.cause.later);
      sink_later = omega (arith, inv.sink_later, c.feed-in-script.ensures.later);
      counted = omega (arith, inv.counted, c.feed-in-script.ensures.counted);
    }

pub returns-then-given-space-clause-too_long : goal.returns-then-given-space-clause-too_long
returns-then-given-space-clause-too_long g c _ =
    let inv = c.script.invariant in
    let room = c.read_at_most.new.buffer in
    let space = max_script - c.script.taken in
    let given : c.in-Ok.given ≡ space + 1 = omega (arith, c.in-Ok.ensures.bound.1) in
    let inside : space < length room = omega (arith, c.in-Ok.ensures.bound.0) in (
      get_or room space 0,
      record {
        script = inv.script ++ take space room;
        took = took_past _ _ _ inv.script room space c.in-Ok.given (omega (arith, inv.count, inv.short)) given inside inv.consumed c.in-Ok.ensures.bytes.0;
        rest = c.feed.new.kept;
        answered = Answered-more _ _ _ _ _ _ _ _ inv.answered c.in_ok-feed.ensures.ok;
      },
    )

pub returns-in_err-feed-clause-write_fault : goal.returns-in_err-feed-clause-write_fault
returns-in_err-feed-clause-write_fault g c fault =
    let p = err_from_is_err_and c.from_residual.result c.from_residual.ensures.1 in
    let inv = c.script.invariant in
    let room = c.read_at_most.new.buffer in
    let space = max_script - c.script.taken in
    let given : c.in-Ok.given ≡ space + 1 = omega (arith, c.in-Ok.ensures.bound.1) in
    let inside : space < length room = omega (arith, c.in-Ok.ensures.bound.0) in
    record {
      script = inv.script ++ take space room;
      extra = get_or room space 0 ∷ [];
      took = took_past _ _ _ inv.script room space c.in-Ok.given (omega (arith, inv.count, inv.short)) given inside inv.consumed c.in-Ok.ensures.bytes.0;
      broke_off = BrokeOff-more _ _ _ _ _ _ _ _ _ inv.answered (c.feed.ensures.broke_off (cc (p.1, p.2, c.in_err-feed.was, fault))) (λ never. absurd never);
    }

pub returns-in_err-feed-clause-starved : goal.returns-in_err-feed-clause-starved
returns-in_err-feed-clause-starved g c want =
    let p = err_from_is_err_and c.from_residual.result c.from_residual.ensures.1 in
    let inv = c.script.invariant in
    let room = c.read_at_most.new.buffer in
    let space = max_script - c.script.taken in
    let given : c.in-Ok.given ≡ space + 1 = omega (arith, c.in-Ok.ensures.bound.1) in
    let inside : space < length room = omega (arith, c.in-Ok.ensures.bound.0) in
    record {
      script = inv.script ++ take space room;
      extra = get_or room space 0 ∷ [];
      took = took_past _ _ _ inv.script room space c.in-Ok.given (omega (arith, inv.count, inv.short)) given inside inv.consumed c.in-Ok.ensures.bytes.0;
      gave_up = GaveUp-more _ _ _ _ _ _ _ inv.answered (c.feed.ensures.starved (cc (p.1, p.2, c.in_err-feed.was, want)));
    }

pub returns-in_err-feed-2-clause-write_fault : goal.returns-in_err-feed-2-clause-write_fault
returns-in_err-feed-2-clause-write_fault g c fault =
    let p = err_from_is_err_and c.from_residual-in_err-feed-2.result c.from_residual-in_err-feed-2.ensures.1 in
    let inv = c.script.invariant in
    let given = c.in-Ok.given in
    let room = c.read_at_most.new.buffer in
    record {
      script = inv.script ++ take given room;
      extra = [];
      took = took_all _ _ _ (omega (arith, length-append inv.script (take given room), length-take given room, inv.count, inv.short)) (Consumes-trans _ _ _ _ _ inv.consumed c.in-Ok.ensures.bytes.0);
      broke_off = BrokeOff-more _ _ _ _ _ _ _ _ _ inv.answered (c.feed-in-script.ensures.broke_off (cc (p.1, p.2, c.in_err-feed-2.was, fault))) (λ never. absurd never);
    }

pub returns-in_err-feed-2-clause-starved : goal.returns-in_err-feed-2-clause-starved
returns-in_err-feed-2-clause-starved g c want =
    let p = err_from_is_err_and c.from_residual-in_err-feed-2.result c.from_residual-in_err-feed-2.ensures.1 in
    let inv = c.script.invariant in
    let given = c.in-Ok.given in
    let room = c.read_at_most.new.buffer in
    record {
      script = inv.script ++ take given room;
      extra = [];
      took = took_all _ _ _ (omega (arith, length-append inv.script (take given room), length-take given room, inv.count, inv.short)) (Consumes-trans _ _ _ _ _ inv.consumed c.in-Ok.ensures.bytes.0);
      gave_up = GaveUp-more _ _ _ _ _ _ _ inv.answered (c.feed-in-script.ensures.starved (cc (p.1, p.2, c.in_err-feed-2.was, want)));
    }
