use Rattle.std.proofs.Common.{◌≡◌, ◌++◌, OnOk, sym, subst, arith}
use Rattle.ve_json.proofs.Escapes.{short_escape, numbered_escape, no_escape}
use Rattle.ve_json.proofs.quoted.push_escaped.Goals as goal

pub returns-then-letter-gt0-clause-ok : goal.returns-then-letter-gt0-clause-ok
returns-then-letter-gt0-clause-ok c =
    subst (λ s. OnOk c.push.result (c.push.new.self.text ≡ c.args.out.now.text ++ s))
    (short_escape c.args.byte c.escape_letter-letter.result c.escape_letter-letter.ensures c.if-letter-gt0.true) c.push.ensures.ok

pub returns-then-byte-lt32-clause-ok : goal.returns-then-byte-lt32-clause-ok
returns-then-byte-lt32-clause-ok c =
    let escape = numbered_escape c.args.byte c.escape_letter-letter.result c.escape_letter-letter.ensures (λ some. omega (arith, some, c.if-letter-gt0.false)) c.if-byte-lt32.true in
    subst (λ s. OnOk c.push-then-byte-lt32.result (c.push-then-byte-lt32.new.self.text ≡ c.args.out.now.text ++ s)) escape
    (rw (sym c.hex_digit.ensures, sym c.hex_digit-then-byte-lt32.ensures) c.push-then-byte-lt32.ensures.ok)

pub returns-else-byte-lt32-clause-ok : goal.returns-else-byte-lt32-clause-ok
returns-else-byte-lt32-clause-ok c =
    let escape = no_escape c.args.byte c.escape_letter-letter.result c.escape_letter-letter.ensures (λ some. omega (arith, some, c.if-letter-gt0.false)) (λ control. omega (arith, control, c.if-byte-lt32.false)) in
    subst (λ s. OnOk c.push_byte.result (c.push_byte.new.self.text ≡ c.args.out.now.text ++ s)) escape c.push_byte.ensures.ok
