use Rattle.std.proofs.Common.{sym, ◌∙◌, arith, rules}
use Rattle.bits.proofs.Bytes.{and_both}
use Rattle.usc68hc908.proofs.Calls.{write_imr, write_ier, write_ivr, write_isr}
use Rattle.usc68hc908.proofs.Usc68hc908Card.write.Goals as goal

pub returns-in-1 : goal.returns-in-1
returns-in-1 c = let done = write_imr c.args.self.now c.args.register c.args.value c.none.result c.in-1.is c.none.ensures in record { result = done.0; after = done.1 }

pub returns-in-2 : goal.returns-in-2
returns-in-2 c = let done = write_ier c.args.self.now c.args.register c.args.value c.withdraw_but.new.self c.withdraw_but.result c.in-2.is c.withdraw_but.ensures.after c.withdraw_but.ensures.result in record { result = done.0; after = done.1 }

pub returns-in-3 : goal.returns-in-3
returns-in-3 c = let done = write_ivr c.args.self.now c.args.register c.args.value c.none-in-3.result c.in-3.is (sym c.is_set.ensures ∙ c.if-is_set.true) c.none-in-3.ensures in record { result = done.0; after = done.1 }

pub returns-in-3-3 : goal.returns-in-3-3
returns-in-3-3 c =
    let done = write_isr c.args.self.now c.args.register c.args.value _ c.none-in-3-3.result c.in-3.is (sym c.is_set.ensures ∙ c.if-is_set.false) (λ z. omega arith) (and_both c.args.self.now.isr c.args.value (search rules)) c.none-in-3-3.ensures in
    record { result = done.0; after = done.1 }
