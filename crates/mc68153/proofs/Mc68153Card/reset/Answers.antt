use Rattle.std.proofs.Common.{◌∙◌, arith}
use Rattle.std.proofs.lemmas.Bool.{cond-true, lt-ltb}
use Rattle.mc68153.specs.Sheet.{fresh_input, input_at}
use Rattle.mc68153.proofs.Calls.{is_table, reset_is}
use Rattle.mc68153.proofs.Mc68153Card.reset.Goals as goal

pub returns : goal.returns
returns c =
    let x = c.args.self.now in
    record {
      result = reset_is x c.none.result c.none.ensures;
      after = is_table c.loop-input.input-items (λ s. fresh_input (input_at x s).asserted) c.loop-input.invariant.0 (λ s h. c.loop-input.invariant.1 s ∙ cond-true _ _ _ (lt-ltb s c.loop-input.input-index (omega (arith, c.loop-input-test.false))));
    }
