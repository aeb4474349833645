use Rattle.std.proofs.Common.{sym, ◌∙◌}
use Rattle.mc68153.proofs.Calls.{asks_then, asks_else}
use Rattle.mc68153.proofs.Input.asks_at.Goals as goal

pub returns-then-asks : goal.returns-then-asks
returns-then-asks c = λ s. asks_then c.args.self.now c.args.level c.level.result s (sym (c.asks.ensures s) ∙ c.if-asks.true) c.level.ensures.value

pub returns-else-asks : goal.returns-else-asks
returns-else-asks c = λ s. c.if-asks.false ∙ asks_else c.args.self.now c.args.level s (sym (c.asks.ensures s) ∙ c.if-asks.false)
