use Rattle.std.proofs.Common.{◌≡◌}
use Rattle.card.specs.Source.{any_asks}
use Rattle.bits.specs.Bytes.{byte}
use Rattle.mc68153.specs.Sheet.{source_at}
use Rattle.mc68153.proofs.Mc68153Card.asked.Given as goal

-- the levels at which the inputs passed ask
abbrev pub invariant-loop-input : goal.invariant-loop-input
invariant-loop-input l = l.levels ≡ byte (any_asks (source_at l.self) l.input-index)
