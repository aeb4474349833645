use Rattle.std.proofs.Common.{◌≡◌, drop}
use Rattle.card.specs.Runs.{end_of}
use Rattle.processor.specs.Steps.{fresh, leaves}
use Rattle.processor.proofs.runs.run.Given as goal

-- the calls yet to make lead where all of them do
abbrev pub invariant-loop-call : goal.invariant-loop-call
invariant-loop-call l = end_of leaves l.processor (drop l.call-index l.calls) ≡ end_of leaves (fresh l.number) l.calls
