use Rattle.std.proofs.Common.{◌≡◌, drop}
use Rattle.card.specs.Runs.{end_of}
use Rattle.card.specs.Edges.{leaves}
use Rattle.card.proofs.calls.run.Given as goal

-- the calls yet to make lead where all of them do
abbrev pub invariant-loop-call : goal.invariant-loop-call
invariant-loop-call g l = end_of (leaves g.C.Card.model) l.card (drop l.call-index l.calls) ≡ end_of (leaves g.C.Card.model) l.initial.card l.calls
