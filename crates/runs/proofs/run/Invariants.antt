use Rattle.std.proofs.Common.{◌≡◌, ◌++◌, drop, vec_items}
use Rattle.rack.proofs.Bounds.{parts_of}
use Rattle.runs.specs.Turns.{end_of_run, results_of}
use Rattle.runs.proofs.run.Given as goal

-- the calls yet to make lead where all of them do, and give what is left to give
abbrev pub invariant-loop-call : goal.invariant-loop-call
invariant-loop-call g l =
    let p = parts_of g.H.Card g.H.Handler g.C.Card in
    let rest = drop l.call-index l.calls in
    (end_of_run p l.rack rest ≡ end_of_run p l.initial.rack l.calls) × (vec_items l.results ++ results_of p l.rack rest ≡ results_of p l.initial.rack l.calls)
