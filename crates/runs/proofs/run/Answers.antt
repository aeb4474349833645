use Rattle.std.proofs.Common.{◌++◌, vec_items, sym, ap, ◌∙◌}
use Rattle.std.proofs.lemmas.List.{at_drop_all, append-nil}
use Rattle.rack.specs.Machine.{start}
use Rattle.rack.proofs.Bounds.{parts_of}
use Rattle.runs.specs.Turns.{end_of_run, results_of}
use Rattle.runs.proofs.Keeps.{run_keeps}
use Rattle.runs.proofs.run.Goals as goal

pub returns : goal.returns
returns g c =
    let p = parts_of g.H.Card g.H.Handler g.C.Card in
    let calls = c.args.calls.now in
    let x = start c.args.number c.args.handler c.args.chain in
    let y = c.loop-call.rack in
    record {
      leads = sym (at_drop_all (end_of_run p y) calls c.loop-call.call-index c.loop-call-test.false) ∙ c.loop-call.invariant.0 ∙ ap (λ z. end_of_run p z calls) c.new-rack.ensures;
      gives = sym (append-nil (vec_items c.loop-call.results)) ∙ ap (λ l. vec_items c.loop-call.results ++ l) (sym (at_drop_all (results_of p y) calls c.loop-call.call-index c.loop-call-test.false)) ∙ c.loop-call.invariant.1 ∙ ap (λ z. results_of p z calls) c.new-rack.ensures;
      keeps = run_keeps p g.met.H.Card.laws g.met.H.Handler.notices g.met.C.Card.laws c.args.number c.args.handler c.args.chain calls;
    }
