use Rattle.std.proofs.Common.{sym, ◌∙◌}
use Rattle.std.proofs.lemmas.List.{at_drop_all}
use Rattle.card.specs.Runs.{end_of}
use Rattle.card.specs.Edges.{leaves}
use Rattle.card.proofs.Balances.{edges_kept}
use Rattle.card.proofs.calls.run.Goals as goal

pub returns : goal.returns
returns g c = record {
  after = sym (at_drop_all (end_of (leaves g.C.Card.model) c.loop-call.card) c.args.calls.now c.loop-call.call-index c.loop-call-test.false) ∙ c.loop-call.invariant;
  edges = edges_kept g.C.Card.model g.met.C.Card.laws c.args.card.now c.args.calls.now;
}
