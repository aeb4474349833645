use Rattle.usc68hc908.specs.Parts.{pending_is}
use Rattle.usc68hc908.proofs.Usc68hc908.pending.Goals as goal

pub returns : goal.returns
returns c = pending_is c.args.self.now c.pending.result c.pending.ensures
