use Rattle.std.proofs.Common.{rules}
use Rattle.latches.proofs.Calls.{pending_is}
use Rattle.latches.proofs.Latches.pending.Goals as goal

pub returns : goal.returns
returns c = pending_is c.args.self.now c.args.edges (search rules) (search rules) (search rules)
