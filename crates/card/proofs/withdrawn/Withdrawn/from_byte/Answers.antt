use Rattle.std.proofs.Common.{rules}
use Rattle.card.proofs.Withdrawals.{stored, told_byte}
use Rattle.card.proofs.withdrawn.Withdrawn.from_byte.Goals as goal

pub returns : goal.returns
unfolding stored
returns c = told_byte c.args.sources (search rules)
