use Rattle.std.proofs.Common.{refl}
use Rattle.card.specs.Withdrawing.{union}
use Rattle.card.proofs.withdrawn.Withdrawn.union.Goals as goal

pub returns : goal.returns
unfolding union
returns c = refl
