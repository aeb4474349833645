use Rattle.std.proofs.Common.{refl}
use Rattle.card.specs.Withdrawing.{nobody}
use Rattle.card.proofs.withdrawn.Withdrawn.none.Goals as goal

pub returns : goal.returns
unfolding nobody
returns c = refl
