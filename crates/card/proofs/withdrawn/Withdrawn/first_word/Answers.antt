use Rattle.std.proofs.Common.{refl}
use Rattle.card.specs.Withdrawing.{first_word}
use Rattle.card.proofs.withdrawn.Withdrawn.first_word.Goals as goal

pub returns : goal.returns
unfolding first_word
returns c = refl
