use Rattle.std.proofs.Common.{refl, ◌∙◌}
use Rattle.card.specs.Withdrawing.{shifted}
use Rattle.card.proofs.Withdrawals.{shifted_out}
use Rattle.card.proofs.withdrawn.Withdrawn.shifted.Goals as goal

pub returns-then-by-ge64 : goal.returns-then-by-ge64
returns-then-by-ge64 c = c.none.ensures ∙ shifted_out c.args.self c.args.by c.if-by-ge64.true

pub returns : goal.returns
unfolding shifted
returns c = refl
