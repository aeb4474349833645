use Rattle.std.proofs.Common.{Ok, refl, ap, ◌∙◌}
use Rattle.card.specs.Meaning.{lost}
use Rattle.card.proofs.Withdrawals.{told_none}
use Rattle.plain.specs.Sheet.{plain_model}
use Rattle.plain.proofs.PlainHandlerCard.reset.Goals as goal

pub returns : goal.returns
returns c = let m = plain_model.meaning c.args.self.now in record { result = ap Ok (c.none.ensures ∙ told_none (lost m m) 0 (λ s h. refl)); after = refl }
