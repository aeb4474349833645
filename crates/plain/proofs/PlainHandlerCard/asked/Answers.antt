use Rattle.std.proofs.Common.{sym, refl}
use Rattle.card.specs.Source.{any_asks}
use Rattle.card.proofs.Bitwise.{bits_none}
use Rattle.plain.specs.Sheet.{no_source}
use Rattle.plain.proofs.PlainHandlerCard.asked.Goals as goal

pub returns : goal.returns
unfolding any_asks
returns c = sym (bits_none (any_asks (λ s. no_source) 0) 8 (λ n h. refl))
