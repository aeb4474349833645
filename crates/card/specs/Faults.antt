-- The number, layer and place of each fault of a card.
use Rattle.std.specs.Prelude.{ℕ}
use Rattle.card.specs.declared.faults.Layer.{Layer}
use Rattle.card.specs.declared.faults.Layer.TheVariants.{Card}
use Rattle.card.specs.declared.faults.Refusal.{Refusal}
use Rattle.card.specs.declared.faults.CardFault.{CardFault}
use Rattle.card.specs.declared.faults.CardFault.TheVariants.{Oversize, NoSource, NoRegister, NoAccess, BadLevel, NoControl}

abbrev pub refusal : ℕ → Layer → ℕ → Refusal
refusal n l p = record { number = n; layer = l; place = p }

-- the place is the source, the register, the level or the control register that was named
abbrev pub card_refusal : CardFault → Refusal
card_refusal Oversize = refusal 14 Card 0
card_refusal (NoSource s) = refusal 15 Card s
card_refusal (NoRegister r) = refusal 16 Card r
card_refusal (NoAccess r) = refusal 17 Card r
card_refusal (BadLevel n) = refusal 18 Card n
card_refusal (NoControl c) = refusal 20 Card c
