-- Which sources a call withdrew. All other files speak of them by the definitions here alone, so that the way they are stored can
-- change here.
use Rattle.std.specs.Prelude.{ℕ, ◌*◌, ◌%◌, ◌^◌, Bool, bit_or}
use Rattle.card.specs.declared.withdrawn.Withdrawn.{Withdrawn}
use Rattle.card.specs.Bits.{bit, bits_of}

-- the sources below k of which p holds
unfoldable pub told : (ℕ → Bool) → ℕ → Withdrawn
told p k = record { bits = bits_of p k }

-- whether source s is among them
unfoldable pub has : Withdrawn → ℕ → Bool
has w s = bit w.bits s

unfoldable pub nobody : Withdrawn
nobody = record { bits = 0 }

-- the same sources, each numbered higher by k: a source past the 64th has no bit
unfoldable pub shifted : ℕ → Withdrawn → Withdrawn
shifted k w = record { bits = (w.bits * 2 ^ k) % 2 ^ 64 }

-- the sources of both
unfoldable pub union : Withdrawn → Withdrawn → Withdrawn
union v w = record { bits = bit_or v.bits w.bits }

-- sources 0 to 63 as a number: bit s is source s
unfoldable pub first_word : Withdrawn → ℕ
first_word w = w.bits
