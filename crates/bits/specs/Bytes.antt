-- Bytes by their bits.
use Rattle.std.specs.Prelude.{ℕ, zero, suc, Bool, cond, ◌&&◌, ◌==◌}
use Rattle.card.specs.Bits.{bit, bits_of}

-- the byte with bit c set for each c below 8 of which p holds
abbrev pub byte : (ℕ → Bool) → ℕ
byte p = bits_of p 8

-- x with bit n on or off
abbrev pub put : ℕ → Bool → ℕ → ℕ
put n on x = byte (λ c. cond (c == n) on (bit x c))

-- the bits that both have
abbrev pub both : ℕ → ℕ → ℕ
both x y = byte (λ c. bit x c && bit y c)

-- x without the bits of which p does not hold
abbrev pub only : (ℕ → Bool) → ℕ → ℕ
only p x = byte (λ c. p c && bit x c)

-- the highest of 1 to n that passes the test, or 0
unfoldable pub highest : (ℕ → Bool) → ℕ → ℕ
highest test zero = 0
highest test (suc n) = cond (test (suc n)) (suc n) (highest test n)
