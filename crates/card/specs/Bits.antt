-- Numbers by their bits.
use Rattle.std.specs.Prelude.{ℕ, zero, suc, ◌+◌, ◌*◌, ◌/◌, ◌%◌, ◌^◌, Bool, cond, ◌==◌}

-- whether bit c of n is set
abbrev pub bit : ℕ → ℕ → Bool
bit n c = n / 2 ^ c % 2 == 1

-- the number whose bits below k are those of which p holds
unfoldable pub bits_of : (ℕ → Bool) → ℕ → ℕ
bits_of p zero = 0
bits_of p (suc k) = cond (p k) 1 0 * 2 ^ k + bits_of p k
