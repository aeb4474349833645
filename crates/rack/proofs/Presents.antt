-- The levels that are wanted, as bytes.
use Rattle.std.proofs.Common.{◌≡◌, ℕ, Bool, ◌&&◌, ◌||◌, ap, ◌∙◌, ap₂, arith}
use lib.Bits.{bit_and, bit_or}
use Rattle.card.specs.Bits.{bit}
use Rattle.card.proofs.Bitwise.{bits_or}
use Rattle.bits.specs.Bytes.{byte, highest}
use Rattle.bits.proofs.Bytes.{bit_byte, highest_same, and_byte}

-- the levels of two sides, the second masked
pub wanted_byte : (p q m : ℕ → Bool) {a b c : ℕ} → a ≡ byte p → b ≡ byte q → c ≡ byte m → bit_or a (bit_and b c) ≡ byte (λ n. p n || (q n && m n))
wanted_byte p q m ea eb ec = ap₂ bit_or ea (ap₂ bit_and eb ec ∙ and_byte q m) ∙ bits_or p (λ n. q n && m n) 8

pub top_of : (p : ℕ → Bool) {b : ℕ} → b ≡ byte p → highest (bit b) 7 ≡ highest p 7
top_of p {b} e = highest_same (bit b) p 7 (λ n h. ap (λ k. bit k n) e ∙ bit_byte p n (omega arith))
