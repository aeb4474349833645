-- The sources told of a test: alone, and of two tests one above the other.
use Rattle.std.proofs.Common.{◌≡◌, ℕ, ◌+◌, ◌-◌, ◌*◌, ◌%◌, ◌^◌, ◌<◌, ◌≤◌, Bool, false, sym, ap, ◌∙◌, mod-eq_of_lt, mul_assoc, arith}
use lib.Bits.{bit_or, or_shifted_r}
use native.Mathlib.Nat.{mul-mod_left}
use Rattle.std.proofs.lemmas.Nat.{shl_whole, pow-add}
use Rattle.card.specs.declared.withdrawn.Withdrawn.{Withdrawn}
use Rattle.card.specs.Bits.{bit, bits_of}
use Rattle.card.specs.Withdrawing.{told, has, nobody, shifted, union}
use Rattle.card.proofs.Bitwise.{bits_below, bits_same, bits_none, bits_join, bit_of, own_bits}

unfoldable pub stored : ℕ → Withdrawn
stored n = record { bits = n }

-- what is told of a test, source by source
pub has_told : (p : ℕ → Bool) (k s : ℕ) → s < k → has (told p k) s ≡ p s
unfolding has told
has_told p k s h = bit_of p k s h

pub told_none : (p : ℕ → Bool) (k : ℕ) → ((s : ℕ) → s < k → p s ≡ false) → nobody ≡ told p k
unfolding told nobody stored
told_none p k h = ap stored (sym (bits_none p k h))

pub told_same : (p q : ℕ → Bool) (k : ℕ) → ((s : ℕ) → s < k → p s ≡ q s) → told p k ≡ told q k
unfolding told stored
told_same p q k h = ap stored (bits_same p q k h)

-- the sources whose bit of a byte is set
pub told_byte : (n : ℕ) → n < 256 → stored n ≡ told (bit n) 8
unfolding told stored
told_byte n h = ap stored (sym (own_bits n 8 ∙ mod-eq_of_lt h))

-- r is p below k, and q from k on
module _ (p q r : ℕ → Bool) (k l : ℕ) (front : (s : ℕ) → s < k → r s ≡ p s) (rear : (s : ℕ) → s < l → r (k + s) ≡ q s) where
  pub told_both : k + l ≤ 64 → told r (k + l) ≡ union (told p k) (shifted k (told q l))
  unfolding told union shifted stored
  told_both h = ap stored (bits_join p q r k l front rear ∙ sym (ap (bit_or (bits_of p k)) (shl_whole (bits_of q l) l k 64 (bits_below q l) (omega arith)) ∙ or_shifted_r (bits_of q l) k (bits_of p k) (bits_below p k)))

  pub told_front : ((s : ℕ) → s < l → q s ≡ false) → told r (k + l) ≡ told p k
  unfolding told stored
  told_front none = ap stored (bits_join p q r k l front rear ∙ rw (bits_none q l none) (omega arith))

  pub told_rear : ((s : ℕ) → s < k → p s ≡ false) → k + l ≤ 64 → told r (k + l) ≡ shifted k (told q l)
  unfolding told shifted stored
  told_rear none h = ap stored (bits_join p q r k l front rear ∙ rw (bits_none p k none) (omega (arith, shl_whole (bits_of q l) l k 64 (bits_below q l) (omega arith))))

-- nothing is left of sources numbered past the last
pub shifted_out : (w : Withdrawn) (k : ℕ) → 64 ≤ k → nobody ≡ shifted k w
unfolding nobody shifted stored
shifted_out w k h =
    let e : k ≡ (k - 64) + 64 = omega arith in
    let f : w.bits * 2 ^ k ≡ (w.bits * 2 ^ (k - 64)) * 2 ^ 64 = ap (λ n. w.bits * 2 ^ n) e ∙ ap (λ n. w.bits * n) (pow-add 2 (k - 64) 64) ∙ sym (mul_assoc w.bits (2 ^ (k - 64)) (2 ^ 64)) in
    ap stored (sym (ap (λ n. n % 2 ^ 64) f ∙ mul-mod_left (w.bits * 2 ^ (k - 64)) (2 ^ 64)))
