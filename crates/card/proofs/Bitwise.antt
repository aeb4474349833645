-- Numbers made of bits.
use Rattle.std.proofs.Common.{◌≡◌, ℕ, zero, suc, ◌+◌, ◌-◌, ◌*◌, ◌/◌, ◌%◌, ◌^◌, ◌<◌, ◌≤◌, Bool, true, false, cond, ◌||◌, eqb, sym, refl, ap, ◌∙◌, subst, ap₂, inl, inr, lt_of_lt_of_le, add-zero, add-suc, mod-eq_of_lt, mul_assoc, mul_comm, add-mul, pow-suc, one-add, arith, pow_mono}
use native.Mathlib.Nat.{mod-one, div-eq_of_lt}
use lib.Bits.{bit_and, bit_or, or_block, and_mask}
use Rattle.std.proofs.lemmas.Bool.{cases_lt}
use Rattle.std.proofs.lemmas.Nat.{pow-add, shr_high, mod_low, field_of, mul-le, mod_below, mod-pow-add}
use lib.Pow.{mod-mod-pow}
use Rattle.card.specs.Bits.{bit, bits_of}

one_below : (b : Bool) → cond b 1 0 ≤ 1
one_below true = omega arith
one_below false = omega arith

pub bits_below : (p : ℕ → Bool) (k : ℕ) → bits_of p k < 2 ^ k
unfolding bits_of
bits_below p zero = omega arith
bits_below p (suc k) = omega (arith, bits_below p k, mul-le (cond (p k) 1 0) (2 ^ k) 1 (2 ^ k) (one_below (p k)) (omega arith), pow-suc 2 k)

or_one : (a b : Bool) → bit_or (cond a 1 0) (cond b 1 0) ≡ cond (a || b) 1 0
or_one true true = refl
or_one true false = refl
or_one false true = refl
or_one false false = refl

pub bits_or : (p q : ℕ → Bool) (k : ℕ) → bit_or (bits_of p k) (bits_of q k) ≡ bits_of (λ s. p s || q s) k
unfolding bits_of
bits_or p q zero = refl
bits_or p q (suc k) =
    or_block k (cond (p k) 1 0) (cond (q k) 1 0) (bits_of p k) (bits_of q k) (bits_below p k) (bits_below q k)
    ∙ ap (λ n. n * 2 ^ k + bit_or (bits_of p k) (bits_of q k)) (or_one (p k) (q k))
    ∙ ap (λ n. cond (p k || q k) 1 0 * 2 ^ k + n) (bits_or p q k)

pub bits_same : (p q : ℕ → Bool) (k : ℕ) → ((s : ℕ) → s < k → p s ≡ q s) → bits_of p k ≡ bits_of q k
unfolding bits_of
bits_same p q zero h = refl
bits_same p q (suc k) h = let e = h k (omega arith) in let i = bits_same p q k (λ s lt. h s (omega arith)) in rw (e, i)

pub bits_none : (p : ℕ → Bool) (k : ℕ) → ((s : ℕ) → s < k → p s ≡ false) → bits_of p k ≡ 0
unfolding bits_of
bits_none p zero h = refl
bits_none p (suc k) h = let e = h k (omega arith) in let i = bits_none p k (λ s lt. h s (omega arith)) in rw (e, i) (omega arith)

-- the bits of p, and above them those of q
pub bits_join : (p q r : ℕ → Bool) (k l : ℕ) → ((s : ℕ) → s < k → r s ≡ p s) → ((s : ℕ) → s < l → r (k + s) ≡ q s) → bits_of r (k + l) ≡ bits_of q l * 2 ^ k + bits_of p k
unfolding bits_of
bits_join p q r k zero a b = rw (add-zero k) (bits_same r p k a ∙ omega arith)
bits_join p q r k (suc l) a b =
    let i = bits_join p q r k l a (λ s lt. b s (omega arith)) in
    let e = b l (omega arith) in
    rw (add-suc k l, e, i, pow-add 2 k l) (omega (arith, add-mul (cond (q l) 1 0 * 2 ^ l) (bits_of q l) (2 ^ k), mul_assoc (cond (q l) 1 0) (2 ^ l) (2 ^ k), ap (λ n. cond (q l) 1 0 * n) (mul_comm (2 ^ k) (2 ^ l))))

bit_low : (a b s k : ℕ) → s < k → a % 2 ^ k ≡ b % 2 ^ k → bit a s ≡ bit b s
bit_low a b s k h e =
    let j : k ≡ (k - (1 + s)) + (1 + s) = omega arith in
    let f : a % 2 ^ ((k - (1 + s)) + (1 + s)) ≡ b % 2 ^ ((k - (1 + s)) + (1 + s)) = subst (λ n. a % 2 ^ n ≡ b % 2 ^ n) j e in
    let m : a % 2 ^ (1 + s) ≡ b % 2 ^ (1 + s) = sym (mod-mod-pow a (k - (1 + s)) (1 + s)) ∙ ap (λ n. n % 2 ^ (1 + s)) f ∙ mod-mod-pow b (k - (1 + s)) (1 + s) in
    ap (λ n. eqb n 1) (sym (field_of a 1 s) ∙ ap (λ n. n / 2 ^ s) m ∙ field_of b 1 s)

one_bit : (b : Bool) → eqb (cond b 1 0 % 2) 1 ≡ b
one_bit true = refl
one_bit false = refl

pub bit_of : (p : ℕ → Bool) (k s : ℕ) → s < k → bit (bits_of p k) s ≡ p s
unfolding bits_of
bit_of p zero s h = absurd (omega arith)
bit_of p (suc k) s h = elim (cases_lt s k) [
  | inl lt ↦ bit_low (cond (p k) 1 0 * 2 ^ k + bits_of p k) (bits_of p k) s k lt (mod_low (cond (p k) 1 0) k (bits_of p k) (bits_below p k) ∙ sym (mod-eq_of_lt (bits_below p k))) ∙ bit_of p k s lt
  | inr le ↦ (let same : k ≡ s = omega arith in subst (λ u. bit (cond (p k) 1 0 * 2 ^ k + bits_of p k) u ≡ p u) same (ap (λ n. eqb (n % 2) 1) (shr_high (cond (p k) 1 0) k (bits_of p k) (bits_below p k)) ∙ one_bit (p k)))
]

bit_value : (m : ℕ) → m < 2 → cond (eqb m 1) 1 0 ≡ m
bit_value zero h = refl
bit_value (suc zero) h = refl
bit_value (suc (suc m)) h = absurd (omega arith)

-- a number is made of its own bits
pub own_bits : (n k : ℕ) → bits_of (bit n) k ≡ n % 2 ^ k
unfolding bits_of
own_bits n zero = sym (mod-one n)
own_bits n (suc k) = ap₂ (λ a b. a * 2 ^ k + b) (bit_value (n / 2 ^ k % 2) (mod_below (n / 2 ^ k) 2 (omega arith))) (own_bits n k) ∙ sym (mod-pow-add n 1 k) ∙ ap (λ j. n % 2 ^ j) (one-add k)

-- one bit of a word, as the code tests it
pub word_bit : (n s : ℕ) → eqb (bit_and (n / 2 ^ s) 1) 1 ≡ bit n s
word_bit n s = ap (λ m. eqb m 1) (and_mask (n / 2 ^ s) 1)

pub bit_past : (n s k : ℕ) → n < 2 ^ k → k ≤ s → bit n s ≡ false
bit_past n s k h le = ap (λ m. eqb (m % 2) 1) (div-eq_of_lt (lt_of_lt_of_le h (pow_mono le)))
