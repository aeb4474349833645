-- What the operators do to each bit, and when a number is the byte of a test.
use Rattle.std.proofs.Common.{◌≡◌, ℕ, zero, suc, ◌-◌, ◌*◌, ◌/◌, ◌%◌, ◌^◌, ◌<◌, ◌≤◌, Bool, true, false, cond, not, ◌&&◌, ◌||◌, T, eqb, sym, refl, ap, ◌∙◌, ap₂, inl, inr, mod-eq_of_lt, arith, lit<, eqb→eq}
use Rattle.std.proofs.Math.Bool.{and_comm}
use lib.Bits.{bit_and, bit_or, and_shr, or_shr, and_mod, or_mod}
use Rattle.std.proofs.lemmas.Nat.{mod_below}
use Rattle.std.proofs.lemmas.Bool.{cases_eq, ne_eqb}
use Rattle.card.specs.Bits.{bit}
use Rattle.card.proofs.Bitwise.{bits_same, bits_below, bit_of, own_bits}
use lib.Count.{count_leading_zeros}
use Rattle.bits.specs.Bytes.{byte, put, both, only, highest}
use Rattle.bits.proofs.Every.{every, at, same, same_eq}

and_one : (a b : ℕ) → a < 2 → b < 2 → eqb (bit_and a b) 1 ≡ (eqb a 1 && eqb b 1)
and_one a b h g = same_eq _ _ (at (λ y. same (eqb (bit_and a y) 1) (eqb a 1 && eqb y 1)) 2 (at (λ x. every (λ y. same (eqb (bit_and x y) 1) (eqb x 1 && eqb y 1)) 2) 2 tt a h) b g)

or_one : (a b : ℕ) → a < 2 → b < 2 → eqb (bit_or a b) 1 ≡ (eqb a 1 || eqb b 1)
or_one a b h g = same_eq _ _ (at (λ y. same (eqb (bit_or a y) 1) (eqb a 1 || eqb y 1)) 2 (at (λ x. every (λ y. same (eqb (bit_or x y) 1) (eqb x 1 || eqb y 1)) 2) 2 tt a h) b g)

pub bit_of_and : (a b c : ℕ) → bit (bit_and a b) c ≡ (bit a c && bit b c)
bit_of_and a b c = ap (λ n. eqb (n % 2) 1) (and_shr a b c) ∙ ap (λ n. eqb n 1) (and_mod (a / 2 ^ c) (b / 2 ^ c) 1) ∙ and_one (a / 2 ^ c % 2) (b / 2 ^ c % 2) (mod_below (a / 2 ^ c) 2 (lit< tt)) (mod_below (b / 2 ^ c) 2 (lit< tt))

pub bit_of_or : (a b c : ℕ) → bit (bit_or a b) c ≡ (bit a c || bit b c)
bit_of_or a b c = ap (λ n. eqb (n % 2) 1) (or_shr a b c) ∙ ap (λ n. eqb n 1) (or_mod (a / 2 ^ c) (b / 2 ^ c) 1) ∙ or_one (a / 2 ^ c % 2) (b / 2 ^ c % 2) (mod_below (a / 2 ^ c) 2 (lit< tt)) (mod_below (b / 2 ^ c) 2 (lit< tt))

-- a test computed at every byte and every bit
pub by_bits : (f g : ℕ → ℕ → Bool) → T (every (λ x. every (λ c. same (f x c) (g x c)) 8) 256) → (x c : ℕ) → x < 256 → c < 8 → f x c ≡ g x c
by_bits f g t x c h k = same_eq _ _ (at (λ c. same (f x c) (g x c)) 8 (at (λ x. every (λ c. same (f x c) (g x c)) 8) 256 t x h) c k)

-- and at every byte
pub by_bytes : (f g : ℕ → ℕ) → T (every (λ x. eqb (f x) (g x)) 256) → (x : ℕ) → x < 256 → f x ≡ g x
by_bytes f g t x h = eqb→eq _ _ (at (λ x. eqb (f x) (g x)) 256 t x h)

pub bit_not : (x c : ℕ) → x < 256 → c < 8 → bit (255 - x) c ≡ not (bit x c)
bit_not = by_bits (λ x c. bit (255 - x) c) (λ x c. not (bit x c)) tt

pub test_bit : (x c : ℕ) → x < 256 → c < 8 → not (eqb (bit_and x ((1 * 2 ^ c) % 256)) 0) ≡ bit x c
test_bit = by_bits (λ x c. not (eqb (bit_and x ((1 * 2 ^ c) % 256)) 0)) (λ x c. bit x c) tt

-- bit t of the mask of bit c
pub mask_bit : (c t : ℕ) → c < 8 → t < 8 → bit ((1 * 2 ^ c) % 256) t ≡ eqb t c
mask_bit c t h k = same_eq _ _ (at (λ t. same (bit ((1 * 2 ^ c) % 256) t) (eqb t c)) 8 (at (λ c. every (λ t. same (bit ((1 * 2 ^ c) % 256) t) (eqb t c)) 8) 8 tt c h) t k)

-- a number is the byte of a test if each bit is
pub is_byte : (x : ℕ) (p : ℕ → Bool) → x < 256 → ((c : ℕ) → c < 8 → bit x c ≡ p c) → x ≡ byte p
is_byte x p h e = sym (own_bits x 8 ∙ mod-eq_of_lt h) ∙ bits_same (bit x) p 8 e

pub bit_byte : (p : ℕ → Bool) (c : ℕ) → c < 8 → bit (byte p) c ≡ p c
bit_byte p c h = bit_of p 8 c h

pub byte_below : (p : ℕ → Bool) → byte p < 256
byte_below p = bits_below p 8

pub bit_put : (x c t : ℕ) (on : Bool) → t < 8 → bit (put c on x) t ≡ cond (eqb t c) on (bit x t)
bit_put x c t on h = bit_byte (λ t. cond (eqb t c) on (bit x t)) t h

or_last : (a b : Bool) → (a || b) ≡ cond b true a
or_last true true = refl
or_last true false = refl
or_last false true = refl
or_last false false = refl

and_last : (a b : Bool) → (a && not b) ≡ cond b false a
and_last true true = refl
and_last true false = refl
and_last false true = refl
and_last false false = refl

pub mask_below : (c : ℕ) → (1 * 2 ^ c) % 256 < 256
mask_below c = mod_below (1 * 2 ^ c) 256 (lit< tt)

pub set_bit : (x c : ℕ) → x < 256 → c < 8 → bit_or x ((1 * 2 ^ c) % 256) ≡ put c true x
set_bit x c h k = is_byte _ (λ t. cond (eqb t c) true (bit x t)) (lib.Bits.or_lt 8 x ((1 * 2 ^ c) % 256) h (mask_below c))
    (λ t l. bit_of_or x ((1 * 2 ^ c) % 256) t ∙ ap (λ b. bit x t || b) (mask_bit c t k l) ∙ or_last (bit x t) (eqb t c))

pub clear_bit : (x c : ℕ) → x < 256 → c < 8 → bit_and x (255 - (1 * 2 ^ c) % 256) ≡ put c false x
clear_bit x c h k = is_byte _ (λ t. cond (eqb t c) false (bit x t)) (omega (arith, lib.Bits.and_le_l x (255 - (1 * 2 ^ c) % 256)))
    (λ t l. bit_of_and x (255 - (1 * 2 ^ c) % 256) t ∙ ap (λ b. bit x t && b) (bit_not ((1 * 2 ^ c) % 256) t (mask_below c) l ∙ ap not (mask_bit c t k l)) ∙ and_last (bit x t) (eqb t c))

-- a byte keeps its bits where one past them is put
pub put_past : (x n : ℕ) (on : Bool) → x < 256 → 8 ≤ n → x ≡ put n on x
put_past x n on h past = is_byte x (λ c. cond (eqb c n) on (bit x c)) h (λ c l. sym (ap (λ b. cond b on (bit x c)) (ne_eqb c n (λ e. omega arith))))

-- the highest bit that is set
pub top_set : (x : ℕ) → x < 256 → cond (eqb x 0) 0 (7 - count_leading_zeros 8 x) ≡ highest (bit x) 7
unfolding highest count_leading_zeros
top_set = by_bytes (λ x. cond (eqb x 0) 0 (7 - count_leading_zeros 8 x)) (λ x. highest (bit x) 7) tt

pub highest_le : (test : ℕ → Bool) (n : ℕ) → highest test n ≤ n
unfolding highest
highest_le test zero = omega arith
highest_le test (suc n) = go (test (suc n)) (highest_le test n)
  where
    go : (b : Bool) → highest test n ≤ n → cond b (suc n) (highest test n) ≤ suc n
    go true h = omega arith
    go false h = omega arith

-- the highest passes the test, unless it is 0, and none above it does
pub highest_holds : (test : ℕ → Bool) (n : ℕ) → 0 < highest test n → test (highest test n) ≡ true
unfolding highest
highest_holds test zero h = absurd (omega arith)
highest_holds test (suc n) h = go (test (suc n)) refl (λ l. highest_holds test n l) h
  where
    go : (b : Bool) → test (suc n) ≡ b → (0 < highest test n → test (highest test n) ≡ true) → 0 < cond b (suc n) (highest test n) → test (cond b (suc n) (highest test n)) ≡ true
    go true e f l = e
    go false e f l = f l

pub highest_last : (test : ℕ → Bool) (n t : ℕ) → highest test n < t → t ≤ n → test t ≡ false
unfolding highest
highest_last test zero t h le = absurd (omega arith)
highest_last test (suc n) t h le = go (test (suc n)) refl (λ l g. highest_last test n t l g) h
  where
    go : (b : Bool) → test (suc n) ≡ b → (highest test n < t → t ≤ n → test t ≡ false) → cond b (suc n) (highest test n) < t → test t ≡ false
    go true e f l = absurd (omega arith)
    go false e f l = elim (cases_eq t (suc n)) [ inl same ↦ ap test same ∙ e | inr other ↦ f l (omega arith) ]

pub highest_at : (test : ℕ → Bool) (n h : ℕ) → h ≤ n → (0 < h → test h ≡ true) → ((t : ℕ) → h < t → t ≤ n → test t ≡ false) → highest test n ≡ h
unfolding highest
highest_at test zero h le holds none = omega arith
highest_at test (suc n) h le holds none = elim (cases_eq h (suc n)) [
  | inl same ↦ ap (λ b. cond b (suc n) (highest test n)) (sym (ap test same) ∙ holds (omega arith)) ∙ sym same
  | inr other ↦ ap (λ b. cond b (suc n) (highest test n)) (none (suc n) (omega arith) (omega arith)) ∙ highest_at test n h (omega arith) holds (λ t l g. none t l (omega arith))
]

pub highest_same : (p q : ℕ → Bool) (n : ℕ) → ((k : ℕ) → k ≤ n → p k ≡ q k) → highest p n ≡ highest q n
unfolding highest
highest_same p q zero e = refl
highest_same p q (suc n) e = ap₂ (λ b m. cond b (suc n) m) (e (suc n) (omega arith)) (highest_same p q n (λ k h. e k (omega arith)))

-- two tests that both hold, byte by byte
pub and_byte : (p q : ℕ → Bool) → bit_and (byte p) (byte q) ≡ byte (λ c. p c && q c)
and_byte p q = is_byte _ (λ c. p c && q c) (omega (arith, lib.Bits.and_le_l (byte p) (byte q), byte_below p)) (λ c l. bit_of_and (byte p) (byte q) c ∙ ap₂ ◌&&◌ (bit_byte p c l) (bit_byte q c l))

pub and_both : (x y : ℕ) → x < 256 → bit_and x y ≡ both x y
and_both x y h = is_byte _ (λ c. bit x c && bit y c) (omega (arith, lib.Bits.and_le_l x y)) (λ c l. bit_of_and x y c)

pub bit_zero : (c : ℕ) → c < 8 → bit 0 c ≡ false
bit_zero c h = same_eq _ _ (at (λ c. same (bit 0 c) false) 8 tt c h)

-- a mask has the bits of which p holds, which is computed
pub mask_of : (m : ℕ) (p : ℕ → Bool) → T (every (λ c. same (bit m c) (p c)) 8) → (c : ℕ) → c < 8 → bit m c ≡ p c
mask_of m p t c h = same_eq _ _ (at (λ c. same (bit m c) (p c)) 8 t c h)

pub masked : (m : ℕ) (p : ℕ → Bool) → T (every (λ c. same (bit m c) (p c)) 8) → (x : ℕ) → x < 256 → bit_and x m ≡ only p x
masked m p t x h = is_byte _ (λ c. p c && bit x c) (omega (arith, lib.Bits.and_le_l x m)) (λ c l. bit_of_and x m c ∙ ap (λ b. bit x c && b) (mask_of m p t c l) ∙ and_comm (bit x c) (p c))
