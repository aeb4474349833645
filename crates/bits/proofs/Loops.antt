-- A loop that gathers a test into a byte, one over the sources that gathers the levels asked, and one that finds the source to answer.
use Rattle.std.proofs.Common.{◌≡◌, ℕ, zero, suc, ◌+◌, ◌<◌, ◌≤◌, Bool, true, false, cond, ◌&&◌, ◌||◌, eqb, ltb, Some, sym, refl, ap, ◌∙◌, subst, ap₂, inl, inr, add-one, arith}
use Rattle.std.specs.List.{fold, range_with_len}
use Rattle.std.proofs.lemmas.Bool.{cases_lt, cases_eq, cases_order, both_ways, lt-ltb, le-ltb, eq-eqb, ne_eqb}
use Rattle.card.specs.Source.{Source, asking, asking_at, any_asks, pick}
use Rattle.card.specs.Bits.{bit}
use Rattle.card.proofs.Picks.{picked}
use Rattle.card.proofs.Bitwise.{bits_same, bits_none}
use Rattle.bits.specs.Bytes.{byte, put}
use Rattle.bits.proofs.Bytes.{bit_byte}

-- a loop from start on that gathers a test, bit by bit, which fails below start
from_start : (p : ℕ → Bool) (start n : ℕ) → ((n : ℕ) → n < start → p n ≡ false) → (ltb n start && p n) ≡ false
from_start p start n off = elim (cases_lt n start) [ inl lt ↦ rw (lt-ltb n start lt, off n lt) | inr le ↦ ap (λ b. b && p n) (le-ltb n start le) ]

pub gather_start : (p : ℕ → Bool) (start : ℕ) → ((n : ℕ) → n < start → p n ≡ false) → 0 ≡ byte (λ n. ltb n start && p n)
gather_start p start off = sym (bits_none (λ n. ltb n start && p n) 8 (λ n h. from_start p start n off))

gather_step : (p : ℕ → Bool) (i n : ℕ) → cond (eqb n i) (p i) (ltb n i && p n) ≡ (ltb n (i + 1) && p n)
gather_step p i n = elim (cases_order n i) [
  | inl same ↦ subst (λ m. cond (eqb m i) (p i) (ltb m i && p m) ≡ (ltb m (i + 1) && p m)) (sym same) (rw (eq-eqb i i refl, lt-ltb i (i + 1) (omega arith)))
  | inr (inl less) ↦ rw (ne_eqb n i (λ e. omega arith), lt-ltb n i less, lt-ltb n (i + 1) (omega arith))
  | inr (inr more) ↦ rw (ne_eqb n i (λ e. omega arith), le-ltb n i (omega arith), le-ltb n (i + 1) (omega arith))
]

pub gather_more : (p : ℕ → Bool) (i m : ℕ) (b : Bool) → m ≡ byte (λ n. ltb n i && p n) → b ≡ p i → put i b m ≡ byte (λ n. ltb n (i + 1) && p n)
gather_more p i m b e f = bits_same (λ n. cond (eqb n i) b (bit m n)) (λ n. ltb n (i + 1) && p n) 8
    (λ n h. ap₂ (λ c d. cond (eqb n i) c d) f (ap (λ k. bit k n) e ∙ bit_byte (λ n. ltb n i && p n) n h) ∙ gather_step p i n)

pub gather_done : (p : ℕ → Bool) (i m : ℕ) → 8 ≤ i → m ≡ byte (λ n. ltb n i && p n) → m ≡ byte p
gather_done p i m past e = e ∙ bits_same (λ n. ltb n i && p n) p 8 (λ n h. ap (λ b. b && p n) (lt-ltb n i (omega arith)))

-- a fold from bit 1 on that gathers a test, which fails at 0
gather_on : (p : ℕ → Bool) (i k m : ℕ) → m ≡ byte (λ n. ltb n i && p n) → fold (λ x n. put n (p n) x) m (range_with_len i k) ≡ byte (λ n. ltb n (i + k) && p n)
gather_on p i zero m e = e ∙ ap (λ j. byte (λ n. ltb n j && p n)) (omega arith)
gather_on p i (suc k) m e = gather_on p (i + 1) k (put i (p i) m) (gather_more p i m (p i) e refl) ∙ ap (λ j. byte (λ n. ltb n j && p n)) (omega arith)

pub gathered : (p : ℕ → Bool) → p 0 ≡ false → fold (λ x n. put n (p n) x) 0 (range_with_len 1 7) ≡ byte p
gathered p none = gather_on p 1 7 0 (gather_start p 1 (λ n h. ap p (omega arith) ∙ none)) ∙ gather_done p 8 _ (omega arith) refl

pub asked_start : (f : ℕ → Source) → 0 ≡ byte (any_asks f 0)
unfolding any_asks
asked_start f = sym (bits_none (any_asks f 0) 8 (λ n h. refl))

eqb_swap : (a b : ℕ) → eqb a b ≡ eqb b a
eqb_swap a b = elim (cases_eq a b) [ inl e ↦ eq-eqb a b e ∙ sym (eq-eqb b a (sym e)) | inr n ↦ ne_eqb a b n ∙ sym (ne_eqb b a (λ e. n (sym e))) ]

or_cond : (a b : Bool) → cond a true b ≡ (a || b)
or_cond true b = refl
or_cond false b = refl

pub asked_more : (f : ℕ → Source) (i m : ℕ) → m ≡ byte (any_asks f i) → asking (f i) ≡ true → put (f i).level true m ≡ byte (any_asks f (i + 1))
unfolding any_asks asking_at
asked_more f i m e h = rw (add-one i) (bits_same (λ t. cond (eqb t (f i).level) true (bit m t)) (any_asks f (suc i)) 8
    (λ t l. ap₂ (λ a b. cond a true b) (eqb_swap t (f i).level) (ap (λ n. bit n t) e ∙ bit_byte (any_asks f i) t l) ∙ or_cond (eqb (f i).level t) (any_asks f i t) ∙ ap (λ a. (a && eqb (f i).level t) || any_asks f i t) (sym h)))

pub asked_same : (f : ℕ → Source) (i m : ℕ) → m ≡ byte (any_asks f i) → asking (f i) ≡ false → m ≡ byte (any_asks f (i + 1))
unfolding any_asks asking_at
asked_same f i m e h = e ∙ rw (add-one i) (bits_same (any_asks f i) (any_asks f (suc i)) 8 (λ t l. ap (λ a. (a && eqb (f i).level t) || any_asks f i t) (sym h)))

-- where ranks fall as numbers rise, the highest source that asks is picked
pub pick_top : (f : ℕ → Source) (n k s : ℕ) → ((t u : ℕ) → t < u → u < k → (f u).rank < (f t).rank) → s < k → asking_at n (f s) ≡ true → ((t : ℕ) → s < t → t < k → asking_at n (f t) ≡ false) → pick f n k ≡ Some s
pick_top f n k s falls h a none = picked f n k s differ (record {
  within = h;
  asks = a;
  least = λ t l b. elim (cases_lt s t) [
    | inl lt ↦ absurd (both_ways (asking_at n (f t)) (none t lt l) b)
    | inr le ↦ elim (cases_eq s t) [ inl e ↦ subst (λ u. (f s).rank ≤ (f u).rank) e (omega arith) | inr ne ↦ omega (arith, falls t s (omega arith) h) ]
  ];
})
  where
    differ : (s t : ℕ) → s < k → t < k → (f s).rank ≡ (f t).rank → s ≡ t
    differ s t h g e = elim (cases_lt s t) [
      | inl lt ↦ absurd (omega (arith, falls s t lt g))
      | inr le ↦ elim (cases_eq s t) [ inl same ↦ same | inr ne ↦ absurd (omega (arith, falls t s (omega arith) h)) ]
    ]
