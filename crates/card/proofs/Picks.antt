-- `pick` finds the source of smallest rank, and there is one such at most: for all ranks.
use Rattle.std.proofs.Common.{◌≡◌, ℕ, zero, suc, ◌<◌, ◌≤◌, Bool, true, false, cond, ◌||◌, ltb, Some, None, Option, refl, ap, subst, ap₂, inl, inr, arith}
use Rattle.std.proofs.lemmas.Bool.{cases_lt, cases_eq, both_ways, ltb-true, ltb-false}
use Rattle.card.specs.Source.{Source, asking_at, Smallest, Nobody, Chosen, any_asks, better, pick}

closer : (f : ℕ → Source) (n k s : ℕ) → asking_at n (f k) ≡ true → Smallest f n k s → (b : Bool) → ltb (f k).rank (f s).rank ≡ b → Chosen f n (suc k) (cond b (Some k) (Some s))
closer f n k s e h true q = record {
  within = omega arith;
  asks = e;
  least = λ t lt a. elim (cases_lt t k) [
    | inl p ↦ omega (arith, ltb-true (f k).rank (f s).rank q, h.least t p a)
    | inr p ↦ (let same : k ≡ t = omega arith in subst (λ u. (f k).rank ≤ (f u).rank) same (omega arith))
  ];
}
closer f n k s e h false q = record {
  within = omega (arith, h.within);
  asks = h.asks;
  least = λ t lt a. elim (cases_lt t k) [
    | inl p ↦ h.least t p a
    | inr p ↦ (let same : k ≡ t = omega arith in subst (λ u. (f s).rank ≤ (f u).rank) same (ltb-false (f k).rank (f s).rank q))
  ];
}

more : (f : ℕ → Source) (n k : ℕ) (b : Bool) → asking_at n (f k) ≡ b → (o : Option ℕ) → Chosen f n k o → Chosen f n (suc k) (better f k b o)
more f n k false e None h = λ t lt. elim (cases_lt t k) [ inl p ↦ h t p | inr p ↦ (let same : k ≡ t = omega arith in subst (λ u. asking_at n (f u) ≡ false) same e) ]
more f n k false e (Some s) h = record {
  within = omega (arith, h.within);
  asks = h.asks;
  least = λ t lt a. elim (cases_lt t k) [
    | inl p ↦ h.least t p a
    | inr p ↦ (let same : t ≡ k = omega arith in absurd (both_ways (asking_at n (f k)) e (subst (λ u. asking_at n (f u) ≡ true) same a)))
  ];
}
more f n k true e None h = record {
  within = omega arith;
  asks = e;
  least = λ t lt a. elim (cases_lt t k) [
    | inl p ↦ absurd (both_ways (asking_at n (f t)) (h t p) a)
    | inr p ↦ (let same : k ≡ t = omega arith in subst (λ u. (f k).rank ≤ (f u).rank) same (omega arith))
  ];
}
more f n k true e (Some s) h = closer f n k s e h (ltb (f k).rank (f s).rank) refl

pub pick_chosen : (f : ℕ → Source) (n k : ℕ) → Chosen f n k (pick f n k)
unfolding pick
pick_chosen f n zero = λ t h. absurd (omega arith)
pick_chosen f n (suc k) = more f n k (asking_at n (f k)) refl (pick f n k) (pick_chosen f n k)

pub chosen_unique : (f : ℕ → Source) (n k : ℕ) → ((s t : ℕ) → s < k → t < k → (f s).rank ≡ (f t).rank → s ≡ t)
    → (o p : Option ℕ) → Chosen f n k o → Chosen f n k p → o ≡ p
chosen_unique f n k d None None a b = refl
chosen_unique f n k d None (Some t) a b = absurd (both_ways (asking_at n (f t)) (a t b.within) b.asks)
chosen_unique f n k d (Some s) None a b = absurd (both_ways (asking_at n (f s)) (b s a.within) a.asks)
chosen_unique f n k d (Some s) (Some t) a b =
    let le = a.least t b.within b.asks in
    let ge = b.least s a.within a.asks in
    ap Some (d s t a.within b.within (omega arith))

pub chosen_by : (f : ℕ → Source) (n k : ℕ) (o : Option ℕ) → pick f n k ≡ o → Chosen f n k o
chosen_by f n k o e = subst (Chosen f n k) e (pick_chosen f n k)

-- the source shown to be the smallest is the one picked
pub picked : (f : ℕ → Source) (n k s : ℕ) → ((s t : ℕ) → s < k → t < k → (f s).rank ≡ (f t).rank → s ≡ t) → Smallest f n k s → pick f n k ≡ Some s
picked f n k s d h = chosen_unique f n k d (pick f n k) (Some s) (pick_chosen f n k) h

pub none_picked : (f : ℕ → Source) (n k : ℕ) → Nobody f n k → pick f n k ≡ None
none_picked f n k h = go (pick f n k) (pick_chosen f n k)
  where
    go : (o : Option ℕ) → Chosen f n k o → o ≡ None
    go None c = refl
    go (Some s) c = absurd (both_ways (asking_at n (f s)) (h s c.within) c.asks)

-- whether any source asks at a level, by the one that is picked
pub any_none : (f : ℕ → Source) (n k : ℕ) → Nobody f n k → any_asks f k n ≡ false
unfolding any_asks
any_none f n zero h = refl
any_none f n (suc k) h = ap₂ ◌||◌ (h k (omega arith)) (any_none f n k (λ t l. h t (omega arith)))

pub any_some : (f : ℕ → Source) (n k s : ℕ) → s < k → asking_at n (f s) ≡ true → any_asks f k n ≡ true
unfolding any_asks
any_some f n zero s h e = absurd (omega arith)
any_some f n (suc k) s h e = elim (cases_eq s k) [
  | inl same ↦ ap (λ a. a || any_asks f k n) (subst (λ u. asking_at n (f u) ≡ true) same e)
  | inr less ↦ (let i = any_some f n k s (omega arith) e in go (asking_at n (f k)) (any_asks f k n) i)
]
  where
    go : (a b : Bool) → b ≡ true → (a || b) ≡ true
    go true b h = refl
    go false b h = h
