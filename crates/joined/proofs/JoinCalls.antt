-- What each call of two joined cards gives and leaves.
use Rattle.std.proofs.Common.{◌≡◌, ℕ, zero, suc, ◌+◌, ◌-◌, ◌<◌, ◌≤◌, Bool, ◌||◌, Some, None, Ok, Err, Option, Result, sym, refl, ap, ◌∙◌, ap₂, inl, inr, add-zero, add-suc, arith}
use Rattle.std.specs.Prelude.{⊤}
use lib.Bits.{bit_or}
use Rattle.std.proofs.Math.Bool.{and-not_self, or-false, or_assoc, or_comm}
use Rattle.std.proofs.lemmas.Bool.{cases_lt, lt-ltb, le-ltb}
use Rattle.std.proofs.lemmas.Bool.Decides.{nat_tests}
use Rattle.card.specs.declared.faults.CardFault.{CardFault}
use Rattle.card.specs.declared.faults.CardFault.TheVariants.{Oversize, NoSource, NoRegister, NoAccess, BadLevel, NoControl}
use Rattle.card.specs.declared.outcomes.Answer.{Answer}
use Rattle.card.specs.declared.withdrawn.Withdrawn.{Withdrawn}
use Rattle.joined.specs.declared.Joined.{Joined}
use Rattle.card.specs.Source.{Source, asking_at, any_asks, pick}
use Rattle.card.specs.Withdrawing.{shifted, union}
use Rattle.card.specs.Meaning.{Meaning, driving, lost}
use Rattle.card.specs.Model.{Model, source_of, size_first, capped_sources, capped_registers, unless_refused, read_result, withdrawn, write_result, answer_result, answer_exit, levels_asked}
use Rattle.card.specs.Laws.{Own, Laws}
use Rattle.joined.specs.Joining.{source_named, register_named, joined, raised, both, pair, join}
use Rattle.card.proofs.Picks.{chosen_by}
use Rattle.card.proofs.Bitwise.{bits_or, bits_same}
use Rattle.card.proofs.Withdrawals.{told_front, told_rear, told_both}
use Rattle.joined.specs.Joins.{pick_both, front_first, asking_raised}

pub driving_raised : (k : ℕ) (s : Source) (w : Bool) → driving (raised k s) w ≡ driving s w
unfolding driving
driving_raised k s w = refl

-- what is lost of each side, source by source
lost_front : (k j : ℕ) (f r f' r' : Meaning) (s : ℕ) → s < k → lost (joined k j f r) (joined k j f' r') s ≡ lost f f' s
lost_front k j f r f' r' s h = rw (lt-ltb s k h)

lost_rear : (k j : ℕ) (f r f' r' : Meaning) (s : ℕ) → lost (joined k j f r) (joined k j f' r') (k + s) ≡ lost r r' s
lost_rear k j f r f' r' s = rw (le-ltb (k + s) k (omega arith)) (let e : (k + s) - k ≡ s = omega arith in rw e)

pub withdrawn_front : (k l j : ℕ) (f r f' : Meaning) → withdrawn (k + l) (joined k j f r) (joined k j f' r) ≡ withdrawn k f f'
withdrawn_front k l j f r f' = told_front (lost f f') (lost r r) (lost (joined k j f r) (joined k j f' r)) k l (λ s h. lost_front k j f r f' r s h) (λ s h. lost_rear k j f r f' r s) (λ s h. and-not_self (r.source s).held)

pub withdrawn_rear : (k l j : ℕ) (f r r' : Meaning) → k + l ≤ 64 → withdrawn (k + l) (joined k j f r) (joined k j f r') ≡ shifted k (withdrawn l r r')
withdrawn_rear k l j f r r' h = told_rear (lost f f) (lost r r') (lost (joined k j f r) (joined k j f r')) k l (λ s h. lost_front k j f r f r' s h) (λ s h. lost_rear k j f r f r' s) (λ s h. and-not_self (f.source s).held) h

pub withdrawn_both : (k l j : ℕ) (f r f' r' : Meaning) → k + l ≤ 64 → withdrawn (k + l) (joined k j f r) (joined k j f' r') ≡ union (withdrawn k f f') (shifted k (withdrawn l r r'))
withdrawn_both k l j f r f' r' h = told_both (lost f f') (lost r r') (lost (joined k j f r) (joined k j f' r')) k l (λ s h. lost_front k j f r f' r' s h) (λ s h. lost_rear k j f r f' r' s) h

-- some source of both asks just if one of either side does
or_step : (a b c : Bool) → (a || (b || c)) ≡ (b || (a || c))
or_step a b c = sym (or_assoc a b c) ∙ ap (λ u. u || c) (or_comm a b) ∙ or_assoc b a c

any_same : (k n : ℕ) (f g : ℕ → Source) → ((s : ℕ) → s < k → asking_at n (f s) ≡ asking_at n (g s)) → any_asks f k n ≡ any_asks g k n
unfolding any_asks
any_same zero n f g e = refl
any_same (suc k) n f g e = ap₂ ◌||◌ (e k (omega arith)) (any_same k n f g (λ s h. e s (omega arith)))

any_both : (k l n : ℕ) (f r : ℕ → Source) → any_asks (both k f r) (k + l) n ≡ (any_asks f k n || any_asks r l n)
unfolding any_asks
any_both k zero n f r = rw (add-zero k) (any_same k n (both k f r) f (λ s h. rw (lt-ltb s k h)) ∙ sym (or-false (any_asks f k n)))
any_both k (suc l) n f r = rw (add-suc k l)
    (ap₂ ◌||◌ (rw (le-ltb (k + l) k (omega arith)) (let e : (k + l) - k ≡ l = omega arith in rw e (asking_raised n k (r l)))) (any_both k l n f r)
    ∙ or_step (asking_at n (r l)) (any_asks f k n) (any_asks r l n))

pub asked_both : {F R : Type 0} (a : Model F) (b : Model R) (x : Joined F R) → bit_or (levels_asked a x.front) (levels_asked b x.rear) ≡ levels_asked (join a b) x
asked_both a b x =
    bits_or (any_asks (source_of a x.front) a.sources) (any_asks (source_of b x.rear) b.sources) 8
    ∙ bits_same (λ n. any_asks (source_of a x.front) a.sources n || any_asks (source_of b x.rear) b.sources n) (any_asks (source_of (join a b) x) (a.sources + b.sources)) 8
    (λ n h. sym (any_both a.sources b.sources n (source_of a x.front) (source_of b x.rear)))

-- a fault whose source and register are still bytes behind those of the front
abbrev FitsBehind : {F : Type 0} → Model F → CardFault → Type 0
FitsBehind a e = (source_named e + capped_sources a < 256) × (register_named e + capped_registers a < 256)

-- what a card itself refuses at a register names no source, and no register past that one
pub own_named : (r : ℕ) (e : CardFault) → Own r e → (source_named e ≡ 0) × (register_named e ≤ r)
own_named r Oversize h = absurd h
own_named r (NoSource s) h = absurd h
own_named r (NoRegister s) h = absurd h
own_named r (NoAccess s) h = (refl, omega arith)
own_named r (BadLevel n) h = absurd h
own_named r (NoControl c) h = (refl, omega arith)

-- what the rear refuses a call at its own register with; in the inner module the number is a byte behind the front's
module _ {F R : Type 0} (a : Model F) (b : Model R) (y : R) (own : ℕ) {v : ⊤} (checked : Ok v ≡ unless_refused (size_first (join a b) None) tt) where
  module _ (lb : Laws b) where
    pub read_within : {res : Result ℕ CardFault} (l : ℕ) (e : CardFault) → res ≡ read_result b y own l → res ≡ Err e → (source_named e ≡ 0) × (register_named e ≤ own)
    read_within l e gives was = elim (cases_lt own b.registers) [
      | inl p ↦ own_named own e ((lb.refusing y).reads own l e p (grind (arith, nat_tests, checked, gives, was, p)))
      | inr p ↦ (let same : e ≡ NoRegister own = grind (arith, nat_tests, checked, gives, was, p) in rw same (refl, omega arith))
    ]

    pub write_within : {res : Result Withdrawn CardFault} (z : ℕ) (e : CardFault) → res ≡ write_result b y own z → res ≡ Err e → (source_named e ≡ 0) × (register_named e ≤ own)
    write_within z e gives was = elim (cases_lt own b.registers) [
      | inl p ↦ own_named own e ((lb.refusing y).writes own z e p (grind (arith, nat_tests, checked, gives, was, p)))
      | inr p ↦ (let same : e ≡ NoRegister own = grind (arith, nat_tests, checked, gives, was, p) in rw same (refl, omega arith))
    ]

    fits_behind : (e : CardFault) → own + capped_registers a < 256 → (source_named e ≡ 0) × (register_named e ≤ own) → FitsBehind a e
    fits_behind e h named = (omega (arith, named.0), omega (arith, named.1, h))

    module _ (h : own + capped_registers a < 256) where
      pub read_named : {res : Result ℕ CardFault} (l : ℕ) (e : CardFault) → res ≡ read_result b y own l → res ≡ Err e → FitsBehind a e
      read_named l e gives was = fits_behind e h (read_within l e gives was)

      pub write_named : {res : Result Withdrawn CardFault} (z : ℕ) (e : CardFault) → res ≡ write_result b y own z → res ≡ Err e → FitsBehind a e
      write_named z e gives was = fits_behind e h (write_within z e gives was)

-- an answer of the rear, behind k sources
abbrev pub answer_behind : ℕ → Option Answer → Option Answer
answer_behind k None = None
answer_behind k (Some ans) = Some (record { source = ans.source + k; reply = ans.reply })

-- the answer at a level of two cards whose sizes were checked
module _ {F R : Type 0} {a : Model F} {b : Model R} (la : Laws a) (lb : Laws b) (x : Joined F R) (n : ℕ) {v : ⊤} (checked : Ok v ≡ unless_refused (size_first (join a b) None) tt) where
  picked : pick (source_of (join a b) x) n (a.sources + b.sources) ≡ front_first a.sources (pick (source_of a x.front) n a.sources) (pick (source_of b x.rear) n b.sources)
  picked = pick_both a.sources b.sources n (a.meaning x.front) (b.meaning x.rear) (la.lawful x.front) (lb.lawful x.rear)

  pub front_answers : (y : F) (ans : Answer) → Ok (Some ans) ≡ answer_result a x.front n → y ≡ answer_exit a x.front n
      → (Ok (Some ans) ≡ answer_result (join a b) x n) × (pair y x.rear ≡ answer_exit (join a b) x n)
  front_answers y ans gives leaves = go (pick (source_of a x.front) n a.sources) refl
    where
      go : (p : Option ℕ) → pick (source_of a x.front) n a.sources ≡ p → (Ok (Some ans) ≡ answer_result (join a b) x n) × (pair y x.rear ≡ answer_exit (join a b) x n)
      go None e = grind (arith, nat_tests, e)
      go (Some s) e = let within = (chosen_by (source_of a x.front) n a.sources (Some s) e).within in grind (arith, nat_tests, e, picked, within)

  -- the number that the rear answers is below its count
  pub rear_within : (ans : Answer) → Ok (Some ans) ≡ answer_result b x.rear n → ans.source + capped_sources a < 64
  rear_within ans gives = go (pick (source_of b x.rear) n b.sources) refl
    where
      go : (p : Option ℕ) → pick (source_of b x.rear) n b.sources ≡ p → ans.source + capped_sources a < 64
      go None e = grind (arith, nat_tests, e)
      go (Some s) e = let within = (chosen_by (source_of b x.rear) n b.sources (Some s) e).within in grind (arith, nat_tests, e, within)

  pub rear_answers : (y : F) (z : R) (ans : Option Answer) → Ok None ≡ answer_result a x.front n → y ≡ answer_exit a x.front n → Ok ans ≡ answer_result b x.rear n → z ≡ answer_exit b x.rear n
      → (Ok (answer_behind (capped_sources a) ans) ≡ answer_result (join a b) x n) × (pair y z ≡ answer_exit (join a b) x n)
  rear_answers y z ans gives leaves gives' leaves' = let chosen = chosen_by (source_of b x.rear) n b.sources in grind (arith, nat_tests, picked, chosen)
