-- What the calls of latches give and leave.
use Rattle.std.proofs.Common.{◌≡◌, ℕ, ◌+◌, ◌-◌, ◌/◌, ◌%◌, ◌^◌, ◌<◌, Bool, true, false, cond, not, ◌&&◌, ◌||◌, eqb, sym, refl, ap, ◌∙◌, ap₂, arith}
use lib.Bits.{bit_and, bit_or}
use Rattle.std.proofs.lemmas.Nat.{shr-shr, div_below, and_le_l, or_lt}
use Rattle.card.specs.declared.outcomes.Driven.{Driven}
use Rattle.card.specs.declared.outcomes.Driven.TheVariants.{Follow, Latched, Merged, Lost, Quiet}
use Rattle.card.specs.Bits.{bit}
use Rattle.card.specs.Withdrawing.{told}
use Rattle.card.specs.Meaning.{driving}
use Rattle.card.proofs.Bitwise.{bit_past}
use Rattle.card.proofs.Withdrawals.{told_front}
use Rattle.bits.specs.Bytes.{put}
use Rattle.bits.proofs.Bytes.{is_byte, bit_of_and, bit_of_or, bit_not}
use Rattle.latches.specs.declared.Latches.{Latches}
use Rattle.latches.specs.Latching.{Settings, latches, input_source, pending_inputs, driven, keeping, loses}

-- a drive, by the input's sort, whether its wire rose, and whether it is armed and held
abbrev pub drove : (e u a h : Bool) → Driven
drove e u a h = cond e (cond u (cond a (cond h Merged Latched) Lost) Quiet) Follow

same_answer : (e u a h : Bool) → drove e u a h ≡ drove e u a (e && h)
same_answer true u a h = refl
same_answer false u a h = refl

drive_at : (i : Settings) (l : Latches) (n : ℕ) (w e u a h : Bool) → i.edge n ≡ e → (not (bit l.wires n) && w) ≡ u → i.armed n ≡ a → bit l.held n ≡ h
    → (drove e u a h ≡ driving (input_source i l n) w) × (latches (put n w l.wires) (cond ((e && u) && a) (put n true l.held) l.held) ≡ driven i l n w)
unfolding driving
drive_at i l n w e u a h p q r t = rw (p, q, r, t) (same_answer e u a h, refl)

module _ (l : Latches) (n : ℕ) (w edge armed : Bool) where
  -- what a drive gives and leaves, whatever else the registers say
  abbrev pub Drives : Driven → Latches → Type 0
  Drives d y = ((i : Settings) → edge ≡ i.edge n → armed ≡ i.armed n → d ≡ driving (input_source i l n) w) × ((i : Settings) → edge ≡ i.edge n → armed ≡ i.armed n → y ≡ driven i l n w)

  pub drive_is : (e u a h : Bool) → edge ≡ e → (not (bit l.wires n) && w) ≡ u → armed ≡ a → bit l.held n ≡ h → (y : Latches) → y ≡ latches (put n w l.wires) (cond ((e && u) && a) (put n true l.held) l.held) → Drives (drove e u a h) y
  drive_is e u a h p q r t y z = ((λ i f g. (drive_at i l n w e u a h (sym f ∙ p) q (sym g ∙ r) t).0), (λ i f g. z ∙ (drive_at i l n w e u a h (sym f ∙ p) q (sym g ∙ r) t).1))

pending_bit : (e h w : Bool) → ((h && e) || (w && not e)) ≡ cond e h w
pending_bit true true true = refl
pending_bit true true false = refl
pending_bit true false true = refl
pending_bit true false false = refl
pending_bit false true true = refl
pending_bit false true false = refl
pending_bit false false true = refl
pending_bit false false false = refl

pub pending_is : (l : Latches) (edges : ℕ) → l.held < 256 → l.wires < 256 → edges < 256 → bit_or (bit_and l.held edges) (bit_and l.wires (255 - edges)) ≡ pending_inputs l edges
pending_is l edges h g f = is_byte _ (λ n. cond (bit edges n) (bit l.held n) (bit l.wires n))
    (or_lt 8 (bit_and l.held edges) (bit_and l.wires (255 - edges)) (omega (arith, and_le_l l.held edges)) (omega (arith, and_le_l l.wires (255 - edges))))
    (λ n k. bit_of_or (bit_and l.held edges) (bit_and l.wires (255 - edges)) n
    ∙ ap₂ ◌||◌ (bit_of_and l.held edges n) (bit_of_and l.wires (255 - edges) n ∙ ap (λ b. bit l.wires n && b) (bit_not edges n f k))
    ∙ pending_bit (bit edges n) (bit l.held n) (bit l.wires n))

pub keeping_is : (l : Latches) (edges kept : ℕ) → l.held < 256 → latches l.wires (bit_and (bit_and l.held edges) kept) ≡ keeping l edges kept
keeping_is l edges kept h = ap (latches l.wires) (is_byte _ (λ n. (bit l.held n && bit edges n) && bit kept n)
    (omega (arith, and_le_l l.held edges, and_le_l (bit_and l.held edges) kept))
    (λ n k. bit_of_and (bit_and l.held edges) kept n ∙ ap (λ b. b && bit kept n) (bit_of_and l.held edges n)))

-- the bits from 1 on are the sources from 0 on
half_bit : (x s : ℕ) → bit (x / 2) s ≡ bit x (s + 1)
half_bit x s = ap (λ m. eqb (m % 2) 1) (shr-shr x 1 s ∙ ap (λ k. x / 2 ^ k) (omega arith))

pub loses_is : (l : Latches) (edges kept : ℕ) → l.held < 256 → kept < 256 → told (bit (bit_and (bit_and l.held edges) (255 - kept) / 2)) 8 ≡ told (loses l edges kept) 7
loses_is l edges kept h k =
    let x = bit_and (bit_and l.held edges) (255 - kept) in
    let small : x / 2 < 128 = div_below x 2 128 (omega arith) (omega (arith, and_le_l l.held edges, and_le_l (bit_and l.held edges) (255 - kept))) in
    told_front (loses l edges kept) (λ s. false) (bit (x / 2)) 7 1
    (λ s g. half_bit x s ∙ bit_of_and (bit_and l.held edges) (255 - kept) (s + 1) ∙ ap₂ ◌&&◌ (bit_of_and l.held edges (s + 1)) (bit_not kept (s + 1) k (omega arith)))
    (λ s g. bit_past (x / 2) (7 + s) 7 small (omega arith))
    (λ s g. refl)
