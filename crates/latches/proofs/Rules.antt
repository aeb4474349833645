-- The card rules, as far as seven inputs keep them whatever a chip's registers say.
use Rattle.std.proofs.Common.{◌≡◌, ℕ, ◌+◌, ◌-◌, ◌<◌, Bool, true, false, cond, not, ◌&&◌, eqb, Some, None, sym, refl, ap, ◌∙◌, ap₂, arith}
use Rattle.std.proofs.Math.Bool.{and-not_self}
use Rattle.std.proofs.lemmas.Bool.{and_right, both_ways, eq-eqb, ne_eqb}
use Rattle.card.specs.Source.{Source, asking_at, pick}
use Rattle.card.specs.Bits.{bit}
use Rattle.card.specs.Withdrawing.{told, nobody}
use Rattle.card.specs.Meaning.{rising, with_wire}
use Rattle.card.proofs.Picks.{none_picked}
use Rattle.card.proofs.Bitwise.{bits_none}
use Rattle.card.proofs.Withdrawals.{told_same, told_none}
use Rattle.bits.specs.Bytes.{put}
use Rattle.bits.proofs.Bytes.{bit_byte, bit_put, bit_zero}
use Rattle.bits.proofs.Loops.{pick_top}
use Rattle.latches.specs.declared.Latches.{Latches}
use Rattle.latches.specs.Latching.{Settings, latches, input_source, source_at, driven, released, keeping, loses}

pub ranks_differ : (i : Settings) (l : Latches) (s t : ℕ) → s < 7 → t < 7 → (source_at i l s).rank ≡ (source_at i l t).rank → s ≡ t
ranks_differ i l s t h g e = omega arith

-- input n with another wire and held mark
abbrev marked : Settings → ℕ → Bool → Bool → Source
marked i n w h = record { wire = w; edge = i.edge n; level = i.level n; reply = i.reply n; rank = 7 - n; armed = i.armed n; opened = i.opened n; held = h }

either_same : (b a : Bool) → a ≡ cond b a a
either_same true a = refl
either_same false a = refl

-- bit t where bit n is set or not
latched : (h n t : ℕ) (r : Bool) → t < 8 → bit (cond r (put n true h) h) t ≡ cond (eqb t n) (cond r true (bit h t)) (bit h t)
latched h n t true l = bit_put h n t true l
latched h n t false l = either_same (eqb t n) (bit h t)

held_now : (e u a h : Bool) → (e && cond ((e && u) && a) true h) ≡ cond ((e && u) && a) true (e && h)
held_now true u a h = refl
held_now false u a h = refl

-- Drive
pub drive_this : (i : Settings) (l : Latches) (n : ℕ) (w : Bool) → n < 8 → input_source i (driven i l n w) n ≡ with_wire (input_source i l n) w
unfolding with_wire
drive_this i l n w h =
    let rose = rising (input_source i l n) w && i.armed n in
    ap₂ (marked i n)
    (bit_put l.wires n n w h ∙ ap (λ b. cond b w (bit l.wires n)) (eq-eqb n n refl))
    (ap (λ b. i.edge n && b) (latched l.held n n rose h ∙ ap (λ b. cond b (cond rose true (bit l.held n)) (bit l.held n)) (eq-eqb n n refl))
    ∙ held_now (i.edge n) (not (bit l.wires n) && w) (i.armed n) (bit l.held n))

pub drive_other : (i : Settings) (l : Latches) (n t : ℕ) (w : Bool) → t < 8 → (t ≡ n → ⊥) → input_source i (driven i l n w) t ≡ input_source i l t
drive_other i l n t w h ne =
    let rose = rising (input_source i l n) w && i.armed n in
    ap₂ (marked i t)
    (bit_put l.wires n t w h ∙ ap (λ b. cond b w (bit l.wires t)) (ne_eqb t n ne))
    (ap (λ b. i.edge t && b) (latched l.held n t rose h ∙ ap (λ b. cond b (cond rose true (bit l.held t)) (bit l.held t)) (ne_eqb t n ne)))

-- Answer
pub release_this : (e : Bool) (l : Latches) (n : ℕ) → n < 8 → (e && bit (released l n).held n) ≡ false
release_this e l n h = and_right e _ (bit_put l.held n n false h ∙ ap (λ b. cond b false (bit l.held n)) (eq-eqb n n refl))

pub release_other : (e : Bool) (l : Latches) (n t : ℕ) → t < 8 → (t ≡ n → ⊥) → (e && bit (released l n).held t) ≡ (e && bit l.held t)
release_other e l n t h ne = ap (λ b. e && b) (bit_put l.held n t false h ∙ ap (λ b. cond b false (bit l.held t)) (ne_eqb t n ne))

-- of inputs asking at a level the highest is picked
pub pick_highest : (i : Settings) (l : Latches) (m n : ℕ) → 0 < n → n < 8 → asking_at m (input_source i l n) ≡ true → ((t : ℕ) → n < t → t < 8 → asking_at m (input_source i l t) ≡ false) → pick (source_at i l) m 7 ≡ Some (n - 1)
pick_highest i l m n pos h asks none =
    let same : n ≡ (n - 1) + 1 = omega arith in
    pick_top (source_at i l) m 7 (n - 1) (λ t u lt le. omega arith) (omega arith) (sym (ap (λ k. asking_at m (input_source i l k)) same) ∙ asks) (λ t lt le. none (t + 1) (omega arith) (omega arith))

pub pick_none : (i : Settings) (l : Latches) (m : ℕ) → ((t : ℕ) → 0 < t → t < 8 → asking_at m (input_source i l t) ≡ false) → pick (source_at i l) m 7 ≡ None
pick_none i l m none = none_picked (source_at i l) m 7 (λ t le. none (t + 1) (omega arith) (omega arith))

-- Write and reset: i before, j after
kept_before : (e f h d k : Bool) → e ≡ d → (f && ((h && d) && k)) ≡ true → (e && h) ≡ true
kept_before true f true d k p q = refl
kept_before true true false d k p q = q
kept_before true false false d k p q = q
kept_before false true true true k p q = p
kept_before false true true false k p q = q
kept_before false true false d k p q = q
kept_before false false h d k p q = q

pub keeping_held : (i j : Settings) (l : Latches) (edges kept n : ℕ) → n < 8 → i.edge n ≡ bit edges n → (input_source j (keeping l edges kept) n).held ≡ true → (input_source i l n).held ≡ true
keeping_held i j l edges kept n h e q = kept_before (i.edge n) (j.edge n) (bit l.held n) (bit edges n) (bit kept n) e (sym (ap (λ b. j.edge n && b) (bit_byte (λ n. (bit l.held n && bit edges n) && bit kept n) n h)) ∙ q)

lost_bit : (e f h d k : Bool) → e ≡ d → (e ≡ true → k ≡ true → f ≡ true) → ((h && d) && not k) ≡ ((e && h) && not (f && ((h && d) && k)))
lost_bit true true true true true p q = refl
lost_bit true true true true false p q = refl
lost_bit true false true true true p q = q refl refl
lost_bit true false true true false p q = refl
lost_bit true f true false k p q = absurd (both_ways true p refl)
lost_bit true f false d k p q = refl
lost_bit false f true true k p q = absurd (both_ways true (sym p) refl)
lost_bit false f true false k p q = refl
lost_bit false f false d k p q = refl

-- what is told withdrawn is what was held before and is not after
pub told_lost : (i j : Settings) (l : Latches) (edges kept : ℕ) → ((n : ℕ) → n < 8 → i.edge n ≡ bit edges n) → ((n : ℕ) → n < 8 → i.edge n ≡ true → bit kept n ≡ true → j.edge n ≡ true)
    → told (loses l edges kept) 7 ≡ told (λ s. (source_at i l s).held && not (source_at j (keeping l edges kept) s).held) 7
told_lost i j l edges kept same stays = told_same (loses l edges kept) _ 7 (λ s h.
    lost_bit (i.edge (s + 1)) (j.edge (s + 1)) (bit l.held (s + 1)) (bit edges (s + 1)) (bit kept (s + 1)) (same (s + 1) (omega arith)) (stays (s + 1) (omega arith))
    ∙ ap (λ b. (i.edge (s + 1) && bit l.held (s + 1)) && not (j.edge (s + 1) && b)) (sym (bit_byte (λ n. (bit l.held n && bit edges n) && bit kept n) (s + 1) (omega arith))))

-- where the sorts stay and no edge is taken away, nothing is withdrawn
pub none_lost : (i j : Settings) (l : Latches) → ((n : ℕ) → n < 8 → j.edge n ≡ i.edge n) → nobody ≡ told (λ s. (source_at i l s).held && not (source_at j l s).held) 7
none_lost i j l same = told_none (λ s. (source_at i l s).held && not (source_at j l s).held) 7 (λ s h. ap (λ e. (i.edge (s + 1) && bit l.held (s + 1)) && not (e && bit l.held (s + 1))) (same (s + 1) (omega arith)) ∙ and-not_self _)

-- where no input is kept nothing is held
pub keeping_none : (l : Latches) (edges : ℕ) → keeping l edges 0 ≡ latches l.wires 0
keeping_none l edges = ap (latches l.wires) (bits_none (λ n. (bit l.held n && bit edges n) && bit 0 n) 8 (λ n h. and_right (bit l.held n && bit edges n) (bit 0 n) (bit_zero n h)))
