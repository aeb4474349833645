-- What each call of the USC68HC908 gives and leaves.
use Rattle.std.proofs.Common.{◌≡◌, ℕ, ◌+◌, ◌-◌, ◌<◌, ◌≤◌, Bool, true, false, cond, not, ◌&&◌, eqb, ltb, Option, Some, None, Ok, sym, refl, ap, ◌∙◌, ap₂, inl, inr, arith}
use Rattle.std.proofs.lemmas.Bool.{cases_eq, and_right, and_from, lt-ltb, eq-eqb, ne_eqb, le-leb}
use Rattle.std.specs.Option.{is_some}
use Rattle.card.specs.declared.outcomes.Driven.{Driven}
use Rattle.card.specs.declared.outcomes.Reply.TheVariants.{Byte}
use Rattle.card.specs.declared.withdrawn.Withdrawn.{Withdrawn}
use Rattle.card.specs.Source.{asking_at, any_asks, pick}
use Rattle.card.specs.Bits.{bit}
use Rattle.card.specs.Withdrawing.{told, nobody}
use Rattle.card.specs.Meaning.{driving, lost}
use Rattle.card.specs.Model.{unless_refused, changed_unless, write_fault, read_result, drive_result, drive_exit, write_result, write_exit, answer_result, answer_exit, levels_asked}
use Rattle.card.proofs.Picks.{any_none, any_some}
use Rattle.card.proofs.Bitwise.{bits_same, bits_none}
use Rattle.bits.specs.Bytes.{put, both, highest}
use Rattle.bits.proofs.Bytes.{bit_zero, highest_le, highest_holds, highest_last}
use Rattle.latches.specs.declared.Latches.{Latches}
use Rattle.latches.specs.Latching.{input_source, driven, released, keeping, loses}
use Rattle.latches.proofs.Rules.{pick_highest, pick_none, keeping_none, told_lost, none_lost}
use Rattle.usc68hc908.specs.declared.Usc68hc908.{Usc68hc908}
use Rattle.usc68hc908.specs.Sheet.{usc, level_of, odd, odd_channels, channels, base_of, asks, if_any, chosen_channel, settings, sources, cleared, with_imr, with_ier, with_ivr, with_isr, writes, usc68hc908_model}
use Rattle.usc68hc908.specs.Parts.{odd_is}

pub read_imr : (x : Usc68hc908) (r l v : ℕ) → r ≡ 1 → v ≡ channels x.imr → Ok v ≡ read_result usc68hc908_model x r l
read_imr x r l v e h = rw e (ap Ok h)

-- Drive
pub drive_is : (x : Usc68hc908) (s : ℕ) (w : Bool) (d : Driven) (l : Latches) → s < 7 → d ≡ driving (sources x s) w → l ≡ driven (settings x) x.latches (s + 1) w
    → (Ok d ≡ drive_result usc68hc908_model x s w) × (usc x.wired l x.imr x.ier x.isr x.ivr ≡ drive_exit usc68hc908_model x s w)
drive_is x s w d l h p q = rw (lt-ltb s 7 h) (ap Ok p, ap (λ l. usc x.wired l x.imr x.ier x.isr x.ivr) q)

-- Write
pub write_is : (x y : Usc68hc908) (r v : ℕ) (w : Withdrawn) → 0 < r → r < 4 → y ≡ writes x r v → w ≡ told (lost (usc68hc908_model.meaning x) (usc68hc908_model.meaning (writes x r v))) 7
    → (Ok w ≡ write_result usc68hc908_model x r v) × (y ≡ write_exit usc68hc908_model x r v)
write_is x y r v w pos lt e h =
    let f : write_fault usc68hc908_model x r v ≡ None = rw (lt-ltb r 4 lt, ne_eqb r 0 (λ z. omega arith)) refl in
    (ap Ok h ∙ ap (λ o. unless_refused o (told (lost (usc68hc908_model.meaning x) (usc68hc908_model.meaning (writes x r v))) 7)) (sym f), e ∙ ap (λ o. changed_unless o (writes x r v) x) (sym f))

-- a write that leaves the latches as they are withdraws nothing
plain_write : (x y : Usc68hc908) (r v : ℕ) (w : Withdrawn) → 0 < r → r < 4 → y ≡ writes x r v → y.latches ≡ x.latches → w ≡ nobody → (Ok w ≡ write_result usc68hc908_model x r v) × (y ≡ write_exit usc68hc908_model x r v)
plain_write x y r v w pos lt e h z = write_is x y r v w pos lt e (z ∙ none_lost (settings x) (settings x) x.latches (λ n l. refl) ∙ ap (λ l. told (λ s. (sources x s).held && not (odd (s + 1) && bit l.held (s + 1))) 7) (sym h ∙ ap (λ y. y.latches) e))

pub write_imr : (x : Usc68hc908) (r v : ℕ) (w : Withdrawn) → r ≡ 1 → w ≡ nobody → (Ok w ≡ write_result usc68hc908_model x r v) × (with_imr x v ≡ write_exit usc68hc908_model x r v)
write_imr x r v w e z = plain_write x (with_imr x v) r v w (omega arith) (omega arith) (sym (ap (λ r. writes x r v) e)) refl z

pub write_ivr : (x : Usc68hc908) (r v : ℕ) (w : Withdrawn) → r ≡ 3 → bit x.ier 0 ≡ true → w ≡ nobody → (Ok w ≡ write_result usc68hc908_model x r v) × (with_ivr x v ≡ write_exit usc68hc908_model x r v)
write_ivr x r v w e b z = plain_write x (with_ivr x v) r v w (omega arith) (omega arith) (sym (ap (λ r. writes x r v) e ∙ ap (λ b. cond b (with_ivr x v) (cond (eqb v 0) (cleared x) (with_isr x v))) b)) refl z

reach_isr : (x : Usc68hc908) (r v : ℕ) → r ≡ 3 → bit x.ier 0 ≡ false → writes x r v ≡ cond (eqb v 0) (cleared x) (with_isr x v)
reach_isr x r v e b = ap (λ r. writes x r v) e ∙ ap (λ b. cond b (with_ivr x v) (cond (eqb v 0) (cleared x) (with_isr x v))) b

pub write_isr : (x : Usc68hc908) (r v isr : ℕ) (w : Withdrawn) → r ≡ 3 → bit x.ier 0 ≡ false → (v ≡ 0 → ⊥) → isr ≡ both x.isr v → w ≡ nobody
    → (Ok w ≡ write_result usc68hc908_model x r v) × (usc x.wired x.latches x.imr x.ier isr x.ivr ≡ write_exit usc68hc908_model x r v)
write_isr x r v isr w e b n q z = plain_write x (usc x.wired x.latches x.imr x.ier isr x.ivr) r v w (omega arith) (omega arith)
    (ap (λ i. usc x.wired x.latches x.imr x.ier i x.ivr) q ∙ sym (reach_isr x r v e b ∙ ap (λ b. cond b (cleared x) (with_isr x v)) (ne_eqb v 0 n))) refl z

pub write_ier : (x : Usc68hc908) (r v : ℕ) (l : Latches) (w : Withdrawn) → r ≡ 2 → l ≡ keeping x.latches odd_channels v → w ≡ told (loses x.latches odd_channels v) 7
    → (Ok w ≡ write_result usc68hc908_model x r v) × (usc x.wired l x.imr v x.isr x.ivr ≡ write_exit usc68hc908_model x r v)
write_ier x r v l w e q z =
    let this : with_ier x v ≡ writes x r v = sym (ap (λ r. writes x r v) e) in
    write_is x _ r v w (omega arith) (omega arith) (ap (λ l. usc x.wired l x.imr v x.isr x.ivr) q ∙ this)
    (z ∙ told_lost (settings x) (settings (with_ier x v)) x.latches odd_channels v (λ n h. sym (odd_is n h)) (λ n h o k. o) ∙ ap (λ y. told (lost (usc68hc908_model.meaning x) (usc68hc908_model.meaning y)) 7) this)

-- Clear
pub clear_is : (x : Usc68hc908) (l : Latches) (w : Withdrawn) → l ≡ keeping x.latches odd_channels 0 → w ≡ told (loses x.latches odd_channels 0) 7
    → (w ≡ told (lost (usc68hc908_model.meaning x) (usc68hc908_model.meaning (cleared x))) 7) × (usc x.wired l 0 0 0 0 ≡ cleared x)
clear_is x l w q z =
    let none = keeping_none x.latches odd_channels in (
      z ∙ told_lost (settings x) (settings x) x.latches odd_channels 0 (λ n h. sym (odd_is n h)) (λ n h o k. o) ∙ ap (λ l. told (λ s. (sources x s).held && not (odd (s + 1) && bit l.held (s + 1))) 7) none,
      ap (λ l. usc x.wired l 0 0 0 0) (q ∙ none),
    )

-- Answer and question: a source asks at the card's level while its channel asks
asking_bit : (i d o h w : Bool) → ((i && d) && cond o (o && h) w) ≡ ((i && d) && cond o h (i && w))
asking_bit true d true h w = refl
asking_bit true d false h w = refl
asking_bit false d o h w = refl

asking_channel : (x : Usc68hc908) (n c : ℕ) → asking_at n (input_source (settings x) x.latches c) ≡ ((not (eqb (level_of x) 0) && asks x c) && eqb (level_of x) n)
unfolding asking_at
asking_channel x n c = ap (λ b. (not (eqb (level_of x) 0) && b) && eqb (level_of x) n) (asking_bit (bit x.ier c) (bit x.imr c && ltb (highest (bit x.isr) 7) c) (odd c) (bit x.latches.held c) (bit x.latches.wires c))

silent : (x : Usc68hc908) (n c : ℕ) → asks x c ≡ false → asking_at n (input_source (settings x) x.latches c) ≡ false
silent x n c e = asking_channel x n c ∙ ap (λ b. (not (eqb (level_of x) 0) && b) && eqb (level_of x) n) e ∙ ap (λ b. b && eqb (level_of x) n) (and_right (not (eqb (level_of x) 0)) false refl)

elsewhere : (x : Usc68hc908) (n c : ℕ) → (n ≡ level_of x → ⊥) → asking_at n (input_source (settings x) x.latches c) ≡ false
elsewhere x n c ne = asking_channel x n c ∙ and_right (not (eqb (level_of x) 0) && asks x c) (eqb (level_of x) n) (ne_eqb (level_of x) n (λ e. ne (sym e)))

unwired : (x : Usc68hc908) (n c : ℕ) → level_of x ≡ 0 → asking_at n (input_source (settings x) x.latches c) ≡ false
unwired x n c e = asking_channel x n c ∙ ap (λ b. (not b && asks x c) && eqb (level_of x) n) (eq-eqb (level_of x) 0 e)

-- the channel found, or that there is none
found : (h c : ℕ) → Some c ≡ if_any h → (0 < h) × (c ≡ h)
found h c e = elim (cases_eq h 0) [
  | inl z ↦ (let q = rw (eq-eqb h 0 z) at e in let no_way : ◌≡◌ {A = ℕ} 0 1 = cc in absurd (omega arith))
  | inr n ↦ (let q = rw (ne_eqb h 0 n) at e in let same : c ≡ h = cc in (omega arith, same))
]

missing : (h : ℕ) → None ≡ if_any h → h ≡ 0
missing h e = elim (cases_eq h 0) [
  | inl z ↦ z
  | inr n ↦ (let q = rw (ne_eqb h 0 n) at e in let no_way : ◌≡◌ {A = ℕ} 0 1 = cc in absurd (omega arith))
]

pub chosen_within : (x : Usc68hc908) (c : ℕ) → Some c ≡ chosen_channel x → (0 < c) × (c ≤ 7)
chosen_within x c e = let f = found (highest (asks x) 7) c e in let le = highest_le (asks x) 7 in (omega (arith, f.0, f.1), omega (arith, f.1))

none_asks : (x : Usc68hc908) → None ≡ chosen_channel x → (n t : ℕ) → 0 < t → t < 8 → asking_at n (input_source (settings x) x.latches t) ≡ false
none_asks x e n t pos l = let z = missing (highest (asks x) 7) e in silent x n t (highest_last (asks x) 7 t (omega arith) (omega arith))

chosen_asks : (x : Usc68hc908) (n c : ℕ) → 0 < n → n ≡ level_of x → Some c ≡ chosen_channel x → asking_at n (input_source (settings x) x.latches c) ≡ true
chosen_asks x n c pos e ch =
    let f = found (highest (asks x) 7) c ch in
    let asks-it : asks x c ≡ true = ap (asks x) f.1 ∙ highest_holds (asks x) 7 f.0 in
    asking_channel x n c ∙ and_from (not (eqb (level_of x) 0) && asks x c) (eqb (level_of x) n) (and_from (not (eqb (level_of x) 0)) (asks x c) (ap not (ne_eqb (level_of x) 0 (λ z. omega arith))) asks-it) (eq-eqb (level_of x) n (sym e))

pick_chosen : (x : Usc68hc908) (n c : ℕ) → 0 < n → n ≡ level_of x → Some c ≡ chosen_channel x → pick (sources x) n 7 ≡ Some (c - 1)
pick_chosen x n c pos e ch =
    let w = chosen_within x c ch in
    let f = found (highest (asks x) 7) c ch in
    pick_highest (settings x) x.latches n c w.0 (omega (arith, w.1)) (chosen_asks x n c pos e ch) (λ t lt l. silent x n t (highest_last (asks x) 7 t (omega (arith, f.1)) (omega arith)))

pub pick_missing : (x : Usc68hc908) (n : ℕ) → None ≡ chosen_channel x → pick (sources x) n 7 ≡ None
pick_missing x n e = pick_none (settings x) x.latches n (none_asks x e n)

pub pick_elsewhere : (x : Usc68hc908) (n : ℕ) → (n ≡ level_of x → ⊥) → pick (sources x) n 7 ≡ None
pick_elsewhere x n ne = pick_none (settings x) x.latches n (λ t pos l. elsewhere x n t ne)

pub answer_none : (x : Usc68hc908) (n : ℕ) → 1 ≤ n → n ≤ 7 → pick (sources x) n 7 ≡ None → (Ok None ≡ answer_result usc68hc908_model x n) × (x ≡ answer_exit usc68hc908_model x n)
answer_none x n lo hi e = rw (le-leb 1 n lo, le-leb n 7 hi, e) (refl, refl)

pub answer_some : (x : Usc68hc908) (n c b isr : ℕ) (l : Latches) → 1 ≤ n → n ≤ 7 → n ≡ level_of x → Some c ≡ chosen_channel x → b ≡ base_of x → l ≡ released x.latches c → isr ≡ put c true x.isr
    → (Ok (Some (record { source = c - 1; reply = Byte (b + c) })) ≡ answer_result usc68hc908_model x n) × (usc x.wired l x.imr x.ier isr x.ivr ≡ answer_exit usc68hc908_model x n)
answer_some x n c b isr l lo hi e ch p q r =
    let w = chosen_within x c ch in
    let same : c ≡ (c - 1) + 1 = omega (arith, w.0) in
    rw (le-leb 1 n lo, le-leb n 7 hi, pick_chosen x n c lo e ch) (
      ap₂ (λ m d. Ok (Some (record { source = c - 1; reply = Byte (m + d) }))) p same,
      ap₂ (λ l i. usc x.wired l x.imr x.ier i x.ivr) (q ∙ ap (released x.latches) same) (r ∙ ap (λ d. put d true x.isr) same),
    )

pub asked_none : (x : Usc68hc908) → ((n t : ℕ) → 0 < t → t < 8 → asking_at n (input_source (settings x) x.latches t) ≡ false) → 0 ≡ levels_asked usc68hc908_model x
asked_none x none = sym (bits_none (any_asks (sources x) 7) 8 (λ n l. any_none (sources x) n 7 (λ t h. none n (t + 1) (omega arith) (omega arith))))

pub asked_missing : (x : Usc68hc908) → None ≡ chosen_channel x → 0 ≡ levels_asked usc68hc908_model x
asked_missing x e = asked_none x (none_asks x e)

pub asked_unwired : (x : Usc68hc908) (n : ℕ) → n ≡ level_of x → n ≡ 0 → 0 ≡ levels_asked usc68hc908_model x
asked_unwired x n e z = asked_none x (λ n t pos l. unwired x n t (sym e ∙ z))

pub asked_some : (x : Usc68hc908) (n c : ℕ) → 0 < n → n ≡ level_of x → Some c ≡ chosen_channel x → put n true 0 ≡ levels_asked usc68hc908_model x
asked_some x n c pos e ch = bits_same (λ t. cond (eqb t n) true (bit 0 t)) (any_asks (sources x) 7) 8 (λ t l. elim (cases_eq t n) [
  | inl same ↦ (let w = chosen_within x c ch in let back : c ≡ (c - 1) + 1 = omega (arith, w.0) in
      ap (λ b. cond b true (bit 0 t)) (eq-eqb t n same) ∙ sym (any_some (sources x) t 7 (c - 1) (omega (arith, w.1)) (ap (λ d. asking_at t (input_source (settings x) x.latches d)) (sym back) ∙ chosen_asks x t c (omega arith) (same ∙ e) ch)))
  | inr other ↦ ap₂ (λ b d. cond b true d) (ne_eqb t n other) (bit_zero t l) ∙ sym (any_none (sources x) t 7 (λ s h. elsewhere x t (s + 1) (λ q. other (q ∙ sym e))))
])

-- the bit of a level, on just if some channel asks
pub asked_if_some : (x : Usc68hc908) (n : ℕ) (o : Option ℕ) → 0 < n → n ≡ level_of x → o ≡ chosen_channel x → put n (is_some o) 0 ≡ levels_asked usc68hc908_model x
asked_if_some x n (Some c) pos e ch = asked_some x n c pos e ch
asked_if_some x n None pos e ch = bits_none (λ t. cond (eqb t n) false (bit 0 t)) 8 (λ t l. off (eqb t n) (bit_zero t l)) ∙ asked_missing x ch
  where
    off : {b : Bool} (a : Bool) → b ≡ false → cond a false b ≡ false
    off true h = refl
    off false h = h
