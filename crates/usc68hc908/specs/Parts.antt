-- The bytes and the channel that the parts of the USC68HC908 work out.
-- Proofs, and nothing to believe: they stand in specs/ since an impl can cite no other folder of its crate for its law.
use Rattle.std.specs.Prelude.{◌≡◌, ℕ, zero, suc, ◌<◌, ◌≤◌, Bool, true, false, cond, ◌&&◌, ◌||◌, ltb, Some, None, nat_lt, refl}
use Rattle.std.proofs.Common.{sym, ap, ap₂, ◌∙◌, inl, inr, arith}
use Rattle.std.specs.Int.Bits.{bit_and, bit_or}
use Rattle.std.specs.Int.Count.{ones}
use Rattle.std.proofs.lemmas.Nat.{and_le_l}
use Rattle.std.proofs.lemmas.Bool.{cases_lt, lt-ltb, le-ltb, and_left, and_right, both_ways, ne_eqb}
use Rattle.card.specs.Bits.{bit}
use Rattle.bits.specs.Bytes.{only, highest}
use Rattle.bits.proofs.Bytes.{bit_of_and, bit_of_or, bit_byte, byte_below, is_byte, mask_of, masked, by_bytes, highest_le, highest_holds, highest_last, highest_at}
use Rattle.latches.specs.Latching.{pending_inputs}
use Rattle.usc68hc908.specs.declared.Usc68hc908.{Usc68hc908}
use Rattle.usc68hc908.specs.Sheet.{odd, channels, pends, ipr, in_service, idle_from, asks, if_any, chosen_channel, how_many}

pub channels_is : (x : ℕ) → x < 256 → bit_and x 254 ≡ channels x
channels_is = masked 254 (λ c. ltb 0 c) tt

pub base_is : (x : ℕ) → x < 256 → bit_and x 248 ≡ only (λ c. ltb 2 c) x
base_is = masked 248 (λ c. ltb 2 c) tt

pub odd_is : (c : ℕ) → c < 8 → bit 170 c ≡ odd c
odd_is = mask_of 170 odd tt

-- IPR, bit by bit: z is a channel, o odd, h held, w its wire, i enabled
pending_bit : (z o h w i : Bool) → ((cond o h w && (o || i)) && z) ≡ (z && cond o h (i && w))
pending_bit true true true w i = refl
pending_bit true true false w i = refl
pending_bit true false h true true = refl
pending_bit true false h true false = refl
pending_bit true false h false true = refl
pending_bit true false h false false = refl
pending_bit false o h w i = and_right (cond o h w && (o || i)) false refl

pub pending_is : (x : Usc68hc908) (p : ℕ) → p ≡ pending_inputs x.latches 170 → bit_and (bit_and p (bit_or 170 x.ier)) 254 ≡ ipr x
pending_is x p e = is_byte _ (λ c. nat_lt 0 c && pends x c) (omega (arith, and_le_l p (bit_or 170 x.ier), and_le_l (bit_and p (bit_or 170 x.ier)) 254, e, byte_below (λ n. cond (bit 170 n) (bit x.latches.held n) (bit x.latches.wires n))))
    (λ c l. bit_of_and (bit_and p (bit_or 170 x.ier)) 254 c
    ∙ ap₂ ◌&&◌ (bit_of_and p (bit_or 170 x.ier) c ∙ ap₂ ◌&&◌ (ap (λ n. bit n c) e ∙ bit_byte (λ n. cond (bit 170 n) (bit x.latches.held n) (bit x.latches.wires n)) c l ∙ ap (λ o. cond o (bit x.latches.held c) (bit x.latches.wires c)) (odd_is c l)) (bit_of_or 170 x.ier c ∙ ap (λ o. o || bit x.ier c) (odd_is c l))) (mask_of 254 (λ c. ltb 0 c) tt c l)
    ∙ pending_bit (nat_lt 0 c) (odd c) (bit x.latches.held c) (bit x.latches.wires c) (bit x.ier c))

-- counting bits
same_many : (p q : ℕ → Bool) (k : ℕ) → ((c : ℕ) → c < k → p c ≡ q c) → how_many p k ≡ how_many q k
same_many p q zero e = refl
same_many p q (suc k) e = let a = e k (omega arith) in let i = same_many p q k (λ c l. e c (omega arith)) in rw (a, i)

ones_are : (x : ℕ) → x < 256 → ones x ≡ how_many (bit x) 8
unfolding ones
ones_are = by_bytes (λ x. ones x) (λ x. how_many (bit x) 8) tt

pub nesting_is : (x : Usc68hc908) (n : ℕ) → n ≡ channels x.isr → ones n ≡ how_many (in_service x) 8
nesting_is x n e = ap ones e ∙ ones_are (channels x.isr) (byte_below (λ c. nat_lt 0 c && bit x.isr c)) ∙ same_many (bit (channels x.isr)) (in_service x) 8 (λ c l. bit_byte (λ c. nat_lt 0 c && bit x.isr c) c l)

-- The channel chosen: of those pending, enabled and not masked the highest, if it is above those in service.
ready : (z p i m d : Bool) → (((z && p) && i) && m) ≡ true → d ≡ true → ((i && (m && d)) && p) ≡ true
ready true true true true true e q = refl
ready true true true true false e q = q
ready true true true false d e q = e
ready true true false m d e q = e
ready true false i m d e q = absurd (both_ways false refl e)
ready false p i m d e q = absurd (both_ways false refl e)

not_ready : (z p i m d : Bool) → z ≡ true → (((z && p) && i) && m) ≡ false → ((i && (m && d)) && p) ≡ false
not_ready true true true true d q e = absurd (both_ways true e refl)
not_ready true true true false d q e = refl
not_ready true true false m d q e = refl
not_ready true false i m d q e = and_right (i && (m && d)) false refl
not_ready false p i m d q e = absurd (both_ways false refl q)

busy : (i m d p : Bool) → d ≡ false → ((i && (m && d)) && p) ≡ false
busy i m d p e = and_left (i && (m && d)) p (and_right i (m && d) (and_right m d e))

module _ (x : Usc68hc908) (p : ℕ) (e : p ≡ ipr x) where
  -- the channels pending, enabled and not masked
  abbrev free : ℕ
  free = bit_and (bit_and p x.ier) x.imr

  free_bit : (c : ℕ) → c < 8 → bit free c ≡ (((nat_lt 0 c && pends x c) && bit x.ier c) && bit x.imr c)
  free_bit c l = bit_of_and (bit_and p x.ier) x.imr c ∙ ap (λ b. b && bit x.imr c) (bit_of_and p x.ier c ∙ ap (λ b. b && bit x.ier c) (ap (λ n. bit n c) e ∙ bit_byte (λ c. nat_lt 0 c && pends x c) c l))

  past : (c : ℕ) → highest (bit free) 7 < c → c ≤ 7 → asks x c ≡ false
  past c l h = not_ready (nat_lt 0 c) (pends x c) (bit x.ier c) (bit x.imr c) (idle_from x c) (lt-ltb 0 c (omega arith)) (sym (free_bit c (omega arith)) ∙ highest_last (bit free) 7 c l h)

  pub chosen_some : (t n : ℕ) → n ≡ highest (bit free) 7 → t ≡ highest (bit x.isr) 7 → t < n → Some n ≡ chosen_channel x
  chosen_some t n en et l =
      let le = highest_le (bit free) 7 in
      let held = highest_holds (bit free) 7 (omega arith) in
      let idle : idle_from x (highest (bit free) 7) ≡ true = lt-ltb (highest (bit x.isr) 7) (highest (bit free) 7) (omega arith) in
      let top = highest_at (asks x) 7 (highest (bit free) 7) le
      (λ pos. ready (nat_lt 0 (highest (bit free) 7)) (pends x (highest (bit free) 7)) (bit x.ier (highest (bit free) 7)) (bit x.imr (highest (bit free) 7)) (idle_from x (highest (bit free) 7)) (sym (free_bit (highest (bit free) 7) (omega arith)) ∙ held) idle)
      past in
      sym (ap if_any (top ∙ sym en) ∙ ap (λ b. cond b None (Some n)) (ne_eqb n 0 (λ z. omega arith)))

  pub chosen_none : (t n : ℕ) → n ≡ highest (bit free) 7 → t ≡ highest (bit x.isr) 7 → n ≤ t → None ≡ chosen_channel x
  chosen_none t n en et l = sym (ap if_any (highest_at (asks x) 7 0 (omega arith) (λ pos. absurd (omega arith)) (λ c pos h. elim (cases_lt (highest (bit free) 7) c) [
    | inl above ↦ past c above h
    | inr le ↦ busy (bit x.ier c) (bit x.imr c) (idle_from x c) (pends x c) (le-ltb (highest (bit x.isr) 7) c (omega arith))
  ])))
