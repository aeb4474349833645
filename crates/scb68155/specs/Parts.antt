-- What the registers keep of a byte, the control register that R0 names, and what a read or a write of a register gives.
-- Proofs, and nothing to believe: they stand in specs/ since an impl can cite no other folder of its crate for its law.
use Rattle.std.specs.Prelude.{◌≡◌, ℕ, ◌<◌, ◌≤◌, Bool, true, false, cond, ◌&&◌, Some, None, Ok, Err, Option, Result, bit_and, nat_le, nat_lt, refl}
use Rattle.std.proofs.Common.{sym, ap, ap₂, subst, ◌∙◌, inl, inr, arith}
use Rattle.std.proofs.lemmas.Bool.{cases_lt, and_parts, and_left, and_right, leb-true, le-leb, lt-leb}
use Rattle.card.specs.declared.faults.CardFault.{CardFault}
use Rattle.card.specs.declared.faults.CardFault.TheVariants.{NoControl}
use Rattle.card.specs.Bits.{bit}
use Rattle.card.specs.Model.{unless_refused, changed_unless}
use Rattle.card.proofs.Bitwise.{bit_past}
use Rattle.bits.proofs.Bytes.{masked}
use Rattle.scb68155.specs.declared.registers.Registers.{Registers}
use Rattle.scb68155.specs.Sheet.{low_bits, high_bits, line_bits, named, is_lrq, control, shows, writing, pointer_fault, refuses_read, refuses_write, if_register}

pub low_is : (v : ℕ) → v < 256 → bit_and v 7 ≡ low_bits v
low_is = masked 7 (λ c. nat_lt c 3) tt

pub high_is : (v : ℕ) → v < 256 → bit_and v 248 ≡ high_bits v
high_is = masked 248 (λ c. nat_lt 2 c) tt

pub lines_is : (v : ℕ) → v < 256 → bit_and v 254 ≡ line_bits v
lines_is = masked 254 (λ c. nat_lt 0 c) tt

-- the line that R0 names, or why there is none
abbrev naming : Bool → ℕ → Result ℕ CardFault
naming b p = unless_refused (cond b None (Some (NoControl p))) p

pub names : (r : Registers) (p : ℕ) (b : Bool) → p ≡ named r → is_lrq p ≡ b → naming b p ≡ unless_refused (pointer_fault r) (named r)
names r p b e o = ap (λ b. naming b p) (sym o) ∙ ap (λ p. naming (is_lrq p) p) e

pub below_lrq : (n : ℕ) → n < 1 → is_lrq n ≡ false
below_lrq n h = and_left (nat_le 1 n) (nat_le n 6) (lt-leb 1 n h)

pub above_lrq : (n : ℕ) → 6 < n → is_lrq n ≡ false
above_lrq n h = and_right (nat_le 1 n) (nat_le n 6) (lt-leb n 6 h)

pub between_lrq : (n : ℕ) → 1 ≤ n → n ≤ 6 → is_lrq n ≡ true
between_lrq n lo hi = ap₂ ◌&&◌ (le-leb 1 n lo) (le-leb n 6 hi)

-- what is known of the line where one is named
pub record Named (r : Registers) (line : ℕ) : Type 0 where
  pub granted : pointer_fault r ≡ None
  pub is : line ≡ named r
  pub least : 1 ≤ line
  pub most : line ≤ 6

pub named_ok : (r : Registers) (line : ℕ) → Ok line ≡ unless_refused (pointer_fault r) (named r) → Named r line
named_ok r line = go (named r) (is_lrq (named r)) refl refl
  where
    go : (p : ℕ) (b : Bool) → p ≡ named r → is_lrq (named r) ≡ b → Ok line ≡ naming b p → Named r line
    go p true e o h =
        let same : line ≡ named r = (let q : line ≡ p = cc in q ∙ e) in
        let parts = and_parts (nat_le 1 (named r)) (nat_le (named r) 6) o in
        record {
          granted = ap (λ b. cond b None (Some (NoControl (named r)))) o;
          is = same;
          least = subst (λ n. 1 ≤ n) (sym same) (leb-true 1 (named r) parts.0);
          most = subst (λ n. n ≤ 6) (sym same) (leb-true (named r) 6 parts.1);
        }
    go p false e o h = let no_way : ◌≡◌ {A = ℕ} 0 1 = cc in absurd (omega arith)

-- a call that was refused, and one that was not
pub refused_by : {A : Type 0} (o : Option CardFault) (a : A) (e : CardFault) → Err e ≡ unless_refused o a → o ≡ Some e
refused_by None a e h = let no_way : ◌≡◌ {A = ℕ} 0 1 = cc in absurd (omega arith)
refused_by (Some f) a e h = cc

pub granted_by : {A : Type 0} (o : Option CardFault) (a b : A) → Ok b ≡ unless_refused o a → o ≡ None
granted_by None a b h = refl
granted_by (Some f) a b h = let no_way : ◌≡◌ {A = ℕ} 0 1 = cc in absurd (omega arith)

pub changed_by : {X : Type 0} (o : Option CardFault) (after before left : X) → o ≡ None → left ≡ changed_unless o after before → left ≡ after
changed_by o after before left f e = e ∙ ap (λ o. changed_unless o after before) f

pub kept_by : {X : Type 0} (o : Option CardFault) (after before left : X) (fault : CardFault) → o ≡ Some fault → left ≡ changed_unless o after before → left ≡ before
kept_by o after before left fault f e = e ∙ ap (λ o. changed_unless o after before) f

-- bits above 7 are not set, so only levels 1 to 7 are admitted
pub admits_is : (m n : ℕ) → m < 256 → 1 ≤ n → bit m n ≡ (nat_le 1 n && (nat_le n 7 && bit m n))
admits_is m n h lo = elim (cases_lt n 8) [
  | inl level ↦ sym (ap₂ (λ a b. a && (b && bit m n)) (le-leb 1 n lo) (le-leb n 7 (omega arith)))
  | inr past ↦ bit_past m n 8 h past ∙ sym (and_right (nat_le 1 n) (nat_le n 7 && bit m n) (and_left (nat_le n 7) (bit m n) (lt-leb n 7 past)))
]

-- what a read of register n gives, which is known to be register k
abbrev gives : Registers → (asked bus n : ℕ) → Result ℕ CardFault
gives r asked bus n = unless_refused (if_register n (refuses_read r n)) (shows r asked bus n)

pub read_control : (r : Registers) (asked bus n : ℕ) (given : Result ℕ CardFault) → n ≡ 1 → given ≡ unless_refused (pointer_fault r) (low_bits (control r (named r))) → given ≡ gives r asked bus n
read_control r asked bus n given e h = h ∙ ap (gives r asked bus) (sym e)

pub read_bus_mask : (r : Registers) (asked bus n v : ℕ) → n ≡ 5 → v ≡ line_bits r.bus_mask → Ok v ≡ gives r asked bus n
read_bus_mask r asked bus n v e h = ap Ok h ∙ ap (gives r asked bus) (sym e)

pub read_lines : (r : Registers) (asked bus n v : ℕ) → n ≡ 6 → v ≡ line_bits bus → Ok v ≡ gives r asked bus n
read_lines r asked bus n v e h = ap Ok h ∙ ap (gives r asked bus) (sym e)

-- what a write of register n gives, and the registers that it leaves
abbrev write_refusal : Registers → ℕ → Option CardFault
write_refusal r n = if_register n (refuses_write r n)

abbrev Wrote : Registers → (n v : ℕ) → Result (Unit {0}) CardFault → Registers → Type 0
Wrote r n v given left = (given ≡ unless_refused (write_refusal r n) tt) × (left ≡ changed_unless (write_refusal r n) (writing r n v) r)

pub wrote_at : (r left : Registers) (n k v : ℕ) → n ≡ k → write_refusal r k ≡ None → left ≡ writing r k v → Wrote r n v (Ok tt) left
wrote_at r left n k v e f h = subst (λ m. Wrote r m v (Ok tt) left) (sym e) (ap (λ o. unless_refused o tt) (sym f), h ∙ ap (λ o. changed_unless o (writing r k v) r) (sym f))

pub wrote_control : (r left : Registers) (n v : ℕ) (given : Result (Unit {0}) CardFault) → n ≡ 1 → given ≡ unless_refused (pointer_fault r) tt → left ≡ changed_unless (pointer_fault r) (writing r 1 v) r → Wrote r n v given left
wrote_control r left n v given e h k = subst (λ m. Wrote r m v given left) (sym e) (h, k)
