-- What each call of the SCB68155 gives and leaves.
use Rattle.std.proofs.Common.{◌≡◌, ℕ, ◌+◌, ◌-◌, ◌<◌, ◌≤◌, Bool, true, false, cond, not, ◌&&◌, eqb, ltb, Some, None, Ok, sym, refl, ap, ◌∙◌, subst, ap₂, inl, inr, arith}
use lib.Bits.{bit_and, and_le_l}
use Rattle.std.proofs.lemmas.Bool.{cases_eq, cases_Bool, both_ways, lt-ltb, eq-eqb, ne_eqb, le-leb, and_right}
use Rattle.card.specs.declared.outcomes.Driven.{Driven}
use Rattle.card.specs.declared.outcomes.Reply.{Reply}
use Rattle.card.specs.declared.withdrawn.Withdrawn.{Withdrawn}
use Rattle.card.specs.Source.{asking, asking_at, any_asks, pick}
use Rattle.card.specs.Bits.{bit}
use Rattle.card.specs.Withdrawing.{told}
use Rattle.card.specs.Meaning.{driving, lost}
use Rattle.card.specs.Model.{unless_refused, changed_unless, write_fault, drive_result, drive_exit, write_result, write_exit, answer_result, answer_exit, reset_result, levels_asked}
use Rattle.card.proofs.Picks.{any_none, any_some}
use Rattle.bits.proofs.Bytes.{is_byte, bit_of_and, bit_byte, bit_zero, byte_below}
use Rattle.latches.specs.declared.Latches.{Latches}
use Rattle.latches.specs.Latching.{input_source, pending_inputs, driven, keeping, loses}
use Rattle.latches.proofs.Rules.{pick_highest, pick_none, told_lost, keeping_none}
use Rattle.scb68155.specs.declared.registers.Registers.{Registers}
use Rattle.scb68155.specs.declared.Scb68155.{Scb68155}
use Rattle.scb68155.specs.Sheet.{chip, clear, is_edge, edges, lines, source_of_chip, requests, reply_of_line, writing, writes, answers_line, scb68155_model}
use Rattle.scb68155.specs.Rules.{edge_bit}

pub drive_is : (x : Scb68155) (s : ℕ) (w : Bool) (d : Driven) (l : Latches) → s < 7 → d ≡ driving (source_of_chip x s) w → l ≡ driven (lines x.registers) x.latches (s + 1) w
    → (Ok d ≡ drive_result scb68155_model x s w) × (chip x.registers l ≡ drive_exit scb68155_model x s w)
drive_is x s w d l h e f = rw (lt-ltb s 7 h) (ap Ok e, ap (chip x.registers) f)

-- an edge is lost where a line was of edge sort and is not any more
lost_is : (x : Scb68155) (n v : ℕ) → told (loses x.latches (edges x.registers) (edges (writing x.registers n v))) 7 ≡ told (lost (scb68155_model.meaning x) (scb68155_model.meaning (writes x n v))) 7
lost_is x n v =
    let r = x.registers in
    let q = writing x.registers n v in
    told_lost (lines r) (lines q) x.latches (edges r) (edges q) (edge_bit r) (λ m h was kept. edge_bit q m h ∙ kept)

pub write_granted : (x : Scb68155) (n v : ℕ) (r : Registers) (l : Latches) (w : Withdrawn) → write_fault scb68155_model x n v ≡ None → r ≡ writing x.registers n v
    → w ≡ told (loses x.latches (edges x.registers) (edges r)) 7 → l ≡ keeping x.latches (edges x.registers) (edges r)
    → (Ok w ≡ write_result scb68155_model x n v) × (chip r l ≡ write_exit scb68155_model x n v)
write_granted x n v r l w f e p q = (
  ap Ok (p ∙ ap (λ r. told (loses x.latches (edges x.registers) (edges r)) 7) e ∙ lost_is x n v) ∙ ap (λ o. unless_refused o (told (lost (scb68155_model.meaning x) (scb68155_model.meaning (writes x n v))) 7)) (sym f),
  ap (chip r) q ∙ ap (λ r. chip r (keeping x.latches (edges x.registers) (edges r))) e ∙ ap (λ o. changed_unless o (writes x n v) x) (sym f),
)

pub reset_is : (x : Scb68155) (r : Registers) (l : Latches) (w : Withdrawn) → r ≡ clear → w ≡ told (loses x.latches (edges x.registers) 0) 7 → l ≡ keeping x.latches (edges x.registers) 0
    → (Ok w ≡ reset_result scb68155_model x) × (chip r l ≡ scb68155_model.cleared x)
reset_is x r l w e p q =
    let i = lines x.registers in (
      ap Ok (p ∙ told_lost i (lines clear) x.latches (edges x.registers) 0 (edge_bit x.registers) (λ n h was kept. absurd (both_ways (bit 0 n) (bit_zero n h) kept))
          ∙ ap (λ l. told (lost (scb68155_model.meaning x) (scb68155_model.meaning (chip clear l))) 7) (keeping_none x.latches (edges x.registers))),
      ap₂ chip e (q ∙ keeping_none x.latches (edges x.registers)),
    )

-- Line n is the only one that can ask at level n.
silent : (x : Scb68155) (n t : ℕ) → (t ≡ n → ⊥) → asking_at n (input_source (lines x.registers) x.latches t) ≡ false
unfolding asking_at
silent x n t ne = and_right (asking (input_source (lines x.registers) x.latches t)) (eqb t n) (ne_eqb t n ne)

abbrev pub asks : Scb68155 → ℕ → Bool
asks x n = asking_at n (input_source (lines x.registers) x.latches n)

pub pick_line : (x : Scb68155) (n : ℕ) → 0 < n → n < 8 → asks x n ≡ true → pick (source_of_chip x) n 7 ≡ Some (n - 1)
pick_line x n pos h e = pick_highest (lines x.registers) x.latches n n pos h e (λ t lt le. silent x n t (λ q. omega arith))

pub pick_nothing : (x : Scb68155) (n : ℕ) → asks x n ≡ false → pick (source_of_chip x) n 7 ≡ None
pick_nothing x n e = pick_none (lines x.registers) x.latches n (λ t lt le. elim (cases_eq t n) [ inl same ↦ subst (λ m. asking_at n (input_source (lines x.registers) x.latches m) ≡ false) (sym same) e | inr other ↦ silent x n t other ])

pub any_line : (x : Scb68155) (n : ℕ) → 0 < n → n < 8 → any_asks (source_of_chip x) 7 n ≡ asks x n
any_line x n pos h = elim (cases_Bool (asks x n)) [
  | inl on ↦ (let same : n ≡ (n - 1) + 1 = omega arith in any_some (source_of_chip x) n 7 (n - 1) (omega arith) (sym (ap (λ m. asking_at n (input_source (lines x.registers) x.latches m)) same) ∙ on) ∙ sym on)
  | inr off ↦ any_none (source_of_chip x) n 7 (λ t l. elim (cases_eq (t + 1) n) [ inl same ↦ subst (λ m. asking_at n (input_source (lines x.registers) x.latches m) ≡ false) (sym same) off | inr other ↦ silent x n (t + 1) other ]) ∙ sym off
]

any_zero : (x : Scb68155) → any_asks (source_of_chip x) 7 0 ≡ false
any_zero x = any_none (source_of_chip x) 0 7 (λ t l. silent x 0 (t + 1) (λ e. omega arith))

ask_bit : (e h w o : Bool) → (cond e h w && o) ≡ ((true && (o && cond e (e && h) w)) && true)
ask_bit true true w true = refl
ask_bit true true w false = refl
ask_bit true false w true = refl
ask_bit true false w false = refl
ask_bit false h true true = refl
ask_bit false h true false = refl
ask_bit false h false true = refl
ask_bit false h false false = refl

-- R4, line by line
request_bit : (x : Scb68155) (n : ℕ) → n < 8 → bit (requests x) n ≡ (ltb 0 n && cond (is_edge x.registers n) (bit x.latches.held n) (bit x.latches.wires n))
request_bit x n h =
    bit_byte (λ c. ltb 0 c && bit (pending_inputs x.latches (edges x.registers)) c) n h
    ∙ ap (λ b. ltb 0 n && b) (bit_byte (λ m. cond (bit (edges x.registers) m) (bit x.latches.held m) (bit x.latches.wires m)) n h
    ∙ ap (λ e. cond e (bit x.latches.held n) (bit x.latches.wires n)) (sym (edge_bit x.registers n h)))

-- the requests of open lines are the levels asked at
asked_bit : (x : Scb68155) (n : ℕ) → n < 8 → (bit (requests x) n && bit x.registers.local_mask n) ≡ any_asks (source_of_chip x) 7 n
unfolding asking_at
asked_bit x n h =
    let r = x.registers in
    let l = x.latches in
    let request = cond (is_edge r n) (bit l.held n) (bit l.wires n) in
    ap (λ b. b && bit r.local_mask n) (request_bit x n h)
    ∙ elim (cases_eq n 0) [
      | inl none ↦ ap (λ m. (ltb 0 m && request) && bit r.local_mask n) none ∙ sym (ap (any_asks (source_of_chip x) 7) none ∙ any_zero x)
      | inr some ↦ ap (λ b. (b && request) && bit r.local_mask n) (lt-ltb 0 n (omega arith))
          ∙ ask_bit (is_edge r n) (bit l.held n) (bit l.wires n) (bit r.local_mask n)
          ∙ sym (ap₂ (λ a b. (not a && (bit r.local_mask n && cond (is_edge r n) (is_edge r n && bit l.held n) (bit l.wires n))) && b) (ne_eqb n 0 some) (eq-eqb n n refl))
          ∙ sym (any_line x n (omega arith) h)
    ]

pub asked_is : (x : Scb68155) (q : ℕ) → q ≡ requests x → bit_and q x.registers.local_mask ≡ levels_asked scb68155_model x
asked_is x q e =
    ap (λ q. bit_and q x.registers.local_mask) e
    ∙ is_byte _ (any_asks (source_of_chip x) 7)
    (omega (arith, and_le_l (requests x) x.registers.local_mask, byte_below (λ c. ltb 0 c && bit (pending_inputs x.latches (edges x.registers)) c)))
    (λ n h. bit_of_and (requests x) x.registers.local_mask n ∙ asked_bit x n h)

-- bit n of the question: whether line n asks
pub asks_at : (x : Scb68155) (n asked : ℕ) → 1 ≤ n → n ≤ 7 → asked ≡ levels_asked scb68155_model x → bit asked n ≡ asks x n
asks_at x n asked lo hi e = ap (λ a. bit a n) e ∙ bit_byte (any_asks (source_of_chip x) 7) n (omega arith) ∙ any_line x n lo (omega arith)

pub answer_none : (x : Scb68155) (n : ℕ) → 1 ≤ n → n ≤ 7 → asks x n ≡ false → (Ok None ≡ answer_result scb68155_model x n) × (x ≡ answer_exit scb68155_model x n)
answer_none x n lo hi e = rw (le-leb 1 n lo, le-leb n 7 hi, pick_nothing x n e) (refl, refl)

pub answer_some : (x : Scb68155) (n : ℕ) (p : Reply) (r : Registers) (l : Latches) → 1 ≤ n → n ≤ 7 → asks x n ≡ true → p ≡ reply_of_line x.registers n → r ≡ (answers_line x n).registers → l ≡ (answers_line x n).latches
    → (Ok (Some (record { source = n - 1; reply = p })) ≡ answer_result scb68155_model x n) × (chip r l ≡ answer_exit scb68155_model x n)
answer_some x n p r l lo hi e f g h =
    let same : n ≡ (n - 1) + 1 = omega arith in
    rw (le-leb 1 n lo, le-leb n 7 hi, pick_line x n lo (omega arith) e) (ap (λ p. Ok (Some (record { source = n - 1; reply = p }))) (f ∙ ap (reply_of_line x.registers) same), ap₂ chip g h)
