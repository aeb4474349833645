-- The SCB68155 keeps the rules of a card and of a handler.
-- Proofs, and nothing to believe: they stand in specs/ since an impl can cite no other folder of its crate for its law.
use Rattle.std.specs.Prelude.{◌≡◌, ℕ, ◌+◌, ◌<◌, Bool, true, false, cond, ◌&&◌, ◌||◌, Some, None, Option, ◌==◌, nat_le, refl}
use Rattle.std.proofs.Common.{sym, subst, arith}
use Rattle.std.proofs.lemmas.Bool.{and_parts, and_right, leb-true, eqb-true}
use Rattle.card.specs.declared.faults.CardFault.{CardFault}
use Rattle.card.specs.declared.faults.CardFault.TheVariants.{NoAccess, NoControl}
use Rattle.card.specs.Source.{asking, asking_at}
use Rattle.card.specs.Bits.{bit}
use Rattle.card.specs.Meaning.{fault_of}
use Rattle.card.specs.Model.{unless_refused}
use Rattle.card.specs.Laws.{Own, AnswerRule, Laws}
use Rattle.bits.proofs.Bytes.{bit_byte, bit_zero}
use Rattle.latches.specs.Latching.{input_source}
use Rattle.latches.proofs.Rules.{ranks_differ, drive_this, drive_other, release_this, release_other, keeping_held}
use Rattle.scb68155.specs.declared.registers.Registers.{Registers}
use Rattle.scb68155.specs.declared.Scb68155.{Scb68155}
use Rattle.scb68155.specs.Sheet.{named, is_lrq, is_edge, edges, lines, requests, shows, writing, refuses_read, answers_line, scb68155_model}
use Rattle.scb68155.specs.Parts.{refused_by}

-- 17 names the register, and 20 what R0 holds
own_fault : (n p : ℕ) (shut first lrq : Bool) (e : CardFault) → cond shut (Some (NoAccess n)) (cond first (cond lrq None (Some (NoControl p))) None) ≡ Some e → Own n e
own_fault n p true first lrq e h = let same : NoAccess n ≡ e = cc in subst (Own n) same refl
own_fault n p false true true e h = let no_way : ◌≡◌ {A = ℕ} 0 1 = cc in absurd (omega arith)
own_fault n p false true false e h = let same : NoControl p ≡ e = cc in subst (Own n) same tt
own_fault n p false false lrq e h = let no_way : ◌≡◌ {A = ℕ} 0 1 = cc in absurd (omega arith)

-- whether a read is refused does not depend on what it would show
same_fault : (o : Option CardFault) (a b : ℕ) → fault_of (unless_refused o a) ≡ fault_of (unless_refused o b)
same_fault None a b = refl
same_fault (Some e) a b = refl

pub edge_bit : (r : Registers) (n : ℕ) → n < 8 → is_edge r n ≡ bit (edges r) n
edge_bit r n h = sym (bit_byte (is_edge r) n h)

-- a source asks at the level of its line alone
pub level_of_line : (x : Scb68155) (n t : ℕ) → asking_at n (input_source (lines x.registers) x.latches t) ≡ true → t ≡ n
unfolding asking_at
level_of_line x n t e = eqb-true t n (and_parts (asking (input_source (lines x.registers) x.latches t)) (t == n) e).1

answer_rule : (x : Scb68155) (n s : ℕ) → s < 7 → s + 1 ≡ n → AnswerRule 7 (scb68155_model.meaning x) s (scb68155_model.meaning (answers_line x n))
answer_rule x n s h e = record {
  stays = λ t g. record { wire = refl; edge = refl; level = refl; reply = refl; rank = refl };
  this = subst (λ m. (is_edge x.registers (s + 1) && bit (answers_line x m).latches.held (s + 1)) ≡ false) e (release_this (is_edge x.registers (s + 1)) x.latches (s + 1) (omega arith));
  others = λ t g ne. release_other (is_edge x.registers (t + 1)) x.latches n (t + 1) (omega arith) (λ q. ne (omega arith));
  marks = λ m. refl;
}

pub scb68155_laws : Laws scb68155_model
scb68155_laws = record {
  lawful = λ x. record {
    levels = λ s h. omega arith;
    ranks_below = λ s h. omega arith;
    ranks_differ = ranks_differ (lines x.registers) x.latches;
    only_edges_held = λ s h e. (and_parts (is_edge x.registers (s + 1)) (bit x.latches.held (s + 1)) e).0;
    marks = λ n e.
        let outer = and_parts (nat_le 1 n) (nat_le n 7 && bit x.registers.bus_mask n) e in
        (leb-true 1 n outer.0, leb-true n 7 (and_parts (nat_le n 7) (bit x.registers.bus_mask n) outer.1).0);
  };
  refusing = λ x. let r = x.registers in record {
    reads = λ n l e h q. own_fault n (named r) (n == 0) (n == 1) (is_lrq (named r)) e (refused_by (refuses_read r n) (shows r (requests x) l n) e (sym q));
    writes = λ n v e h q. own_fault n (named r) (n == 4 || (n == 6 || n == 7)) (n == 1) (is_lrq (named r)) e q;
  };
  drives = λ x s w h. record {
    this = drive_this (lines x.registers) x.latches (s + 1) w (omega arith);
    others = λ t g ne. drive_other (lines x.registers) x.latches (s + 1) (t + 1) w (omega arith) (λ e. ne (omega arith));
    marks = λ n. refl;
    write_refusals = λ n v. refl;
    read_refusals = λ n l. same_fault (refuses_read x.registers n) _ _;
  };
  writes = λ x n v h e. record {
    wires = λ t g. refl;
    none_held = λ t g. keeping_held (lines x.registers) (lines (writing x.registers n v)) x.latches (edges x.registers) (edges (writing x.registers n v)) (t + 1) (omega arith) (edge_bit x.registers (t + 1) (omega arith));
  };
  answers = λ x n s h. answer_rule x n s h.within (level_of_line x n (s + 1) h.asks);
  resets = λ x. record { wires = λ t g. refl; none_held = λ t g. and_right _ (bit 0 (t + 1)) (bit_zero (t + 1) (omega arith)) };
}
