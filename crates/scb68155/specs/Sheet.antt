-- The SCB68155 interrupt handler: seven request lines. Line n asks at level n, uses bit n of a register, and is source n - 1. Lines 1
-- to 6 are LRQ1 to LRQ6, and line 7 is NMI.
use Rattle.std.specs.Prelude.{ℕ, ◌+◌, ◌-◌, Bool, true, false, cond, ◌&&◌, ◌||◌, ltb, List, replicate, Some, None, Option, ◌==◌, nat_le, nat_lt, slice_index, slice_set}
use Rattle.card.specs.declared.faults.CardFault.{CardFault}
use Rattle.card.specs.declared.faults.CardFault.TheVariants.{NoRegister, NoAccess, NoControl}
use Rattle.card.specs.declared.outcomes.Reply.{Reply}
use Rattle.card.specs.declared.outcomes.Reply.TheVariants.{Byte, Outside}
use Rattle.card.specs.Source.{Source}
use Rattle.card.specs.Bits.{bit}
use Rattle.card.specs.Model.{Model, unless_refused}
use Rattle.bits.specs.Bytes.{byte, only}
use Rattle.latches.specs.declared.Latches.{Latches}
use Rattle.latches.specs.Latching.{Settings, latches, at_rest, source_at, pending_inputs, driven, released, keeping}
use Rattle.scb68155.specs.declared.registers.Registers.{Registers}
use Rattle.scb68155.specs.declared.Scb68155.{Scb68155}

-- R0, the control registers, R2, R3 and R5, each as it was last written, and R7
abbrev pub registers : ℕ → List ℕ → ℕ → ℕ → ℕ → ℕ → Registers
registers pointer controls vector local bus last = record { pointer = pointer; controls = controls; vector = vector; local_mask = local; bus_mask = bus; last = last }

abbrev pub chip : Registers → Latches → Scb68155
chip r l = record { registers = r; latches = l }

-- all registers clear
abbrev pub clear : Registers
clear = registers 0 (replicate 6 0) 0 0 0 0

-- as made
abbrev pub fresh : Scb68155
fresh = chip clear at_rest

-- Bits 2 to 0, bits 7 to 3, and bits 7 to 1, which are those of the lines and of the bus levels.
abbrev pub low_bits : ℕ → ℕ
low_bits v = only (λ c. ltb c 3) v

abbrev pub high_bits : ℕ → ℕ
high_bits v = only (λ c. ltb 2 c) v

abbrev pub line_bits : ℕ → ℕ
line_bits v = only (λ c. ltb 0 c) v

-- R0: bits 2 to 0 name the control register that R1 reaches. LRQ1 to LRQ6 have one, and nothing else has.
abbrev pub named : Registers → ℕ
named r = low_bits r.pointer

abbrev pub is_lrq : ℕ → Bool
is_lrq n = nat_le 1 n && nat_le n 6

-- The control register of LRQn: bit 1 edge sort, bit 2 vector enable. NMI has none.
abbrev pub control : Registers → ℕ → ℕ
control r n = cond (is_lrq n) (slice_index r.controls (n - 1)) 0

-- NMI is always of edge sort
abbrev pub is_edge : Registers → ℕ → Bool
is_edge r n = n == 7 || bit (control r n) 1

-- the lines of edge sort, bit n for line n
abbrev pub edges : Registers → ℕ
edges r = byte (is_edge r)

-- LRQn is vectored by bit 2 of its control register, NMI by bit 0 of R3
abbrev pub is_vectored : Registers → ℕ → Bool
is_vectored r n = cond (n == 7) (bit r.local_mask 0) (bit (control r n) 2)

-- R2: bits 7 to 3 are the vector base
abbrev pub base : Registers → ℕ
base r = high_bits r.vector

-- the reply of line n: R2 + n if it is vectored
abbrev pub reply_of_line : Registers → ℕ → Reply
reply_of_line r n = cond (is_vectored r n) (Byte (base r + n)) Outside

-- Every line is always armed, and open if its bit of R3 is set.
abbrev pub lines : Registers → Settings
lines r = record {
  edge = is_edge r;
  level = λ n. n;
  reply = reply_of_line r;
  armed = λ n. true;
  opened = bit r.local_mask;
}

abbrev pub source_of_chip : Scb68155 → ℕ → Source
source_of_chip x = source_at (lines x.registers) x.latches

-- R5: bits 7 to 1 admit bus levels
abbrev pub admits_level : Registers → ℕ → Bool
admits_level r n = nat_le 1 n && (nat_le n 7 && bit r.bus_mask n)

-- R4: the lines that have a request, masked or not
abbrev pub requests : Scb68155 → ℕ
requests x = line_bits (pending_inputs x.latches (edges x.registers))

-- R7 after an acknowledge: bits 2 to 0 are its level, and eight is added for a local request
abbrev pub acknowledged : ℕ → Bool → ℕ
acknowledged level local = low_bits level + cond local 8 0

abbrev pub noting : Registers → ℕ → Bool → Registers
noting r level local = registers r.pointer r.controls r.vector r.local_mask r.bus_mask (acknowledged level local)

-- What register n shows, where a read is granted: R4 the requests, R6 the bus lines, and R7 the last acknowledge.
abbrev pub shows : Registers → (requested bus n : ℕ) → ℕ
shows r requested bus n =
    cond (n == 1) (low_bits (control r (named r)))
    (cond (n == 2) (base r)
    (cond (n == 3) r.local_mask
    (cond (n == 4) requested
    (cond (n == 5) (line_bits r.bus_mask)
    (cond (n == 6) (line_bits bus)
    r.last)))))

-- the registers after a granted write of v to register n
abbrev pub writing : Registers → ℕ → ℕ → Registers
writing r n v = registers
    (cond (n == 0) v r.pointer)
    (cond (n == 1) (slice_set r.controls (named r - 1) v) r.controls)
    (cond (n == 2) v r.vector)
    (cond (n == 3) v r.local_mask)
    (cond (n == 5) v r.bus_mask)
    r.last

-- Refusals: R1 where R0 names no control register; a read of R0, a write of R4, R6 or R7; and registers from 8 on.
abbrev pub pointer_fault : Registers → Option CardFault
pointer_fault r = cond (is_lrq (named r)) None (Some (NoControl (named r)))

abbrev pub refuses_read : Registers → ℕ → Option CardFault
refuses_read r n = cond (n == 0) (Some (NoAccess n)) (cond (n == 1) (pointer_fault r) None)

abbrev pub refuses_write : Registers → ℕ → Option CardFault
refuses_write r n = cond (n == 4 || (n == 6 || n == 7)) (Some (NoAccess n)) (cond (n == 1) (pointer_fault r) None)

abbrev pub if_register : ℕ → Option CardFault → Option CardFault
if_register n o = cond (nat_lt n 8) o (Some (NoRegister n))

-- A write leaves the edges of the lines that were of edge sort and still are; only one of R1 changes a sort.
abbrev pub writes : Scb68155 → ℕ → ℕ → Scb68155
writes x n v = chip (writing x.registers n v) (keeping x.latches (edges x.registers) (edges (writing x.registers n v)))

-- An answer of line n: it holds no edge now, and R7 tells it.
abbrev pub answers_line : Scb68155 → ℕ → Scb68155
answers_line x n = chip (noting x.registers n true) (released x.latches n)

-- The notice of a level passed to the chain: R7 tells it.
abbrev pub notices : Scb68155 → ℕ → Scb68155
notices x n = chip (noting x.registers n false) x.latches

abbrev pub scb68155_model : Model Scb68155
scb68155_model = record {
  sources = 7;
  registers = 8;
  meaning = λ x. record {
    source = source_of_chip x;
    reads = λ n bus. unless_refused (refuses_read x.registers n) (shows x.registers (requests x) bus n);
    refuses = λ n v. refuses_write x.registers n;
    admits = admits_level x.registers;
  };
  driven = λ x s asserted. chip x.registers (driven (lines x.registers) x.latches (s + 1) asserted);
  written = writes;
  answered = answers_line;
  cleared = λ x. chip clear (latches x.latches.wires 0);
}
