-- The MC68153: four level inputs, 0 to 3. Registers 0 to 3 are their control registers, 4 to 7 their vector registers.
use Rattle.std.specs.Prelude.{ℕ, ◌-◌, Bool, false, cond, [], ◌∷◌, None, Ok, ◌==◌, nat_lt, slice_index_or}
use Rattle.card.specs.declared.outcomes.Reply.{Reply}
use Rattle.card.specs.declared.outcomes.Reply.TheVariants.{Byte, Outside}
use Rattle.card.specs.Source.{Source, pick}
use Rattle.card.specs.Bits.{bit, bits_of}
use Rattle.card.specs.Model.{Model, served}
use Rattle.bits.specs.Bytes.{put}
use Rattle.mc68153.specs.declared.Input.{Input}
use Rattle.mc68153.specs.declared.Mc68153.{Mc68153}

-- an input: its control register, its vector register, and whether its wire is asserted
abbrev pub input : ℕ → ℕ → Bool → Input
input c v w = record { control = c; vector = v; asserted = w }

-- as made and reset
abbrev pub fresh_input : Bool → Input
fresh_input w = input 0 15 w

-- The control register: bits 2 to 0 are the level, 3 auto-clear, 4 enable, 5 outside, 6 flag auto-clear, 7 flag.
abbrev pub level_in : ℕ → ℕ
level_in c = bits_of (bit c) 3

-- with bit 5 the device gives its own vector
abbrev pub reply_of_input : Input → Reply
reply_of_input i = cond (bit i.control 5) Outside (Byte i.vector)

-- input s: armed and open exactly when bit 4 is set; input 3 comes first, input 0 last
abbrev pub input_source : ℕ → Input → Source
input_source s i = record {
  wire = i.asserted;
  edge = false;
  level = level_in i.control;
  reply = reply_of_input i;
  rank = 3 - s;
  armed = bit i.control 4;
  opened = bit i.control 4;
  held = false;
}

-- bit a, if it is set, clears bit b
abbrev pub clears : ℕ → ℕ → ℕ → ℕ
clears a b c = cond (bit c a) (put b false c) c

-- after its answer: bit 3 set clears bit 4, and bit 6 set clears bit 7
abbrev pub settled : Input → Input
settled i = input (clears 6 7 (clears 3 4 i.control)) i.vector i.asserted

-- the chip with these inputs
abbrev pub table : (ℕ → Input) → Mc68153
table f = record { inputs = f 0 ∷ f 1 ∷ f 2 ∷ f 3 ∷ [] }

abbrev pub input_at : Mc68153 → ℕ → Input
input_at x s = slice_index_or x.inputs s (input 0 0 false)

abbrev pub source_at : Mc68153 → ℕ → Source
source_at x s = input_source s (input_at x s)

-- as made
abbrev pub fresh : Mc68153
fresh = table (λ s. fresh_input false)

-- input s replaced, and the others as they are
abbrev pub with_input : Mc68153 → ℕ → Input → Mc68153
with_input x s i = table (λ t. cond (t == s) i (input_at x t))

-- What each register shows, and the inputs after a write of it.
abbrev pub shows : Mc68153 → ℕ → ℕ
shows x r = cond (nat_lt r 4) (input_at x r).control (input_at x (r - 4)).vector

abbrev pub writes : Mc68153 → ℕ → ℕ → Mc68153
writes x r v = cond (nat_lt r 4)
    (with_input x r (input v (input_at x r).vector (input_at x r).asserted))
    (with_input x (r - 4) (input (input_at x (r - 4)).control v (input_at x (r - 4)).asserted))

abbrev pub drives : Mc68153 → ℕ → Bool → Mc68153
drives x s w = with_input x s (input (input_at x s).control (input_at x s).vector w)

-- only the answering input's control register changes
abbrev pub serves : Mc68153 → ℕ → Mc68153
serves x s = with_input x s (settled (input_at x s))

-- every register can be read and written, whatever the bus lines
abbrev pub mc68153_model : Model Mc68153
mc68153_model = record {
  sources = 4;
  registers = 8;
  meaning = λ x. record { source = source_at x; reads = λ r lines. Ok (shows x r); refuses = λ r v. None; admits = λ n. false };
  driven = drives;
  written = writes;
  answered = λ x n. served (serves x) (pick (source_at x) n 4) x;
  cleared = λ x. table (λ s. fresh_input (input_at x s).asserted);
}
