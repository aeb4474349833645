-- A kind of card: its counts, its meaning in each state, and where each call leads. From these, what each call gives and leaves.
use Rattle.std.specs.Prelude.{ℕ, min, Bool, cond, ◌&&◌, ◌||◌, Some, None, Ok, Err, Option, Result, nat_le, nat_lt}
use Rattle.card.specs.declared.faults.CardFault.{CardFault}
use Rattle.card.specs.declared.faults.CardFault.TheVariants.{Oversize, NoSource, NoRegister, BadLevel}
use Rattle.card.specs.declared.outcomes.Driven.{Driven}
use Rattle.card.specs.declared.outcomes.Answer.{Answer}
use Rattle.card.specs.declared.withdrawn.Withdrawn.{Withdrawn}
use Rattle.card.specs.Source.{Source, pick, any_asks}
use Rattle.card.specs.Bits.{bits_of}
use Rattle.card.specs.Withdrawing.{told}
use Rattle.card.specs.Meaning.{Meaning, driving, lost}

-- A kind of card whose states are those of the type X.
pub record Model (X : Type 0) : Type 0 where
  -- how many sources and registers it has
  pub sources : ℕ
  pub registers : ℕ
  -- what it means in a state
  pub meaning : X → Meaning
  -- the state after a granted drive of a source, write of a value to a register, answer at a level by some source, and reset
  pub driven : X → ℕ → Bool → X
  pub written : X → ℕ → ℕ → X
  pub answered : X → ℕ → X
  pub cleared : X → X

abbrev pub source_of : {X : Type 0} → Model X → X → ℕ → Source
source_of c x = (c.meaning x).source

-- A card may have up to 64 sources and 64 registers. Code that works for any card asks for its counts, and is told one more than
-- may be for any larger number.
abbrev pub most_sources : ℕ
most_sources = 64

abbrev pub most_registers : ℕ
most_registers = 64

abbrev pub capped_sources : {X : Type 0} → Model X → ℕ
capped_sources c = min c.sources 65

abbrev pub capped_registers : {X : Type 0} → Model X → ℕ
capped_registers c = min c.registers 65

abbrev pub oversize : {X : Type 0} → Model X → Bool
oversize c = nat_lt most_sources c.sources || nat_lt most_registers c.registers

-- What a call gives, where it may be refused with a fault, and what state it leaves: a refusal changes nothing.
abbrev pub unless_refused : {A : Type 0} → Option CardFault → A → Result A CardFault
unless_refused None a = Ok a
unless_refused (Some e) a = Err e

abbrev pub changed_unless : {X : Type 0} → Option CardFault → X → X → X
changed_unless None after before = after
changed_unless (Some e) after before = before

-- Faults, by rising number: first that of a card too large, then the call's own.
abbrev pub size_first : {X : Type 0} → Model X → Option CardFault → Option CardFault
size_first c o = cond (oversize c) (Some Oversize) o

-- a register that the card has not, before what the register itself refuses
abbrev pub register_first : {X : Type 0} → Model X → ℕ → Option CardFault → Option CardFault
register_first c r o = cond (nat_lt r c.registers) o (Some (NoRegister r))

-- Drive
abbrev pub drive_fault : {X : Type 0} → Model X → ℕ → Option CardFault
drive_fault c s = size_first c (cond (nat_lt s c.sources) None (Some (NoSource s)))

abbrev pub drive_result : {X : Type 0} → Model X → X → ℕ → Bool → Result Driven CardFault
drive_result c x s asserted = unless_refused (drive_fault c s) (driving (source_of c x s) asserted)

abbrev pub drive_exit : {X : Type 0} → Model X → X → ℕ → Bool → X
drive_exit c x s asserted = changed_unless (drive_fault c s) (c.driven x s asserted) x

-- Read
abbrev pub reading : Option CardFault → Result ℕ CardFault → Result ℕ CardFault
reading None shown = shown
reading (Some e) shown = Err e

abbrev pub read_result : {X : Type 0} → Model X → X → ℕ → ℕ → Result ℕ CardFault
read_result c x r lines = reading (size_first c (register_first c r None)) ((c.meaning x).reads r lines)

-- Write and reset tell the sources that were held before and are not after.
abbrev pub withdrawn : ℕ → Meaning → Meaning → Withdrawn
withdrawn k before after = told (lost before after) k

abbrev pub write_fault : {X : Type 0} → Model X → X → ℕ → ℕ → Option CardFault
write_fault c x r v = size_first c (register_first c r ((c.meaning x).refuses r v))

abbrev pub write_result : {X : Type 0} → Model X → X → ℕ → ℕ → Result Withdrawn CardFault
write_result c x r v = unless_refused (write_fault c x r v) (withdrawn c.sources (c.meaning x) (c.meaning (c.written x r v)))

abbrev pub write_exit : {X : Type 0} → Model X → X → ℕ → ℕ → X
write_exit c x r v = changed_unless (write_fault c x r v) (c.written x r v) x

abbrev pub reset_result : {X : Type 0} → Model X → X → Result Withdrawn CardFault
reset_result c x = unless_refused (size_first c None) (withdrawn c.sources (c.meaning x) (c.meaning (c.cleared x)))

abbrev pub reset_exit : {X : Type 0} → Model X → X → X
reset_exit c x = changed_unless (size_first c None) (c.cleared x) x

-- Answer
abbrev pub level_fault : ℕ → Option CardFault
level_fault n = cond (nat_le 1 n && nat_le n 7) None (Some (BadLevel n))

abbrev pub answer_fault : {X : Type 0} → Model X → ℕ → Option CardFault
answer_fault c n = size_first c (level_fault n)

-- the source chosen gives its number and reply
abbrev pub reply_of : (ℕ → Source) → Option ℕ → Option Answer
reply_of f None = None
reply_of f (Some s) = Some (record { source = s; reply = (f s).reply })

-- where no source is chosen nothing changes
abbrev pub if_chosen : {X : Type 0} → Option ℕ → X → X → X
if_chosen None after before = before
if_chosen (Some s) after before = after

abbrev pub answer_result : {X : Type 0} → Model X → X → ℕ → Result (Option Answer) CardFault
answer_result c x n = unless_refused (answer_fault c n) (reply_of (source_of c x) (pick (source_of c x) n c.sources))

abbrev pub answer_exit : {X : Type 0} → Model X → X → ℕ → X
answer_exit c x n = changed_unless (answer_fault c n) (if_chosen (pick (source_of c x) n c.sources) (c.answered x n) x) x

-- for a kind's `answered`: what serving the chosen source leaves
abbrev pub served : {X : Type 0} → (ℕ → X) → Option ℕ → X → X
served serve None x = x
served serve (Some s) x = serve s

-- The question: bit n for each level at which a source asks.
abbrev pub levels_asked : {X : Type 0} → Model X → X → ℕ
levels_asked c x = bits_of (any_asks (source_of c x) c.sources) 8
