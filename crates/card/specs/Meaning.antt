-- What a card is to those above it.
use Rattle.std.specs.Prelude.{ℕ, Bool, true, cond, not, ◌&&◌, Some, None, Ok, Err, Option, Result}
use Rattle.card.specs.declared.faults.CardFault.{CardFault}
use Rattle.card.specs.declared.outcomes.Driven.{Driven}
use Rattle.card.specs.declared.outcomes.Driven.TheVariants.{Follow, Latched, Merged, Lost, Quiet}
use Rattle.card.specs.Source.{Source}

-- The meaning of a card in one state.
pub record Meaning : Type 0 where
  pub source : ℕ → Source
  -- what a read of a register gives while the bus lines are as the second number has them, bit n for line n: a byte or a refusal
  pub reads : ℕ → ℕ → Result ℕ CardFault
  -- whether a write of a value to a register is refused, and how
  pub refuses : ℕ → ℕ → Option CardFault
  -- the marks of a handler: whether it admits a bus level; all off on a card that is no handler
  pub admits : ℕ → Bool

-- the fault of a read, if it is refused
abbrev pub fault_of : Result ℕ CardFault → Option CardFault
fault_of (Ok v) = None
fault_of (Err e) = Some e

-- whether driving a source's wire is an edge: an edge source's wire goes from negated to asserted
abbrev pub rising : Source → Bool → Bool
rising s asserted = s.edge && (not s.wire && asserted)

-- what driving a source answers
unfoldable pub driving : Source → Bool → Driven
driving s asserted = cond s.edge (cond (not s.wire && asserted) (cond s.armed (cond s.held Merged Latched) Lost) Quiet) Follow

-- the source afterwards: its wire as driven, and held if it was or if this was an edge while it was armed
unfoldable pub with_wire : Source → Bool → Source
with_wire s asserted = record {
  wire = asserted;
  edge = s.edge;
  level = s.level;
  reply = s.reply;
  rank = s.rank;
  armed = s.armed;
  opened = s.opened;
  held = cond (rising s asserted && s.armed) true s.held;
}

-- whether source s was held before and is not after
abbrev pub lost : Meaning → Meaning → ℕ → Bool
lost before after s = (before.source s).held && not (after.source s).held
