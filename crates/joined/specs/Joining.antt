-- Two cards joined: front sources and registers first, the rear's after them, with the rear's ranks raised.
use Rattle.std.specs.Prelude.{ℕ, ◌+◌, ◌-◌, false, cond, Some, None, Ok, Err, Option, Result, nat_lt}
use Rattle.card.specs.declared.faults.CardFault.{CardFault}
use Rattle.card.specs.declared.faults.CardFault.TheVariants.{Oversize, NoSource, NoRegister, NoAccess, BadLevel, NoControl}
use Rattle.card.specs.Source.{Source, pick}
use Rattle.card.specs.Meaning.{Meaning}
use Rattle.card.specs.Model.{Model, source_of}
use Rattle.joined.specs.declared.Joined.{Joined}

-- a source of the rear, behind k sources of the front
abbrev pub raised : ℕ → Source → Source
raised k s = record { wire = s.wire; edge = s.edge; level = s.level; reply = s.reply; rank = s.rank + k; armed = s.armed; opened = s.opened; held = s.held }

-- the sources of both: k of the front, then the rear's
abbrev pub both : ℕ → (ℕ → Source) → (ℕ → Source) → ℕ → Source
both k f r s = cond (nat_lt s k) (f s) (raised k (r (s - k)))

-- A fault of the rear, behind k sources and j registers: a place that is a source or a register is renamed to the joined number. A
-- level and a control register keep theirs.
abbrev pub behind : ℕ → ℕ → CardFault → CardFault
behind k j Oversize = Oversize
behind k j (NoSource s) = NoSource (s + k)
behind k j (NoRegister r) = NoRegister (r + j)
behind k j (NoAccess r) = NoAccess (r + j)
behind k j (BadLevel n) = BadLevel n
behind k j (NoControl c) = NoControl c

abbrev pub refusal_behind : ℕ → ℕ → Option CardFault → Option CardFault
refusal_behind k j None = None
refusal_behind k j (Some e) = Some (behind k j e)

abbrev pub result_behind : {A : Type 0} → ℕ → ℕ → Result A CardFault → Result A CardFault
result_behind k j (Ok a) = Ok a
result_behind k j (Err e) = Err (behind k j e)

-- the meaning of a front with k sources and j registers, and of a rear behind it; a joined card is no handler
abbrev pub joined : ℕ → ℕ → Meaning → Meaning → Meaning
joined k j f r = record {
  source = both k f.source r.source;
  reads = λ a lines. cond (nat_lt a j) (f.reads a lines) (result_behind k j (r.reads (a - j) lines));
  refuses = λ a v. cond (nat_lt a j) (f.refuses a v) (refusal_behind k j (r.refuses (a - j) v));
  admits = λ n. false;
}

abbrev pub pair : {F R : Type 0} → F → R → Joined F R
pair f r = record { front = f; rear = r }

-- an answer goes to the rear only if no front source asks at that level
abbrev pub answered_by : {F R : Type 0} → Option ℕ → F → R → F → R → Joined F R
answered_by None f' r' f r = pair f r'
answered_by (Some s) f' r' f r = pair f' r

abbrev pub join : {F R : Type 0} → Model F → Model R → Model (Joined F R)
join a b = record {
  sources = a.sources + b.sources;
  registers = a.registers + b.registers;
  meaning = λ x. joined a.sources a.registers (a.meaning x.front) (b.meaning x.rear);
  driven = λ x s w. cond (nat_lt s a.sources) (pair (a.driven x.front s w) x.rear) (pair x.front (b.driven x.rear (s - a.sources) w));
  written = λ x r v. cond (nat_lt r a.registers) (pair (a.written x.front r v) x.rear) (pair x.front (b.written x.rear (r - a.registers) v));
  answered = λ x n. answered_by (pick (source_of a x.front) n a.sources) (a.answered x.front n) (b.answered x.rear n) x.front x.rear;
  cleared = λ x. pair (a.cleared x.front) (b.cleared x.rear);
}

-- the source and the register that a fault names, or 0
abbrev pub source_named : CardFault → ℕ
source_named Oversize = 0
source_named (NoSource s) = s
source_named (NoRegister r) = 0
source_named (NoAccess r) = 0
source_named (BadLevel n) = 0
source_named (NoControl c) = 0

abbrev pub register_named : CardFault → ℕ
register_named Oversize = 0
register_named (NoSource s) = 0
register_named (NoRegister r) = r
register_named (NoAccess r) = r
register_named (BadLevel n) = 0
register_named (NoControl c) = 0
