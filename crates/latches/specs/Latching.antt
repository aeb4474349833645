-- Seven inputs, numbered 1 to 7, as the sources of a chip: source s is input s + 1.
use Rattle.std.specs.Prelude.{ℕ, ◌+◌, ◌-◌, Bool, true, false, cond, not, ◌&&◌}
use Rattle.card.specs.declared.outcomes.Reply.{Reply}
use Rattle.card.specs.Source.{Source}
use Rattle.card.specs.Bits.{bit}
use Rattle.card.specs.Meaning.{rising}
use Rattle.bits.specs.Bytes.{byte, put}
use Rattle.latches.specs.declared.Latches.{Latches}

abbrev pub latches : ℕ → ℕ → Latches
latches wires held = record { wires = wires; held = held }

-- as made: every wire negated, and nothing held
abbrev pub at_rest : Latches
at_rest = latches 0 0

-- What the registers of a chip say of its inputs: all of a source but its wire, its held mark and its rank.
pub record Settings : Type 0 where
  pub edge : ℕ → Bool
  pub level : ℕ → ℕ
  pub reply : ℕ → Reply
  pub armed : ℕ → Bool
  pub opened : ℕ → Bool

-- Input n: only one of edge sort is ever held, and of inputs asking at one level the highest answers.
abbrev pub input_source : Settings → Latches → ℕ → Source
input_source i l n = record {
  wire = bit l.wires n;
  edge = i.edge n;
  level = i.level n;
  reply = i.reply n;
  rank = 7 - n;
  armed = i.armed n;
  opened = i.opened n;
  held = i.edge n && bit l.held n;
}

abbrev pub source_at : Settings → Latches → ℕ → Source
source_at i l s = input_source i l (s + 1)

-- a request: an edge held at an edge input, an asserted wire at a level input
abbrev pub pending_inputs : Latches → ℕ → ℕ
pending_inputs l edges = byte (λ n. cond (bit edges n) (bit l.held n) (bit l.wires n))

-- input n driven: its wire is as driven, and an edge of an armed input is held
abbrev pub driven : Settings → Latches → ℕ → Bool → Latches
driven i l n asserted = latches (put n asserted l.wires) (cond (rising (input_source i l n) asserted && i.armed n) (put n true l.held) l.held)

-- input n answered: it holds no edge now
abbrev pub released : Latches → ℕ → Latches
released l n = latches l.wires (put n false l.held)

-- only the edges of the edge inputs that are kept
abbrev pub keeping : Latches → ℕ → ℕ → Latches
keeping l edges kept = latches l.wires (byte (λ n. (bit l.held n && bit edges n) && bit kept n))

-- whether source s loses an edge by that
abbrev pub loses : Latches → ℕ → ℕ → ℕ → Bool
loses l edges kept s = (bit l.held (s + 1) && bit edges (s + 1)) && not (bit kept (s + 1))
