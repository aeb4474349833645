-- The worked examples, by computation.
use Rattle.std.proofs.Common.{ℕ, zero, suc, ◌<◌, refl, arith}
use Rattle.card.specs.Source.{asking_at, any_asks, pick}
use Rattle.card.specs.Bits.{bits_of}
use Rattle.card.specs.Withdrawing.{told, nobody}
use Rattle.card.specs.Meaning.{driving, with_wire}
use Rattle.bits.specs.Bytes.{highest}
use Rattle.worked.specs.Worked.{WorkedExamples}

-- what holds of each input holds of any
each_input : (P : ℕ → Type 0) → P 0 → P 1 → P 2 → P 3 → (i : ℕ) → i < 4 → P i
each_input P a b c d zero h = a
each_input P a b c d (suc zero) h = b
each_input P a b c d (suc (suc zero)) h = c
each_input P a b c d (suc (suc (suc zero))) h = d
each_input P a b c d (suc (suc (suc (suc i)))) h = absurd (omega arith)

pub worked : WorkedExamples
unfolding asking_at any_asks pick bits_of told nobody driving with_wire highest
worked = record {
  answers_while_asserted = each_input _ refl refl refl refl;
  level_zero = each_input _ refl refl refl refl;
  never_asks = each_input _ refl refl refl refl;
  outside_once = each_input _ refl refl refl refl;
  edges_merge = refl;
  edge_withdrawn = refl;
  waits_for_service = refl;
  nmi_answers = refl;
  presents_4 = refl;
  compares = refl;
  spurious = refl;
}
