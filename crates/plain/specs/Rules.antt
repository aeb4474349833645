-- The plain handler keeps the rules of a card, and of a handler.
-- Proofs, and nothing to believe: they stand in specs/ since an impl can cite no other folder of its crate for its law.
use Rattle.std.proofs.Common.{arith}
use Rattle.std.specs.Prelude.{nat_le}
use Rattle.std.proofs.lemmas.Bool.{and_parts, leb-true}
use Rattle.card.specs.Laws.{Laws}
use Rattle.plain.specs.Sheet.{plain_model}

pub plain_laws : Laws plain_model
plain_laws = record {
  lawful = λ x. record {
    levels = λ s h. absurd (omega arith);
    ranks_below = λ s h. absurd (omega arith);
    ranks_differ = λ s t h. absurd (omega arith);
    only_edges_held = λ s h. absurd (omega arith);
    marks = λ n e. let both = and_parts (nat_le 1 n) (nat_le n 7) e in (leb-true 1 n both.0, leb-true n 7 both.1);
  };
  refusing = λ x. record { reads = λ r l e h. absurd (omega arith); writes = λ r v e h. absurd (omega arith) };
  drives = λ x s w h. absurd (omega arith);
  writes = λ x r v h. absurd (omega arith);
  answers = λ x n s h. absurd (omega (arith, h.within));
  resets = λ x. record { wires = λ t h. absurd (omega arith); none_held = λ t h. absurd (omega arith) };
}
