use Rattle.std.proofs.Common.{◌-◌, sym, ◌∙◌, arith, rules}
use lib.Count.{count_leading_zeros}
use Rattle.std.proofs.lemmas.Bool.{cond-true, cond-false, eq-eqb, ne_eqb}
use Rattle.bits.proofs.Bytes.{top_set}
use Rattle.bits.proofs.highest_set.Goals as goal

pub returns-then-x-eq0 : goal.returns-then-x-eq0
returns-then-x-eq0 c = record { value = sym (cond-true _ 0 (7 - count_leading_zeros 8 c.args.x) (eq-eqb c.args.x 0 c.if-x-eq0.true)) ∙ top_set c.args.x (search rules); bound = omega arith }

pub returns-else-x-eq0 : goal.returns-else-x-eq0
returns-else-x-eq0 c = record { value = sym (cond-false _ 0 (7 - count_leading_zeros 8 c.args.x) (ne_eqb c.args.x 0 c.if-x-eq0.false)) ∙ top_set c.args.x (search rules); bound = omega arith }
