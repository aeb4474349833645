use Rattle.std.proofs.Common.{sym, ◌∙◌, rules}
use Rattle.std.proofs.lemmas.Bool.{le-ltb}
use Rattle.card.proofs.Bitwise.{bit_past}
use Rattle.bits.proofs.Bytes.{test_bit}
use Rattle.bits.proofs.is_set.Goals as goal

pub returns-then-n-lt8 : goal.returns-then-n-lt8
returns-then-n-lt8 c = test_bit c.args.x c.args.n (search rules) c.if-n-lt8.true

pub returns-else-n-lt8 : goal.returns-else-n-lt8
returns-else-n-lt8 c = le-ltb c.args.n 8 c.if-n-lt8.false ∙ sym (bit_past c.args.x c.args.n 8 (search rules) c.if-n-lt8.false)
