use Rattle.std.proofs.Common.{sym, ◌∙◌, rules}
use Rattle.std.proofs.lemmas.Bool.{le-ltb}
use Rattle.card.specs.Withdrawing.{has}
use Rattle.card.proofs.Bitwise.{word_bit, bit_past}
use Rattle.card.proofs.withdrawn.Withdrawn.contains.Goals as goal

pub returns-then-source-lt64 : goal.returns-then-source-lt64
unfolding has
returns-then-source-lt64 c = word_bit c.args.self.bits c.args.source

pub returns-else-source-lt64 : goal.returns-else-source-lt64
unfolding has
returns-else-source-lt64 c = le-ltb c.args.source 64 c.if-source-lt64.false ∙ sym (bit_past c.args.self.bits c.args.source 64 (search rules) c.if-source-lt64.false)
