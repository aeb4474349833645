use Rattle.std.proofs.Common.{arith, rules}
use lib.Bits.{and_le_r}
use Rattle.mc68153.proofs.Calls.{level_is}
use Rattle.mc68153.proofs.Input.level.Goals as goal

pub returns : goal.returns
returns c = record { value = level_is c.args.self.now.control (search rules); bound = omega (arith, and_le_r c.args.self.now.control 7) }
