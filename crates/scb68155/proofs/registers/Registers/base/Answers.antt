use Rattle.std.proofs.Common.{rules}
use lib.Bits.{and_le_r}
use Rattle.scb68155.specs.Parts.{high_is}
use Rattle.scb68155.proofs.registers.Registers.base.Goals as goal

pub returns : goal.returns
returns c = record { value = high_is c.args.self.now.vector (search rules); bound = and_le_r c.args.self.now.vector 248 }
