use Rattle.std.proofs.Common.{◌∙◌, rules}
use Rattle.scb68155.specs.Parts.{admits_is}
use Rattle.scb68155.proofs.registers.Registers.admits.Goals as goal

pub returns-then-level-ge1 : goal.returns-then-level-ge1
returns-then-level-ge1 c = c.is_set.ensures ∙ admits_is c.args.self.now.bus_mask c.args.level (search rules) c.if-level-ge1.true
