use Rattle.std.proofs.Common.{rules}
use Rattle.scb68155.specs.Parts.{lines_is, read_bus_mask, read_lines}
use Rattle.scb68155.proofs.registers.Registers.read.Goals as goal

pub returns-in-5 : goal.returns-in-5
returns-in-5 c = read_bus_mask c.args.self.now c.args.requests c.args.lines c.args.register _ c.in-5.is (lines_is c.args.self.now.bus_mask (search rules))

pub returns-in-6 : goal.returns-in-6
returns-in-6 c = read_lines c.args.self.now c.args.requests c.args.lines c.args.register _ c.in-6.is (lines_is c.args.lines (search rules))
