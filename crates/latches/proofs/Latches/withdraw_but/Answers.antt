use Rattle.std.proofs.Common.{◌∙◌, rules}
use Rattle.latches.proofs.Calls.{keeping_is, loses_is}
use Rattle.latches.proofs.Latches.withdraw_but.Goals as goal

pub returns : goal.returns
returns c = record {
  result = c.from_byte.ensures ∙ loses_is c.args.self.now c.args.edges c.args.kept (search rules) (search rules);
  after = keeping_is c.args.self.now c.args.edges c.args.kept (search rules);
}
