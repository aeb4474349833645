use Rattle.std.proofs.Common.{rules}
use Rattle.usc68hc908.specs.Parts.{channels_is}
use Rattle.usc68hc908.proofs.Usc68hc908.channels_in_service.Goals as goal

pub returns : goal.returns
returns c = channels_is c.args.self.now.isr (search rules)
