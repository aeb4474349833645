use Rattle.usc68hc908.specs.Parts.{nesting_is}
use Rattle.usc68hc908.proofs.Usc68hc908.nesting.Goals as goal

pub returns : goal.returns
returns c = nesting_is c.args.self.now c.channels_in_service.result c.channels_in_service.ensures
