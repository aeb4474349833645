use Rattle.scb68155.proofs.Calls.{asked_is}
use Rattle.scb68155.proofs.Scb68155Card.asked.Goals as goal

pub returns : goal.returns
returns c = asked_is c.args.self.now c.requests.result c.requests.ensures
