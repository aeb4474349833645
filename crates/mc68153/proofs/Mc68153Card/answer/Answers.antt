use Rattle.mc68153.proofs.Calls.{some_within}
use Rattle.mc68153.proofs.Mc68153Card.answer.Goals as goal

pub bounds-self-source : goal.bounds-self-source
bounds-self-source c = some_within c.args.self.now c.args.level c.in-Some.source c.in-Some.ensures
