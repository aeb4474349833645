use Rattle.rack.proofs.Asks.{side_answers}
use Rattle.rack.proofs.rack.answer_of.Goals as goal

pub returns : goal.returns
returns g c = side_answers g.K.Card.model g.met.K.Card.laws c.args.card.now c.args.level c.requires _ _ _ c.unwrap_or.ensures c.answer.ensures.result c.answer.ensures.after
