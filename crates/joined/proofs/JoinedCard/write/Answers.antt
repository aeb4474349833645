use Rattle.std.proofs.Common.{rules}
use Rattle.joined.proofs.JoinCalls.{write_named}
use Rattle.joined.proofs.JoinedCard.write.Goals as goal

pub map_err-requires : goal.map_err-requires
map_err-requires g c = λ e was _ _ _ _.
    write_named g.F.Card.model g.R.Card.model c.args.self.now.rear _ c.in_ok-check_size.ensures g.met.R.Card.laws (search rules) c.args.value e c.write-in-Some.ensures.result was
