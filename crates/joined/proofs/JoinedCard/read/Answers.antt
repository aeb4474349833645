use Rattle.std.proofs.Common.{rules}
use Rattle.joined.proofs.JoinCalls.{read_named}
use Rattle.joined.proofs.JoinedCard.read.Goals as goal

pub map_err-requires : goal.map_err-requires
map_err-requires g c = λ e was _ _ _ _.
    read_named g.F.Card.model g.R.Card.model c.args.self.now.rear _ c.in_ok-check_size.ensures g.met.R.Card.laws (search rules) c.args.lines e c.read-in-Some.ensures was
