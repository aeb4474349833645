use Rattle.rack.proofs.Presents.{wanted_byte}
use Rattle.rack.proofs.rack.Rack.wanted_levels.Goals as goal

pub returns : goal.returns
returns g c = rw (← c.self.view_is) (wanted_byte _ _ _ c.asked.ensures c.asked-2.ensures (rw (← c.self.view_is) at c.admitted_levels.ensures))
