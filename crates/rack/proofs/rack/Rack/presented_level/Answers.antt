use Rattle.std.proofs.Common.{◌∙◌}
use Rattle.rack.proofs.Presents.{top_of}
use Rattle.rack.proofs.rack.Rack.presented_level.Goals as goal

pub returns : goal.returns
returns g c = c.highest_set.ensures.value ∙ top_of _ c.wanted_levels.ensures
