use Rattle.std.proofs.Common.{ap, ◌∙◌}
use Rattle.latches.specs.Latching.{pending_inputs}
use Rattle.scb68155.specs.Sheet.{line_bits}
use Rattle.scb68155.specs.Parts.{lines_is}
use Rattle.scb68155.proofs.Scb68155.requests.Goals as goal

pub returns : goal.returns
returns c = lines_is c.pending.result c.pending.type_inv ∙ ap line_bits (c.pending.ensures ∙ ap (pending_inputs c.args.self.now.latches) c.edges.ensures)
