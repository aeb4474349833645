use Rattle.std.proofs.Common.{arith}
use Rattle.std.proofs.lemmas.Grind.{common_steps}
use Rattle.processor.proofs.Shapes.{run_keeps}
use Rattle.processor.proofs.runs.run.Goals as goal

pub returns-clause-keeps : goal.returns-clause-keeps
returns-clause-keeps c = grind (arith, common_steps, run_keeps c.args.number c.args.calls.now)
