use Rattle.std.proofs.Common.{rules}
use Rattle.std.proofs.lemmas.Nat.{and_le_r}
use Rattle.usc68hc908.specs.Parts.{base_is}
use Rattle.usc68hc908.proofs.Usc68hc908.base.Goals as goal

pub returns : goal.returns
returns c = record { value = base_is c.args.self.now.ivr (search rules); bound = and_le_r c.args.self.now.ivr 248 }
