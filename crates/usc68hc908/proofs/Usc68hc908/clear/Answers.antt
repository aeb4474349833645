use Rattle.usc68hc908.proofs.Calls.{clear_is}
use Rattle.usc68hc908.proofs.Usc68hc908.clear.Goals as goal

pub returns : goal.returns
returns c = let done = clear_is c.args.self.now c.withdraw_but.new.self c.withdraw_but.result c.withdraw_but.ensures.after c.withdraw_but.ensures.result in record { result = done.0; after = done.1 }
