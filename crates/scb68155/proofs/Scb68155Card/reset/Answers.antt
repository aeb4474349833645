use Rattle.std.proofs.Common.{ap, ◌∙◌}
use Rattle.card.specs.Withdrawing.{told}
use Rattle.latches.specs.Latching.{loses, keeping}
use Rattle.scb68155.proofs.Calls.{reset_is}
use Rattle.scb68155.proofs.Scb68155Card.reset.Goals as goal

pub returns : goal.returns
returns c =
    let x = c.args.self.now in
    let done = reset_is x c.new-self.result c.withdraw_but.new.self c.withdraw_but.result c.new-self.ensures (c.withdraw_but.ensures.result ∙ ap (λ e. told (loses x.latches e 0) 7) c.edges-edges.ensures) (c.withdraw_but.ensures.after ∙ ap (λ e. keeping x.latches e 0) c.edges-edges.ensures) in
    record { result = done.0; after = done.1 }
