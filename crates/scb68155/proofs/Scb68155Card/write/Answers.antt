use Rattle.std.proofs.Common.{◌∙◌, ap₂}
use Rattle.card.specs.Withdrawing.{told}
use Rattle.card.specs.Model.{write_fault}
use Rattle.latches.specs.Latching.{loses, keeping}
use Rattle.scb68155.specs.Sheet.{writing, scb68155_model}
use Rattle.scb68155.specs.Parts.{granted_by, changed_by}
use Rattle.scb68155.proofs.Calls.{write_granted}
use Rattle.scb68155.proofs.Scb68155Card.write.Goals as goal

pub returns : goal.returns
returns c =
    let x = c.args.self.now in
    let n = c.args.register in
    let v = c.args.value in
    let wrote = c.in_ok-write.ensures in
    let granted = granted_by (write_fault scb68155_model x n v) tt c.in_ok-write.field-0 wrote.result in
    let done = write_granted x n v c.write.new.self c.withdraw_but.new.self c.withdraw_but.result granted
    (changed_by (write_fault scb68155_model x n v) (writing x.registers n v) x.registers c.write.new.self granted wrote.after)
    (c.withdraw_but.ensures.result ∙ ap₂ (λ e k. told (loses x.latches e k) 7) c.edges-edges.ensures c.edges.ensures)
    (c.withdraw_but.ensures.after ∙ ap₂ (keeping x.latches) c.edges-edges.ensures c.edges.ensures) in
    record { result = done.0; after = done.1 }
