use Rattle.std.proofs.Common.{refl}
use Rattle.scb68155.specs.Sheet.{lines}
use Rattle.scb68155.proofs.Calls.{drive_is}
use Rattle.scb68155.proofs.Scb68155Card.drive.Goals as goal

pub returns : goal.returns
returns c =
    let x = c.args.self.now in
    let i = lines x.registers in
    let done = drive_is x c.args.source c.args.asserted c.drive.result c.drive.new.self c.if-source-ge7.false (c.drive.ensures.result i c.is_edge-edge.ensures refl) (c.drive.ensures.after i c.is_edge-edge.ensures refl) in
    record { result = done.0; after = done.1 }
