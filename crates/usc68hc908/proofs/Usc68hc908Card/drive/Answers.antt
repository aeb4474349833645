use Rattle.std.proofs.Common.{◌+◌, ◌∙◌, arith}
use Rattle.usc68hc908.specs.Sheet.{settings}
use Rattle.usc68hc908.specs.Parts.{odd_is}
use Rattle.usc68hc908.proofs.Calls.{drive_is}
use Rattle.usc68hc908.proofs.Usc68hc908Card.drive.Goals as goal

pub returns : goal.returns
returns c =
    let x = c.args.self.now in
    let odd-so = c.is_set-edge.ensures ∙ odd_is (c.args.source + 1) (omega arith) in
    let done = drive_is x c.args.source c.args.asserted c.drive.result c.drive.new.self (omega arith) (c.drive.ensures.result (settings x) odd-so c.is_set-armed.ensures) (c.drive.ensures.after (settings x) odd-so c.is_set-armed.ensures) in
    record { result = done.0; after = done.1 }
