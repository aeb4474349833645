use Rattle.std.proofs.Common.{◌≡◌, length, rules}
use Rattle.mc68153.specs.Sheet.{input, input_at}
use Rattle.mc68153.proofs.Calls.{set_table, drive_is}
use Rattle.mc68153.proofs.Mc68153Card.drive.Goals as goal

pub returns : goal.returns
returns c =
    let x = c.args.self.now in
    let s = c.args.source in
    let four : length x.inputs ≡ 4 = search rules in
    let done = drive_is x _ s c.args.asserted c.if-source-ge4.false (set_table x s (input (input_at x s).control (input_at x s).vector c.args.asserted) four c.if-source-ge4.false) in
    record { result = done.0; after = done.1 }
