use Rattle.std.proofs.Common.{◌≡◌, ◌-◌, ◌<◌, ◌≤◌, length, ◌∙◌, arith, rules}
use Rattle.mc68153.specs.Sheet.{input, input_at, writes}
use Rattle.mc68153.proofs.Calls.{set_table, write_is, write_control, write_vector}
use Rattle.mc68153.proofs.Mc68153Card.write.Goals as goal
use Rattle.mc68153.proofs.Mc68153Card.write.Goals.{in-0-to-3, in-4-to-7}

pub returns : goal.returns
returns c =
    let x = c.args.self.now in
    let r = c.args.register in
    let v = c.args.value in
    let four : length x.inputs ≡ 4 = search rules in
    let after : c.if-register-lt4.self ≡ writes x r v =
    elim c.if-register-lt4.branch [
      | in-0-to-3 w ↦ (let h : r < 4 = omega arith in w.self-is ∙ set_table x r (input v (input_at x r).vector (input_at x r).asserted) four h ∙ write_control x r v h)
      | in-4-to-7 w ↦ (let h : 4 ≤ r = omega arith in w.self-is ∙ set_table x (r - 4) (input (input_at x (r - 4)).control v (input_at x (r - 4)).asserted) four (omega arith) ∙ write_vector x r v h)
    ] in
    let within : r < 8 = elim c.if-register-lt4.branch [ in-0-to-3 w ↦ omega arith | in-4-to-7 w ↦ omega arith ] in
    let done = write_is x c.if-register-lt4.self r v c.none.result within after c.none.ensures in
    record { result = done.0; after = done.1 }
