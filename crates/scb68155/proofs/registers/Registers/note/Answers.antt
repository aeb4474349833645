use Rattle.std.proofs.Common.{◌≡◌, ℕ, ◌+◌, Bool, cond, sym, ap, ◌∙◌, ap₂, rules}
use Rattle.scb68155.specs.Sheet.{registers}
use Rattle.scb68155.specs.Parts.{low_is}
use Rattle.scb68155.proofs.registers.Registers.note.Goals.{then-local, else-local}
use Rattle.scb68155.proofs.registers.Registers.note.Goals as goal

pub returns : goal.returns
returns c =
    let r = c.args.self.now in
    let more : c.if-local.self ≡ cond c.args.local 8 0 = elim c.if-local.branch [
      | then-local w ↦ w.self-is ∙ sym (ap (λ (b : Bool). cond {A = ℕ} b 8 0) w.if-local.true)
      | else-local w ↦ w.self-is ∙ sym (ap (λ (b : Bool). cond {A = ℕ} b 8 0) w.if-local.false)
    ] in
    ap (registers r.pointer r.controls r.vector r.local_mask r.bus_mask) (ap₂ ◌+◌ (low_is c.args.level (search rules)) more)
