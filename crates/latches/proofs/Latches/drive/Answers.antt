use Rattle.std.proofs.Common.{◌≡◌, true, false, not, ◌&&◌, sym, refl, ap, ◌∙◌, ap₂, inl, inr}
use Rattle.std.proofs.lemmas.Bool.{and_right}
use Rattle.card.specs.Bits.{bit}
use Rattle.latches.specs.Latching.{latches}
use Rattle.latches.proofs.Calls.{drive_is}
use Rattle.latches.proofs.Latches.drive.Goals as goal

pub returns-then-not-edge : goal.returns-then-not-edge
returns-then-not-edge c =
    let l = c.args.self.now in
    let done = drive_is l c.args.input c.args.asserted c.args.edge c.args.armed false _ _ _ c.if-not-edge.true refl refl refl _ (ap (λ m. latches m l.held) c.with-self.ensures) in
    record { result = done.0; after = done.1 }

pub returns-then-was_asserted : goal.returns-then-was_asserted
returns-then-was_asserted c =
    let l = c.args.self.now in
    let w = c.args.asserted in
    let down : (not (bit l.wires c.args.input) && w) ≡ false = elim c.then-was_asserted.either [
      | inl was ↦ ap (λ b. not b && w) (sym c.is_set-was_asserted.ensures ∙ was)
      | inr low ↦ and_right (not (bit l.wires c.args.input)) w low.1
    ] in
    let done = drive_is l c.args.input w c.args.edge c.args.armed true false _ _ c.if-not-edge.false down refl refl _ (ap (λ m. latches m l.held) c.with-self.ensures) in
    record { result = done.0; after = done.1 }

pub returns-then-not-armed : goal.returns-then-not-armed
returns-then-not-armed c =
    let l = c.args.self.now in
    let up = ap₂ (λ b w. not b && w) (sym c.is_set-was_asserted.ensures ∙ c.if-was_asserted.false) c.if-not-asserted.false in
    let done = drive_is l c.args.input c.args.asserted c.args.edge c.args.armed true true false _ c.if-not-edge.false up c.if-not-armed.true refl _ (ap (λ m. latches m l.held) c.with-self.ensures) in
    record { result = done.0; after = done.1 }

pub returns-then-was_held : goal.returns-then-was_held
returns-then-was_held c =
    let l = c.args.self.now in
    let up = ap₂ (λ b w. not b && w) (sym c.is_set-was_asserted.ensures ∙ c.if-was_asserted.false) c.if-not-asserted.false in
    let done = drive_is l c.args.input c.args.asserted c.args.edge c.args.armed true true true true c.if-not-edge.false up c.if-not-armed.false (sym c.is_set-was_held.ensures ∙ c.if-was_held.true) _ (ap₂ latches c.with-self.ensures c.with-self-2.ensures) in
    record { result = done.0; after = done.1 }

pub returns-else-was_held : goal.returns-else-was_held
returns-else-was_held c =
    let l = c.args.self.now in
    let up = ap₂ (λ b w. not b && w) (sym c.is_set-was_asserted.ensures ∙ c.if-was_asserted.false) c.if-not-asserted.false in
    let done = drive_is l c.args.input c.args.asserted c.args.edge c.args.armed true true true false c.if-not-edge.false up c.if-not-armed.false (sym c.is_set-was_held.ensures ∙ c.if-was_held.false) _ (ap₂ latches c.with-self.ensures c.with-self-2.ensures) in
    record { result = done.0; after = done.1 }
