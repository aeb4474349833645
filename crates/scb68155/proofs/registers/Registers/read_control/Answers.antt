use Rattle.std.proofs.Common.{Ok, sym, ap, ◌∙◌}
use Rattle.card.specs.Model.{unless_refused}
use Rattle.scb68155.specs.Sheet.{low_bits, named, control}
use Rattle.scb68155.specs.Parts.{low_is, named_ok}
use Rattle.scb68155.proofs.registers.Registers.read_control.Goals as goal

pub returns : goal.returns
returns c =
    let r = c.args.self.now in
    let line = named_ok r c.in_ok-line.line c.in_ok-line.ensures in
    ap Ok (low_is c.control.result c.control.type_inv ∙ ap low_bits (c.control.ensures ∙ ap (control r) line.is)) ∙ sym (ap (λ o. unless_refused o (low_bits (control r (named r)))) line.granted)
