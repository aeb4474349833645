use Rattle.std.proofs.Common.{◌≡◌, true, false, inl, inr, rules}
use lib.Bits.{bit_and}
use Rattle.scb68155.specs.Sheet.{is_lrq}
use Rattle.scb68155.specs.Parts.{low_is, names, below_lrq, above_lrq, between_lrq}
use Rattle.scb68155.proofs.registers.Registers.named_line.Goals as goal

pub returns-then-line-lt1 : goal.returns-then-line-lt1
returns-then-line-lt1 c =
    let p = bit_and c.args.self.now.pointer 7 in
    let out : is_lrq p ≡ false = elim c.then-line-lt1.either [ inl low ↦ below_lrq p low | inr high ↦ above_lrq p high.1 ] in
    names c.args.self.now p false (low_is c.args.self.now.pointer (search rules)) out

pub returns : goal.returns
returns c =
    let p = bit_and c.args.self.now.pointer 7 in
    names c.args.self.now p true (low_is c.args.self.now.pointer (search rules)) (between_lrq p c.if-line-lt1.false c.if-line-gt6.false)
