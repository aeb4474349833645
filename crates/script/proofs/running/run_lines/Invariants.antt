use Rattle.std.proofs.Common.{◌≡◌, ◌+◌, ◌*◌, ◌≤◌, ◌++◌, length, vec_items}
use Rattle.rack.proofs.Bounds.{parts_of}
use Rattle.script.specs.Pieces.{lines}
use Rattle.script.specs.Running.{printed_by}
use Rattle.script.proofs.running.run_lines.Given as goal

-- what is printed, with what the rest will print, is all that is to be printed
abbrev pub invariant-loop-number : goal.invariant-loop-number
invariant-loop-number g l =
    let number = l.number-iterator.a.start in
    let rest = l.number-iterator.b.rest.now in
    (vec_items l.out ++ printed_by (parts_of g.H.Card g.H.Handler g.C.Card) l.rack number (lines rest)
    ≡ vec_items l.initial.out ++ printed_by (parts_of g.H.Card g.H.Handler g.C.Card) l.initial.rack 1 (lines l.initial.script))
    × (number + length rest ≤ 65537)
    × (length (vec_items l.out) + 32 * length rest ≤ length (vec_items l.initial.out) + 32 * length l.initial.script)
