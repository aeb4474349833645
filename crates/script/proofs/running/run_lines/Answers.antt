use Rattle.std.proofs.Common.{◌≡◌, ◌+◌, ◌-◌, ◌≤◌, ◌<◌, ◌∷◌, ◌++◌, length, vec_items, sym, ap, ◌∙◌, subst, append_assoc, arith, rules}
use Rattle.rack.proofs.Bounds.{parts_of}
use Rattle.script.specs.Pieces.{lines}
use Rattle.script.specs.Printing.{printed, room}
use Rattle.script.specs.Running.{line_gives, line_text, line_leaves, printed_by}
use Rattle.script.proofs.Lines.{printed_step}
use Rattle.script.proofs.Sizes.{line_room}
use Rattle.script.proofs.running.run_lines.Goals as goal

pub loop-number-preserved : goal.loop-number-preserved
loop-number-preserved g c =
    let p = parts_of g.H.Card g.H.Handler g.C.Card in
    let x = c.loop-number.rack in
    let n = c.in-Some.number in
    let t = c.in-Some.text.now in
    let before = c.loop-number.number-iterator.b.rest.now in
    let after = c.next.new.self.b.rest.now in
    let numbered : n ≡ c.loop-number.number-iterator.a.start = search rules in
    let counts : c.next.new.self.a.start ≡ n + 1 = search rules in
    let cut : lines before ≡ t ∷ lines after = search rules in
    let shorter : length after < length before = search rules in
    let whole : length t + length after ≤ length before = search rules in
    let text : c.as_bytes.result.now ≡ line_text p x n t = search rules in
    let added : length (vec_items c.extend_from_slice.new.self) ≡ length (vec_items c.loop-number.out) + length (line_text p x n t) = search rules in
    let few : length (line_text p x n t) ≤ room (line_gives p x t) = subst (λ r. length (printed n r) ≤ room r) c.obey.ensures.result (c.show-page.ensures.short (omega (arith, c.loop-number.invariant.1, numbered))) in
    let fits = line_room p x t (length before - length after) (omega (arith, shorter)) (omega (arith, whole)) in
    let step : printed_by p x n (lines before) ≡ line_text p x n t ++ printed_by p (line_leaves p x t) (n + 1) (lines after) = ap (printed_by p x n) cut ∙ printed_step p x n t (lines after) in
    let joined = append_assoc (vec_items c.loop-number.out) (line_text p x n t) (printed_by p (line_leaves p x t) (n + 1) (lines after)) in (
      rw (counts, c.in_ok-extend_from_slice.ensures.items, text, c.obey.ensures.after, joined) (ap (λ s. vec_items c.loop-number.out ++ s) (sym step) ∙ rw numbered c.loop-number.invariant.0),
      omega (arith, c.loop-number.invariant.1, numbered, counts, shorter),
      omega (arith, c.loop-number.invariant.2, shorter, added, few, fits),
    )
