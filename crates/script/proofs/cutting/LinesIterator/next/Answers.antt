use Rattle.std.proofs.Common.{ℕ, ◌≡◌, ◌+◌, ◌<◌, ◌≤◌, suc, not, length, cond, ltb, List, [], Some, None, Option, Bor, nat_eq, drop, inl, inr, sym, refl, ap, ◌∙◌, length-drop, length-take, arith, rules, tests}
use Rattle.std.proofs.lemmas.Bool.Decides.{nat_tests}
use Rattle.std.proofs.lemmas.Iterator.{YieldsList-from_slice}
use Rattle.std.proofs.lemmas.Iterator.Search.{position_from_yields_List}
use Rattle.std.proofs.lemmas.List.{drop_all, take_rest}
use Rattle.std.proofs.lemmas.List.Sums.{prefix_len-le-length}
use Rattle.std.specs.Option.{unwrap_or, UnwrapsOrElse}
use Rattle.std.specs.Slice.{IsGetRangeResult}
use Rattle.script.proofs.Cuts.{no_lines, line_end, cut_line}
use Rattle.script.proofs.cutting.LinesIterator.next.Goals as goal

pub returns-then-is_empty-clause-steps : goal.returns-then-is_empty-clause-steps
returns-then-is_empty-clause-steps c = search (rules, no_lines)

or_length : (e n : ℕ) → e ≤ n → unwrap_or (cond (ltb e n) (Some e) None) n ≡ e
or_length e n h = grind (arith, nat_tests)

rest_is : (s : List ℕ) (i : ℕ) (r : Option (Bor (List ℕ))) (x : Bor (List ℕ)) → IsGetRangeResult s i (length s) r → UnwrapsOrElse r (λ y. y.now ≡ []) x → x.now ≡ drop i s
rest_is s i None x (inl h, _) u = u ∙ sym (drop_all i s (omega arith))
rest_is s i None x (inr h, _) u = absurd (omega arith)
rest_is s i (Some y) x h u = ap (λ z. z.now) u ∙ h.0.2 ∙ take_rest s i

pub returns-clause-steps : goal.returns-clause-steps
returns-clause-steps c =
    let s = c.args.self.now.rest.now in
    let found : c.position.result ≡ cond (ltb (line_end s) (length s)) (Some (line_end s)) None =
    position_from_yields_List (λ b. nat_eq b 10) _ _ _ c.position.ensures.ran (YieldsList-from_slice s cc) (λ x b q k. search (rules, tests)) in
    let bound : line_end s ≤ length s = prefix_len-le-length (λ b. not (nat_eq b 10)) s in
    let end : c.unwrap_or-end.result ≡ line_end s = c.unwrap_or-end.ensures ∙ ap (λ r. unwrap_or r (length s)) found ∙ or_length (line_end s) (length s) bound in
    let rest : c.unwrap_or_default-self.result.now ≡ drop (c.unwrap_or-end.result + 1) s = rest_is s (c.unwrap_or-end.result + 1) c.get.result c.unwrap_or_default-self.result c.get.ensures.lookup c.unwrap_or_default-self.ensures in
    let more : c.unwrap_or-end.result + 1 ≡ suc (line_end s) = omega arith in
    let some : 0 < length s = search rules in (
      cut_line s some ∙ rw (end, rest, more) refl,
      (
        omega (arith, ap length rest, length-drop (c.unwrap_or-end.result + 1) s, some),
        omega (arith, ap length rest, length-drop (c.unwrap_or-end.result + 1) s, length-take c.unwrap_or-end.result s, bound, end),
      ),
    )
