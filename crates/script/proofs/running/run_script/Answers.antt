use Rattle.std.proofs.Common.{◌≡◌, length, vec_items, ap, arith, rules}
use Rattle.rack.specs.Machine.{start}
use Rattle.rack.proofs.Bounds.{parts_of}
use Rattle.runs.proofs.Keeps.{run_keeps}
use Rattle.script.specs.Running.{output, script_calls}
use Rattle.script.proofs.Laws.{promises}
use Rattle.script.proofs.running.run_script.Goals as goal

pub returns : goal.returns
returns g c =
    let p = parts_of g.H.Card g.H.Handler g.C.Card in
    let x = start c.args.number c.args.handler c.args.chain in
    let s = c.args.script.now in
    let prints : vec_items c.run_lines.new.out ≡ output p x s = search rules in
    record {
      ran = record {
        prints = prints;
        keeps = run_keeps p g.met.H.Card.laws g.met.H.Handler.notices g.met.C.Card.laws c.args.number c.args.handler c.args.chain (script_calls s);
      };
      promises = promises p x s _ prints (omega (arith, ap length c.new-out.ensures.items, c.in_ok-run_lines.ensures.bound));
    }
