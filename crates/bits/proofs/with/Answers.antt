use Rattle.std.proofs.Common.{Bool, sym, ap, ◌∙◌, rules}
use Rattle.bits.specs.Bytes.{put}
use Rattle.bits.proofs.Bytes.{set_bit, clear_bit, put_past}
use Rattle.bits.proofs.with.Goals as goal

pub returns-then-n-ge8 : goal.returns-then-n-ge8
returns-then-n-ge8 c = put_past c.args.x c.args.n c.args.on (search rules) c.if-n-ge8.true

pub returns-then-on : goal.returns-then-on
returns-then-on c = set_bit c.args.x c.args.n (search rules) c.if-n-ge8.false ∙ ap (λ (b : Bool). put c.args.n b c.args.x) (sym c.if-on.true)

pub returns-else-on : goal.returns-else-on
returns-else-on c = clear_bit c.args.x c.args.n (search rules) c.if-n-ge8.false ∙ ap (λ (b : Bool). put c.args.n b c.args.x) (sym c.if-on.false)
