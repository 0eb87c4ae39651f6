use Rattle.std.proofs.Common.{◌≡◌, ◌∙◌, ◌-◌, ap, arith, eq-eqb, get_or, length}
use Rattle.rr_directive.proofs.Acts.{on_none, on_last}
use Rattle.rr_directive.proofs.reading.Reader.is_on.Goals as goal

pub returns-then-count-eq0 : goal.returns-then-count-eq0
returns-then-count-eq0 c =
    let z : length c.args.self.now.branches.items ≡ 0 = omega (arith, c.if-count-eq0.true, c.len-count.ensures, c.args.self.now.branches.ok) in
    eq-eqb c.len-count.result 0 c.if-count-eq0.true ∙ on_none c.args.self.now.branches.items z

pub returns-else-count-eq0 : goal.returns-else-count-eq0
returns-else-count-eq0 c =
    let z : c.len-count.result ≡ length c.args.self.now.branches.items = omega (arith, c.len-count.ensures, c.args.self.now.branches.ok) in
    on_last c.args.self.now.branches.items c.index.result.now (omega (arith, c.if-count-eq0.false)) (c.index.ensures ∙ ap (λ n. get_or c.args.self.now.branches.items (n - 1) c.index.result.now) z)
