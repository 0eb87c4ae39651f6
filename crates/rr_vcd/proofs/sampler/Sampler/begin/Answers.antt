use Rattle.std.proofs.Common.{◌≡◌, ◌+◌, refl, arith}
use Rattle.rr_vcd.proofs.Keeping.{told_first, told_next}
use Rattle.rr_vcd.proofs.sampler.Sampler.begin.Goals as goal

pub returns-then-not-self : goal.returns-then-not-self
returns-then-not-self c = λ top d s told time h off. told_first top d s told time c.args.self.now _ h off c.if-not-self.true refl refl refl refl refl refl refl

pub returns : goal.returns
returns c = λ top d s told time h off.
    let same = c.in_ok-close.ensures.same in
    let kept = c.in_ok-close.ensures.rows top d s told h off c.if-not-self.false in
    let m : c.in-Some.next ≡ c.args.self.now.moment + 1 = omega (arith, c.in-Some.ensures, same.moment) in
    told_next top d s told time c.args.self.now _ h off c.if-not-self.false kept same.off same.probes same.slots m same.begun
