use Rattle.std.proofs.Common.{◌≡◌, ◌<◌, ◌∙◌, ap, arith, length, get_or}
use Rattle.std.specs.Prelude.{vec_capacity}
use Rattle.std.proofs.lemmas.List.{get_or_default}
use Rattle.rr_trail.proofs.LevelLaws.{IsLevelled-cut}
use Rattle.rr_trail.proofs.trail.Trail.back.Goals as goal

pub invariant_of-self : goal.invariant_of-self
invariant_of-self c =
    let o = c.self.inside in
    let h : c.args.level < length o.starts.items = omega (arith, c.if-level-depth.true, c.depth.ensures, ap (λ v. v.depth) c.self.view_is) in
    let start : c.index.result.now ≡ get_or o.starts.items c.args.level 0 = c.index.ensures ∙ get_or_default o.starts.items c.args.level c.index.result.now 0 h in
    rw (c.truncate.ensures.items, c.cut.ensures, start) (IsLevelled-cut o.assignment o.starts.items (vec_capacity o.starts) c.self.invariant c.args.level h (vec_capacity c.truncate.new.self) (omega (arith, c.truncate.ensures.capacity)))

pub returns-then-level-depth-clause-lawful : goal.returns-then-level-depth-clause-lawful
returns-then-level-depth-clause-lawful c =
    let o = c.self.inside in
    let h : c.args.level < length o.starts.items = omega (arith, c.if-level-depth.true, c.depth.ensures, ap (λ v. v.depth) c.self.view_is) in
    let start : c.index.result.now ≡ get_or o.starts.items c.args.level 0 = c.index.ensures ∙ get_or_default o.starts.items c.args.level c.index.result.now 0 h in
    rw (c.truncate.ensures.items, c.cut.ensures, start) (IsLevelled-cut o.assignment o.starts.items (vec_capacity o.starts) c.self.invariant c.args.level h (vec_capacity c.truncate.new.self) (omega (arith, c.truncate.ensures.capacity))).lawful
