use Rattle.std.proofs.Common.{◌≡◌, ◌∙◌, sym, ap, Bool, true, false, not, ◌&&◌}
use Rattle.rr_vcd.specs.Sampled.{is_level}
use Rattle.rr_vcd.proofs.sampler.Sampler.goes_over.Goals as goal

both : (a b c : Bool) → a ≡ true → b ≡ c → b ≡ (a && c)
both true b c e h = h
both false b c e h = cc

neither : (a b c : Bool) → b ≡ a → b ≡ false → b ≡ (a && c)
neither true b c e h = cc
neither false b c e h = h

pub returns-then-is_level : goal.returns-then-is_level
returns-then-is_level c = λ past told slots watched.
    let a = c.is_level.ensures ∙ ap (is_level (not c.args.clock.rising)) (c.cell-before.ensures past told slots watched) in
    let b = c.is_level-then-is_level.ensures ∙ ap (is_level c.args.clock.rising) (c.cell-now.ensures past told slots watched) in
    both _ _ _ (sym a ∙ c.if-is_level.true) b

pub returns-else-is_level : goal.returns-else-is_level
returns-else-is_level c = λ past told slots watched.
    let a = c.is_level.ensures ∙ ap (is_level (not c.args.clock.rising)) (c.cell-before.ensures past told slots watched) in
    neither _ _ _ a c.if-is_level.false
