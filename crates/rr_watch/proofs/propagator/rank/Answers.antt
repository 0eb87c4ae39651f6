use Rattle.std.proofs.Common.{◌∙◌, inl, inr, ap, sym, refl}
use Rattle.std.proofs.lemmas.Bool.{true≢false}
use Rattle.rr_trail.proofs.EntryLaws.{place_of}
use Rattle.rr_cnf.specs.Clauses.{negated}
use Rattle.rr_watch.proofs.propagator.rank.Goals as goal

pub returns-then-is_false : goal.returns-then-is_false
returns-then-is_false c =
    let k = place_of c.args.trail.now.entries (negated c.args.lit) (c.is_false.ensures.0 c.if-is_false.true) in
    inr (k.0, (k.1.0, k.1.1, c.from.ensures ∙ sym (c.level.ensures k.0 k.1.0 (ap (λ l. l.var) k.1.1))))

pub returns-else-is_false : goal.returns-else-is_false
returns-else-is_false c = inl (refl, λ m. true≢false (sym (c.is_false.ensures.1 m) ∙ c.if-is_false.false))
