use Rattle.std.proofs.Common.{rules, ◌≡◌, ◌+◌, ◌<◌, ◌≤◌, ◌∙◌, ◌∷◌, ap, subst, sym, arith, length, drop, slice_index_or, Ok}
use Rattle.std.proofs.lemmas.List.{drop_more, drop_all}
use Rattle.rr_check.proofs.Joins.{Joined, Joined-more, Joined-all}
use Rattle.rr_check.proofs.verdict.joined.Goals as goal

pub loop-one-preserved : goal.loop-one-preserved
loop-one-preserved c = λ cs lines start end f.
    let found = c.args.found.now in
    let i = c.loop-one.one-index in
    let lt : i < length found = omega arith in
    let one : slice_index_or found i (Ok c.in-Ok.next) ≡ Ok c.in-Ok.next = search rules in
    let at : drop i found ≡ Ok c.in-Ok.next ∷ drop (i + 1) found = drop_more found i (Ok c.in-Ok.next) lt ∙ ap (λ r. r ∷ drop (i + 1) found) one in
    let more = Joined-more cs lines start end c.loop-one.verdict c.in-Ok.next (drop (i + 1) found) (subst (Joined cs lines start end c.loop-one.verdict) at (c.loop-one.invariant cs lines start end f)) in
    subst (λ v. Joined cs lines start end v (drop (i + 1) found)) (sym c.and_then-verdict.ensures) more

pub returns : goal.returns
returns c = λ cs lines start end f.
    let found = c.args.found.now in
    let over : length found ≤ c.loop-one.one-index = omega arith in
    Joined-all cs lines start end c.loop-one.verdict (subst (Joined cs lines start end c.loop-one.verdict) (drop_all c.loop-one.one-index found over) (c.loop-one.invariant cs lines start end f))
