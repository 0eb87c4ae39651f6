use Rattle.std.proofs.Common.{◌≡◌, ◌∙◌, ◌<◌, ◌+◌, ◌++◌, ◌∷◌, [], ap, sym, subst, length, get_or}
use Rattle.std.proofs.lemmas.List.{length_push}
use Rattle.rr_watch_lists.specs.Holdings.{Holding, holds}
use Rattle.rr_watch_lists.proofs.HandLaws.{hand_next}
use Rattle.rr_watch_lists.proofs.hand.Hand.take.Goals as goal

pub returns-clause-ok : goal.returns-clause-ok
returns-clause-ok c =
    let h = c.self.inside in
    let fs = h.formula.now.clauses in
    let w = c.args.watched in
    let some = subst (λ v. v.known < length v.formula) (sym c.self.view_is) c.requires.some in
    let all = subst (λ v. length v.held ≡ v.known) (sym c.self.view_is) c.requires.all in
    ap (λ x. record { formula = fs; known = length x; held = holds fs x h.added.items h.lits.items }) c.in_ok-push.ensures.items
    ∙ ap (λ n. record { formula = fs; known = n; held = holds fs (h.watched.items ++ w ∷ []) h.added.items h.lits.items }) (length_push h.watched.items w)
    ∙ ap (λ x. record { formula = fs; known = length h.watched.items + 1; held = x }) (hand_next fs h.watched.items h.added.items h.lits.items c.self.invariant w some all)
    ∙ ap (λ (v : Holding). record { formula = v.formula; known = v.known + 1; held = v.held ++ record { id = v.known + 1; clause = get_or v.formula v.known []; first = w.first; second = w.second } ∷ [] }) c.self.view_is
