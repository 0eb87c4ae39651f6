use Rattle.std.proofs.Common.{◌≡◌, ◌∙◌, ◌+◌, ◌++◌, ◌∷◌, [], ap, arith, length, refl}
use Rattle.rr_watch_lists.specs.Holdings.{Holding, holds}
use Rattle.rr_watch_lists.specs.declared.hand.Added.{Added}
use Rattle.rr_watch_lists.proofs.HandLaws.{hand_more}
use Rattle.rr_watch_lists.proofs.hand.Hand.copy.Goals as goal

pub returns-clause-ok : goal.returns-clause-ok
returns-clause-ok c =
    let h = c.self.inside in
    let fs = h.formula.now.clauses in
    let w = c.args.watched in
    let cl = c.args.clause.now in
    let a : Added = record { id = c.args.id; start = c.len-start.result; end = c.len.result; watched = w } in
    let lits = c.in_ok-extend_from_slice.ensures.items in
    let start : a.start ≡ length h.lits.items = omega (arith, h.lits.ok.0, c.len-start.ensures) in
    let end : a.end ≡ length h.lits.items + length cl = omega (arith, h.lits.ok.0, c.len.ensures, c.in_ok-extend_from_slice.ensures.len) in
    let items = c.push_reserved.ensures.items ∙ ap (λ x. x ++ a ∷ []) c.in_ok-reserve.ensures.items in
    ap (λ x. record { formula = fs; known = length h.watched.items; held = holds fs h.watched.items x c.extend_from_slice.new.self.items }) items
    ∙ ap (λ x. record { formula = fs; known = length h.watched.items; held = holds fs h.watched.items (h.added.items ++ a ∷ []) x }) lits
    ∙ ap (λ x. record { formula = fs; known = length h.watched.items; held = x }) (hand_more fs h.watched.items h.added.items h.lits.items c.self.invariant cl a w start end refl)
    ∙ ap (λ (v : Holding). record v { held = v.held ++ record { id = c.args.id; clause = cl; first = w.first; second = w.second } ∷ [] }) c.self.view_is
