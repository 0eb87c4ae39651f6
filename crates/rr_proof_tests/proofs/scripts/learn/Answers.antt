use Rattle.std.proofs.Common.{◌≡◌, ◌+◌, ◌<◌, [], sym, ap, subst, ◌∙◌, arith, length, List}
use Rattle.std.specs.Prelude.{All}
use Rattle.std.proofs.lemmas.Bool.{eqb-true}
use Rattle.std.proofs.lemmas.List.{length-map, nil_from_length}
use Rattle.std.proofs.lemmas.List.Elements.{All-push}
use Rattle.rr_cnf.specs.Clauses.{Literal}
use Rattle.rr_trail.specs.Trails.{Entry}
use Rattle.rr_watch.specs.Watches.{State}
use Rattle.rr_proof_tests.proofs.TestLaws.{third_may}
use Rattle.rr_proof_tests.proofs.scripts.learn.Goals as goal

-- nothing is true yet, so that the two decisions are the whole trail
pub add-requires-clause-may : goal.add-requires-clause-may
add-requires-clause-may c =
    let none : c.args.watch.now.trail ≡ [] = nil_from_length _ (sym (length-map c.args.watch.now.trail (λ (e : Entry). e.lit)) ∙ sym (ap (λ (l : List Literal). length l) c.trail.ensures.trail) ∙ eqb-true _ 0 (sym c.if-not-is_empty.ensures)) in
    third_may c.args.watch.now c.decide.new.self c.decide-2.new.self c.new-one.result c.new-two.result c.negated.result c.negated-2.result c.new.result c.in_ok-learned.learned
    none (sym c.depth.ensures.depth ∙ c.if-depth-ne0.false)
    (ap (λ (s : State). s.trail) c.decide.ensures) (ap (λ (s : State). s.depth) c.decide.ensures)
    (ap (λ (s : State). s.trail) c.decide-2.ensures) (ap (λ (s : State). s.depth) c.decide-2.ensures)
    c.new-one.ensures c.new-two.ensures c.negated.ensures c.negated-2.ensures c.new.ensures c.in_ok-learned.ensures

-- the ids are below the next one, and the new clause has this one
pub returns : goal.returns
returns c =
    let kept : c.decide-2.new.self.clauses ≡ c.args.watch.now.clauses = ap (λ (s : State). s.clauses) c.decide-2.ensures ∙ ap (λ (s : State). s.clauses) c.decide.ensures in
    let before : All (λ n. n.id < c.args.id + 1) c.args.watch.now.clauses = λ k d w. omega (arith, c.requires k d w) in
    subst (All (λ n. n.id < c.args.id + 1)) (sym (ap (λ (s : State). s.clauses) c.in_ok-add.ensures.ok))
    (All-push (λ n. n.id < c.args.id + 1) c.decide-2.new.self.clauses (record { id = c.args.id; clause = c.in_ok-learned.learned }) (subst (All (λ n. n.id < c.args.id + 1)) (sym kept) before) (omega arith))
