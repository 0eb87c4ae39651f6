use Rattle.std.proofs.Common.{◌+◌, ◌≤◌, ◌<◌, ◌∙◌, ◌++◌, ◌∷◌, [], ap, subst, arith}
use Rattle.std.proofs.lemmas.List.Elements.{All-weaker}
use Rattle.rr_derive.specs.Derive.{Step}
use Rattle.rr_derive.specs.Fresh.{Handed}
use Rattle.rr_solver.specs.Searches.{IsNewId}
use Rattle.rr_member.specs.Sharing.{Gives}
use Rattle.rr_member.proofs.Sitting.{gives}
use Rattle.rr_member.proofs.seat.Seat.take_one.Goals as goal

pub returns : goal.returns
returns c =
    let i = c.self.inside in
    let id = c.last_id-last.result + 1 in
    let e = c.last_id-last.ensures in
    let n : IsNewId i.solver.formula i.solver.lines i.solver.handed id = record {
      formula = let a = e.formula in omega arith;
      lines = All-weaker (λ (s : Step). s.id ≤ c.last_id-last.result) (λ (s : Step). s.id < id) (λ s h. omega arith) i.solver.lines e.lines;
      handed = All-weaker (λ (h : Handed). h.id ≤ c.last_id-last.result) (λ (h : Handed). h.id < id) (λ s h. omega arith) i.solver.handed e.handed;
    } in
    subst (λ v. Gives c.args.short.now v (record { search = c.import.new.self; rounds = i.rounds.items; origins = c.push_reserved.new.self.items })) c.self.view_is
    (gives i.solver i.rounds.items i.origins.items i.stepped c.self.invariant c.args.short.now id c.import.new.self c.push_reserved.new.self.items n c.in_ok-import.ensures.ok
    (c.push_reserved.ensures.items ∙ ap (λ os. os ++ record { id = id; member = c.args.short.now.member; line = c.args.short.now.line } ∷ []) c.in_ok-reserve.ensures.items))
