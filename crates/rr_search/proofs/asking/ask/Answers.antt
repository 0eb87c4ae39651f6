use Rattle.std.proofs.Common.{ℕ, ◌∙◌, ap, sym, subst, drop, take}
use Rattle.rr_cnf.specs.Partial.{Determined}
use Rattle.rr_choice_bits.proofs.CodeLaws.{few_names}
use Rattle.rr_choice.specs.Choices.{decode, total_bits}
use Rattle.rr_members.specs.Searched.{SearchedIs}
use Rattle.rr_search.specs.Answers.{task_of}
use Rattle.rr_search.proofs.Chain.{mended_by, closed_by, left_by}
use Rattle.rr_search.proofs.asking.ask.Goals as goal

pub solve-requires-clause-determined : goal.solve-requires-clause-determined
solve-requires-clause-determined g c κs within = subst (λ (n : ℕ). Determined c.in_ok-formula.formula n) (sym (ap (λ x. x.netlist.inputs) c.circuit.view_is)) c.in_ok-formula.ensures.determined

pub returns-in_ok-choice-in-Model : goal.returns-in_ok-choice-in-Model
returns-in_ok-choice-in-Model g c =
    let t = task_of c.args.job.now in
    let q = c.in_ok-circuit.ensures in
    let f = c.in_ok-formula.ensures in
    let m = subst (SearchedIs c.in_ok-formula.formula c.circuit.inside.inputs t.members t.budget) c.in-Model.is c.in_ok-values.ensures.searched in
    mended_by t c.requires.task c.args.bound c.in_ok-circuit.circuit q.inputs q.outputs q.faithful c.in_ok-formula.formula f.formula f.inputs c.in-Model.values.items m c.in_ok-choice-in-Model.choice.picks.items
    (c.in_ok-choice-in-Model.ensures ∙ ap (λ bs. decode t.sites (take (total_bits t.sites) (drop 1 bs))) c.as_slice.ensures.value)

pub returns-in-Refuted : goal.returns-in-Refuted
returns-in-Refuted g c =
    let t = task_of c.args.job.now in
    let q = c.in_ok-circuit.ensures in
    let f = c.in_ok-formula.ensures in
    let r = subst (SearchedIs c.in_ok-formula.formula c.circuit.inside.inputs t.members t.budget) c.in-Refuted.is c.in_ok-values.ensures.searched in
    closed_by t c.requires.task c.args.bound c.in_ok-circuit.circuit q.inputs q.outputs q.faithful c.in_ok-formula.formula f.formula (few_names t.sites c.requires.listed) f.satisfiable c.in-Refuted.journal.lines r

pub returns-in-Spent : goal.returns-in-Spent
returns-in-Spent g c =
    let t = task_of c.args.job.now in
    let q = c.in_ok-circuit.ensures in
    let f = c.in_ok-formula.ensures in
    let r = subst (SearchedIs c.in_ok-formula.formula c.circuit.inside.inputs t.members t.budget) c.in-Spent.is c.in_ok-values.ensures.searched in
    left_by t c.requires.task c.args.bound c.in_ok-circuit.circuit q.inputs q.outputs q.faithful c.in_ok-formula.formula f.formula c.circuit.inside.inputs (ap (λ x. x.netlist.inputs) c.circuit.view_is) c.in-Spent.journal.lines r
