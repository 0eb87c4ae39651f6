use Rattle.std.proofs.Common.{◌≡◌, ◌∙◌, sym, ap, ◌<◌, [], ◌++◌, drop, length, ◌+◌, rules}
use Rattle.rr_syntax.specs.declared.tree.Stmt.{the_lemmas}
use Rattle.rr_syntax.specs.View.{plain, plain_statement, plain_statements}
use Rattle.rr_flat.specs.Sound.{names_at}
use Rattle.rr_starts.specs.Starts.{initial_faults, all_initial_faults, started, all_started}
use Rattle.rr_starts.proofs.Nodes.{assign_faults, set_more, set_done, faults_left, keeps_rest}
use Rattle.rr_starts.proofs.Shaped.{none_of_two, constant_none}
use Rattle.rr_starts.proofs.initials.+setting.Goals as goal

pub set_starts-set_one-requires-clause-target : goal.set_starts-set_one-requires-clause-target
set_starts-set_one-requires-clause-target t c =
    let names = names_at c.args.flat.now.scopes c.args.scope in
    (none_of_two _ _ (sym (assign_faults names c.in-Assign.target c.in-Assign.now c.in-Assign.value) ∙ (rw c.in-Assign.is at c.requires.none))).0

pub set_starts-set_one-requires-clause-constant : goal.set_starts-set_one-requires-clause-constant
set_starts-set_one-requires-clause-constant t c =
    let names = names_at c.args.flat.now.scopes c.args.scope in
    constant_none names (plain c.in-Assign.value.now) (none_of_two _ _ (sym (assign_faults names c.in-Assign.target c.in-Assign.now c.in-Assign.value) ∙ (rw c.in-Assign.is at c.requires.none))).1

pub set_all-set_starts-requires : goal.set_all-set_starts-requires
set_all-set_starts-requires t c =
    let same = ap (λ f. f.scopes) c.loop-stmt.invariant.0 in
    let none = none_of_two _ _ (sym (faults_left (names_at c.args.flat.now.scopes c.args.scope) c.args.body.now c.loop-stmt.stmt-index c.stmt-item.result c.loop-stmt-test.true c.stmt-item.is) ∙ c.loop-stmt.invariant.1) in
    (search (rules, the_lemmas), (rw same c.requires.there, rw same none.0))

pub set_all-loop-stmt-preserved : goal.set_all-loop-stmt-preserved
set_all-loop-stmt-preserved t c =
    let names = names_at c.args.flat.now.scopes c.args.scope in
    let same = ap (λ f. f.scopes) c.loop-stmt.invariant.0 in
    let none = none_of_two _ _ (sym (faults_left names c.args.body.now c.loop-stmt.stmt-index c.stmt-item.result c.loop-stmt-test.true c.stmt-item.is) ∙ c.loop-stmt.invariant.1) in
    let next = ap (λ f. f.starts) c.set_starts.ensures ∙ ap (λ s. started (names_at s c.args.scope) (plain_statement c.stmt-item.result) c.loop-stmt.flat.starts) same in (
      keeps_rest c.args.flat.now c.loop-stmt.flat c.set_starts.new.flat (started (names_at c.loop-stmt.flat.scopes c.args.scope) (plain_statement c.stmt-item.result) c.loop-stmt.flat.starts) c.loop-stmt.invariant.0 c.set_starts.ensures,
      none.1,
      ap (λ st. all_started names (plain_statements (drop (c.loop-stmt.stmt-index + 1) c.args.body.now)) st) next
          ∙ (set_more names c.args.body.now c.loop-stmt.stmt-index c.stmt-item.result c.loop-stmt.flat.starts c.loop-stmt-test.true c.stmt-item.is ∙ c.loop-stmt.invariant.2),
    )

pub set_all-returns : goal.set_all-returns
set_all-returns t c =
    c.loop-stmt.invariant.0
    ∙ ap (λ st. record c.args.flat.now { starts = st })
    (sym (set_done (names_at c.args.flat.now.scopes c.args.scope) c.args.body.now c.loop-stmt.stmt-index c.loop-stmt.flat.starts c.loop-stmt-test.false) ∙ c.loop-stmt.invariant.2)
