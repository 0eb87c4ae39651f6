use Rattle.std.proofs.Common.{◌∙◌, sym, ap, subst, Bool, ◌||◌, List}
use Rattle.rr_syntax.specs.Tree.{Assign}
use Rattle.rr_syntax.specs.View.{plain}
use Rattle.rr_named_bits.specs.declared.writes.Write.{Write}
use Rattle.rr_named_bits.specs.Lists.{must}
use Rattle.rr_flat.specs.Targets.{assigns_target}
use Rattle.rr_latch.specs.Paths.{assigned}
use Rattle.rr_latch.proofs.Branching.{noted_assign, ran_assign, ran_later, RanBy}
use Rattle.rr_latch.proofs.branches.run_assign.Goals as goal

pub returns-in_ok-assign_writes-clause-ran : goal.returns-in_ok-assign_writes-clause-ran
returns-in_ok-assign_writes-clause-ran c =
    let s = c.args.names.now in
    let f = assigned c.args.path.now.unassigned in
    let g = assigned c.assign_writes.new.path.unassigned in
    let P : Bool → Type 0 = λ z. RanBy s (Assign (plain c.args.target.now) z (plain c.args.value.now)) f g c.args.path.now.log.items c.assign_writes.new.path.log.items in
    subst P (sym c.if-now.true)
    (ran_assign s (plain c.args.target.now) (plain c.args.value.now) f g c.args.path.now.log.items c.assign_writes.new.path.log.items c.add_writes.new.list.items
    (λ b. c.in_ok-add_writes.ensures.must b ∙ ap (λ z. must z b || assigns_target s (plain c.args.target.now) b) c.new-writes.ensures.items)
    (λ b. c.in_ok-assign_writes.ensures.set b ∙ ap (λ (z : List Write). f b || must z b) c.as_slice.ensures.value)
    c.in_ok-assign_writes.ensures.log)

pub returns-in_ok-assign_writes-clause-noted : goal.returns-in_ok-assign_writes-clause-noted
returns-in_ok-assign_writes-clause-noted c =
    noted_assign c.args.names.now (plain c.args.target.now) c.args.now (plain c.args.value.now) c.args.path.now.unassigned c.args.early.now c.read_target.new.early c.read.new.early
    c.in_ok-read_target.ensures c.in_ok-read.ensures

pub returns-else-now-clause-ran : goal.returns-else-now-clause-ran
returns-else-now-clause-ran c =
    let s = c.args.names.now in
    let f = assigned c.args.path.now.unassigned in
    let a = c.args.path.now.log.items in
    let P : Bool → Type 0 = λ z. RanBy s (Assign (plain c.args.target.now) z (plain c.args.value.now)) f f a a in
    subst P (sym c.if-now.false) (ran_later s (plain c.args.target.now) (plain c.args.value.now) f a)

pub returns-else-now-clause-noted : goal.returns-else-now-clause-noted
returns-else-now-clause-noted c =
    noted_assign c.args.names.now (plain c.args.target.now) c.args.now (plain c.args.value.now) c.args.path.now.unassigned c.args.early.now c.read_target.new.early c.read.new.early
    c.in_ok-read_target.ensures c.in_ok-read.ensures
