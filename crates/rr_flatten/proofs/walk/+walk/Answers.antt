use Rattle.std.proofs.Common.{◌∙◌, sym, inr, arith, rules, refl}
use Rattle.std.proofs.lemmas.Result.{on_ok_weaker}
use Rattle.rr_syntax.specs.Items.{WellFormedModule, FitLiteralsModule, WellFormedItem, FitLiteralsItem, WellFormedInstance, FitLiteralsInstance}
use Rattle.rr_syntax.specs.View.{plain_item, plain_instance, plain_module, plain_overrides}
use Rattle.rr_declarations.proofs.Steps.{refused, each_next, each_ends, each_more, each_stops, each_done}
use Rattle.rr_flatten.specs.Kept.{plain_walked, modules_of}
use Rattle.rr_flatten.specs.Walk.{item, instance_of, enter}
use Rattle.rr_flatten.proofs.Grown.{each_here, each_at, module_there, table_if, same_keeps, keeps_itself, keeps_on, keeps_twice, keeps_fewer}
use Rattle.rr_flatten.proofs.Walks.{enter_none, enter_refuses, enter_walks, instance_unknown, inside_refuses, inside_sub_refuses, inside_walks, module_formed, module_fit}
use Rattle.rr_flatten.proofs.walk.+walk.Goals as goal

-- enter

pub enter-returns-then-levels-eq0-clause-value : goal.enter-returns-then-levels-eq0-clause-value
enter-returns-then-levels-eq0-clause-value t c = inr (enter_none (modules_of c.args.walk.now) c.args.walk.now.table c.args.levels c.args.above.now c.args.owner c.args.given.now (plain_walked c.args.walked.now) c.if-levels-eq0.true)

pub enter-returns-in_err-number-clause-value : goal.enter-returns-in_err-number-clause-value
enter-returns-in_err-number-clause-value t c = refused c.from_residual.result _ _ c.in_err-number.field-0.0 c.from_residual.ensures.1
    (enter_refuses (modules_of c.args.walk.now) c.args.walk.now.table c.args.levels c.args.above.now c.args.owner c.args.given.now (plain_walked c.args.walked.now) c.in_err-number.field-0.0 (omega arith) c.in_err-number.ensures.value)

pub enter-items-requires : goal.enter-items-requires
unfolding plain_module
enter-items-requires t c = (
  search rules,
  (
    c.requires.ready,
    (
      module_formed _ (module_there WellFormedModule c.args.walk.now.modules.now c.args.owner _ c.requires.ready.formed c.requires.owner c.module_at-own.ensures),
      (module_fit _ (module_there FitLiteralsModule c.args.walk.now.modules.now c.args.owner _ c.requires.ready.fit c.requires.owner c.module_at-own.ensures), (omega (arith, c.in_ok-number.ensures.number, c.in_ok-number.ensures.more), (c.in_ok-number.ensures.kept.few, c.in_ok-number.ensures.kept.loops))),
    ),
  ),
)

pub enter-returns-clause-value : goal.enter-returns-clause-value
unfolding plain_module
enter-returns-clause-value t c =
    let e = enter_walks (modules_of c.args.walk.now) c.args.walk.now.table c.args.levels c.args.above.now c.as_slice.result.now c.args.owner c.args.given.now (plain_walked c.args.walked.now) (plain_walked c.begin.new.walked) c.in_ok-number.number (plain_module c.module_at-own.result.now) (omega arith)
    c.in_ok-number.ensures.value (c.as_slice.ensures.value ∙ c.in_ok-inside.ensures) c.in_ok-number.ensures.number c.module_at-own.ensures in
    rw e c.items.ensures.value

pub enter-returns-clause-kept : goal.enter-returns-clause-kept
enter-returns-clause-kept t c = on_ok_weaker c.items.result (λ k. keeps_on _ _ _ _ _ c.in_ok-number.ensures.number c.in_ok-number.ensures.kept k) c.items.ensures.kept

pub enter-returns-clause-more : goal.enter-returns-clause-more
enter-returns-clause-more t c = on_ok_weaker c.items.result (λ k. omega (arith, c.in_ok-number.ensures.more, k.grown)) c.items.ensures.kept

-- items

pub items-loop-one-init : goal.items-loop-one-init
items-loop-one-init t c = record { walked = refl; kept = keeps_itself _ _ c.requires.few c.requires.loops }

pub items-item-requires : goal.items-item-requires
items-item-requires t c = (
  search rules,
  (
    c.requires.ready,
    (
      each_here WellFormedItem plain_item c.args.list.now c.loop-one.one-index c.one-item.result c.requires.formed c.loop-one-test.true c.one-item.is,
      (each_here FitLiteralsItem plain_item c.args.list.now c.loop-one.one-index c.one-item.result c.requires.fit c.loop-one-test.true c.one-item.is, (omega (arith, c.requires.there, c.loop-one.invariant.kept.grown), (c.loop-one.invariant.kept.few, c.loop-one.invariant.kept.loops))),
    ),
  ),
)

pub items-loop-one-preserved : goal.items-loop-one-preserved
items-loop-one-preserved t c = record {
  walked = each_next plain_item (item (modules_of c.args.walk.now) c.args.walk.now.table c.args.above.now c.args.number (enter (modules_of c.args.walk.now) c.args.walk.now.table c.args.levels c.args.above.now)) c.args.list.now c.loop-one.one-index c.one-item.result (plain_walked c.loop-one.walked) (plain_walked c.item.new.walked) c.loop-one-test.true c.one-item.is c.in_ok-item.ensures.value ∙ c.loop-one.invariant.walked;
  kept = keeps_twice _ _ _ _ c.loop-one.invariant.kept c.in_ok-item.ensures.kept;
}

pub items-returns-in_err-item-clause-value : goal.items-returns-in_err-item-clause-value
items-returns-in_err-item-clause-value t c =
    let h = each_ends plain_item (item (modules_of c.args.walk.now) c.args.walk.now.table c.args.above.now c.args.number (enter (modules_of c.args.walk.now) c.args.walk.now.table c.args.levels c.args.above.now)) c.args.list.now c.loop-one.one-index c.one-item.result (plain_walked c.loop-one.walked) c.in_err-item.field-0.0 c.loop-one-test.true c.one-item.is c.in_err-item.ensures.value in
    refused c.from_residual.result _ _ c.in_err-item.field-0.0 c.from_residual.ensures.1 (rw c.loop-one.invariant.walked at h)

pub items-returns-clause-value : goal.items-returns-clause-value
items-returns-clause-value t c = sym c.loop-one.invariant.walked ∙ each_done _ _ _ _ _ c.loop-one-test.false

-- item

pub item-nets-requires-clause-formed : goal.item-nets-requires-clause-formed
unfolding WellFormedItem plain_item
item-nets-requires-clause-formed t c = let h = rw c.in-Nets.is at c.requires.formed in h.2

pub item-nets-requires-clause-fit : goal.item-nets-requires-clause-fit
unfolding FitLiteralsItem plain_item
item-nets-requires-clause-fit t c = let h = rw c.in-Nets.is at c.requires.fit in h.1

pub item-assigns-requires-clause-formed : goal.item-assigns-requires-clause-formed
unfolding WellFormedItem plain_item
item-assigns-requires-clause-formed t c = let h = rw c.in-Assigns.is at c.requires.formed in h.1

pub item-assigns-requires-clause-fit : goal.item-assigns-requires-clause-fit
unfolding FitLiteralsItem plain_item
item-assigns-requires-clause-fit t c = rw c.in-Assigns.is at c.requires.fit

pub item-always-requires-clause-formed : goal.item-always-requires-clause-formed
unfolding WellFormedItem plain_item
item-always-requires-clause-formed t c = let h = rw c.in-Always.is at c.requires.formed in h.1

pub item-always-requires-clause-fit : goal.item-always-requires-clause-fit
unfolding FitLiteralsItem plain_item
item-always-requires-clause-fit t c = let h = rw c.in-Always.is at c.requires.fit in h.1

pub item-initial-requires-clause-initial : goal.item-initial-requires-clause-initial
unfolding WellFormedItem plain_item
item-initial-requires-clause-initial t c = let h = rw c.in-Initial.is at c.requires.formed in h.0

pub item-initial-requires-clause-formed : goal.item-initial-requires-clause-formed
unfolding WellFormedItem plain_item
item-initial-requires-clause-formed t c = let h = rw c.in-Initial.is at c.requires.formed in h.1

pub item-initial-requires-clause-fit : goal.item-initial-requires-clause-fit
unfolding FitLiteralsItem plain_item
item-initial-requires-clause-fit t c = rw c.in-Initial.is at c.requires.fit

pub item-instances-requires : goal.item-instances-requires
unfolding WellFormedItem FitLiteralsItem plain_item
item-instances-requires t c =
    let h = rw c.in-Instances.is at c.requires.formed in
    let f = rw c.in-Instances.is at c.requires.fit in
    (search rules, (c.requires.ready, (table_if _ _ _ _ c.requires.ready.places c.place_of-owner.ensures, (h.2, (f.1, (c.requires.there, (c.requires.few, c.requires.loops)))))))

-- instances

pub instances-loop-one-init : goal.instances-loop-one-init
instances-loop-one-init t c = record { walked = refl; kept = keeps_itself _ _ c.requires.few c.requires.loops }

pub instances-instance-requires : goal.instances-instance-requires
instances-instance-requires t c = (
  search rules,
  (
    c.requires.ready,
    (
      c.requires.owner,
      (
        each_at WellFormedInstance plain_instance c.args.list.now c.loop-one.one-index _ c.requires.formed c.loop-one-test.true,
        (each_at FitLiteralsInstance plain_instance c.args.list.now c.loop-one.one-index _ c.requires.fit c.loop-one-test.true, (omega (arith, c.requires.there, c.loop-one.invariant.kept.grown), (c.loop-one.invariant.kept.few, c.loop-one.invariant.kept.loops))),
      ),
    ),
  ),
)

pub instances-loop-one-preserved : goal.instances-loop-one-preserved
instances-loop-one-preserved t c = record {
  walked = each_more plain_instance (instance_of (modules_of c.args.walk.now) c.args.above.now c.args.number (enter (modules_of c.args.walk.now) c.args.walk.now.table c.args.levels c.args.above.now) c.args.token (plain_overrides c.args.over.now) c.args.owner) c.args.list.now c.loop-one.one-index _ (plain_walked c.loop-one.walked) (plain_walked c.instance.new.walked) c.loop-one-test.true c.in_ok-instance.ensures.value ∙ c.loop-one.invariant.walked;
  kept = keeps_twice _ _ _ _ c.loop-one.invariant.kept c.in_ok-instance.ensures.kept;
}

pub instances-returns-in_err-instance-clause-value : goal.instances-returns-in_err-instance-clause-value
instances-returns-in_err-instance-clause-value t c =
    let h = each_stops plain_instance (instance_of (modules_of c.args.walk.now) c.args.above.now c.args.number (enter (modules_of c.args.walk.now) c.args.walk.now.table c.args.levels c.args.above.now) c.args.token (plain_overrides c.args.over.now) c.args.owner) c.args.list.now c.loop-one.one-index _ (plain_walked c.loop-one.walked) c.in_err-instance.field-0.0 c.loop-one-test.true c.in_err-instance.ensures.value in
    refused c.from_residual.result _ _ c.in_err-instance.field-0.0 c.from_residual.ensures.1 (rw c.loop-one.invariant.walked at h)

pub instances-returns-clause-value : goal.instances-returns-clause-value
instances-returns-clause-value t c = sym c.loop-one.invariant.walked ∙ each_done _ _ _ _ _ c.loop-one-test.false

-- instance

pub instance-returns-in-None-clause-value : goal.instance-returns-in-None-clause-value
instance-returns-in-None-clause-value t c = inr (instance_unknown (modules_of c.args.walk.now) c.args.above.now c.args.number (enter (modules_of c.args.walk.now) c.args.walk.now.table c.args.levels c.args.above.now) c.args.token (plain_overrides c.args.over.now) (plain_instance c.args.one.now) (plain_walked c.args.walked.now) c.args.owner c.in-None.is)

-- inside

pub inside-name_instance-requires-clause-connected : goal.inside-name_instance-requires-clause-connected
inside-name_instance-requires-clause-connected t c = rw c.names_of.ensures.value at c.in_ok-given.ensures.connected

pub inside-enter-requires : goal.inside-enter-requires
inside-enter-requires t c = (search rules, (c.requires.ready, (c.requires.owner, (c.in_ok-inner.ensures.kept.few, c.in_ok-inner.ensures.kept.loops))))

pub inside-joined-requires-clause-there : goal.inside-joined-requires-clause-there
inside-joined-requires-clause-there t c = omega (arith, c.requires.there, c.in_ok-inner.ensures.same, c.in_ok-enter.ensures.kept.grown)

pub inside-joined-requires-clause-inside : goal.inside-joined-requires-clause-inside
inside-joined-requires-clause-inside t c = omega (arith, c.in_ok-inner.ensures.number, c.in_ok-inner.ensures.same, c.in_ok-enter.ensures.more)

pub inside-joined-requires-clause-connected : goal.inside-joined-requires-clause-connected
inside-joined-requires-clause-connected t c = rw (c.in_ok-enter.ensures.kept.same c.args.number (omega (arith, c.requires.there, c.in_ok-inner.ensures.same))) c.in_ok-inner.ensures.connected

pub inside-returns-in_err-given-clause-value : goal.inside-returns-in_err-given-clause-value
inside-returns-in_err-given-clause-value t c = refused c.from_residual.result _ _ c.in_err-given.field-0.0 c.from_residual.ensures.1
    (inside_refuses (modules_of c.args.walk.now) c.args.above.now c.args.number (enter (modules_of c.args.walk.now) c.args.walk.now.table c.args.levels c.args.above.now) c.args.token (plain_overrides c.args.over.now) (plain_instance c.args.one.now) (plain_walked c.args.walked.now) c.args.owner (plain_module c.module_at-own.result.now) c.in_err-given.field-0.0 c.module_at-own.ensures (rw (c.names_of.ensures.value, c.loops_of.ensures) at c.in_err-given.ensures.value))

pub inside-returns-in_err-enter-clause-value : goal.inside-returns-in_err-enter-clause-value
unfolding plain_instance
inside-returns-in_err-enter-clause-value t c = refused c.from_residual-in_err-enter.result _ _ c.in_err-enter.field-0.0 c.from_residual-in_err-enter.ensures.1
    (inside_sub_refuses (modules_of c.args.walk.now) c.args.above.now c.args.number (enter (modules_of c.args.walk.now) c.args.walk.now.table c.args.levels c.args.above.now) c.args.token (plain_overrides c.args.over.now) (plain_instance c.args.one.now) (plain_walked c.args.walked.now) (plain_walked c.name_instance.new.walked) c.args.owner (plain_module c.module_at-own.result.now) c.in_ok-given.given c.in_err-enter.field-0.0 c.module_at-own.ensures
    (rw (c.names_of.ensures.value, c.loops_of.ensures) at c.in_ok-given.ensures.value) c.in_ok-inner.ensures.value c.in_err-enter.ensures.value)

pub inside-returns-clause-value : goal.inside-returns-clause-value
unfolding plain_instance
inside-returns-clause-value t c =
    inside_walks (modules_of c.args.walk.now) c.args.above.now c.args.number (enter (modules_of c.args.walk.now) c.args.walk.now.table c.args.levels c.args.above.now) c.args.token (plain_overrides c.args.over.now) (plain_instance c.args.one.now) (plain_walked c.args.walked.now) (plain_walked c.name_instance.new.walked) (plain_walked c.enter.new.walked) (plain_walked c.joined.new.walked) c.args.owner c.in_ok-inner.inner (plain_module c.module_at-own.result.now) c.in_ok-given.given
    c.module_at-own.ensures (rw (c.names_of.ensures.value, c.loops_of.ensures) at c.in_ok-given.ensures.value) c.in_ok-inner.ensures.value c.in_ok-enter.ensures.value c.in_ok-inner.ensures.number c.in_ok-joined.ensures.value

pub inside-returns-clause-kept : goal.inside-returns-clause-kept
inside-returns-clause-kept t c =
    keeps_twice c.args.number _ _ _ (keeps_twice c.args.number _ _ _ c.in_ok-inner.ensures.kept (keeps_fewer c.args.number _ _ _ (omega (arith, c.requires.there, c.in_ok-inner.ensures.same)) c.in_ok-enter.ensures.kept))
    (same_keeps c.args.number _ _ c.in_ok-enter.ensures.kept.few c.in_ok-enter.ensures.kept.loops c.in_ok-joined.ensures.same)
