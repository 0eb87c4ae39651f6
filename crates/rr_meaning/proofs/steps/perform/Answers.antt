use Rattle.std.proofs.Common.{◌≡◌, ◌<◌, ◌∙◌, sym, ap, subst, get_or, length, arith}
use Rattle.std.proofs.lemmas.List.{length-map}
use Rattle.std.proofs.lemmas.Result.{on_ok_weaker}
use Rattle.rr_syntax.specs.View.{plain_statement}
use Rattle.rr_expr.specs.Scopes.{Names, env_of}
use Rattle.rr_flat.specs.Sound.{IsBlock, IsDriver}
use Rattle.rr_flat.specs.View.{Design, plain_block, plain_driver, plain_flat}
use Rattle.rr_flat.specs.Writers.{scope_at}
use Rattle.rr_cycle.specs.Exec.{executed}
use Rattle.rr_meaning.proofs.Scoping.{IsSound, scope_holds, scope_is, scope_read}
use Rattle.rr_meaning.proofs.Walking.{act_block, act_driver, act_wire, step_block, step_driver, step_wire}
use Rattle.rr_meaning.proofs.steps.perform.Goals as goal

pub index-requires : goal.index-requires
index-requires c =
    let l = step_driver (plain_flat c.args.flat.now) c.in-Driver.k (rw c.in-Driver.is at c.requires.step) in
    omega (arith, l, length-map c.args.flat.now.drivers plain_driver, ap (λ (d : Design). length d.drivers) c.flat.view_is, c.flat.inside.drivers.ok.0)

pub drive-requires-clause-driver : goal.drive-requires-clause-driver
drive-requires-clause-driver c =
    let d = c.args.flat.now in
    let f : IsSound d = subst IsSound c.flat.view_is c.flat.invariant in
    let l = step_driver (plain_flat d) c.in-Driver.k (rw c.in-Driver.is at c.requires.step) in
    let m : c.in-Driver.k < length d.drivers = omega (arith, l, length-map d.drivers plain_driver) in
    let x : c.index.result.now ≡ get_or d.drivers c.in-Driver.k c.index.result.now = c.index.ensures ∙ ap (λ (z : Design). get_or z.drivers c.in-Driver.k c.index.result.now) c.flat.view_is in
    subst (IsDriver d.signals d.scopes) (sym x) (f.drivers_in c.in-Driver.k c.index.result.now m)

pub index-requires-in-Wire : goal.index-requires-in-Wire
index-requires-in-Wire c =
    let l = step_wire (plain_flat c.args.flat.now) c.in-Wire.driver c.in-Wire.bit (rw c.in-Wire.is at c.requires.step) in
    omega (arith, l, length-map c.args.flat.now.drivers plain_driver, ap (λ (d : Design). length d.drivers) c.flat.view_is, c.flat.inside.drivers.ok.0)

pub wire-requires-clause-driver : goal.wire-requires-clause-driver
wire-requires-clause-driver c =
    let d = c.args.flat.now in
    let f : IsSound d = subst IsSound c.flat.view_is c.flat.invariant in
    let l = step_wire (plain_flat d) c.in-Wire.driver c.in-Wire.bit (rw c.in-Wire.is at c.requires.step) in
    let m : c.in-Wire.driver < length d.drivers = omega (arith, l, length-map d.drivers plain_driver) in
    let x : c.index-in-Wire.result.now ≡ get_or d.drivers c.in-Wire.driver c.index-in-Wire.result.now = c.index-in-Wire.ensures ∙ ap (λ (z : Design). get_or z.drivers c.in-Wire.driver c.index-in-Wire.result.now) c.flat.view_is in
    subst (IsDriver d.signals d.scopes) (sym x) (f.drivers_in c.in-Wire.driver c.index-in-Wire.result.now m)

pub index-block-requires : goal.index-block-requires
index-block-requires c =
    let l = step_block (plain_flat c.args.flat.now) c.in-Block.k (rw c.in-Block.is at c.requires.step) in
    omega (arith, l, length-map c.args.flat.now.combinational plain_block, ap (λ (d : Design). length d.combinational) c.flat.view_is, c.flat.inside.combinational.ok.0)

pub index-requires-in-Block : goal.index-requires-in-Block
index-requires-in-Block c =
    let d = c.args.flat.now in
    let f : IsSound d = subst IsSound c.flat.view_is c.flat.invariant in
    let l = step_block (plain_flat d) c.in-Block.k (rw c.in-Block.is at c.requires.step) in
    let m : c.in-Block.k < length d.combinational = omega (arith, l, length-map d.combinational plain_block) in
    let x : c.index-block.result.now ≡ get_or d.combinational c.in-Block.k c.index-block.result.now = c.index-block.ensures ∙ ap (λ (z : Design). get_or z.combinational c.in-Block.k c.index-block.result.now) c.flat.view_is in
    let b : IsBlock d.scopes c.index-block.result.now = subst (IsBlock d.scopes) (sym x) (f.combinational_in c.in-Block.k c.index-block.result.now m) in
    omega (arith, b.there, ap (λ (z : Design). length z.scopes) c.flat.view_is, c.flat.inside.scopes.ok.0)

pub execute-requires-clause-shaped : goal.execute-requires-clause-shaped
execute-requires-clause-shaped c =
    let d = c.args.flat.now in
    let f : IsSound d = subst IsSound c.flat.view_is c.flat.invariant in
    let l = step_block (plain_flat d) c.in-Block.k (rw c.in-Block.is at c.requires.step) in
    let m : c.in-Block.k < length d.combinational = omega (arith, l, length-map d.combinational plain_block) in
    let x : c.index-block.result.now ≡ get_or d.combinational c.in-Block.k c.index-block.result.now = c.index-block.ensures ∙ ap (λ (z : Design). get_or z.combinational c.in-Block.k c.index-block.result.now) c.flat.view_is in
    let b : IsBlock d.scopes c.index-block.result.now = subst (IsBlock d.scopes) (sym x) (f.combinational_in c.in-Block.k c.index-block.result.now m) in
    let y : c.index-in-Block.result.now ≡ scope_at (plain_flat d) c.index-block.result.now.scope = scope_read d c.index-block.result.now.scope c.index-in-Block.result.now c.flat.inside.scopes.items b.there c.index-in-Block.ensures (ap (λ (z : Design). z.scopes) c.flat.view_is) in
    rw y b.body.shaped

pub execute-requires-clause-holds : goal.execute-requires-clause-holds
execute-requires-clause-holds c =
    let d = c.args.flat.now in
    let f : IsSound d = subst IsSound c.flat.view_is c.flat.invariant in
    let l = step_block (plain_flat d) c.in-Block.k (rw c.in-Block.is at c.requires.step) in
    let m : c.in-Block.k < length d.combinational = omega (arith, l, length-map d.combinational plain_block) in
    let x : c.index-block.result.now ≡ get_or d.combinational c.in-Block.k c.index-block.result.now = c.index-block.ensures ∙ ap (λ (z : Design). get_or z.combinational c.in-Block.k c.index-block.result.now) c.flat.view_is in
    let b : IsBlock d.scopes c.index-block.result.now = subst (IsBlock d.scopes) (sym x) (f.combinational_in c.in-Block.k c.index-block.result.now m) in
    let y : c.index-in-Block.result.now ≡ scope_at (plain_flat d) c.index-block.result.now.scope = scope_read d c.index-block.result.now.scope c.index-in-Block.result.now c.flat.inside.scopes.items b.there c.index-in-Block.ensures (ap (λ (z : Design). z.scopes) c.flat.view_is) in
    rw c.requires.count (scope_holds d c.index-in-Block.result.now f (scope_is d c.index-block.result.now.scope c.index-in-Block.result.now f b.there y))

pub returns-in-Driver-clause-env : goal.returns-in-Driver-clause-env
returns-in-Driver-clause-env c =
    let d = c.args.flat.now in
    let l = step_driver (plain_flat d) c.in-Driver.k (rw c.in-Driver.is at c.requires.step) in
    let m : c.in-Driver.k < length d.drivers = omega (arith, l, length-map d.drivers plain_driver) in
    let x : c.index.result.now ≡ get_or d.drivers c.in-Driver.k c.index.result.now = c.index.ensures ∙ ap (λ (z : Design). get_or z.drivers c.in-Driver.k c.index.result.now) c.flat.view_is in
    on_ok_weaker c.drive.result (λ e. rw c.in-Driver.is (e ∙ act_driver d c.in-Driver.k c.index.result.now c.index.result.now (env_of c.args.machine.now.env.values.items) m x)) c.drive.ensures.env

pub returns-in-Wire-clause-env : goal.returns-in-Wire-clause-env
returns-in-Wire-clause-env c =
    let d = c.args.flat.now in
    let l = step_wire (plain_flat d) c.in-Wire.driver c.in-Wire.bit (rw c.in-Wire.is at c.requires.step) in
    let m : c.in-Wire.driver < length d.drivers = omega (arith, l, length-map d.drivers plain_driver) in
    let x : c.index-in-Wire.result.now ≡ get_or d.drivers c.in-Wire.driver c.index-in-Wire.result.now = c.index-in-Wire.ensures ∙ ap (λ (z : Design). get_or z.drivers c.in-Wire.driver c.index-in-Wire.result.now) c.flat.view_is in
    on_ok_weaker c.wire.result (λ e. rw c.in-Wire.is (e ∙ act_wire d c.in-Wire.driver c.in-Wire.bit c.index-in-Wire.result.now c.index-in-Wire.result.now (env_of c.args.machine.now.env.values.items) m x)) c.wire.ensures.env

pub returns-in-Block-clause-env : goal.returns-in-Block-clause-env
returns-in-Block-clause-env c =
    let d = c.args.flat.now in
    let f : IsSound d = subst IsSound c.flat.view_is c.flat.invariant in
    let l = step_block (plain_flat d) c.in-Block.k (rw c.in-Block.is at c.requires.step) in
    let m : c.in-Block.k < length d.combinational = omega (arith, l, length-map d.combinational plain_block) in
    let x : c.index-block.result.now ≡ get_or d.combinational c.in-Block.k c.index-block.result.now = c.index-block.ensures ∙ ap (λ (z : Design). get_or z.combinational c.in-Block.k c.index-block.result.now) c.flat.view_is in
    let b : IsBlock d.scopes c.index-block.result.now = subst (IsBlock d.scopes) (sym x) (f.combinational_in c.in-Block.k c.index-block.result.now m) in
    let y : c.index-in-Block.result.now ≡ scope_at (plain_flat d) c.index-block.result.now.scope = scope_read d c.index-block.result.now.scope c.index-in-Block.result.now c.flat.inside.scopes.items b.there c.index-in-Block.ensures (ap (λ (z : Design). z.scopes) c.flat.view_is) in
    on_ok_weaker c.execute.result
    (λ e. rw c.in-Block.is
    (e ∙ ap (λ (s : Names). executed s (plain_statement c.index-block.result.now.body.now) (env_of c.args.machine.now.env.values.items)) y
    ∙ act_block d c.in-Block.k c.index-block.result.now c.index-block.result.now (env_of c.args.machine.now.env.values.items) m x))
    c.execute.ensures.env
