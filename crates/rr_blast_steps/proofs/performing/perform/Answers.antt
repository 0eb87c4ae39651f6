use Rattle.std.proofs.Common.{◌≡◌, ◌∙◌, sym, ap, subst, arith, ◌<◌, length, get_or}
use Rattle.std.proofs.lemmas.List.{length-map}
use Rattle.rr_flat.specs.Sound.{IsDriver}
use Rattle.rr_flat.specs.View.{Design, plain_block, plain_driver, plain_flat}
use Rattle.rr_signal_wires.specs.Words.{carried}
use Rattle.rr_blast_terms.specs.Choosing.{picks_of}
use Rattle.rr_meaning.proofs.Scoping.{IsSound}
use Rattle.rr_meaning.proofs.Walking.{step_block, step_driver, step_wire}
use Rattle.rr_blast_steps.proofs.StepLaws.{act_driver, act_wire}
use Rattle.rr_blast_steps.proofs.performing.perform.Goals as goal

pub index-driver-requires : goal.index-driver-requires
index-driver-requires c =
    let d : Design = c.args.flat.now in
    let f : IsSound d = subst IsSound c.flat.view_is c.flat.invariant in
    let l = step_driver (plain_flat d) c.in-Driver.k (rw c.in-Driver.is at c.requires.step) in
    let m : c.in-Driver.k < length d.drivers = omega (arith, l, length-map d.drivers plain_driver) in
    omega (arith, m, ap (λ (z : Design). length z.drivers) c.flat.view_is, c.flat.inside.drivers.ok.0)

pub drive-requires-clause-driver : goal.drive-requires-clause-driver
drive-requires-clause-driver c =
    let d : Design = c.args.flat.now in
    let f : IsSound d = subst IsSound c.flat.view_is c.flat.invariant in
    let l = step_driver (plain_flat d) c.in-Driver.k (rw c.in-Driver.is at c.requires.step) in
    let m : c.in-Driver.k < length d.drivers = omega (arith, l, length-map d.drivers plain_driver) in
    let x : c.index-driver.result.now ≡ get_or d.drivers c.in-Driver.k c.index-driver.result.now = c.index-driver.ensures ∙ ap (λ (z : Design). get_or z.drivers c.in-Driver.k c.index-driver.result.now) c.flat.view_is in
    subst (IsDriver d.signals d.scopes) (sym x) (f.drivers_in c.in-Driver.k c.index-driver.result.now m)

pub index-driver-requires-in-Wire : goal.index-driver-requires-in-Wire
index-driver-requires-in-Wire c =
    let d : Design = c.args.flat.now in
    let f : IsSound d = subst IsSound c.flat.view_is c.flat.invariant in
    let l = step_wire (plain_flat d) c.in-Wire.driver c.in-Wire.bit (rw c.in-Wire.is at c.requires.step) in
    let m : c.in-Wire.driver < length d.drivers = omega (arith, l, length-map d.drivers plain_driver) in
    omega (arith, m, ap (λ (z : Design). length z.drivers) c.flat.view_is, c.flat.inside.drivers.ok.0)

pub wire-requires-clause-driver : goal.wire-requires-clause-driver
wire-requires-clause-driver c =
    let d : Design = c.args.flat.now in
    let f : IsSound d = subst IsSound c.flat.view_is c.flat.invariant in
    let l = step_wire (plain_flat d) c.in-Wire.driver c.in-Wire.bit (rw c.in-Wire.is at c.requires.step) in
    let m : c.in-Wire.driver < length d.drivers = omega (arith, l, length-map d.drivers plain_driver) in
    let x : c.index-driver-in-Wire.result.now ≡ get_or d.drivers c.in-Wire.driver c.index-driver-in-Wire.result.now = c.index-driver-in-Wire.ensures ∙ ap (λ (z : Design). get_or z.drivers c.in-Wire.driver c.index-driver-in-Wire.result.now) c.flat.view_is in
    subst (IsDriver d.signals d.scopes) (sym x) (f.drivers_in c.in-Wire.driver c.index-driver-in-Wire.result.now m)

pub perform_block-requires-clause-number : goal.perform_block-requires-clause-number
perform_block-requires-clause-number c =
    let d : Design = c.args.flat.now in
    omega (arith, step_block (plain_flat d) c.in-Block.k (rw c.in-Block.is at c.requires.step), length-map d.combinational plain_block)

pub returns-in_ok-drive-in-Driver-clause-env : goal.returns-in_ok-drive-in-Driver-clause-env
returns-in_ok-drive-in-Driver-clause-env c = λ env.
    let d : Design = c.args.flat.now in
    let f : IsSound d = subst IsSound c.flat.view_is c.flat.invariant in
    let l = step_driver (plain_flat d) c.in-Driver.k (rw c.in-Driver.is at c.requires.step) in
    let m : c.in-Driver.k < length d.drivers = omega (arith, l, length-map d.drivers plain_driver) in
    let x : c.index-driver.result.now ≡ get_or d.drivers c.in-Driver.k c.index-driver.result.now = c.index-driver.ensures ∙ ap (λ (z : Design). get_or z.drivers c.in-Driver.k c.index-driver.result.now) c.flat.view_is in
    rw c.in-Driver.is (c.in_ok-drive-in-Driver.ensures.value env ∙ act_driver d c.args.choice.now.sites.now (picks_of c.args.b.now env c.args.choice.now) c.in-Driver.k c.index-driver.result.now (carried c.args.b.now env c.args.machine.now.now.items) m x)

pub returns-in_ok-wire-in-Wire-clause-env : goal.returns-in_ok-wire-in-Wire-clause-env
returns-in_ok-wire-in-Wire-clause-env c = λ env.
    let d : Design = c.args.flat.now in
    let f : IsSound d = subst IsSound c.flat.view_is c.flat.invariant in
    let l = step_wire (plain_flat d) c.in-Wire.driver c.in-Wire.bit (rw c.in-Wire.is at c.requires.step) in
    let m : c.in-Wire.driver < length d.drivers = omega (arith, l, length-map d.drivers plain_driver) in
    let x : c.index-driver-in-Wire.result.now ≡ get_or d.drivers c.in-Wire.driver c.index-driver-in-Wire.result.now = c.index-driver-in-Wire.ensures ∙ ap (λ (z : Design). get_or z.drivers c.in-Wire.driver c.index-driver-in-Wire.result.now) c.flat.view_is in
    rw c.in-Wire.is (c.in_ok-wire-in-Wire.ensures.value env ∙ act_wire d c.args.choice.now.sites.now (picks_of c.args.b.now env c.args.choice.now) c.in-Wire.driver c.in-Wire.bit c.index-driver-in-Wire.result.now (carried c.args.b.now env c.args.machine.now.now.items) m x)
