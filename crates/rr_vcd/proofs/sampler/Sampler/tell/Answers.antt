use Rattle.std.proofs.Common.{ap, refl}
use Rattle.rr_vcd_text.specs.View.{plain_told}
use Rattle.rr_vcd_text.specs.Dump.{Nothing, Change}
use Rattle.rr_vcd.specs.View.{earlier}
use Rattle.rr_vcd.proofs.Slotting.{slots_still, still_watched}
use Rattle.rr_vcd.proofs.Keeping.{told_off, told_ends, told_still}
use Rattle.rr_vcd.proofs.sampler.Sampler.tell.Goals as goal

pub returns-then-self : goal.returns-then-self
returns-then-self c = λ top d s before h. told_off top d s before _ c.args.self.now h c.if-self.true

pub returns-in-Nothing : goal.returns-in-Nothing
returns-in-Nothing c = λ top d s before h.
    let x = c.args.self.now in
    rw (ap plain_told c.in-Nothing.is) (told_still top d s before Nothing x x h c.if-self.false refl refl refl refl refl refl refl refl h.watched (λ now. slots_still (earlier before) before x.moment x.slots Nothing (λ id. refl) now))

pub returns-in_ok-begin-in-Moment : goal.returns-in_ok-begin-in-Moment
returns-in_ok-begin-in-Moment c = λ top d s before h. rw (ap plain_told c.in-Moment.is) (c.in_ok-begin-in-Moment.ensures top d s before c.in-Moment.field-0 h c.if-self.false)

pub returns-in_ok-change-in-Change : goal.returns-in_ok-change-in-Change
returns-in_ok-change-in-Change c = λ top d s before h.
    let x = c.args.self.now in
    rw (ap plain_told c.in-Change.is) (told_still top d s before (Change c.in-Change.id.now c.in-Change.digits.now) x _ h c.if-self.false refl refl refl refl refl refl refl refl
    (still_watched x.slots c.change.new.self x.probes c.in_ok-change-in-Change.ensures.same h.watched) (λ now. c.in_ok-change-in-Change.ensures.slots (earlier before) before now))

pub returns-in-Off : goal.returns-in-Off
returns-in-Off c = λ top d s before h. rw (ap plain_told c.in-Off.is) (told_ends top d s before c.args.self.now _ h c.if-self.false refl refl refl refl refl)
