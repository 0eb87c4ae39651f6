use Rattle.std.proofs.Common.{◌≡◌, Err, ◌∙◌, sym, ap, subst, rules}
use Rattle.rr_vcd_text.specs.Dump.{time_after}
use Rattle.rr_vcd_text.specs.Rooms.{number_at, is_within}
use Rattle.rr_vcd_text.specs.Steps.{tell}
use Rattle.rr_vcd_text.specs.View.{AreRooms, plain_told, Fails}
use Rattle.rr_vcd_text.proofs.Reading.{body_fails, body_done, body_found}
use Rattle.rr_vcd_text.proofs.body.Changes.next.Goals as goal

pub returns-in_default-clause-told : goal.returns-in_default-clause-told
returns-in_default-clause-told c = λ bytes d told now. body_done bytes d told c.args.self.now now c.in_default.ensures.word

pub returns-in_err-told-clause-told : goal.returns-in_err-told-clause-told
returns-in_err-told-clause-told c = λ bytes d told now.
    let e = ap (tell d.variables c.args.self.now.last) c.in-Some.ensures.word in
    let s = c.in_err-told.ensures.step d.variables (record { rooms = now.rooms.rooms; most = now.rooms.most }) in
    let f = body_fails bytes d told c.args.self.now now c.in_err-told.field-0.0 (subst (λ x. Fails x c.in_err-told.field-0.0) (sym e) s) in
    let q : c.from_residual.result ≡ Err c.in_err-told.field-0.0 = search rules in
    rw q f

pub returns-clause-told : goal.returns-clause-told
returns-clause-told c = λ bytes d told now.
    let e = ap (tell d.variables c.args.self.now.last) c.in-Some.ensures.word in
    let same = c.in_ok-told.ensures.same in
    let s = c.in_ok-told.ensures.step d.variables (record { rooms = now.rooms.rooms; most = now.rooms.most }) in
    body_found bytes d told c.args.self.now now _ (plain_told c.in_ok-told.told) (e ∙ s)
    (c.time_after-self.ensures ∙ ap (λ l. time_after l (plain_told c.in_ok-told.told)) same.last)
    (record { rooms = λ id. ap (number_at id) same.rooms ∙ now.rooms.rooms id; most = λ digits. ap (λ m. is_within m digits) same.most ∙ now.rooms.most digits })
