use Rattle.std.proofs.Common.{◌≡◌, ◌∙◌, sym, ap, ℕ, List, map, Err, refl, rules}
use Rattle.rr_vcd_text.specs.Rooms.{number_at, room_of}
use Rattle.rr_vcd_text.specs.View.{plain_variable}
use Rattle.rr_vcd_text.proofs.Reading.{heading, reading}
use Rattle.rr_vcd_text.proofs.head.read_head.Goals as goal

pub returns-in_err-finish : goal.returns-in_err-finish
returns-in_err-finish c =
    let h = heading c.args.bytes.now (record { words = c.of.result; declared = record { scopes = 0; opened = c.new.result; variables = c.new-2.result } }) (rw (c.new.ensures.items, c.new-2.ensures.items) refl) c.of.ensures.words c.of.ensures.last in
    let f = c.in_err-finish.ensures c.args.bytes.now h in
    let q : c.from_residual.result ≡ Err c.in_err-finish.field-0.0 = search rules in
    rw q f

pub returns : goal.returns
returns c =
    let h = heading c.args.bytes.now (record { words = c.of.result; declared = record { scopes = 0; opened = c.new.result; variables = c.new-2.result } }) (rw (c.new.ensures.items, c.new-2.ensures.items) refl) c.of.ensures.words c.of.ensures.last in
    let headed = c.in_ok-finish.ensures c.args.bytes.now h in
    let sizes : (t : List ℕ) → number_at t c.in_ok-rooms.rooms ≡ room_of (map plain_variable c.finish.new.self.declared.variables.items) t =
    λ t. c.in_ok-rooms.ensures t ∙ ap (λ x. room_of (map plain_variable x) t) c.as_slice.ensures.value in
    reading c.args.bytes.now c.finish.new.self _ headed refl refl
    (record { rooms = sizes; most = c.most-most.ensures _ sizes (sym (ap (map plain_variable) c.as_slice-2.ensures.value)) })
