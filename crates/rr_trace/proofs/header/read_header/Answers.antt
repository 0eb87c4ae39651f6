use Rattle.std.proofs.Common.{◌≡◌, ◌∙◌, ◌≤◌, ◌^◌, ◌++◌, [], All, length, map, sym, ap, rules, arith}
use Rattle.std.proofs.lemmas.List.{length-map}
use Rattle.std.proofs.lemmas.List.Elements.{All-append, All-map}
use Rattle.csv.specs.Records.{fields_of}
use Rattle.rr_trace.specs.Columns.{Port, trimmed}
use Rattle.rr_trace.specs.View.{IsWidth, plain_port, plain_ports}
use Rattle.rr_trace.proofs.Headers.{columns_sound, inputs_sound, outputs_sound}
use Rattle.rr_trace.proofs.header.read_header.Goals as goal

pub returns-clause-sound : goal.returns-clause-sound
returns-clause-sound c =
    let names = map trimmed (fields_of c.args.fields.now) in
    let p = plain_ports c.args.ports.now in
    let wide : All (λ (x : Port). IsWidth x.width) (p.inputs ++ p.outputs) =
    All-append (λ (x : Port). IsWidth x.width) p.inputs p.outputs (All-map (λ (x : Port). IsWidth x.width) plain_port c.args.ports.now.inputs.items c.requires.inputs) (All-map (λ (x : Port). IsWidth x.width) plain_port c.args.ports.now.outputs.items c.requires.outputs) in
    let sound = columns_sound p [] names c.in_ok-columns.columns.widths.items wide c.in_ok-columns.ensures.widths in
    record {
      few = let n = sound.1 ∙ length-map (fields_of c.args.fields.now) trimmed in let l = c.in_ok-columns.ensures.few in omega (arith, n, l);
      widths = sound.0;
      inputs = rw sound.1 (inputs_sound p names p.inputs _ (c.in_ok-inputs.ensures names c.in_ok-columns.ensures.numbers));
      outputs = rw (c.in_ok-outputs.ensures names c.in_ok-columns.ensures.numbers, sound.1) (outputs_sound p names p.outputs);
    }

pub returns-clause-count : goal.returns-clause-count
returns-clause-count c =
    let names = map trimmed (fields_of c.args.fields.now) in
    let p = plain_ports c.args.ports.now in
    let wide : All (λ (x : Port). IsWidth x.width) (p.inputs ++ p.outputs) =
    All-append (λ (x : Port). IsWidth x.width) p.inputs p.outputs (All-map (λ (x : Port). IsWidth x.width) plain_port c.args.ports.now.inputs.items c.requires.inputs) (All-map (λ (x : Port). IsWidth x.width) plain_port c.args.ports.now.outputs.items c.requires.outputs) in
    (columns_sound p [] names c.in_ok-columns.columns.widths.items wide c.in_ok-columns.ensures.widths).1 ∙ length-map (fields_of c.args.fields.now) trimmed
