-- The ports of a flat design and its tables, its signals' token numbers aside.
use Rattle.std.proofs.Common.{◌≡◌, ◌∙◌, ℕ, List, map, sym, ap, subst, Bool, Option, option_map, Some, None, refl}
use Rattle.rr_flat.specs.Inputs.{row_inputs}
use Rattle.rr_flat.specs.Plain.{Flat}
use Rattle.rr_flat.specs.Signals.{Signal, signal_at}
use Rattle.rr_token_numbers.specs.Bare.{IsSameFlat, bare_flat, bare_signal}
use Rattle.rr_token_numbers.proofs.Tables.{signal_at-bare}
use Rattle.rr_choice.specs.declared.pick.Pick.{Pick}
use Rattle.rr_choice.specs.Sites.{Site}
use Rattle.rr_flat_instance.specs.Flats.{instance_flat}
use Rattle.rr_trace.specs.Tables.{Table, table_of}
use Rattle.rr_trace.specs.Tops.{name_of, port_of, ports_of}
use Rattle.rr_vcd.specs.Sampled.{IsSampled, Samples}
use Rattle.rr_vcd.specs.Tops as vcd
use Rattle.rr_run.specs.declared.rows.TableKind.{TableKind}
use Rattle.rr_run.specs.declared.rows.TableKind.TheVariants as kind
use Rattle.rr_run.specs.Rows.{ReadsTable}

signal_bare : (f : Flat) (id : ℕ) → signal_at (bare_flat f).signals id ≡ bare_signal (signal_at f.signals id)
unfolding bare_flat
signal_bare f id = signal_at-bare f.signals id

name_bare : (f : Flat) (id : ℕ) → name_of (bare_flat f) id ≡ name_of f id
name_bare f id = ap (λ (s : Signal). s.name) (signal_bare f id)

port_bare : (f : Flat) (id : ℕ) → port_of (bare_flat f) id ≡ port_of f id
port_bare f id = ap (λ (s : Signal). record { id = id; name = s.name; width = s.width }) (signal_bare f id)

clock_bare : (f : Flat) (clock : Option ℕ) → option_map (name_of (bare_flat f)) clock ≡ option_map (name_of f) clock
clock_bare f (Some id) = ap (λ n. Some n) (name_bare f id)
clock_bare f None = refl

ports_bare : (f : Flat) (clock : Option ℕ) → ports_of (bare_flat f) clock ≡ ports_of f clock
unfolding bare_flat
ports_bare f clock = λ i. record {
  clock = clock_bare f clock i;
  inputs = map (λ id. port_bare f id i) (row_inputs clock f.inputs);
  outputs = map (λ id. port_bare f id i) f.outputs;
}

same_ports : (f g : Flat) (clock : Option ℕ) → IsSameFlat f g → ports_of f clock ≡ ports_of g clock
same_ports f g clock same = sym (ports_bare f clock) ∙ (ap (λ (h : Flat). ports_of h clock) same ∙ ports_bare g clock)

-- .. and those for which a dump is sampled
place_bare : (f : Flat) (id : ℕ) → vcd.port_of (bare_flat f) id ≡ vcd.port_of f id
place_bare f id = ap (λ (s : Signal). record { name = s.name; width = s.width }) (signal_bare f id)

clock_port_bare : (f : Flat) (clock : Option ℕ) (rising : Bool) → option_map (vcd.clock_of (bare_flat f) rising) clock ≡ option_map (vcd.clock_of f rising) clock
clock_port_bare f (Some id) rising = ap (λ p. Some (record { port = p; rising = rising })) (place_bare f id)
clock_port_bare f None rising = refl

top_bare : (f : Flat) (clock : Option ℕ) (rising : Bool) → vcd.top_of (bare_flat f) clock rising ≡ vcd.top_of f clock rising
unfolding bare_flat
top_bare f clock rising = λ i. record {
  every = map (λ id. place_bare f id i) f.inputs;
  clock = clock_port_bare f clock rising i;
  inputs = map (λ id. place_bare f id i) (row_inputs clock f.inputs);
  outputs = map (λ id. place_bare f id i) f.outputs;
}

same_top : (f g : Flat) (clock : Option ℕ) (rising : Bool) → IsSameFlat f g → vcd.top_of f clock rising ≡ vcd.top_of g clock rising
same_top f g clock rising same = sym (top_bare f clock rising) ∙ (ap (λ (h : Flat). vcd.top_of h clock rising) same ∙ top_bare g clock rising)

-- the rows of a dump are those for its ports
resampled : (f g : Flat) (clock : Option ℕ) (rising : Bool) (bytes : List ℕ) (rows : Table) → vcd.top_of f clock rising ≡ vcd.top_of g clock rising → IsSampled f clock rising bytes rows → IsSampled g clock rising bytes rows
resampled f g clock rising bytes rows e s = record { rows = s.rows; samples = subst (λ (t : vcd.Top). Samples t bytes s.rows) e s.samples; few = s.few; is = s.is }

pub same_reading : (kind : TableKind) (f g : Flat) (clock : Option ℕ) (rising : Bool) (bytes : List ℕ) (rows : Table) → IsSameFlat f g → ReadsTable kind f clock rising bytes rows → ReadsTable kind g clock rising bytes rows
same_reading kind.Csv f g clock rising bytes rows same read = ap (λ p. table_of p bytes) (sym (same_ports f g clock same)) ∙ read
same_reading kind.Vcd f g clock rising bytes rows same read = resampled f g clock rising bytes rows (same_top f g clock rising same) read

-- an instance keeps them
pub instance_reading : (kind : TableKind) (flat : Flat) (ss : List Site) (ps : List Pick) (clock : Option ℕ) (rising : Bool) (bytes : List ℕ) (rows : Table) →
    ReadsTable kind flat clock rising bytes rows → ReadsTable kind (instance_flat ss ps flat) clock rising bytes rows
unfolding instance_flat
instance_reading kind.Csv flat ss ps clock rising bytes rows read = read
instance_reading kind.Vcd flat ss ps clock rising bytes rows read = resampled flat (instance_flat ss ps flat) clock rising bytes rows refl read
