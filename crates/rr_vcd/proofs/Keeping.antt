-- Rows that are kept, and what a sampler was told.
use Rattle.std.proofs.Common.{◌≡◌, ◌∙◌, sym, ℕ, ◌+◌, ◌-◌, ◌<◌, ◌≤◌, Bool, true, false, not, ◌&&◌, ◌||◌, if◌then◌else◌, List, [], ◌∷◌, ◌++◌, length, map, Option, Some, None, option_map, refl, ap, subst, arith, nat_lt, nat_le, append-nil}
use Rattle.std.specs.List.{list_any}
use Rattle.std.specs.Prelude.{Vec, IfSome}
use Rattle.std.specs.declared.alloc.Global.{Global}
use Rattle.std.proofs.lemmas.Bool.Decides.{nat_tests}
use Rattle.std.proofs.lemmas.List.{length-append, length-map, map-append}
use Rattle.rr_vcd_text.specs.Dump.{Declared, Told, Moment, Off}
use Rattle.rr_trace.specs.declared.cell.Cell.{Cell}
use Rattle.rr_trace.specs.declared.table.Table.{Table}
use Rattle.rr_trace.specs.Rows.{Row}
use Rattle.rr_vcd.specs.declared.probes.ClockProbe.{ClockProbe}
use Rattle.rr_vcd.specs.declared.probes.Probes.{Probes}
use Rattle.rr_vcd.specs.declared.sampler.Sampler.{Sampler}
use Rattle.rr_vcd.specs.declared.slots.Slot.{Slot}
use Rattle.rr_vcd.specs.Tops.{Top, Clock, Port}
use Rattle.rr_vcd.specs.Moments.{is_moment, is_off, moments, up_to, valued}
use Rattle.rr_vcd.specs.Scopes.{id_in}
use Rattle.rr_vcd.specs.Sampled.{cell_by, cell_in, row_behind, goes_over, is_level, rows_of}
use Rattle.rr_vcd.specs.View.{plain_probe, probe_in, plain_clock_probe, clock_in, cells_by, probe_row, probe_goes_over, earlier, AreProbes, AreWatched, AreSlots, AreCurrent, AreKept, HasRows, IsTold, IsWatched}
use Rattle.rr_vcd.proofs.Telling.{moments_more, off_more}
use Rattle.rr_vcd.proofs.Sampling.{close_all, close_one, close_first, ended, ended_off, ended_is, ended_ends, ended_same, ended_time, valued_off, valued_all, valued_none, ended_none, earlier_first, earlier_is, earlier_same, earlier_time}
use Rattle.rr_vcd.proofs.Slotting.{slots_still, slots_begin}

-- the rows of a table

longer : (rows more : List Row) → 65536 < length rows → 65536 < length (rows ++ more)
longer rows more l = let e = length-append rows more in omega arith

pub kept_full : (rows more : List Row) (full : Bool) (table : Table) → full ≡ true → AreKept rows full table → AreKept (rows ++ more) full table
unfolding AreKept
kept_full rows more true table e l = longer rows more l
kept_full rows more false table e l = cc

pub kept_is : (rows other : List Row) (full : Bool) (table : Table) → rows ≡ other → AreKept rows full table → AreKept other full table
kept_is rows other full table e h = subst (λ x. AreKept x full table) e h

pub kept_rows : (rows : List Row) (full : Bool) (table : Table) → full ≡ false → AreKept rows full table → HasRows rows table
unfolding AreKept
kept_rows rows true table e h = cc
kept_rows rows false table e h = h

pub kept_many : (rows : List Row) (full : Bool) (table : Table) → full ≡ true → AreKept rows full table → 65536 < length rows
unfolding AreKept
kept_many rows true table e h = h
kept_many rows false table e h = cc

pub rows_kept : (rows : List Row) (full : Bool) (table : Table) → full ≡ false → HasRows rows table → AreKept rows full table
unfolding AreKept
rows_kept rows true table e h = cc
rows_kept rows false table e h = h

row_count : (rows : List Row) (table : Table) → HasRows rows table → length table.inputs.items ≡ length rows
row_count rows table h = sym (length-map table.inputs.items (λ v. v.items)) ∙ (ap (λ t. length t.inputs) h.1 ∙ length-map rows (λ x. x.inputs))

-- one row past the limit
pub push_full : (rows : List Row) (row : Row) (full : Bool) (old new : Table) → full ≡ true → length old.inputs.items ≡ 65536 → HasRows rows old → AreKept (rows ++ row ∷ []) full new
unfolding AreKept
push_full rows row false old new f e h = cc
push_full rows row true old new f e h = let c = row_count rows old h in let l = length-append rows (row ∷ []) in omega arith

-- one row more
pub push_row : (rows : List Row) (row : Row) (full : Bool) (old new : Table) (inputs : Vec ℕ Global) (expected : Vec Cell Global) → full ≡ false → (length old.inputs.items ≡ 65536 → ⊥) → HasRows rows old
    → new.inputs.items ≡ old.inputs.items ++ inputs ∷ [] → new.expected.items ≡ old.expected.items ++ expected ∷ [] → inputs.items ≡ row.inputs → expected.items ≡ row.expected → AreKept (rows ++ row ∷ []) full new
push_row rows row full old new inputs expected f other h a b p q =
    let c = row_count rows old h in
    let few = h.0 in
    let l = length-append rows (row ∷ []) in
    let one : map (λ v. v.items) new.inputs.items ≡ map (λ x. x.inputs) (rows ++ row ∷ []) =
    ap (map (λ v. v.items)) a ∙ (map-append (λ v. v.items) old.inputs.items (inputs ∷ []) ∙ (ap (λ xs. xs ++ inputs.items ∷ []) (ap (λ t. t.inputs) h.1)
    ∙ (ap (λ x. map (λ y. y.inputs) rows ++ x ∷ []) p ∙ sym (map-append (λ y. y.inputs) rows (row ∷ []))))) in
    let two : map (λ v. v.items) new.expected.items ≡ map (λ x. x.expected) (rows ++ row ∷ []) =
    ap (map (λ v. v.items)) b ∙ (map-append (λ v. v.items) old.expected.items (expected ∷ []) ∙ (ap (λ xs. xs ++ expected.items ∷ []) (ap (λ t. t.expected) h.1)
    ∙ (ap (λ x. map (λ y. y.expected) rows ++ x ∷ []) q ∙ sym (map-append (λ y. y.expected) rows (row ∷ []))))) in
    rows_kept (rows ++ row ∷ []) full new f (omega arith, rw (one, two) refl)

pub watched_clock : (slots : List (List ℕ × Slot)) (o : Option ClockProbe) (c : ClockProbe) → o ≡ Some c → IfSome o (λ y. IsWatched slots (plain_probe y.probe)) → IsWatched slots (plain_probe c.probe)
watched_clock slots None c e h = cc
watched_clock slots (Some y) c e h = let same : y ≡ c = cc in subst (λ z. IsWatched slots (plain_probe z.probe)) same h

-- the ports' rows

module _ (top : Top) (d : Declared) (s : ℕ) where
  cells_are : (ps : List Port) (told : List Told) → cells_by (map (probe_in d s) ps) told ≡ map (cell_in d s told) ps
  cells_are [] told = refl
  cells_are (p ∷ ps) told = ap (λ xs. cell_in d s told p ∷ xs) (cells_are ps told)

  values_are : (ps : List Port) (told : List Told) → map (λ c. c.value) (cells_by (map (probe_in d s) ps) told) ≡ map (λ p. (cell_in d s told p).value) ps
  values_are [] told = refl
  values_are (p ∷ ps) told = ap (λ xs. (cell_in d s told p).value ∷ xs) (values_are ps told)

  pub row_is : (x : Probes) (told : List Told) → AreProbes top d s x → probe_row x told ≡ row_behind top d s told
  row_is x told h =
      let i = ap (λ xs. map (λ c. c.value) (cells_by xs told)) h.inputs ∙ values_are top.inputs told in
      let o = ap (λ xs. cells_by xs told) h.outputs ∙ cells_are top.outputs told in
      rw (i, o) refl

  -- what the end of a moment adds
  abbrev pub closing : Option Clock → List Told → List Row
  closing None told = row_behind top d s told ∷ []
  closing (Some clock) told = if goes_over d s clock (earlier told) told then row_behind top d s (earlier told) ∷ [] else []

  none_before : (w : ℕ) (id : Option (List ℕ)) (high : Bool) → is_level high (cell_by w id []) ≡ false
  none_before w None high = refl
  none_before w (Some id) high = refl

  first_closing : (told : List Told) (clock : Clock) → moments told ≤ 1 → closing (Some clock) told ≡ []
  first_closing told clock l =
      let e = earlier_first told l in
      ap (λ x. if goes_over d s clock x told then row_behind top d s x ∷ [] else []) e
      ∙ ap (λ b. if b && is_level clock.rising (cell_in d s told clock.port) then row_behind top d s [] ∷ [] else []) (none_before clock.port.width (id_in s clock.port d.variables) (not clock.rising))

  pub close_any : (told : List Told) → 0 < moments told → list_any is_off told ≡ false → rows_of top d s told (moments told) ≡ ended top d s told ++ closing top.clock told
  close_any told l off = go top.clock refl
    where
      is : rows_of top d s told (moments told - 1) ≡ ended top d s told
      is = sym (ended_is top d s told off)

      by_order : (clock : Clock) → top.clock ≡ Some clock → (b : Bool) → nat_le (moments told) 1 ≡ b → rows_of top d s told (moments told) ≡ ended top d s told ++ closing (Some clock) told
      by_order clock e true h =
          let few : moments told ≤ 1 = grind (arith, nat_tests) in
          close_first top d s told clock e (omega arith) ∙ (is ∙ (sym (append-nil (ended top d s told)) ∙ ap (λ xs. ended top d s told ++ xs) (sym (first_closing told clock few))))
      by_order clock e false h =
          let more : 1 < moments told = grind (arith, nat_tests) in
          close_one top d s told clock e more ∙ (ap (λ xs. xs ++ (if goes_over d s clock (up_to (moments told - 2) told) told then row_behind top d s (up_to (moments told - 2) told) ∷ [] else [])) is
          ∙ ap (λ x. ended top d s told ++ (if goes_over d s clock x told then row_behind top d s x ∷ [] else [])) (sym (earlier_is told more)))

      go : (c : Option Clock) → top.clock ≡ c → rows_of top d s told (moments told) ≡ ended top d s told ++ closing c told
      go None e = close_all top d s told e l ∙ ap (λ xs. xs ++ row_behind top d s told ∷ []) is
      go (Some clock) e = by_order clock e (nat_le (moments told) 1) refl

  -- by the probes
  pub closing_all : (x : Probes) (told : List Told) → AreProbes top d s x → x.clock ≡ None → closing top.clock told ≡ probe_row x told ∷ []
  closing_all x told h e = go top.clock (sym (ap (option_map plain_clock_probe) e) ∙ h.clock)
    where
      go : (c : Option Clock) → None ≡ option_map (clock_in d s) c → closing c told ≡ probe_row x told ∷ []
      go None q = ap (λ r. r ∷ []) (sym (row_is x told h))
      go (Some clock) q = cc

  pub closing_one : (x : Probes) (told : List Told) (c : ClockProbe) → AreProbes top d s x → x.clock ≡ Some c
      → closing top.clock told ≡ (if probe_goes_over (plain_clock_probe c) (earlier told) told then probe_row x (earlier told) ∷ [] else [])
  closing_one x told p h e = go top.clock (sym (ap (option_map plain_clock_probe) e) ∙ h.clock)
    where
      go : (c : Option Clock) → Some (plain_clock_probe p) ≡ option_map (clock_in d s) c → closing c told ≡ (if probe_goes_over (plain_clock_probe p) (earlier told) told then probe_row x (earlier told) ∷ [] else [])
      go None q = cc
      go (Some clock) q =
          let same : plain_clock_probe p ≡ clock_in d s clock = cc in
          ap (λ r. if probe_goes_over (clock_in d s clock) (earlier told) told then r ∷ [] else []) (sym (row_is x (earlier told) h))
          ∙ ap (λ y. if probe_goes_over y (earlier told) told then probe_row x (earlier told) ∷ [] else []) (sym same)

  -- what a sampler was told

  pub current_slots : (told : List Told) (x : Sampler) (b : Bool) → b ≡ false → AreCurrent b told x → AreSlots (earlier told) told x.moment x.slots × ((x.moment ≡ moments told - 1) × (x.begun ≡ nat_lt 0 (moments told)))
  unfolding AreCurrent
  current_slots told x true e h = cc
  current_slots told x false e h = h

  pub slots_current : (told : List Told) (x : Sampler) (b : Bool) → b ≡ false → AreSlots (earlier told) told x.moment x.slots → x.moment ≡ moments told - 1 → x.begun ≡ nat_lt 0 (moments told) → AreCurrent b told x
  unfolding AreCurrent
  slots_current told x true e h m g = cc
  slots_current told x false e h m g = (h, (m, g))

  pub off_current : (told : List Told) (x : Sampler) (b : Bool) → b ≡ true → AreCurrent b told x
  unfolding AreCurrent
  off_current told x true e = tt
  off_current told x false e = cc

  begun_some : (told : List Told) → nat_lt 0 (moments told) ≡ true → 0 < moments told
  begun_some told e = grind (arith, nat_tests)

  pub begun_none : (told : List Told) → nat_lt 0 (moments told) ≡ false → moments told ≡ 0
  begun_none told e = grind (arith, nat_tests)

  pub has_begun : (told : List Told) (x : Sampler) → IsTold top d s told x → x.off ≡ false → x.begun ≡ true → 0 < moments told
  has_begun told x h off begun = begun_some told (sym (current_slots told x x.off off h.current).1.1 ∙ begun)

  -- behind the end of dumping
  pub told_off : (told : List Told) (t : Told) (x : Sampler) → IsTold top d s told x → x.off ≡ true → IsTold top d s (told ++ t ∷ []) x
  told_off told t x h off =
      let o : list_any is_off told ≡ true = sym h.off ∙ off in
      record {
        probes = h.probes;
        watched = h.watched;
        off = off ∙ sym (off_more told t ∙ ap (λ b. b || is_off t) o);
        current = off_current (told ++ t ∷ []) x x.off off;
        kept = kept_is _ _ x.full x.table (sym (ended_off top d s told t o)) h.kept;
      }

  -- its end
  pub told_ends : (told : List Told) (x y : Sampler) → IsTold top d s told x → x.off ≡ false → y.off ≡ true → y.probes ≡ x.probes → y.slots ≡ x.slots → y.full ≡ x.full → y.table ≡ x.table → IsTold top d s (told ++ Off ∷ []) y
  told_ends told x y h off o p sl f t =
      let no_off : list_any is_off told ≡ false = sym h.off ∙ off in
      record {
        probes = subst (AreProbes top d s) (sym p) h.probes;
        watched = subst (λ z. AreWatched z y.probes) (sym sl) (subst (AreWatched x.slots) (sym p) h.watched);
        off = o ∙ sym (off_more told Off ∙ ap (λ b. b || true) no_off);
        current = off_current (told ++ Off ∷ []) y y.off o;
        kept = subst (λ z. AreKept (ended top d s (told ++ Off ∷ [])) z y.table) (sym f) (subst (λ z. AreKept (ended top d s (told ++ Off ∷ [])) x.full z) (sym t)
            (kept_is _ _ x.full x.table (sym (ended_ends top d s told no_off)) h.kept));
      }

  -- a construct that neither ends dumping nor begins a moment
  pub told_still : (told : List Told) (t : Told) (x y : Sampler) → IsTold top d s told x → x.off ≡ false → is_off t ≡ false → is_moment t ≡ false
      → y.off ≡ x.off → y.probes ≡ x.probes → y.full ≡ x.full → y.table ≡ x.table → y.moment ≡ x.moment → y.begun ≡ x.begun → AreWatched y.slots x.probes
      → (AreSlots (earlier told) told x.moment x.slots → AreSlots (earlier told) (told ++ t ∷ []) x.moment y.slots) → IsTold top d s (told ++ t ∷ []) y
  told_still told t x y h off stays plain o p f tb m g watched slots =
      let no_off : list_any is_off told ≡ false = sym h.off ∙ off in
      let c = current_slots told x x.off off h.current in
      let same : moments (told ++ t ∷ []) ≡ moments told = moments_more told t ∙ rw plain (omega arith) in
      record {
        probes = subst (AreProbes top d s) (sym p) h.probes;
        watched = subst (AreWatched y.slots) (sym p) watched;
        off = o ∙ (off ∙ sym (off_more told t ∙ rw (no_off, stays) refl));
        current = slots_current (told ++ t ∷ []) y y.off (o ∙ off)
            (subst (λ z. AreSlots z (told ++ t ∷ []) y.moment y.slots) (sym (earlier_same told t plain)) (subst (λ z. AreSlots (earlier told) (told ++ t ∷ []) z y.slots) (sym m) (slots c.0)))
            (m ∙ (c.1.0 ∙ ap (λ n. n - 1) (sym same)))
            (g ∙ (c.1.1 ∙ ap (nat_lt 0) (sym same)));
        kept = subst (λ z. AreKept (ended top d s (told ++ t ∷ [])) z y.table) (sym f) (subst (λ z. AreKept (ended top d s (told ++ t ∷ [])) x.full z) (sym tb)
            (kept_is _ _ x.full x.table (sym (ended_same top d s told t no_off stays plain)) h.kept));
      }

  -- the first moment begins
  pub told_first : (told : List Told) (n : ℕ) (x y : Sampler) → IsTold top d s told x → x.off ≡ false → x.begun ≡ false
      → y.off ≡ x.off → y.probes ≡ x.probes → y.slots ≡ x.slots → y.full ≡ x.full → y.table ≡ x.table → y.moment ≡ x.moment → y.begun ≡ true → IsTold top d s (told ++ Moment n ∷ []) y
  told_first told n x y h off first o p sl f tb m g =
      let no_off : list_any is_off told ≡ false = sym h.off ∙ off in
      let c = current_slots told x x.off off h.current in
      let zero_of : moments told ≡ 0 = begun_none told (sym c.1.1 ∙ first) in
      let one : moments (told ++ Moment n ∷ []) ≡ 1 = let e = moments_more told (Moment n) in omega arith in
      let e0 = earlier_first told (omega arith) in
      let e1 = earlier_first (told ++ Moment n ∷ []) (omega arith) in
      let s0 : AreSlots [] told x.moment x.slots = subst (λ z. AreSlots z told x.moment x.slots) e0 c.0 in
      let s1 : AreSlots [] (told ++ Moment n ∷ []) x.moment x.slots = slots_still [] told x.moment x.slots (Moment n) (λ id. refl) s0 in
      let k : ended top d s (told ++ Moment n ∷ []) ≡ ended top d s told =
      ended_time top d s told n no_off ∙ (ap (rows_of top d s told) zero_of ∙ (ap (λ j. rows_of top d s told (j - 1)) (sym zero_of) ∙ sym (ended_is top d s told no_off))) in
      record {
        probes = subst (AreProbes top d s) (sym p) h.probes;
        watched = subst (λ z. AreWatched z y.probes) (sym sl) (subst (AreWatched x.slots) (sym p) h.watched);
        off = o ∙ (off ∙ sym (off_more told (Moment n) ∙ rw no_off refl));
        current = slots_current (told ++ Moment n ∷ []) y y.off (o ∙ off)
            (subst (λ z. AreSlots z (told ++ Moment n ∷ []) y.moment y.slots) (sym e1) (subst (λ z. AreSlots [] (told ++ Moment n ∷ []) z y.slots) (sym m) (subst (λ z. AreSlots [] (told ++ Moment n ∷ []) x.moment z) (sym sl) s1)))
            (m ∙ (c.1.0 ∙ rw (zero_of, one) refl))
            (g ∙ rw one refl);
        kept = subst (λ z. AreKept (ended top d s (told ++ Moment n ∷ [])) z y.table) (sym f) (subst (λ z. AreKept (ended top d s (told ++ Moment n ∷ [])) x.full z) (sym tb) (kept_is _ _ x.full x.table (sym k) h.kept));
      }

  -- and a later one
  pub told_next : (told : List Told) (n : ℕ) (x y : Sampler) → IsTold top d s told x → x.off ≡ false → x.begun ≡ true → AreKept (rows_of top d s told (moments told)) y.full y.table
      → y.off ≡ x.off → y.probes ≡ x.probes → y.slots ≡ x.slots → y.moment ≡ x.moment + 1 → y.begun ≡ x.begun → IsTold top d s (told ++ Moment n ∷ []) y
  told_next told n x y h off begun kept o p sl m g =
      let no_off : list_any is_off told ≡ false = sym h.off ∙ off in
      let c = current_slots told x x.off off h.current in
      let some = has_begun told x h off begun in
      let e = moments_more told (Moment n) in
      let at = c.1.0 in
      let s1 : AreSlots told (told ++ Moment n ∷ []) y.moment x.slots = slots_begin (earlier told) told x.moment n y.moment x.slots m c.0 in
      let more : 0 < moments (told ++ Moment n ∷ []) = omega arith in
      record {
        probes = subst (AreProbes top d s) (sym p) h.probes;
        watched = subst (λ z. AreWatched z y.probes) (sym sl) (subst (AreWatched x.slots) (sym p) h.watched);
        off = o ∙ (off ∙ sym (off_more told (Moment n) ∙ rw no_off refl));
        current = slots_current (told ++ Moment n ∷ []) y y.off (o ∙ off)
            (subst (λ z. AreSlots z (told ++ Moment n ∷ []) y.moment y.slots) (sym (earlier_time told n some)) (subst (AreSlots told (told ++ Moment n ∷ []) y.moment) (sym sl) s1))
            (omega arith)
            (g ∙ (begun ∙ (let t : nat_lt 0 (moments (told ++ Moment n ∷ [])) ≡ true = grind (arith, nat_tests) in sym t)));
        kept = kept_is _ _ y.full y.table (sym (ended_time top d s told n no_off)) kept;
      }

  -- nothing was told
  pub told_none : (x : Sampler) → AreProbes top d s x.probes → AreWatched x.slots x.probes → x.off ≡ false → AreSlots [] [] x.moment x.slots → x.moment ≡ 0 → x.begun ≡ false → x.full ≡ false
      → x.table.inputs.items ≡ [] → x.table.expected.items ≡ [] → IsTold top d s [] x
  told_none x probes watched off slots m begun full i e = record {
    probes = probes;
    watched = watched;
    off = off;
    current = slots_current [] x x.off off slots m begun;
    kept = kept_is _ _ x.full x.table (sym (ended_none top d s)) (rows_kept [] x.full x.table full (omega arith, rw (i, e) refl));
  }

  -- the rows of a whole dump
  pub whole_off : (told : List Told) (x : Sampler) → IsTold top d s told x → x.off ≡ true → AreKept (rows_of top d s told (valued told)) x.full x.table
  whole_off told x h off = kept_is _ _ x.full x.table (sym (valued_off top d s told (sym h.off ∙ off))) h.kept

  pub whole_none : (told : List Told) (x : Sampler) → IsTold top d s told x → x.off ≡ false → x.begun ≡ false → AreKept (rows_of top d s told (valued told)) x.full x.table
  whole_none told x h off begun =
      let c = current_slots told x x.off off h.current in
      kept_is _ _ x.full x.table (sym (valued_none top d s told (sym h.off ∙ off) (begun_none told (sym c.1.1 ∙ begun)))) h.kept

  pub whole_closed : (told : List Told) (x : Sampler) (full : Bool) (table : Table) → IsTold top d s told x → x.off ≡ false → AreKept (rows_of top d s told (moments told)) full table → AreKept (rows_of top d s told (valued told)) full table
  whole_closed told x full table h off kept = kept_is _ _ full table (sym (valued_all top d s told (sym h.off ∙ off))) kept

  -- the end of a moment, by what it adds

  module _ (told : List Told) (x : Sampler) (h : IsTold top d s told x) (off : x.off ≡ false) (begun : x.begun ≡ true) where
    closed_by : (more : List Row) (full : Bool) (table : Table) → closing top.clock told ≡ more → AreKept (ended top d s told ++ more) full table → AreKept (rows_of top d s told (moments told)) full table
    closed_by more full table e k =
        kept_is _ _ full table (ap (λ xs. ended top d s told ++ xs) (sym e) ∙ sym (close_any told (has_begun told x h off begun) (sym h.off ∙ off))) k

    pub closed_full : x.full ≡ true → AreKept (rows_of top d s told (moments told)) x.full x.table
    closed_full f = closed_by (closing top.clock told) x.full x.table refl (kept_full (ended top d s told) (closing top.clock told) x.full x.table f h.kept)

    pub closed_all : (full : Bool) (table : Table) → x.probes.clock ≡ None → AreKept (ended top d s told ++ probe_row x.probes told ∷ []) full table → AreKept (rows_of top d s told (moments told)) full table
    closed_all full table e k = closed_by (probe_row x.probes told ∷ []) full table (closing_all x.probes told h.probes e) k

    pub closed_over : (full : Bool) (table : Table) (c : ClockProbe) (b : Bool) → x.probes.clock ≡ Some c → b ≡ probe_goes_over (plain_clock_probe c) (earlier told) told → b ≡ true
        → AreKept (ended top d s told ++ probe_row x.probes (earlier told) ∷ []) full table → AreKept (rows_of top d s told (moments told)) full table
    closed_over full table c b e is over k =
        closed_by (probe_row x.probes (earlier told) ∷ []) full table (closing_one x.probes told c h.probes e ∙ ap (λ y. if y then probe_row x.probes (earlier told) ∷ [] else []) (sym is ∙ over)) k

    pub closed_not : (c : ClockProbe) (b : Bool) → x.probes.clock ≡ Some c → b ≡ probe_goes_over (plain_clock_probe c) (earlier told) told → b ≡ false → AreKept (rows_of top d s told (moments told)) x.full x.table
    closed_not c b e is not_over =
        closed_by [] x.full x.table (closing_one x.probes told c h.probes e ∙ ap (λ y. if y then probe_row x.probes (earlier told) ∷ [] else []) (sym is ∙ not_over))
        (kept_is _ _ x.full x.table (sym (append-nil (ended top d s told))) h.kept)
