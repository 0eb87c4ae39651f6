-- last assignments by the bits that write them
use Rattle.std.proofs.Common.{◌≡◌, ◌∙◌, sym, ap, ap₂, refl, ℕ, zero, suc, ◌+◌, ◌-◌, ◌%◌, ◌^◌, ◌<◌, ◌≤◌, ◌==◌, min, max, Bool, true, false, cond, not, ◌&&◌, if◌then◌else◌, List, [], ◌∷◌, length, take, drop, drop-cons, get_or, Option, arith, pos, length-drop, length-take}
use Rattle.std.proofs.lemmas.Bool.{eq-eqb, eqb-true, ne_eqb}
use Rattle.std.proofs.lemmas.List.{drop_all, drop-drop, drop-map, length-map, take-map}
use Rattle.std.proofs.lemmas.List.Elements.{All-take, All-drop}
use Rattle.std.proofs.Math.Nat.{mod-eq_of_lt}
use denote.Ref.{Bor}
use Rattle.rr_circuit.specs.declared.Wire.{Wire}
use Rattle.rr_circuit.specs.Values.{Netlist, Extends, IsWire, AreWires, wire_value, wire_values}
use Rattle.rr_circuit.proofs.Netlists.{wire_values-extends}
use Rattle.rr_bits.specs.Words.{extend, number, word}
use Rattle.rr_bits.proofs.Numbers.{number-lt, word_number}
use Rattle.rr_syntax.specs.declared.site.Site.{Site as ArenaSite}
use Rattle.rr_syntax.specs.declared.site.SiteKind.{SiteKind as ArenaKind}
use Rattle.rr_syntax.specs.declared.site.SiteKind.TheVariants as kind
use Rattle.rr_syntax.specs.declared.token.Number.{Number}
use Rattle.rr_syntax.specs.Tree.{Literal, Assign}
use Rattle.rr_syntax.specs.View.{texts}
use Rattle.rr_expr.specs.declared.types.Bit.{Bit}
use Rattle.rr_expr.specs.declared.types.Entity.{Entity}
use Rattle.rr_expr.specs.declared.types.Entity.TheVariants.{Constant, Signal, Memory, Instance}
use Rattle.rr_expr.specs.Scopes.{Names, entity_shape, meant, range_width}
use Rattle.rr_expr.specs.Values.{form, value}
use Rattle.rr_flat.specs.Targets.{bits_there, target_bits}
use Rattle.rr_choice.specs.declared.pick.Pick.{Pick}
use Rattle.rr_choice.specs.Choices.{decode, name_width, read_pick, site_bits, picked_form, picked_name}
use Rattle.rr_choice.specs.Places.{is_overwrite, is_overwrite_at}
use Rattle.rr_instance.specs.Instances.{fresh, gate, named, unsigned_number}
use Rattle.rr_choice.specs.Sites.{Site, SiteKind, Overwrite}
use Rattle.rr_choice.specs.View.{plain_kind, plain_site, plain_sites}
use Rattle.rr_instance_laws.specs.Truth.{gate_truth, name_truth}
use Rattle.rr_instance_laws.proofs.TruthLaws.{truth_of_gates}
use Rattle.rr_word_gates.specs.Carried.{CarriesBit}
use Rattle.rr_blast_sites.specs.declared.inputs.Inputs.{Inputs}
use Rattle.rr_blast_sites.specs.Finding.{name_place}
use Rattle.rr_blast_sites.specs.Instances.{World, place_of, env_in}
use Rattle.rr_cycle.specs.Exec.{Environment, assigned, is_true, write}
use Rattle.rr_signal_wires.proofs.GuardedPieceLaws.{none_of_constant, none_of_instance, none_of_memory}
use Rattle.rr_blast_stmt.specs.Running.{Values, ran, stored}
use Rattle.rr_blast_stmt.proofs.RanLaws.{made, ran_assign}
use Rattle.rr_blast_body.specs.declared.lasts.Last.{Last}
use Rattle.rr_blast_body.specs.Lasts.{gated, last_kind, last_pick}
use Rattle.rr_blast_body.specs.Overwrites.{last_ran, site_ran, sites_ran}

-- conditions

pub gate_min : (f : ℕ) (s : Bool) → gate_truth (min f 2) s ≡ (if (f == 0) then true else (if (f == 1) then s else (not s)))
gate_min zero s = refl
gate_min (suc zero) s = refl
gate_min (suc (suc n)) s =
    let m : min (suc (suc n)) 2 ≡ 2 = omega arith in
    rw (m, ne_eqb (suc (suc n)) 0 (λ q. omega arith), ne_eqb (suc (suc n)) 1 (λ q. omega arith)) refl

pub gated_none : (names : List (Bor (List ℕ))) (vs : List Bool) (T : List ℕ → Bool) → length names ≡ 0 → gated (texts names) vs T ≡ true
gated_none [] vs T e = refl
gated_none (x ∷ xs) vs T e = absurd (omega (arith, e))

pub gate-carried : (i : Inputs) (start n m : Netlist) (W : World) (names : List (Bor (List ℕ))) (bits place : List Wire) (s w : Wire) → (length names ≡ 0 → ⊥) → place ≡ take (name_width (length names)) (drop 2 bits) → Extends start n → AreWires start bits
    → CarriesBit n s (λ input. name_truth i.scope.now (env_in (place_of i W) input) (get_or (texts names) (name_place (length names) (wire_values start input place)) []))
    → CarriesBit m w (λ input. gate_truth (min (number (wire_values n input (take 2 bits))) 2) (wire_value n input s))
    → CarriesBit m w (λ input. gated (texts names) (wire_values start input bits) (name_truth i.scope.now (env_in (place_of i W) input)))
gate-carried i start n m W names bits place s w some p x hb cs c = record {
  wire = c.wire;
  value = λ input.
      let T : List ℕ → Bool = name_truth i.scope.now (env_in (place_of i W) input) in
      let vs : List Bool = wire_values start input bits in
      let count : length (texts names) ≡ length names = length-map names (λ (k : Bor (List ℕ)). k.now) in
      let few : AreWires start (take 2 bits) = All-take (IsWire start) 2 bits hb in
      let form : wire_values n input (take 2 bits) ≡ take 2 vs = wire_values-extends start n (take 2 bits) input x few ∙ sym (take-map (wire_value start input) 2 bits) in
      let part : wire_values start input place ≡ take (name_width (length names)) (drop 2 vs) =
      ap (wire_values start input) p ∙ sym (take-map (wire_value start input) (name_width (length names)) (drop 2 bits)) ∙ ap (take (name_width (length names))) (sym (drop-map (wire_value start input) 2 bits)) in
      c.value input
      ∙ ap (λ a. gate_truth (min (number a) 2) (wire_value n input s)) form
      ∙ ap (gate_truth (min (number (take 2 vs)) 2)) (cs.value input ∙ ap (λ z. T (get_or (texts names) (name_place (length names) z) [])) part)
      ∙ sym (ap (λ j. if (j == 0) then true else (gate_truth (min (number (take 2 vs)) 2) (T (get_or (texts names) (name_place j (take (name_width j) (drop 2 vs))) [])))) count
      ∙ ap (λ (b : Bool). if b then true else (gate_truth (min (number (take 2 vs)) 2) (T (get_or (texts names) (name_place (length names) (take (name_width (length names)) (drop 2 vs))) [])))) (ne_eqb (length names) 0 some));
}

min_twice : (a b : ℕ) → min (min a b) b ≡ min a b
min_twice a b = omega arith

pub gate_read : (s : Names) (env : Environment) (l : Last) (vs : List Bool) →
    gated (texts l.names.now) (drop (1 + l.width) vs) (name_truth s env) ≡ is_true s (gate (picked_form (texts l.names.now) (last_pick l vs).form) (picked_name (texts l.names.now) (last_pick l vs).name)) env
gate_read s env l vs =
    let names = texts l.names.now in
    by_zero (length names == 0) (min (number (take 2 (drop (1 + l.width) vs))) 2) (number (take (name_width (length names)) (drop 2 (drop (1 + l.width) vs)))) (length names - 1)
    ∙ sym (truth_of_gates s env (picked_form names (last_pick l vs).form) (picked_name names (last_pick l vs).name))
  where
    by_zero : (z : Bool) (f x k : ℕ) →
        (if z then true else (gate_truth f (name_truth s env (get_or (texts l.names.now) (min x k) []))))
        ≡ gate_truth (if z then 0 else (if z then 0 else f)) (name_truth s env (get_or (texts l.names.now) (min (if z then 0 else (min x k)) k) []))
    by_zero true f x k = refl
    by_zero false f x k = ap (λ j. gate_truth f (name_truth s env (get_or (texts l.names.now) j []))) (sym (min_twice x k))

-- values

pub literal_is : (s : Names) (e : Environment) (w width : ℕ) (xs : List Bool) → length xs ≡ w → extend width false xs ≡ value s (Literal fresh (unsigned_number w (number xs))) e width false
unfolding value
literal_is s e w width xs l =
    let small : number xs < 2 ^ w = rw l at (number-lt xs) in
    ap (extend width false) (sym (word_number xs) ∙ ap (λ k. word k (number xs)) l ∙ ap (word w) (sym (mod-eq_of_lt small)))

-- what a last assignment does

twice_if : (a g : Bool) (x v : Values) → cond (a && g) x v ≡ cond a (cond g x v) v
twice_if true g x v = refl
twice_if false g x v = refl

none_if : (a g : Bool) (x v : Values) → x ≡ v → cond a (cond g x v) v ≡ v
none_if true true x v h = h
none_if true false x v h = refl
none_if false g x v h = refl

named_bits : (s : Names) (e : Environment) (name : List ℕ) (k : Entity) → meant s name ≡ k → target_bits s e (named name) ≡ bits_there k (pos 0) (entity_shape k).width
unfolding target_bits
named_bits s e name k q = ap (λ (k : Entity). bits_there k (pos 0) (entity_shape k).width) q

assigned_is : (s : Names) (e : Environment) (name : List ℕ) (n : Number) (k : Entity) (width : ℕ) → n.signed ≡ false → meant s name ≡ k → width ≡ max (entity_shape k).width n.width →
    value s (Literal fresh n) e width false ≡ assigned s (named name) (Literal fresh n) e
unfolding form
assigned_is s e name n k width u q w =
    ap₂ (λ (j : ℕ) (b : Bool). value s (Literal fresh n) e j b) (w ∙ ap (λ (k : Entity). max (entity_shape k).width n.width) (sym q)) (sym u)

pub last_made : (s : Names) (l : Last) (vs word : List Bool) (v : Values) (id : ℕ) (range : Option (ℕ × ℕ)) (signed : Bool) (width : ℕ) → meant s l.target.now ≡ Signal id range signed → width ≡ max (range_width range) l.width →
    word ≡ value s (Literal fresh (unsigned_number l.width (last_pick l vs).value)) v.now width false →
    cond (get_or vs 0 false && is_true s (gate (picked_form (texts l.names.now) (last_pick l vs).form) (picked_name (texts l.names.now) (last_pick l vs).name)) v.now)
    (stored l.at_once (bits_there (Signal id range signed) (pos 0) (range_width range)) word v) v
    ≡ cond (get_or vs 0 false) (last_ran s (last_kind l) (last_pick l vs) v) v
unfolding last_ran
last_made s l vs word v id range signed width q w h =
    let g : Bool = is_true s (gate (picked_form (texts l.names.now) (last_pick l vs).form) (picked_name (texts l.names.now) (last_pick l vs).name)) v.now in
    let n : Number = unsigned_number l.width (last_pick l vs).value in
    twice_if (get_or vs 0 false) g _ v
    ∙ ap (λ (y : Values). cond (get_or vs 0 false) (cond g y v) v)
    (ap₂ (λ (bs : List (Option Bit)) (us : List Bool). stored l.at_once bs us v) (sym (named_bits s v.now l.target.now (Signal id range signed) q)) (h ∙ assigned_is s v.now l.target.now n (Signal id range signed) width refl q w)
    ∙ sym (ran_assign s (named l.target.now) (Literal fresh n) l.at_once v))

stored_nothing : (now : Bool) (bits : List (Option Bit)) (word : List Bool) (v : Values) → ((us : List Bool) (e : Environment) → write bits us e ≡ e) → stored now bits word v ≡ v
stored_nothing true bits word v h = ap (λ (f : Environment). made f v.later) (h word v.now)
stored_nothing false bits word v h = ap (λ (f : Environment). made v.now f) (h word v.later)

last_nowhere : (s : Names) (l : Last) (vs : List Bool) (v : Values) → ((us : List Bool) (e : Environment) → write (target_bits s v.now (named l.target.now)) us e ≡ e) →
    v ≡ cond (get_or vs 0 false) (last_ran s (last_kind l) (last_pick l vs) v) v
unfolding last_ran
last_nowhere s l vs v h =
    let n : Number = unsigned_number l.width (last_pick l vs).value in
    sym (none_if (get_or vs 0 false) _ _ v (ran_assign s (named l.target.now) (Literal fresh n) l.at_once v ∙ stored_nothing l.at_once (target_bits s v.now (named l.target.now)) (assigned s (named l.target.now) (Literal fresh n) v.now) v h))

pub last_of_constant : (s : Names) (l : Last) (vs : List Bool) (v : Values) (bits : List Bool) (signed : Bool) → meant s l.target.now ≡ Constant bits signed → v ≡ cond (get_or vs 0 false) (last_ran s (last_kind l) (last_pick l vs) v) v
last_of_constant s l vs v bits signed q = last_nowhere s l vs v (λ us e.
    ap (λ (bs : List (Option Bit)). write bs us e) (named_bits s v.now l.target.now (Constant bits signed) q) ∙ none_of_constant bits signed (pos 0) (length bits) us e)

pub last_of_memory : (s : Names) (l : Last) (vs : List Bool) (v : Values) (first low words : ℕ) (range : Option (ℕ × ℕ)) (signed : Bool) → meant s l.target.now ≡ Memory first low words range signed → v ≡ cond (get_or vs 0 false) (last_ran s (last_kind l) (last_pick l vs) v) v
last_of_memory s l vs v first low words range signed q = last_nowhere s l vs v (λ us e.
    ap (λ (bs : List (Option Bit)). write bs us e) (named_bits s v.now l.target.now (Memory first low words range signed) q) ∙ none_of_memory first low words range signed (pos 0) (range_width range) us e)

pub last_of_instance : (s : Names) (l : Last) (vs : List Bool) (v : Values) → meant s l.target.now ≡ Instance → v ≡ cond (get_or vs 0 false) (last_ran s (last_kind l) (last_pick l vs) v) v
last_of_instance s l vs v q = last_nowhere s l vs v (λ us e.
    ap (λ (bs : List (Option Bit)). write bs us e) (named_bits s v.now l.target.now Instance q) ∙ none_of_instance (pos 0) 0 us e)

-- sites

pub site_off : (s : Names) (token : ℕ) (x : ArenaSite) (k : ArenaKind) (p : Pick) (v : Values) → x.kind ≡ k → is_overwrite (plain_kind k) ≡ false → v ≡ site_ran s token (plain_site x) p v
unfolding site_ran
site_off s token x k p v q h = sym (ap (λ (b : Bool). cond ((b && (x.token == token)) && p.on) (last_ran s (plain_kind x.kind) p v) v) (ap (λ (k : ArenaKind). is_overwrite (plain_kind k)) q ∙ h))

pub site_past : (s : Names) (token : ℕ) (x : ArenaSite) (p : Pick) (v : Values) → (x.token ≡ token → ⊥) → v ≡ site_ran s token (plain_site x) p v
unfolding site_ran
site_past s token x p v h =
    sym (ap (λ (b : Bool). cond ((is_overwrite (plain_kind x.kind) && b) && p.on) (last_ran s (plain_kind x.kind) p v) v) (ne_eqb x.token token h) ∙ never (is_overwrite (plain_kind x.kind)))
  where
    never : (b : Bool) → cond ((b && false) && p.on) (last_ran s (plain_kind x.kind) p v) v ≡ v
    never true = refl
    never false = refl

pub site_here : (s : Names) (token owner : ℕ) (x : ArenaSite) (l : Last) (vs : List Bool) (v : Values) → x.kind ≡ kind.Overwrite owner l.target l.width l.at_once l.names → x.token ≡ token →
    cond (get_or vs 0 false) (last_ran s (last_kind l) (last_pick l vs) v) v ≡ site_ran s token (plain_site x) (read_pick (plain_site x) vs) v
unfolding site_ran last_ran
site_here s token owner x l vs v q e =
    sym (ap (λ (k : ArenaKind). site_ran s token (record { kind = plain_kind k; token = x.token }) (read_pick (record { kind = plain_kind k; token = x.token }) vs) v) q
    ∙ ap (λ (b : Bool). cond ((true && b) && get_or vs 0 false) (last_ran s (last_kind l) (last_pick l vs) v) v) (eq-eqb x.token token e))

-- the bits of a last assignment

pub last_size : (x : ArenaSite) (owner width : ℕ) (target : Bor (List ℕ)) (now : Bool) (names : Bor (List (Bor (List ℕ)))) → x.kind ≡ kind.Overwrite owner target width now names →
    site_bits (plain_site x) ≡ 1 + width + (if length names.now == 0 then 0 else (2 + name_width (length names.now)))
last_size x owner width target now names q =
    ap (λ (k : ArenaKind). site_bits (record { kind = plain_kind k; token = x.token })) q
    ∙ ap (λ (j : ℕ). 1 + width + (if j == 0 then 0 else (2 + name_width j))) (length-map names.now (λ (k : Bor (List ℕ)). k.now))

pub name_places : (n width count : ℕ) → n ≡ 1 + width + (if count == 0 then 0 else (2 + name_width count)) → n - (width + 3) ≡ name_width count
name_places n width count e = by (count == 0) refl
  where
    by : (b : Bool) → (count == 0) ≡ b → n - (width + 3) ≡ name_width count
    by true q = let z = eqb-true count 0 q in rw z (let f : n ≡ 1 + width + 0 = e ∙ ap (λ (b : Bool). 1 + width + (if b then 0 else (2 + name_width count))) q in omega (arith, f))
    by false q = let f : n ≡ 1 + width + (2 + name_width count) = e ∙ ap (λ (b : Bool). 1 + width + (if b then 0 else (2 + name_width count))) q in omega (arith, f)

-- sites one after the other

pub sites_more : (s : Names) (token : ℕ) (xs : List ArenaSite) (i j at next : ℕ) (x d : ArenaSite) (bits : List Bool) (v w r : Values) → i < length xs → x ≡ get_or xs i d → j ≡ i + 1 → next ≡ at + site_bits (plain_site x) →
    w ≡ site_ran s token (plain_site x) (read_pick (plain_site x) (drop at bits)) v →
    sites_ran s token (plain_sites (drop i xs)) (decode (plain_sites (drop i xs)) (drop at bits)) v ≡ r →
    sites_ran s token (plain_sites (drop j xs)) (decode (plain_sites (drop j xs)) (drop next bits)) w ≡ r
unfolding sites_ran decode
sites_more s token xs i j at next x d bits v w r l q e n h k =
    let one : suc i ≡ j = omega (arith, e) in
    let cut : drop (site_bits (plain_site x)) (drop at bits) ≡ drop next bits = drop-drop (site_bits (plain_site x)) at bits ∙ ap (λ (m : ℕ). drop m bits) (sym n) in
    let rest : List Site = plain_sites (drop j xs) in
    let whole : drop i xs ≡ x ∷ drop j xs = drop-cons xs i d l ∙ ap₂ (λ (y : ArenaSite) (m : ℕ). y ∷ drop m xs) (sym q) one in
    ap (sites_ran s token rest (decode rest (drop next bits))) h
    ∙ sym (ap (λ (us : List Bool). sites_ran s token rest (decode rest us) (site_ran s token (plain_site x) (read_pick (plain_site x) (drop at bits)) v)) cut)
    ∙ sym (ap (λ (ys : List ArenaSite). sites_ran s token (plain_sites ys) (decode (plain_sites ys) (drop at bits)) v) whole)
    ∙ k

pub sites_done : (s : Names) (token : ℕ) (xs : List ArenaSite) (i : ℕ) (bits : List Bool) (v r : Values) → length xs ≤ i → sites_ran s token (plain_sites (drop i xs)) (decode (plain_sites (drop i xs)) bits) v ≡ r → v ≡ r
unfolding sites_ran decode
sites_done s token xs i bits v r l k = sym (ap (λ (ys : List ArenaSite). sites_ran s token (plain_sites ys) (decode (plain_sites ys) bits) v) (drop_all i xs l)) ∙ k
