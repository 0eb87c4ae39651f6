-- literals and conditions by the bits of their sites
use Rattle.std.proofs.Common.{◌≡◌, ℕ, ◌+◌, ◌-◌, ◌<◌, ◌≤◌, ◌==◌, min, Bool, true, false, not, if◌then◌else◌, List, [], length, get_or, take, drop, Some, None, refl, sym, ◌∙◌, ap, ap₂, arith, length-drop, ◌&&◌}
use Rattle.std.proofs.lemmas.Bool.{eqb-true}
use Rattle.std.proofs.lemmas.List.{length-map, take-map, drop-map, get_or-drop}
use Rattle.std.proofs.lemmas.List.Elements.{All-get_or, All-drop}
use denote.Ref.{Bor}
use Rattle.rr_circuit.specs.declared.Wire.{Wire}
use Rattle.rr_circuit.specs.Values.{Netlist, wire_value, IsWire, AreWires, wire_values}
use Rattle.rr_bits.specs.Words.{number, word, extend, is_zero}
use Rattle.rr_bits.proofs.Places.{word_tabulated}
use Rattle.rr_syntax.specs.Tree.{Tree}
use Rattle.rr_syntax.specs.Expressions.{spell}
use Rattle.rr_expr.specs.Faults.{first}
use Rattle.rr_syntax.specs.declared.token.Number.{Number}
use Rattle.rr_syntax.specs.declared.site.Site.{Site as ArenaSite}
use Rattle.rr_expr.specs.declared.types.Shape.{Shape}
use Rattle.rr_expr.specs.Values.{value}
use Rattle.rr_choice.specs.Sites.{SiteKind, Site, Literal, Guard, Overwrite, guard_names, value_width}
use Rattle.rr_choice.specs.Choices.{decode, read_pick, name_width, guard_width, total_bits}
use Rattle.rr_choice.specs.Places.{find_pick, is_literal_at, is_guard}
use Rattle.rr_instance.specs.Instances.{is_guard_of}
use Rattle.rr_instance_laws.specs.Truth.{is_true, name_truth, guard_truth, new_truth}
use Rattle.rr_syntax.specs.View.{texts}
use Rattle.rr_choice.specs.View.{plain_site}
use Rattle.rr_instance_laws.proofs.TruthLaws.{truth_of_tests}
use Rattle.rr_blast_sites.specs.declared.inputs.Inputs.{Inputs}
use Rattle.rr_word_gates.specs.Carried.{Carries, CarriesBit}
use Rattle.rr_blast_sites.specs.Finding.{Picks, guarded_by, is_on}
use Rattle.rr_blast_sites.specs.Instances.{HasWires, World, Reads, Place, place_of, env_in, made_in, worth, truth, test_truth, new_value, literal_worth, listed}
use Rattle.rr_word_gates.proofs.Carrying.{Carries-same, CarriesBit-same, carried_choice, value-read}
use Rattle.rr_instance_laws.proofs.FormLaws.{form_instance}
use Rattle.rr_blast_sites.proofs.GuardLaws.{has_number, rest_whole}

word_extended : (w : ℕ) (xs : List Bool) → extend w false xs ≡ word w (number xs)
word_extended w xs = sym (word_tabulated w (number xs) (λ i. get_or xs i false) (λ i l. has_number xs i))

-- a literal by the bits of its site
pub literal-carried : (n m : Netlist) (number_ : Number) (own : ℕ) (bits part us new out : List Wire) (old : List Bool) (d : Wire) → 0 < length bits → part ≡ take own (drop 1 bits) → us ≡ new → old ≡ word number_.width number_.value
    → Carries n new (λ input. extend number_.width false (wire_values n input part))
    → Carries m out (λ input. (if (wire_value n input (get_or bits 0 d)) then (wire_values n input us) else old))
    → Carries m out (λ input. word number_.width (if (get_or (wire_values n input bits) 0 false) then (number (take own (drop 1 (wire_values n input bits)))) else number_.value))
literal-carried n m k own bits part us new out old d l p u o cn c = record {
  wires = c.wires;
  value = λ input.
      let vs : List Bool = wire_values n input bits in
      let value_bits : wire_values n input part ≡ take own (drop 1 vs) = ap (wire_values n input) p ∙ sym (take-map (wire_value n input) own (drop 1 bits)) ∙ ap (take own) (sym (drop-map (wire_value n input) 1 bits)) in
      let new_is : wire_values n input us ≡ word k.width (number (take own (drop 1 vs))) = ap (wire_values n input) u ∙ cn.value input ∙ word_extended k.width (wire_values n input part) ∙ ap (λ xs. word k.width (number xs)) value_bits in
      c.value input
      ∙ ap (λ (b : Bool). if b then (wire_values n input us) else old) (value-read n input bits 0 d l)
      ∙ ap₂ (λ xs ys. if (get_or vs 0 false) then xs else ys) new_is o
      ∙ by_switch (get_or vs 0 false) (number (take own (drop 1 vs)));
}
  where
    by_switch : (b : Bool) (x : ℕ) → (if b then (word k.width x) else (word k.width k.value)) ≡ word k.width (if b then x else k.value)
    by_switch true x = refl
    by_switch false x = refl

-- what the choice's wires from a place carry
rest_values : (n : Netlist) (i : Inputs) (W : World) (at : ℕ) (bits : List Wire) (input : ℕ → Bool) → bits ≡ take (length i.choice.now - at) (drop at i.choice.now) → Reads n i W → wire_values n input bits ≡ drop at (W.choice input)
rest_values n i W at bits input e r =
    ap (wire_values n input) (e ∙ rest_whole i.choice.now at) ∙ sym (drop-map (wire_value n input) at i.choice.now) ∙ ap (drop at) (r.choice.value input)

pub rest_wires : (n : Netlist) (i : Inputs) (at : ℕ) → HasWires n i → AreWires n (take (length i.choice.now - at) (drop at i.choice.now))
rest_wires n i at h = rw (rest_whole i.choice.now at) (All-drop (IsWire n) at i.choice.now h.choice)

pub literal_here : (n m : Netlist) (i : Inputs) (W : World) (token : ℕ) (k : Number) (s : ArenaSite) (own at : ℕ) (bits out : List Wire) → bits ≡ take (length i.choice.now - at) (drop at i.choice.now) → own ≡ value_width (plain_site s).kind
    → Picks (is_literal_at token) (listed i) (plain_site s) at → Reads n i W
    → Carries m out (λ input. word k.width (if (get_or (wire_values n input bits) 0 false) then (number (take own (drop 1 (wire_values n input bits)))) else k.value)) → Carries m out (literal_worth (place_of i W) token k)
unfolding literal_worth
literal_here n m i W token k s own at bits out e o p r c =
    Carries-same m out (λ input. word k.width (if (get_or (wire_values n input bits) 0 false) then (number (take own (drop 1 (wire_values n input bits)))) else k.value)) (literal_worth (place_of i W) token k) c
    (λ input.
    ap₂ (λ xs w. word k.width (if (get_or xs 0 false) then (number (take w (drop 1 xs))) else k.value)) (rest_values n i W at bits input e r) o
    ∙ sym (ap (λ f. word k.width (new_value f k.value)) (p.pick (W.choice input))))

pub literal_nowhere : (n : Netlist) (i : Inputs) (W : World) (token : ℕ) (k : Number) (out : List Wire) → ((bits : List Bool) → find_pick (is_literal_at token) (listed i) (decode (listed i) bits) ≡ None)
    → Carries n out (λ input. word k.width k.value) → Carries n out (literal_worth (place_of i W) token k)
unfolding literal_worth
literal_nowhere n i W token k out none c = Carries-same n out (λ input. word k.width k.value) (literal_worth (place_of i W) token k) c (λ input. sym (ap (λ f. word k.width (new_value f k.value)) (none (W.choice input))))

-- a guard by the bits of its site

min_twice : (a b : ℕ) → min (min a b) b ≡ min a b
min_twice a b = omega arith

guard_read : (k : SiteKind) (token n : ℕ) (bits : List Bool) (test : Bool) (T : List ℕ → Bool) → is_guard n k ≡ true
    → new_truth (Some (record { kind = k; token = token }, read_pick (record { kind = k; token = token }) bits)) test T ≡ guarded_by (guard_names k) bits test T
guard_read (Literal width signed) token n bits test T e = cc
guard_read (Overwrite owner target width now names) token n bits test T e = cc
guard_read (Guard owner extent names) token n bits test T e =
    ap (λ x. if (get_or bits 0 false) then x else test) (by_zero (length names == 0) (min (number (take 3 (drop 1 bits))) 4) (number (take (name_width (length names)) (drop 3 (drop 1 bits)))) (length names - 1))
  where
    by_zero : (z : Bool) (f x l : ℕ) → guard_truth (if z then 0 else (if z then 0 else f)) test (T (get_or names (min (if z then 0 else (min x l)) l) [])) ≡ (if z then (not test) else (guard_truth f test (T (get_or names (min x l) []))))
    by_zero true f x l = refl
    by_zero false f x l = ap (λ j. guard_truth f test (T (get_or names j []))) (min_twice x l)

before_guard : (p : Place) (t : Tree) (input : ℕ → Bool) → truth p t input ≡ is_true p.names (made_in p input t) (env_in p input)
unfolding worth
before_guard p t input = ap (λ (a : Shape). not (is_zero (value p.names (made_in p input t) (env_in p input) a.width a.signed))) (sym (form_instance p.sites (decode p.sites (p.world.choice input)) p.names t))

both_true : (a b : Bool) → (a && b) ≡ true → a ≡ true
both_true true b h = refl
both_true false b h = cc

pub test_here : (n m : Netlist) (i : Inputs) (W : World) (t : Tree) (s : ArenaSite) (names : List (Bor (List ℕ))) (at : ℕ) (bits : List Wire) (before w : Wire) → bits ≡ take (length i.choice.now - at) (drop at i.choice.now) → texts names ≡ guard_names (plain_site s).kind
    → Picks (is_guard_of t) (listed i) (plain_site s) at → Reads n i W → CarriesBit n before (truth (place_of i W) t)
    → CarriesBit m w (λ input. guarded_by (texts names) (wire_values n input bits) (wire_value n input before) (name_truth i.scope.now (env_in (place_of i W) input))) → CarriesBit m w (test_truth (place_of i W) t)
unfolding test_truth
test_here n m i W t s names at bits before w e ns p r b c =
    CarriesBit-same m w (λ input. guarded_by (texts names) (wire_values n input bits) (wire_value n input before) (name_truth i.scope.now (env_in (place_of i W) input))) (test_truth (place_of i W) t) c
    (λ input.
    let P : Place = place_of i W in
    let T : List ℕ → Bool = name_truth i.scope.now (env_in P input) in
    let cb : List Bool = W.choice input in
    let old : Bool = is_true i.scope.now (made_in P input t) (env_in P input) in
    ap₂ (λ xs x. guarded_by xs x (wire_value n input before) T) ns (rest_values n i W at bits input e r)
    ∙ ap (λ x. guarded_by (guard_names (plain_site s).kind) (drop at cb) x T) (b.value input ∙ before_guard P t input)
    ∙ sym (guard_read (plain_site s).kind (plain_site s).token (length (spell t)) (drop at cb) old T (both_true (is_guard (length (spell t)) (plain_site s).kind) ((plain_site s).token == first t) p.passes))
    ∙ sym (ap (λ f. new_truth f old T) (p.pick cb))
    ∙ sym (truth_of_tests i.scope.now (env_in P input) (find_pick (is_guard_of t) P.sites (decode P.sites cb)) (made_in P input t)))

pub test_nowhere : (n : Netlist) (i : Inputs) (W : World) (t : Tree) (before : Wire) → ((bits : List Bool) → find_pick (is_guard_of t) (listed i) (decode (listed i) bits) ≡ None)
    → CarriesBit n before (truth (place_of i W) t) → CarriesBit n before (test_truth (place_of i W) t)
unfolding test_truth
test_nowhere n i W t before none b = CarriesBit-same n before (truth (place_of i W) t) (test_truth (place_of i W) t) b
    (λ input.
    let P : Place = place_of i W in
    before_guard P t input
    ∙ sym (ap (λ f. new_truth f (is_true i.scope.now (made_in P input t) (env_in P input)) (name_truth i.scope.now (env_in P input))) (none (W.choice input)))
    ∙ sym (truth_of_tests i.scope.now (env_in P input) (find_pick (is_guard_of t) P.sites (decode P.sites (W.choice input))) (made_in P input t)))

-- the switch of a site by its first bit
pub switch_read : (n : Netlist) (choice : List Wire) (test : Site → Bool) (ss : List Site) (s : Site) (at : ℕ) (d : Wire) → Picks test ss s at → length choice ≡ total_bits ss → (input : ℕ → Bool)
    → wire_value n input (get_or choice at d) ≡ is_on (find_pick test ss (decode ss (wire_values n input choice)))
switch_read n choice test ss s at d p e input =
    let r = p.room in
    let z : at + 0 ≡ at = omega arith in
    value-read n input choice at d (omega (arith, r, e))
    ∙ sym (get_or-drop at (wire_values n input choice) 0 false ∙ ap (λ k. get_or (wire_values n input choice) k false) z)
    ∙ sym (ap is_on (p.pick (wire_values n input choice)))

-- room

pub literal_room : (n : Netlist) (i : Inputs) (test : Site → Bool) (s : Site) (at own : ℕ) → HasWires n i → Picks test (listed i) s at → own ≡ value_width s.kind → 1 + own ≤ length (take (length i.choice.now - at) (drop at i.choice.now))
literal_room n i test s at own h p o = rw (rest_whole i.choice.now at) (let l = length-drop at i.choice.now in omega (arith, h.room, p.room, o, l))

pub guard_room : (n : Netlist) (i : Inputs) (t : Tree) (s : Site) (at : ℕ) (names : List (Bor (List ℕ))) → HasWires n i → Picks (is_guard_of t) (listed i) s at → texts names ≡ guard_names s.kind
    → 1 + (if length names == 0 then 0 else (3 + name_width (length names))) ≤ length (take (length i.choice.now - at) (drop at i.choice.now))
guard_room n i t s at names h p e =
    let l = length-drop at i.choice.now in
    let w = guard_size s.kind (length (spell t)) (both_true (is_guard (length (spell t)) s.kind) (s.token == first t) p.passes) in
    let c : length names ≡ length (guard_names s.kind) = sym (length-map names (λ (k : Bor (List ℕ)). k.now)) ∙ ap length e in
    rw (rest_whole i.choice.now at, c) (omega (arith, h.room, p.room, l, w))
  where
    guard_size : (k : SiteKind) (n : ℕ) → is_guard n k ≡ true → value_width k + guard_width k ≡ (if length (guard_names k) == 0 then 0 else (3 + name_width (length (guard_names k))))
    guard_size (Literal width signed) n e = cc
    guard_size (Overwrite owner target width now names) n e = cc
    guard_size (Guard owner extent names) n e = omega arith

four_off : (n : ℕ) → (1 + 0 + (3 + n)) - 4 ≡ n
four_off n = omega arith

-- the bits of a guard's name are all but the switch and the form's
pub name_bits_of : (k : SiteKind) (n : ℕ) → is_guard n k ≡ true → (1 + value_width k + guard_width k) - 4 ≡ name_width (length (guard_names k))
name_bits_of (Literal width signed) n e = cc
name_bits_of (Overwrite owner target width now names) n e = cc
name_bits_of (Guard owner extent names) n e = by_flag (length names == 0) refl
  where
    by_flag : (z : Bool) → (length names == 0) ≡ z → (1 + 0 + (if z then 0 else (3 + name_width (length names)))) - 4 ≡ name_width (length names)
    by_flag true q = ap name_width (sym (eqb-true (length names) 0 q))
    by_flag false q = four_off (name_width (length names))

pub places_are : (t : Tree) (ss : List Site) (s : Site) (at : ℕ) (names : List (Bor (List ℕ))) (k : ℕ) → Picks (is_guard_of t) ss s at → texts names ≡ guard_names s.kind → ((extent : ℕ) → is_guard extent s.kind ≡ true → k ≡ name_width (length (guard_names s.kind))) → k ≡ name_width (length names)
places_are t ss s at names k p e f =
    let c : length names ≡ length (guard_names s.kind) = sym (length-map names (λ (x : Bor (List ℕ)). x.now)) ∙ ap length e in
    f (length (spell t)) (both_true (is_guard (length (spell t)) s.kind) (s.token == first t) p.passes) ∙ ap name_width (sym c)
