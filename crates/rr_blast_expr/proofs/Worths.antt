-- the values of an instance, by cases on the expression
use Rattle.std.proofs.Common.{◌≡◌, ◌&&◌, ℕ, ◌+◌, ◌-◌, ◌<◌, inl, inr, Bool, true, false, cond, not, if◌then◌else◌, List, [], ◌∷◌, ◌++◌, length, get_or, drop, Option, Some, None, refl, sym, ◌∙◌, ap, ap₂, subst, arith, length-append, ℤ, pos, ◌-ℤ◌, max}
use Rattle.std.specs.Prelude.{Result, IfOk, Vec}
use Rattle.std.specs.Global.{Global}
use Rattle.std.proofs.lemmas.Result.{IfOk-weaker}
use Rattle.std.proofs.lemmas.Int.{ints}
use Rattle.std.proofs.lemmas.List.{drop_more, drop_all, map-append, length-map, same_lists, get_or_default}
use Rattle.std.proofs.lemmas.List.Elements.{All-append, All-nil}
use denote.Ref.{Bor}
use Rattle.rr_syntax.specs.declared.tree.Expr.{Expr}
use Rattle.rr_syntax.specs.declared.tree.Expr.TheVariants as expr
use Rattle.rr_syntax.specs.declared.token.Number.{Number}
use Rattle.rr_syntax.specs.declared.token.Mark.{Mark}
use Rattle.rr_syntax.specs.Tree.{Tree, Literal, Binary}
use Rattle.rr_syntax.specs.View.{plain, plain_list}
use Rattle.rr_syntax.proofs.Rows.{plain_concat, plain_repeat}
use Rattle.rr_bits.proofs.Places.{length_tabulate, get_tabulate}
use Rattle.rr_bits.specs.Words.{top, extend, word, select, is_zero, reading}
use Rattle.rr_bits.proofs.Numbers.{word_mod}
use Rattle.rr_circuit.specs.declared.Wire.{Wire}
use Rattle.rr_circuit.specs.Values.{Netlist, Extends, AreWires, IsWire, wire_value, wire_values}
use Rattle.rr_circuit.proofs.Netlists.{AreWires-extends, wire_values-extends, Extends-refl, Extends-trans}
use Rattle.rr_expr.specs.declared.types.Bit.{Bit}
use Rattle.rr_expr.specs.declared.types.Shape.{Shape}
use Rattle.rr_expr.specs.declared.types.Entity.{Entity}
use Rattle.rr_expr.specs.declared.types.Entity.TheVariants.{Constant, Signal, Memory, Instance}
use Rattle.rr_expr.specs.declared.operators.Infix.{Infix}
use Rattle.rr_expr.specs.declared.operators.Infix.TheVariants.{Either}
use Rattle.rr_expr.specs.declared.operators.Prefix.{Prefix}
use Rattle.rr_expr.specs.declared.operators.Prefix.TheVariants.{Plus}
use Rattle.rr_expr.specs.Operators.{infixes, prefixes, infix_value, prefix_value, infix_shape, prefix_shape}
use Rattle.rr_expr.specs.Reading.{NamesBit}
use Rattle.rr_expr.specs.Memories.{index_value}
use Rattle.rr_expr.specs.Scopes.{Names, meant, entity_shape, entity_value, entity_range, env_of_lists}
use Rattle.rr_expr.specs.Selects.{repeated, place, lowest_place, integer_with}
use Rattle.rr_expr.specs.Values.{form, widths, value, values, nowhere, own}
use Rattle.rr_expr.specs.Faults.{fault, takes_constants, constant_count, constant_span}
use Rattle.rr_expr.proofs.Equations.{form-Concat, form-Cast, form-Paren}
use Rattle.rr_expr.proofs.NamedBits.{constant_names, value_by_named_bits}
use Rattle.rr_choice.specs.declared.pick.Pick.{Pick}
use Rattle.rr_choice.specs.Sites.{Site}
use Rattle.rr_choice.specs.Choices.{decode, total_bits}
use Rattle.rr_choice.specs.Places.{find_pick, is_literal_at}
use Rattle.rr_instance.specs.Instances.{new_literal, number_with, fresh, instance_tree, instance_parts, instance_test}
use Rattle.rr_instance_laws.specs.Truth.{is_true}
use Rattle.rr_blast_sites.specs.declared.inputs.Inputs.{Inputs}
use Rattle.rr_word_gates.specs.Carried.{Carries, CarriesBit}
use Rattle.rr_blast_sites.specs.Signals.{AreSignals, signal_values}
use Rattle.rr_blast_sites.specs.Instances.{HasWires, World, Reads, Place, place_of, env_in, made_in, worth, own_worth, truth, test_truth, parts_worth, unchanged, new_value, literal_worth, listed}
use Rattle.rr_memory_gates.specs.declared.Memory as memory
use Rattle.rr_memory_gates.specs.Reading.{word_read}
use Rattle.rr_memory_gates.proofs.WordReads.{read_is}
use Rattle.rr_blast_expr.specs.Forms.{placed, name_worth, index_worth, word_worth, bit_worth, part_worth, indexed_worth, prefix_worth}
use Rattle.rr_word_gates.proofs.Carrying.{Carries-same, carried1}
use Rattle.rr_blast_expr.proofs.Faultless.{none_binary}
use Rattle.rr_instance_laws.proofs.FormLaws.{form_instance}
use Rattle.rr_instance_laws.proofs.OffLaws.{keeps_at_no_cost}
use Rattle.rr_blast_sites.proofs.GrowthLaws.{Reads-extends}
use Rattle.rr_blast_sites.proofs.SignalLaws.{signal_values-extends}

-- without sites an expression is its own instance

instance_none : (bits : List Bool) (t : Tree) → instance_tree [] (decode [] bits) t ≡ t
unfolding decode
instance_none bits t = keeps_at_no_cost.expression [] [] t refl

-- at each form of the arena tree

module _ (p : Place) (e : Expr) (context : Shape) (input : ℕ → Bool) where
  pub Name-arm : (token : ℕ) (name : Bor (List ℕ)) → e ≡ expr.Name token name → placed context (name_worth p name.now) input ≡ worth p (plain e) context input
  unfolding worth plain instance_tree value
  Name-arm token name is = sym (ap (λ x. worth p (plain x) context input) is)

  literal_value : (found : Option (Site × Pick)) (token : ℕ) (n : Number) (env : Bit → Bool) → extend context.width context.signed (word n.width (new_value found n.value)) ≡ value p.names (new_literal found token n) env context.width context.signed
  unfolding value
  literal_value None token n env = refl
  literal_value (Some (x, k)) token n env = by_switch k.on
    where
      by_switch : (on : Bool) → extend context.width context.signed (word n.width (if on then k.value else n.value)) ≡ value p.names (if on then Literal fresh (number_with n k.value) else Literal token n) env context.width context.signed
      by_switch true = ap (extend context.width context.signed) (sym (word_mod n.width k.value))
      by_switch false = refl

  pub Literal-arm : (token : ℕ) (n : Number) → e ≡ expr.Literal token n → placed context (literal_worth p token n) input ≡ worth p (plain e) context input
  unfolding worth plain instance_tree literal_worth
  Literal-arm token n is =
      literal_value (find_pick (is_literal_at token) p.sites (decode p.sites (p.world.choice input))) token n (env_in p input)
      ∙ sym (ap (λ x. worth p (plain x) context input) is)

  still : (t : Tree) → value p.names t (env_in p input) (form p.names t).width (form p.names t).signed ≡ own_worth (unchanged p) t input
  unfolding worth
  still t = ap (λ u. value p.names u (env_in p input) (form p.names t).width (form p.names t).signed) (sym (instance_none [] t))

  pub Bit-arm : (token : ℕ) (name : Bor (List ℕ)) (i : Bor Expr) → e ≡ expr.Bit token name i → placed context (bit_worth p name.now (plain i.now)) input ≡ worth p (plain e) context input
  unfolding worth plain instance_tree value
  Bit-arm token name i is =
      ap (λ v. extend context.width context.signed (index_value (env_in p input) (meant p.names name.now) (reading (form p.names (plain i.now)).signed v))) (sym (still (plain i.now)))
      ∙ sym (ap (λ x. worth p (plain x) context input) is)

  pub Part-arm : (token : ℕ) (name : Bor (List ℕ)) (l r : Bor Expr) (count : ℕ) → e ≡ expr.Part token name l r → count ≡ constant_span p.names (plain l.now) (plain r.now) → placed context (part_worth p name.now (plain r.now) count) input ≡ worth p (plain e) context input
  unfolding worth plain instance_tree value
  Part-arm token name l r count is k =
      ap (λ c. placed context (part_worth p name.now (plain r.now) c) input) k
      ∙ sym (ap (λ x. worth p (plain x) context input) is)

  pub Indexed-arm : (token : ℕ) (name : Bor (List ℕ)) (f n : Bor Expr) (up : Bool) (count : ℕ) → e ≡ expr.Indexed token name f n up → count ≡ constant_count p.names (plain n.now) → placed context (indexed_worth p name.now (plain f.now) count up) input ≡ worth p (plain e) context input
  unfolding worth plain instance_tree value
  Indexed-arm token name f n up count is k =
      ap (λ c. placed context (indexed_worth p name.now (plain f.now) c up) input) k
      ∙ ap (λ v. extend context.width context.signed (select (name_worth p name.now input) (lowest_place (entity_range (meant p.names name.now)) up (reading (form p.names (plain f.now)).signed v) (constant_count p.names (plain n.now))) (constant_count p.names (plain n.now)))) (sym (still (plain f.now)))
      ∙ sym (ap (λ x. worth p (plain x) context input) is)

  pub Unary-arm : (op : Mark) (t : Bor Expr) (k : Prefix) → e ≡ expr.Unary op t → k ≡ get_or prefixes op.0 Plus → prefix_worth p k (plain t.now) context input ≡ worth p (plain e) context input
  unfolding worth plain instance_tree value
  Unary-arm op t k is h =
      ap₂ (λ f a. prefix_value f a (value p.names (made_in p input (plain t.now)) (env_in p input)) context.width context.signed) h (sym (form_instance p.sites (decode p.sites (p.world.choice input)) p.names (plain t.now)))
      ∙ sym (ap (λ x. worth p (plain x) context input) is)

  pub Cond-arm : (a b c : Bor Expr) → e ≡ expr.Cond a b c → (if (test_truth p (plain a.now) input) then (worth p (plain b.now) context input) else (worth p (plain c.now) context input)) ≡ worth p (plain e) context input
  unfolding worth test_truth plain instance_tree value
  Cond-arm a b c is =
      by_test (is_zero (own p.names (instance_test p.sites (decode p.sites (p.world.choice input)) (plain a.now)) (env_in p input))) (worth p (plain b.now) context input) (worth p (plain c.now) context input)
      ∙ sym (ap (λ x. worth p (plain x) context input) is)
    where
      by_test : (z : Bool) (xs ys : List Bool) → (if (not z) then xs else ys) ≡ cond z ys xs
      by_test true xs ys = refl
      by_test false xs ys = refl

  pub Concat-arm : (ts : Bor (List Expr)) → e ≡ expr.Concat ts → placed context (parts_worth p (plain_list ts.now)) input ≡ worth p (plain e) context input
  unfolding worth parts_worth instance_tree value
  Concat-arm ts is = sym (ap (λ t. worth p t context input) (ap plain is ∙ plain_concat ts))

  pub Repeat-arm : (n : Bor Expr) (ts : Bor (List Expr)) (copies : ℕ) → e ≡ expr.Repeat n ts → copies ≡ constant_count p.names (plain n.now) → placed context (λ given. repeated copies (parts_worth p (plain_list ts.now) given)) input ≡ worth p (plain e) context input
  unfolding worth parts_worth instance_tree value
  Repeat-arm n ts copies is k =
      ap (λ c. extend context.width context.signed (repeated c (parts_worth p (plain_list ts.now) input))) k
      ∙ sym (ap (λ t. worth p t context input) (ap plain is ∙ plain_repeat n ts))

  pub Cast-arm : (to : Bool) (t : Bor Expr) → e ≡ expr.Cast to t → placed context (own_worth p (plain t.now)) input ≡ worth p (plain e) context input
  unfolding worth plain instance_tree value
  Cast-arm to t is =
      ap (λ (a : Shape). extend context.width context.signed (value p.names (made_in p input (plain t.now)) (env_in p input) a.width a.signed)) (sym (form_instance p.sites (decode p.sites (p.world.choice input)) p.names (plain t.now)))
      ∙ sym (ap (λ x. worth p (plain x) context input) is)

  pub Paren-arm : (t : Bor Expr) → e ≡ expr.Paren t → worth p (plain t.now) context input ≡ worth p (plain e) context input
  unfolding worth plain instance_tree value
  Paren-arm t is = sym (ap (λ x. worth p (plain x) context input) is)

-- operators between operands

pub Infix-arm : (p : Place) (t : Tree) (context : Shape) (input : ℕ → Bool) (m : ℕ) (l r : Tree) (k : Infix) → t ≡ Binary m l r → k ≡ get_or infixes m Either → takes_constants k ≡ false
    → infix_value k (form p.names l) (form p.names r) (λ w signed. worth p l (record { width = w; signed = signed }) input) (λ w signed. worth p r (record { width = w; signed = signed }) input) context.width context.signed ≡ worth p t context input
unfolding worth instance_tree value
Infix-arm p t context input m l r k is h free =
    let ps = decode p.sites (p.world.choice input) in
    let x = value p.names (instance_tree p.sites ps l) (env_in p input) in
    let y = value p.names (instance_tree p.sites ps r) (env_in p input) in
    let made : instance_tree p.sites ps (Binary m l r) ≡ Binary m (instance_tree p.sites ps l) (instance_tree p.sites ps r) =
    ap (λ (b : Bool). if b then Binary m l r else Binary m (instance_tree p.sites ps l) (instance_tree p.sites ps r)) (ap takes_constants (sym h) ∙ free) in
    ap₂ (λ a b. infix_value k a b x y context.width context.signed) (sym (form_instance p.sites ps p.names l)) (sym (form_instance p.sites ps p.names r))
    ∙ ap (λ f. infix_value f (form p.names (instance_tree p.sites ps l)) (form p.names (instance_tree p.sites ps r)) x y context.width context.signed) h
    ∙ sym (ap (λ u. value p.names u (env_in p input) context.width context.signed) made)
    ∙ sym (ap (λ u. worth p u context input) is)

pub Constant-arm : (p : Place) (t : Tree) (context : Shape) (input : ℕ → Bool) (m : ℕ) (l r : Tree) (k : Infix) → t ≡ Binary m l r → fault p.names t false ≡ None → k ≡ get_or infixes m Either → takes_constants k ≡ true
    → value p.names t nowhere context.width context.signed ≡ worth p t context input
unfolding worth instance_tree NamesBit
Constant-arm p t context input m l r k is none h takes =
    let ps = decode p.sites (p.world.choice input) in
    let always : takes_constants (get_or infixes m Either) ≡ true = ap takes_constants (sym h) ∙ takes in
    let made : instance_tree p.sites ps (Binary m l r) ≡ Binary m l r = ap (λ (b : Bool). if b then Binary m l r else Binary m (instance_tree p.sites ps l) (instance_tree p.sites ps r)) always in
    let parts = none_binary p.names t m l r is none in
    let left : fault p.names l true ≡ None = ap (fault p.names l) (sym always) ∙ parts.0 in
    let right : fault p.names r true ≡ None = ap (fault p.names r) (sym always) ∙ parts.1 in
    ap (λ u. value p.names u nowhere context.width context.signed) is
    ∙ value_by_named_bits p.names (Binary m l r) nowhere (env_in p input) (λ b n. absurd (elim n [ inl x ↦ constant_names p.names l b left x | inr y ↦ constant_names p.names r b right y ])) context.width context.signed
    ∙ sym (ap (λ u. value p.names u (env_in p input) context.width context.signed) made)
    ∙ sym (ap (λ u. worth p u context input) is)

-- the same inputs without sites

still_world : World → World
still_world W = record { signals = W.signals; choice = λ input. [] }

pub HasWires-still : (n : Netlist) (i j : Inputs) → j.signals.now ≡ i.signals.now → listed j ≡ [] → j.choice.now ≡ [] → AreSignals n i.signals.now → HasWires n j
unfolding total_bits
HasWires-still n i j signals sites choice h = record {
  signals = subst (AreSignals n) (sym signals) h;
  choice = subst (AreWires n) (sym choice) (All-nil (IsWire n));
  room = ap length choice ∙ sym (ap total_bits sites);
}

Reads-still : (n : Netlist) (i j : Inputs) (W : World) → j.signals.now ≡ i.signals.now → listed j ≡ [] → j.choice.now ≡ [] → Reads n i W → Reads n j (still_world W)
unfolding still_world
Reads-still n i j W signals sites choice h = record {
  wires = HasWires-still n i j signals sites choice h.wires.signals;
  signals = λ input. ap (signal_values n input) signals ∙ h.signals input;
  choice = subst (λ (ws : List Wire). Carries n ws (λ input. [])) (sym choice) (record { wires = All-nil (IsWire n); value = λ input. refl });
}

-- an index that wires carry
pub index-arm : (n m : Netlist) (i j : Inputs) (W : World) (out : List Wire) (t : Tree) → j.scope.now ≡ i.scope.now → j.signals.now ≡ i.signals.now → listed j ≡ [] → j.choice.now ≡ [] → Reads n i W
    → ((V : World) → Reads n j V → Carries m out (own_worth (place_of j V) t)) → Carries m out (own_worth (unchanged (place_of i W)) t)
unfolding still_world
index-arm n m i j W out t scope signals sites choice h f =
    subst (λ (q : Place). Carries m out (own_worth q t))
    (ap₂ (λ (s : Names) (ss : List Site). record { names = s; sites = ss; world = record { signals = W.signals; choice = λ (input : ℕ → Bool). [] } }) scope sites)
    (f (still_world W) (Reads-still n i j W signals sites choice h))

-- and a constant one
pub constant_index : (p : Place) (t : Tree) (input : ℕ → Bool) → fault p.names t true ≡ None → own p.names t nowhere ≡ own_worth (unchanged p) t input
unfolding worth
constant_index p t input none =
    value_by_named_bits p.names t nowhere (env_in p input) (λ b n. absurd (constant_names p.names t b none n)) (form p.names t).width (form p.names t).signed
    ∙ ap (λ u. value p.names u (env_in p input) (form p.names t).width (form p.names t).signed) (sym (instance_none [] t))

-- parts, from the last to the first

rest_is : (xs : List Expr) (k : ℕ) (x : Expr) → k < length xs → x ≡ get_or xs k x → drop k xs ≡ x ∷ drop (k + 1) xs
rest_is xs k x l is = drop_more xs k x l ∙ ap (λ y. y ∷ drop (k + 1) xs) (sym is)

parts_more : (p : Place) (es : List Expr) (k : ℕ) (e : Expr) (input : ℕ → Bool) → k < length es → e ≡ get_or es k e → parts_worth p (plain_list (drop (k + 1) es)) input ++ own_worth p (plain e) input ≡ parts_worth p (plain_list (drop k es)) input
unfolding parts_worth worth plain_list instance_tree value
parts_more p es k e input l is =
    let ps = decode p.sites (p.world.choice input) in
    ap (λ (a : Shape). values p.names (instance_parts p.sites ps (plain_list (drop (k + 1) es))) (env_in p input) ++ value p.names (instance_tree p.sites ps (plain e)) (env_in p input) a.width a.signed) (sym (form_instance p.sites ps p.names (plain e)))
    ∙ sym (ap (λ xs. values p.names (instance_parts p.sites ps (plain_list xs)) (env_in p input)) (rest_is es k e l is))

widths_more : (s : Names) (es : List Expr) (k : ℕ) (e : Expr) → k < length es → e ≡ get_or es k e → widths s (plain_list (drop k es)) ≡ (form s (plain e)).width + widths s (plain_list (drop (k + 1) es))
unfolding plain_list form
widths_more s es k e l is = ap (λ xs. widths s (plain_list xs)) (rest_is es k e l is)

pub record Listed (i : Inputs) (start now : Netlist) (parts : List Expr) (out : List Wire) (k : ℕ) : Type 0 where
  pub extends : Extends start now
  pub wires : AreWires now out
  pub width : length out ≡ widths i.scope.now (plain_list (drop (length parts - k) parts))
  pub value : (W : World) → Reads start i W → Carries now out (parts_worth (place_of i W) (plain_list (drop (length parts - k) parts)))

pub Listed-none : (i : Inputs) (start : Netlist) (parts : List Expr) (out : List Wire) → out ≡ [] → Listed i start start parts out 0
unfolding plain_list form parts_worth instance_tree value
Listed-none i start parts out e =
    let none : drop (length parts - 0) parts ≡ [] = drop_all (length parts - 0) parts (omega arith) in
    let wires : AreWires start out = subst (AreWires start) (sym e) (All-nil (IsWire start)) in
    record {
      extends = Extends-refl start;
      wires = wires;
      width = ap length e ∙ sym (ap (λ es. widths i.scope.now (plain_list es)) none);
      value = λ W h. record { wires = wires; value = λ input. ap (wire_values start input) e ∙ sym (ap (λ es. parts_worth (place_of i W) (plain_list es) input) none) };
    }

pub Listed-more : (i : Inputs) (start now next : Netlist) (parts : List Expr) (out low slice new : List Wire) (e : Expr) (k at : ℕ) → Listed i start now parts out k → k < length parts → at ≡ length parts - 1 - k → e ≡ get_or parts at e → Extends now next
    → AreWires next low → length low ≡ (form i.scope.now (plain e)).width → ((W : World) → Reads now i W → Carries next low (own_worth (place_of i W) (plain e))) → slice ≡ low → new ≡ out ++ slice → Listed i start next parts new (k + 1)
Listed-more i start now next parts out low slice new e k at h l a is x lows wide value same grown =
    let here : at ≡ length parts - (k + 1) = omega arith in
    let above : at + 1 ≡ length parts - k = omega arith in
    let both : new ≡ out ++ low = grown ∙ ap (λ ws. out ++ ws) same in
    let wires : AreWires next new = subst (AreWires next) (sym both) (All-append (IsWire next) out low (AreWires-extends now next out x h.wires) lows) in
    let more = widths_more i.scope.now parts at e (omega arith) is in
    let rest : length out ≡ widths i.scope.now (plain_list (drop (at + 1) parts)) = h.width ∙ ap (λ j. widths i.scope.now (plain_list (drop j parts))) (sym above) in
    record {
      extends = Extends-trans start now next h.extends x;
      wires = wires;
      width = ap length both ∙ length-append out low ∙ omega (arith, more, rest, wide) ∙ ap (λ j. widths i.scope.now (plain_list (drop j parts))) here;
      value = λ W r. record {
        wires = wires;
        value = λ input.
            ap (wire_values next input) both ∙ map-append (wire_value next input) out low
            ∙ ap₂ (λ us vs. us ++ vs)
            (wire_values-extends now next out input x h.wires ∙ (h.value W r).value input ∙ ap (λ j. parts_worth (place_of i W) (plain_list (drop j parts)) input) (sym above))
            ((value W (Reads-extends start now i W h.extends r)).value input)
            ∙ parts_more (place_of i W) parts at e input (omega arith) is
            ∙ ap (λ j. parts_worth (place_of i W) (plain_list (drop j parts)) input) here;
      };
    }

pub Listed-all : (i : Inputs) (start now : Netlist) (parts : List Expr) (out : List Wire) (k : ℕ) → Listed i start now parts out k → k ≡ length parts → (length out ≡ widths i.scope.now (plain_list parts)) × ((W : World) → Reads start i W → Carries now out (parts_worth (place_of i W) (plain_list parts)))
Listed-all i start now parts out k h e =
    let none : length parts - k ≡ 0 = omega arith in
    (h.width ∙ ap (λ j. widths i.scope.now (plain_list (drop j parts))) none, λ W r. Carries-same now out _ _ (h.value W r) (λ input. ap (λ j. parts_worth (place_of i W) (plain_list (drop j parts)) input) none))

-- selects

pub name-carried : (n : Netlist) (i : Inputs) (W : World) (out : List Wire) (e : Entity) (name : List ℕ) → e ≡ meant i.scope.now name → Reads n i W → Carries n out (λ input. entity_value (env_of_lists (signal_values n input i.signals.now)) e) → Carries n out (name_worth (place_of i W) name)
name-carried n i W out e name is h c = Carries-same n out (λ input. entity_value (env_of_lists (signal_values n input i.signals.now)) e) (name_worth (place_of i W) name) c
    (λ input. ap₂ (λ v k. entity_value (env_of_lists v) k) (h.signals input) is)

unmoved : (z : ℤ) → z -ℤ pos 0 ≡ z
unmoved z = omega (arith, ints)

-- bits at an index, from those at its value
pub wired-bits : (p : Place) (n m k : Netlist) (shape : Shape) (range : ℕ × ℕ) (below count : ℕ) (index : Tree) (word at vs out : List Wire) → shape ≡ form p.names index → vs ≡ at → Extends n m → AreWires n word → Carries m at (own_worth (unchanged p) index)
    → Carries k out (λ input. select (wire_values m input word) (place range (reading shape.signed (wire_values m input vs)) -ℤ pos below) count) → Carries k out (λ input. select (wire_values n input word) (place range (index_worth p index input) -ℤ pos below) count)
wired-bits p n m k shape range below count index word at vs out sh v x hw ca co = record {
  wires = co.wires;
  value = λ input. co.value input
      ∙ ap₂ (λ xs ys. select xs (place range (reading shape.signed ys) -ℤ pos below) count) (wire_values-extends n m word input x hw) (ap (wire_values m input) v ∙ ca.value input)
      ∙ ap (λ (a : Shape). select (wire_values n input word) (place range (reading a.signed (own_worth (unchanged p) index input)) -ℤ pos below) count) sh;
}

pub constant-bits : (p : Place) (n : Netlist) (z : ℤ) (range : ℕ × ℕ) (below count : ℕ) (index : Tree) (word out : List Wire) → fault p.names index true ≡ None → z ≡ integer_with (form p.names index) (value p.names index nowhere)
    → Carries n out (λ input. select (wire_values n input word) (place range z -ℤ pos below) count) → Carries n out (λ input. select (wire_values n input word) (place range (index_worth p index input) -ℤ pos below) count)
constant-bits p n z range below count index word out none is co =
    Carries-same n out (λ input. select (wire_values n input word) (place range z -ℤ pos below) count) (λ input. select (wire_values n input word) (place range (index_worth p index input) -ℤ pos below) count) co
    (λ input. ap (λ y. select (wire_values n input word) (place range y -ℤ pos below) count) (is ∙ ap (reading (form p.names index).signed) (constant_index p index input none)))

-- but of a memory an index reads a bit
abbrev pub IsNoMemory : Entity → Type 0
IsNoMemory e = (first low words : ℕ) (range : Option (ℕ × ℕ)) (signed : Bool) → e ≡ Memory first low words range signed → ⊥

index_bit : (env : Bit → Bool) (e : Entity) (i : ℤ) → IsNoMemory e → select (entity_value env e) (place (entity_range e) i) 1 ≡ index_value env e i
index_bit env (Constant bits signed) i none = refl
index_bit env (Signal id range signed) i none = refl
index_bit env (Memory first low words range signed) i none = absurd (none first low words range signed refl)
index_bit env Instance i none = refl

pub bit-carried : (p : Place) (n m : Netlist) (e : Entity) (range : ℕ × ℕ) (name : List ℕ) (index : Tree) (word us out : List Wire) → IsNoMemory e → e ≡ meant p.names name → range ≡ entity_range e → us ≡ word → Carries n word (name_worth p name)
    → Carries m out (λ input. select (wire_values n input us) (place range (index_worth p index input) -ℤ pos 0) 1) → Carries m out (bit_worth p name index)
bit-carried p n m e range name index word us out none is r u cw co = record {
  wires = co.wires;
  value = λ input. co.value input
      ∙ ap (λ z. select (wire_values n input us) z 1) (unmoved (place range (index_worth p index input)))
      ∙ ap₂ (λ xs k. select xs (place k (index_worth p index input)) 1) (ap (wire_values n input) u ∙ cw.value input ∙ sym (ap (entity_value (env_in p input)) is)) r
      ∙ index_bit (env_in p input) e (index_worth p index input) none
      ∙ ap (λ k. index_value (env_in p input) k (index_worth p index input)) is;
}

-- of a memory a word, by a constant index and by any other

pub fixed-word : (n : Netlist) (i : Inputs) (W : World) (m : memory.Memory) (z : ℤ) (index : Tree) (out : List Wire) → Reads n i W → fault i.scope.now index true ≡ None → z ≡ integer_with (form i.scope.now index) (value i.scope.now index nowhere)
    → Carries n out (λ input. word_read (env_of_lists (signal_values n input i.signals.now)) m z) → Carries n out (word_worth (place_of i W) m index)
fixed-word n i W m z index out h none is co = Carries-same n out (λ input. word_read (env_of_lists (signal_values n input i.signals.now)) m z) (word_worth (place_of i W) m index) co
    (λ input. ap₂ (λ vs y. word_read (env_of_lists vs) m y) (h.signals input) (is ∙ ap (reading (form i.scope.now index).signed) (constant_index (place_of i W) index input none)))

pub wired-word : (n k l : Netlist) (i : Inputs) (W : World) (m : memory.Memory) (shape : Shape) (index : Tree) (at vs out : List Wire) → Reads n i W → shape ≡ form i.scope.now index → vs ≡ at → Extends n k → Carries k at (own_worth (unchanged (place_of i W)) index)
    → Carries l out (λ input. word_read (env_of_lists (signal_values k input i.signals.now)) m (reading shape.signed (wire_values k input vs))) → Carries l out (word_worth (place_of i W) m index)
wired-word n k l i W m shape index at vs out h sh v x ca co =
    Carries-same l out (λ input. word_read (env_of_lists (signal_values k input i.signals.now)) m (reading shape.signed (wire_values k input vs))) (word_worth (place_of i W) m index) co
    (λ input.
    ap₂ (λ ss ys. word_read (env_of_lists ss) m (reading shape.signed ys)) (signal_values-extends n k input i.signals.now x h.wires.signals ∙ h.signals input) (ap (wire_values k input) v ∙ ca.value input)
    ∙ ap (λ (a : Shape). word_read (env_in (place_of i W) input) m (reading a.signed (own_worth (unchanged (place_of i W)) index input))) sh)

pub memory-carried : (p : Place) (n : Netlist) (e : Entity) (shape : Shape) (first low words : ℕ) (range : Option (ℕ × ℕ)) (signed : Bool) (name : List ℕ) (index : Tree) (out : List Wire) → e ≡ meant p.names name → e ≡ Memory first low words range signed → shape ≡ entity_shape (Memory first low words range signed)
    → Carries n out (word_worth p (record { first = first; low = low; words = words; width = shape.width }) index) → Carries n out (bit_worth p name index)
memory-carried p n e shape first low words range signed name index out is stored sh co =
    Carries-same n out (word_worth p (record { first = first; low = low; words = words; width = shape.width }) index) (bit_worth p name index) co
    (λ input.
    read_is (env_in p input) first low words shape.width range signed (index_worth p index input) (ap (λ (a : Shape). a.width) sh)
    ∙ ap (λ k. index_value (env_in p input) k (index_worth p index input)) (sym stored ∙ is))

pub part-carried : (p : Place) (n : Netlist) (e : Entity) (range : ℕ × ℕ) (index : ℤ) (count : ℕ) (name : List ℕ) (r : Tree) (word us out : List Wire) → e ≡ meant p.names name → range ≡ entity_range e → index ≡ integer_with (form p.names r) (value p.names r nowhere) → us ≡ word
    → Carries n word (name_worth p name) → Carries n out (λ input. select (wire_values n input us) (place range index -ℤ pos 0) count) → Carries n out (part_worth p name r count)
part-carried p n e range index count name r word us out is k ix u cw co =
    Carries-same n out (λ input. select (name_worth p name input) (place range index -ℤ pos 0) count) (part_worth p name r count)
    (carried1 (λ xs. select xs (place range index -ℤ pos 0) count) n n word us out (name_worth p name) u cw co)
    (λ input.
    ap (λ z. select (name_worth p name input) z count) (unmoved (place range index))
    ∙ ap₂ (λ j z. select (name_worth p name input) (place j z) count) (k ∙ ap entity_range is) ix)

pub indexed-carried : (p : Place) (n m : Netlist) (e : Entity) (range : ℕ × ℕ) (below count : ℕ) (up : Bool) (name : List ℕ) (index : Tree) (word us out : List Wire) → e ≡ meant p.names name → range ≡ entity_range e → us ≡ word → ((z : ℤ) → place range z -ℤ pos below ≡ lowest_place range up z count) → Carries n word (name_worth p name)
    → Carries m out (λ input. select (wire_values n input us) (place range (index_worth p index input) -ℤ pos below) count) → Carries m out (indexed_worth p name index count up)
indexed-carried p n m e range below count up name index word us out is r u low cw co = record {
  wires = co.wires;
  value = λ input. co.value input
      ∙ ap (λ z. select (wire_values n input us) z count) (low (index_worth p index input))
      ∙ ap₂ (λ xs k. select xs (lowest_place k up (index_worth p index input) count) count) (ap (wire_values n input) u ∙ cw.value input) (r ∙ ap entity_range is);
}

-- operands of operators between operands

pub operands : (s : Names) (t : Tree) (m : ℕ) (l r : Tree) (k : Infix) → t ≡ Binary m l r → fault s t false ≡ None → k ≡ get_or infixes m Either → takes_constants k ≡ false → (fault s l false ≡ None) × (fault s r false ≡ None)
operands s t m l r k is none h free =
    let parts = none_binary s t m l r is none in
    let e : false ≡ takes_constants (get_or infixes m Either) = sym free ∙ ap takes_constants h in
    (ap (fault s l) e ∙ parts.0, ap (fault s r) e ∙ parts.1)

pub binary_shape : (s : Names) (t : Tree) (m : ℕ) (l r : Tree) (k : Infix) → t ≡ Binary m l r → k ≡ get_or infixes m Either → infix_shape k (form s l) (form s r) ≡ form s t
unfolding form
binary_shape s t m l r k is h = sym (ap (λ u. form s u) is ∙ ap (λ f. infix_shape f (form s l) (form s r)) (sym h))

pub binary_form : (s : Names) (t : Tree) (m : ℕ) (l r : Tree) (k : Infix) → t ≡ Binary m l r → k ≡ get_or infixes m Either → (form s t).width ≡ (infix_shape k (form s l) (form s r)).width
unfolding form
binary_form s t m l r k is h = ap (λ u. (form s u).width) is ∙ ap (λ f. (infix_shape f (form s l) (form s r)).width) (sym h)

-- widths of forms

pub part_width : (s : Names) (e : Expr) (token : ℕ) (name : Bor (List ℕ)) (l r : Bor Expr) → e ≡ expr.Part token name l r → (form s (plain e)).width ≡ constant_span s (plain l.now) (plain r.now)
unfolding form plain
part_width s e token name l r is = ap (λ x. (form s (plain x)).width) is

pub indexed_width : (s : Names) (e : Expr) (token : ℕ) (name : Bor (List ℕ)) (f n : Bor Expr) (up : Bool) → e ≡ expr.Indexed token name f n up → (form s (plain e)).width ≡ constant_count s (plain n.now)
unfolding form plain
indexed_width s e token name f n up is = ap (λ x. (form s (plain x)).width) is

pub unary_width : (s : Names) (e : Expr) (op : Mark) (t : Bor Expr) (k : Prefix) → e ≡ expr.Unary op t → k ≡ get_or prefixes op.0 Plus → (form s (plain e)).width ≡ (prefix_shape k (form s (plain t.now))).width
unfolding form plain
unary_width s e op t k is h = ap (λ x. (form s (plain x)).width) is ∙ ap (λ f. (prefix_shape f (form s (plain t.now))).width) (sym h)

pub cond_width : (s : Names) (e : Expr) (a b c : Bor Expr) → e ≡ expr.Cond a b c → (form s (plain e)).width ≡ max (form s (plain b.now)).width (form s (plain c.now)).width
unfolding form plain
cond_width s e a b c is = ap (λ x. (form s (plain x)).width) is

pub concat_width : (s : Names) (e : Expr) (ts : Bor (List Expr)) → e ≡ expr.Concat ts → (form s (plain e)).width ≡ widths s (plain_list ts.now)
concat_width s e ts is = ap (λ (a : Shape). a.width) (ap (λ x. form s (plain x)) is ∙ form-Concat s ts)

pub cast_width : (s : Names) (e : Expr) (to : Bool) (t : Bor Expr) → e ≡ expr.Cast to t → (form s (plain e)).width ≡ (form s (plain t.now)).width
cast_width s e to t is = ap (λ (a : Shape). a.width) (ap (λ x. form s (plain x)) is ∙ form-Cast s to t)

pub paren_width : (s : Names) (e : Expr) (t : Bor Expr) → e ≡ expr.Paren t → (form s (plain e)).width ≡ (form s (plain t.now)).width
unfolding form plain
paren_width s e t is = ap (λ x. (form s (plain x)).width) is

-- copies

pub copied-carried : (n : Netlist) (copies : ℕ) (part us word vs : List Wire) (f : (ℕ → Bool) → List Bool) → us ≡ part → ((k : Netlist) → AreWires k us → Carries k word (λ input. repeated copies (wire_values k input us))) → vs ≡ word → Carries n part f → Carries n vs (λ input. repeated copies (f input))
copied-carried n copies part us word vs f e made g h =
    let c = made n (subst (AreWires n) (sym e) h.wires) in
    record {
      wires = subst (AreWires n) (sym g) c.wires;
      value = λ input. ap (wire_values n input) g ∙ c.value input ∙ ap (λ ws. repeated copies (wire_values n input ws)) e ∙ ap (repeated copies) (h.value input);
    }

pub copied_there : (n : Netlist) (copies : ℕ) (part us word vs : List Wire) → us ≡ part → ((k : Netlist) → AreWires k us → Carries k word (λ input. repeated copies (wire_values k input us))) → vs ≡ word → AreWires n part → AreWires n vs
copied_there n copies part us word vs e made g h = subst (AreWires n) (sym g) (made n (subst (AreWires n) (sym e) h)).wires

pub plain_binary : (op : Mark) (l r : Bor Expr) → plain (expr.Binary op l r) ≡ Binary op.0 (plain l.now) (plain r.now)
unfolding plain
plain_binary op l r = refl

-- what the wires of a circuit carry

pub world_of : Netlist → Inputs → World
world_of n i = record { signals = λ input. signal_values n input i.signals.now; choice = λ input. wire_values n input i.choice.now }

reads_all : (n : Netlist) (i : Inputs) → HasWires n i → Reads n i (world_of n i)
unfolding world_of
reads_all n i h = record { wires = h; signals = λ input. refl; choice = record { wires = h.choice; value = λ input. refl } }

pub worth_all : (n m : Netlist) (i : Inputs) (t : Tree) (context : Shape) (out : List Wire) → HasWires n i → ((W : World) → Reads n i W → Carries m out (worth (place_of i W) t context)) → (input : ℕ → Bool)
    → wire_values m input out ≡ value i.scope.now (instance_tree ((listed i)) (decode ((listed i)) (wire_values n input i.choice.now)) t) (env_of_lists (signal_values n input i.signals.now)) context.width context.signed
unfolding worth world_of
worth_all n m i t context out h f input = (f (world_of n i) (reads_all n i h)).value input

pub test_all : (n k m : Netlist) (i : Inputs) (t : Tree) (before w : Wire) → HasWires n i → Extends n k → ((W : World) → Reads n i W → CarriesBit k before (truth (place_of i W) t)) → ((W : World) → Reads k i W → CarriesBit k before (truth (place_of i W) t) → CarriesBit m w (test_truth (place_of i W) t)) → (input : ℕ → Bool)
    → wire_value m input w ≡ is_true i.scope.now (instance_test ((listed i)) (decode ((listed i)) (wire_values n input i.choice.now)) t) (env_of_lists (signal_values n input i.signals.now))
unfolding test_truth world_of
test_all n k m i t before w h e f g input = (g (world_of n i) (Reads-extends n k i (world_of n i) e (reads_all n i h)) (f (world_of n i) (reads_all n i h))).value input

-- without sites and choice

pub HasWires-alone : (n : Netlist) (i : Inputs) → listed i ≡ [] → i.choice.now ≡ [] → AreSignals n i.signals.now → HasWires n i
HasWires-alone n i sites choice h = HasWires-still n i i refl sites choice h

pub own_all : (n m : Netlist) (i : Inputs) (t : Tree) (out : List Wire) → listed i ≡ [] → i.choice.now ≡ [] → AreSignals n i.signals.now → ((W : World) → Reads n i W → Carries m out (own_worth (place_of i W) t)) → (input : ℕ → Bool)
    → wire_values m input out ≡ own i.scope.now t (env_of_lists (signal_values n input i.signals.now))
unfolding worth world_of
own_all n m i t out sites choice h f input =
    (f (world_of n i) (reads_all n i (HasWires-alone n i sites choice h))).value input
    ∙ ap (λ ss. value i.scope.now (instance_tree ss (decode ss (wire_values n input i.choice.now)) t) (env_of_lists (signal_values n input i.signals.now)) (form i.scope.now t).width (form i.scope.now t).signed) sites
    ∙ ap (λ u. value i.scope.now u (env_of_lists (signal_values n input i.signals.now)) (form i.scope.now t).width (form i.scope.now t).signed) (instance_none (wire_values n input i.choice.now) t)

-- a last call whose answer is returned as it is
pub weaker_to : {E : Type 0} (r : Result (Vec Wire Global) E) (n m : Netlist) (i : Inputs) (f g : World → (ℕ → Bool) → List Bool) → IfOk r (λ v. (W : World) → Reads n i W → Carries m v.items (f W)) → ((W : World) (input : ℕ → Bool) → f W input ≡ g W input) → IfOk r (λ v. (W : World) → Reads n i W → Carries m v.items (g W))
weaker_to r n m i f g h e = IfOk-weaker r (λ v. (W : World) → Reads n i W → Carries m v.items (f W)) (λ v. (W : World) → Reads n i W → Carries m v.items (g W)) (λ v k W w. Carries-same m v.items (f W) (g W) (k W w) (e W)) h

pub weaker_constant : {E : Type 0} (r : Result (Vec Wire Global) E) (n m : Netlist) (i : Inputs) (f : (ℕ → Bool) → List Bool) (g : World → (ℕ → Bool) → List Bool) → IfOk r (λ v. Carries m v.items f) → ((W : World) (input : ℕ → Bool) → f input ≡ g W input) → IfOk r (λ v. (W : World) → Reads n i W → Carries m v.items (g W))
weaker_constant r n m i f g h e = IfOk-weaker r (λ v. Carries m v.items f) (λ v. (W : World) → Reads n i W → Carries m v.items (g W)) (λ v k W w. Carries-same m v.items f (g W) k (e W)) h

-- what stands by itself whatever its shape is

extend_same : (w : ℕ) (signed : Bool) (xs : List Bool) → length xs ≡ w → extend w signed xs ≡ xs
extend_same w signed xs e =
    let f = λ (i : ℕ). get_or xs i (signed && top xs) in
    same_lists (extend w signed xs) xs (length_tabulate w f ∙ sym e) (λ k d l. let b : k < w = rw (length_tabulate w f) at l in get_tabulate w k f d b ∙ get_or_default xs k (signed && top xs) d (omega (arith, b, e)))

pub own-Concat : (n : Netlist) (p : Place) (e : Expr) (ts : Bor (List Expr)) (out : List Wire) → e ≡ expr.Concat ts → length out ≡ widths p.names (plain_list ts.now) → Carries n out (parts_worth p (plain_list ts.now)) → Carries n out (own_worth p (plain e))
own-Concat n p e ts out is w c = record {
  wires = c.wires;
  value = λ input.
      let size = concat_width p.names e ts is in
      c.value input
      ∙ sym (extend_same (form p.names (plain e)).width (form p.names (plain e)).signed (parts_worth p (plain_list ts.now) input) (sym (ap length (c.value input)) ∙ (length-map out (wire_value n input) ∙ (w ∙ sym size))))
      ∙ Concat-arm p e (form p.names (plain e)) input ts is;
}

pub own-Cast : (n : Netlist) (p : Place) (e : Expr) (to : Bool) (t : Bor Expr) (out : List Wire) → e ≡ expr.Cast to t → length out ≡ (form p.names (plain t.now)).width → Carries n out (own_worth p (plain t.now)) → Carries n out (own_worth p (plain e))
own-Cast n p e to t out is w c = record {
  wires = c.wires;
  value = λ input.
      let size = cast_width p.names e to t is in
      c.value input
      ∙ sym (extend_same (form p.names (plain e)).width (form p.names (plain e)).signed (own_worth p (plain t.now) input) (sym (ap length (c.value input)) ∙ (length-map out (wire_value n input) ∙ (w ∙ sym size))))
      ∙ Cast-arm p e (form p.names (plain e)) input to t is;
}

pub own-Paren : (n : Netlist) (p : Place) (e : Expr) (t : Bor Expr) (out : List Wire) → e ≡ expr.Paren t → Carries n out (own_worth p (plain t.now)) → Carries n out (own_worth p (plain e))
own-Paren n p e t out is c = Carries-same n out (own_worth p (plain t.now)) (own_worth p (plain e)) c
    (λ input. ap (λ (a : Shape). worth p (plain t.now) a input) (sym (ap (λ x. form p.names (plain x)) is ∙ form-Paren p.names t)) ∙ Paren-arm p e (form p.names (plain e)) input t is)
