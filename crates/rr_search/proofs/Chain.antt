-- from a question to the choices that mend a design
use Rattle.std.proofs.Common.{◌≡◌, ◌⊎◌, inl, inr, ℕ, ◌+◌, ◌<◌, ◌≤◌, ◌↔◌, Bool, true, false, not, nat_lt, List, [], ◌∷◌, ◌++◌, length, get_or, take, drop, sym, subst, ◌∙◌, ap, arith, length-take, length-drop}
use Rattle.std.specs.Prelude.{nat_le}
use Rattle.std.proofs.lemmas.Bool.{cases_lt, lt-ltb, le-leb}
use Rattle.std.proofs.lemmas.List.{get_or-take, get_or-drop}
use Rattle.std.proofs.lemmas.List.Elements.{All-push}
use Rattle.rr_circuit.specs.Values.{OutputNetlist, given, output_values}
use Rattle.rr_circuit.proofs.Valuations.{depends_on_inputs}
use Rattle.rr_cnf.specs.Clauses.{Clauses, IsSatisfiable, Satisfies}
use Rattle.rr_tseitin.specs.Tseitin.{formula_of, CanBeTrue, MakeOutputsTrue}
use Rattle.rr_derive.specs.Derive.{Step, Refutes}
use Rattle.rr_derive.proofs.Soundness.{unsatisfiable}
use Rattle.rr_members.specs.Searched.{IsSpent}
use Rattle.rr_derive.specs.Lrat.{AreWritable}
use Rattle.rr_solver.specs.Searches.{IsModel, given as value_of}
use Rattle.rr_choice.specs.declared.pick.Pick.{Pick}
use Rattle.rr_choice.specs.Choices.{cost, decode, total_bits, IsChoice}
use Rattle.rr_choice.specs.Sites.{Site, FewNames}
use Rattle.rr_instance_laws.proofs.DecodeLaws.{every_choice, decoded_choice}
use Rattle.rr_instance_laws.proofs.OffLaws.{keeps_at_no_cost}
use Rattle.rr_count.specs.Counts.{true_count, is_at_most}
use Rattle.rr_transition.specs.Transitions.{switched}
use Rattle.rr_transition.specs.Cycles.{Cycle, Design, instance_design, widths_of}
use Rattle.rr_unroll.specs.Faithful.{Faithful}
use Rattle.rr_unroll.specs.Matches.{FitsOutputs, Matches}
use Rattle.rr_unroll.specs.Questions.{judged}
use Rattle.rr_unroll.proofs.FaithfulLaws.{cost_by_switches}
use Rattle.rr_unroll.proofs.MatchLaws.{AllTrue, split, same_flat, matches_there, matches_back}
use Rattle.rr_search.specs.Answers.{Task, IsOf, IsTask, Mends}
use Rattle.rr_search.specs.Replies.{IsClosed, IsMending, IsOpen}

-- a choice of cost 0 makes the design itself
pub same_design : (j : Design) (sites : List Site) (c : List Pick) → cost c ≡ 0 → instance_design sites c j ≡ j
same_design j sites c e = ap (λ s. record { source = s; top = j.top; word = j.word }) (keeps_at_no_cost.source sites c j.source e)

module _ (t : Task) (bound : ℕ) (circuit : OutputNetlist) (j : Design) (of : IsOf t j) (f : Faithful circuit j t.sites t.table bound) where
  -- the table is one for the outputs of each instance
  fits_answer : (bits : List Bool) (l : length bits ≡ total_bits t.sites) → FitsOutputs (widths_of (f.answers bits l).judged.flat (f.answers bits l).judged.flat.outputs) t.table
  fits_answer bits l =
      let a = (f.answers bits l).judged in
      let h = of.stands.instances bits l in
      let e = same_flat (instance_design t.sites (decode t.sites bits) j) h.flat a.flat h.clock a.clock h.design a.design in
      subst (λ ws. FitsOutputs ws t.table) (h.output_widths ∙ ap (λ g. widths_of g g.outputs) e) of.fits

  -- a choice that mends, within the bound, makes every output true
  can : FewNames t.sites → (c : List Pick) → IsChoice t.sites c → Mends j t c → cost c ≤ bound → CanBeTrue circuit
  can few c is m l =
      let v = every_choice t.sites c few is in
      let a = f.answers v.0 v.1.0 in
      let there : Matches (instance_design t.sites (decode t.sites v.0) j) t.table = subst (λ d. Matches (instance_design t.sites d j) t.table) (sym v.1.1) m in
      let cheap : cost (decode t.sites v.0) ≤ bound = subst (λ d. cost d ≤ bound) (sym v.1.1) l in
      let all = matches_back (instance_design t.sites (decode t.sites v.0) j) t.table a.verdicts a.judged (fits_answer v.0 v.1.0) there in
      (given v.0, subst AllTrue (sym a.outputs) (All-push (λ (b : Bool). b ≡ true) a.verdicts (nat_le (cost (decode t.sites v.0)) bound) all (le-leb (cost (decode t.sites v.0)) bound cheap)))

  -- a refuted question has no such choice
  above : FewNames t.sites → (IsSatisfiable (formula_of circuit).clauses ↔ CanBeTrue circuit) → (lines : List Step) → Refutes (formula_of circuit).clauses lines → (c : List Pick) → IsChoice t.sites c → Mends j t c → bound < cost c
  above few alike lines r c is m = by_cases (cases_lt bound (cost c))
    where
      by_cases : ((bound < cost c) ⊎ (cost c ≤ bound)) → bound < cost c
      by_cases (inl l) = l
      by_cases (inr l) = let s = alike.1 (can few c is m l) in absurd (unsatisfiable (formula_of circuit).clauses lines r s.0 s.1)

  -- inputs that make every output true write a choice that mends
  mends_there : (bits : List Bool) → length bits ≡ total_bits t.sites → AllTrue (output_values circuit (given bits)) → Mends j t (decode t.sites bits)
  mends_there bits l h =
      let a = f.answers bits l in
      let all = split a.verdicts (nat_le (cost (decode t.sites bits)) bound ∷ []) (subst AllTrue a.outputs h) in
      matches_there (instance_design t.sites (decode t.sites bits) j) t.table a.verdicts a.judged (fits_answer bits l) all.0

-- the values of the first n variables, from variable 1 on
pub first_bits : ℕ → List Bool → List Bool
first_bits n values = take n (drop 1 values)

length_first : (n : ℕ) (values : List Bool) → n < length values → length (first_bits n values) ≡ n
unfolding first_bits
length_first n values l = let a = length-take n (drop 1 values) in let b = length-drop 1 values in omega (arith, a, b, l)

given_first : (n : ℕ) (values : List Bool) (i : ℕ) → i < n → given (first_bits n values) i ≡ value_of values (i + 1)
unfolding first_bits
given_first n values i l = get_or-take n (drop 1 values) i false l ∙ get_or-drop 1 values i false ∙ ap (λ k. get_or values k false) (omega arith)

module _ (t : Task) (w : IsTask t) (bound : ℕ) (circuit : OutputNetlist) (inputs : circuit.netlist.inputs ≡ t.transition.choice_bits)
    (asked : (bits : List Bool) → length bits ≡ t.transition.choice_bits → output_values circuit (given bits)
    ≡ judged t.transition bits t.transition.start t.table.inputs t.table.expected ++ is_at_most bound (switched t.transition.switches bits) ∷ [])
    (faithful : (j : Design) (sites : List Site) → Cycle j sites t.transition → Faithful circuit j sites t.table bound) where
  -- the variables of a question have room for the bits of a choice
  pub room_for : (values : List Bool) → IsModel (formula_of circuit) values → total_bits t.sites < length values
  room_for values m = omega (arith, inputs, w.bits, m.long)

  -- where every output is true, no more switches are on than the bound
  cheap_there : (bits : List Bool) → length bits ≡ total_bits t.sites → AllTrue (output_values circuit (given bits)) → cost (decode t.sites bits) ≤ bound
  cheap_there bits l h =
      let verdicts : List Bool = judged t.transition bits t.transition.start t.table.inputs t.table.expected in
      let last : List Bool = is_at_most bound (switched t.transition.switches bits) ∷ [] in
      let all = split verdicts last (subst AllTrue (asked bits (l ∙ sym w.bits)) h) in
      let few : is_at_most bound (switched t.transition.switches bits) ≡ true = all.1 0 true (omega arith) in
      let count : cost (decode t.sites bits) ≡ true_count (switched t.transition.switches bits) = cost_by_switches t.sites 0 bits ∙ ap (λ ps. true_count (switched ps bits)) (sym w.switches) in
      subst (λ n. n ≤ bound) (sym count) (at_most (true_count (switched t.transition.switches bits)) few)
    where
      at_most : (n : ℕ) → not (nat_lt bound n) ≡ true → n ≤ bound
      at_most n e = by_cases (cases_lt bound n)
        where
          by_cases : ((bound < n) ⊎ (n ≤ bound)) → n ≤ bound
          by_cases (inl l) = absurd (let q = lt-ltb bound n l in let z : false ≡ true = ap not (sym q) ∙ e in cc)
          by_cases (inr l) = l

  -- the first variables of a model write a choice that mends, within the bound
  mended : ((a : ℕ → Bool) → Satisfies a (formula_of circuit).clauses → MakeOutputsTrue circuit (λ i. a (i + 1))) →
      (values : List Bool) → IsModel (formula_of circuit) values → (c : List Pick) → c ≡ decode t.sites (take (total_bits t.sites) (drop 1 values)) → IsMending t c × (cost c ≤ bound)
  unfolding first_bits
  mended models values m c e =
      let n : ℕ = total_bits t.sites in
      let bits : List Bool = first_bits n values in
      let l : length bits ≡ n = length_first n values (room_for values m) in
      let same = depends_on_inputs circuit (given bits) (λ (i : ℕ). value_of values (i + 1)) (λ i k. given_first n values i (omega (arith, inputs, w.bits, k))) in
      let h : AllTrue (output_values circuit (given bits)) = subst AllTrue (sym same) (models (value_of values) m.satisfies) in
      let all : IsMending t (decode t.sites bits) × (cost (decode t.sites bits) ≤ bound) = (
        record {
          choice = decoded_choice t.sites bits;
          mends = λ j of. mends_there t bound circuit j of (faithful j t.sites of.stands) bits l h;
        },
        cheap_there bits l h,
      ) in
      subst (λ d. IsMending t d × (cost d ≤ bound)) (sym e) all

  -- of a formula that is the circuit's
  pub mended_by : (f : Clauses) → f ≡ formula_of circuit → ((a : ℕ → Bool) → Satisfies a f.clauses → MakeOutputsTrue circuit (λ i. a (i + 1))) →
      (values : List Bool) → IsModel f values → (c : List Pick) → c ≡ decode t.sites (take (total_bits t.sites) (drop 1 values)) → IsMending t c × (cost c ≤ bound)
  mended_by f e = subst (λ (g : Clauses). ((a : ℕ → Bool) → Satisfies a g.clauses → MakeOutputsTrue circuit (λ i. a (i + 1))) → (values : List Bool) → IsModel g values → (c : List Pick) → c ≡ decode t.sites (take (total_bits t.sites) (drop 1 values)) → IsMending t c × (cost c ≤ bound)) (sym e) mended

  closed : FewNames t.sites → (IsSatisfiable (formula_of circuit).clauses ↔ CanBeTrue circuit) → (lines : List Step) → Refutes (formula_of circuit).clauses lines × AreWritable (formula_of circuit) lines → IsClosed t bound circuit lines
  closed few alike lines r = record {
    refuted = λ j of. record { faithful = faithful j t.sites of.stands; refuted = r.0; lawful = r.1 };
    dearer = λ j of. above t bound circuit j of (faithful j t.sites of.stands) few alike lines r.0;
  }

  pub closed_by : (f : Clauses) → f ≡ formula_of circuit → FewNames t.sites → (IsSatisfiable f.clauses ↔ CanBeTrue circuit) → (lines : List Step) → Refutes f.clauses lines × AreWritable f lines → IsClosed t bound circuit lines
  closed_by f e = subst (λ (g : Clauses). FewNames t.sites → (IsSatisfiable g.clauses ↔ CanBeTrue circuit) → (lines : List Step) → Refutes g.clauses lines × AreWritable g lines → IsClosed t bound circuit lines) (sym e) closed

  pub left_by : (f : Clauses) → f ≡ formula_of circuit → (n : ℕ) → n ≡ circuit.netlist.inputs → (lines : List Step) → IsSpent f n t.members t.budget lines → IsOpen t bound circuit lines
  left_by f e n i lines h = record {
    faithful = λ j of. faithful j t.sites of.stands;
    spent = subst (λ (g : Clauses). IsSpent g circuit.netlist.inputs t.members t.budget lines) e (subst (λ (m : ℕ). IsSpent f m t.members t.budget lines) i h);
  }
