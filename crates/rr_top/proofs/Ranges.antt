-- The numbers of a repair that words ask for are in their ranges.
use Rattle.std.proofs.Common.{◌≡◌, ℕ, ◌≤◌, Bool, true, false, ◌&&◌, if◌then◌else◌, List, [], ◌∷◌, Option, Some, None, refl, subst, arith}
use Rattle.std.specs.Prelude.{nat_le, option_map, option_and_then, codes}
use Rattle.std.specs.Str.{bytes_eq}
use Rattle.std.specs.Str.Parse.{digits_value}
use Rattle.std.proofs.lemmas.Bool.{and_parts}
use Rattle.std.proofs.lemmas.Bool.Decides.{nat_tests}
use Rattle.clap.specs.Words.{Row, Text, fault_of, first_of, subcommand_of}
use Rattle.clap.specs.Kinds.{Kinds}
use Rattle.rr_words.specs.Line.{tool}
use Rattle.rr_words.specs.Plan.{Plan, repair, run, sites, check, make, lint, command_of, is_number, most_seed, number_of, number_or, read_of, repair_of, run_of, sites_of, check_of, make_of, lint_of, where_taken, with_named}
use Rattle.rr_top.specs.Commands.{InRange}

-- numbers

if_number : (b : Bool) (v n : ℕ) → (if b then Some v else None) ≡ Some n → (b ≡ true) × (v ≡ n)
if_number true v n h = (refl, let same : v ≡ n = cc in same)
if_number false v n h = absurd (cc)

at_most : (a b : ℕ) → nat_le a b ≡ true → a ≤ b
at_most a b h = grind (arith, nat_tests)

number_range : (least most : ℕ) (text : Text) (n : ℕ) → number_of least most text ≡ Some n → (least ≤ n) × (n ≤ most)
number_range least most text n h =
    let v = digits_value 10 text in
    let read = if_number (is_number text && (nat_le least v && nat_le v most)) v n h in
    let both = and_parts (nat_le least v) (nat_le v most) (and_parts (is_number text) (nat_le least v && nat_le v most) read.0).1 in
    (subst (λ (k : ℕ). least ≤ k) read.1 (at_most least v both.0), subst (λ (k : ℕ). k ≤ most) read.1 (at_most v most both.1))

in_range : (usual least most : ℕ) (given : Option Text) (n : ℕ) → least ≤ usual → usual ≤ most → number_or usual least most given ≡ Some n → (least ≤ n) × (n ≤ most)
in_range usual least most None n low high h = let same : usual ≡ n = cc in (subst (λ (k : ℕ). least ≤ k) same low, subst (λ (k : ℕ). k ≤ most) same high)
in_range usual least most (Some text) n low high h = number_range least most text n h

-- plans

via : {A : Type 0} (f : A → Option Plan) (o : Option A) (p : Plan) → option_and_then f o ≡ Some p → ((x : A) → o ≡ Some x → f x ≡ Some p → InRange p) → InRange p
via f None p h k = absurd (cc)
via f (Some x) p h k = k x refl h

plan_is : (a p : Plan) → Some a ≡ Some p → InRange a → InRange p
plan_is a p h r = let same : a ≡ p = cc in subst InRange same r

made : (f : ℕ → Plan) (o : Option ℕ) (p : Plan) → option_map f o ≡ Some p → ((n : ℕ) → InRange (f n)) → InRange p
made f None p h k = absurd (cc)
made f (Some n) p h k = plan_is (f n) p h (k n)

either : (b : Bool) (x y : Option Plan) (p : Plan) → (if b then x else y) ≡ Some p → (x ≡ Some p → InRange p) → (y ≡ Some p → InRange p) → InRange p
either true x y p h k l = k h
either false x y p h k l = l h

module _ (rows : List Row) where
  abbrev with_members : Text → Text → Text → ℕ → ℕ → Option Plan
  with_members design table cert budget members = Some (repair design table cert (first_of (codes "top") rows) (first_of (codes "clock") rows) budget members)

  abbrev with_budget : Text → Text → Text → ℕ → Option Plan
  with_budget design table cert budget = option_and_then (with_members design table cert budget) (number_or 4 1 8 (first_of (codes "members") rows))

  abbrev with_cert : Text → Text → Text → Option Plan
  with_cert design table cert = option_and_then (with_budget design table cert) (number_or 20000 1 1000000 (first_of (codes "budget") rows))

  abbrev with_table : Text → Text → Option Plan
  with_table design table = with_named (codes "cert") rows (with_cert design table)

  abbrev with_design : Text → Option Plan
  with_design design = with_named (codes "table") rows (with_table design)

  repair_range : (p : Plan) → repair_of rows ≡ Some p → InRange p
  repair_range p h =
      via with_design (first_of (codes "design") rows) p h (λ design a g.
      via (with_table design) (first_of (codes "table") rows) p g (λ table b i.
      via (with_cert design table) (first_of (codes "cert") rows) p i (λ cert c j.
      via (with_budget design table cert) (number_or 20000 1 1000000 (first_of (codes "budget") rows)) p j (λ budget d k.
      via (with_members design table cert budget) (number_or 4 1 8 (first_of (codes "members") rows)) p k (λ members e l.
      let budgets = in_range 20000 1 1000000 (first_of (codes "budget") rows) budget (omega arith) (omega arith) d in
      let both = in_range 4 1 8 (first_of (codes "members") rows) members (omega arith) (omega arith) e in
      plan_is (repair design table cert (first_of (codes "top") rows) (first_of (codes "clock") rows) budget members) p l (budgets.0, (both.0, both.1)))))))

  run_range : (p : Plan) → run_of rows ≡ Some p → InRange p
  run_range p h =
      via (λ (design : Text). with_named (codes "table") rows (λ table. Some (run design table (first_of (codes "top") rows) (first_of (codes "clock") rows)))) (first_of (codes "design") rows) p h (λ design a g.
      via (λ (table : Text). Some (run design table (first_of (codes "top") rows) (first_of (codes "clock") rows))) (first_of (codes "table") rows) p g (λ table b i.
      plan_is (run design table (first_of (codes "top") rows) (first_of (codes "clock") rows)) p i tt))

  sites_range : (p : Plan) → sites_of rows ≡ Some p → InRange p
  sites_range p h =
      via (λ (design : Text). Some (sites design (first_of (codes "top") rows) (first_of (codes "clock") rows))) (first_of (codes "design") rows) p h (λ design a g.
      plan_is (sites design (first_of (codes "top") rows) (first_of (codes "clock") rows)) p g tt)

  check_range : (p : Plan) → check_of rows ≡ Some p → InRange p
  check_range p h =
      via (λ (circuit : Text). with_named (codes "proof") rows (λ proof. Some (check circuit proof))) (first_of (codes "circuit") rows) p h (λ circuit a g.
      via (λ (proof : Text). Some (check circuit proof)) (first_of (codes "proof") rows) p g (λ proof b i. plan_is (check circuit proof) p i tt))

  make_range : (p : Plan) → make_of rows ≡ Some p → InRange p
  make_range p h =
      via (λ (seed : Text). with_named (codes "cert") rows (λ cert. option_map (λ n. make n cert) (number_of 0 most_seed seed))) (first_of (codes "seed") rows) p h (λ seed a g.
      via (λ (cert : Text). option_map (λ n. make n cert) (number_of 0 most_seed seed)) (first_of (codes "cert") rows) p g (λ cert b i.
      made (λ n. make n cert) (number_of 0 most_seed seed) p i (λ n. tt)))

  lint_range : (p : Plan) → lint_of rows ≡ Some p → InRange p
  lint_range p h =
      via (λ (design : Text). Some (lint design (first_of (codes "top") rows))) (first_of (codes "design") rows) p h (λ design a g. plan_is (lint design (first_of (codes "top") rows)) p g tt)

  unknown : (p : Plan) → None ≡ Some p → InRange p
  unknown p h = absurd (cc)

  read_range : (name : Text) (p : Plan) → read_of name rows ≡ Some p → InRange p
  read_range name p h =
      either (bytes_eq name (codes "repair")) (repair_of rows) _ p h (repair_range p) (λ g.
      either (bytes_eq name (codes "run")) (run_of rows) _ p g (run_range p) (λ i.
      either (bytes_eq name (codes "sites")) (sites_of rows) _ p i (sites_range p) (λ j.
      either (bytes_eq name (codes "check")) (check_of rows) _ p j (check_range p) (λ k.
      either (bytes_eq name (codes "make")) (make_of rows) _ p k (make_range p) (λ l.
      either (bytes_eq name (codes "lint")) (lint_of rows) None p l (lint_range p) (unknown p))))))

-- words

taken_plan : (ks : Kinds) (o : Option Plan) (p : Plan) → where_taken ks o ≡ Some p → o ≡ Some p
taken_plan [] o p h = h
taken_plan (k ∷ ks) o p h = absurd (cc)

pub in_their_ranges : (words : List Text) (p : Plan) → command_of words ≡ Some p → InRange p
in_their_ranges words p h =
    via (λ (q : Text × List Row). read_of q.0 q.1) (subcommand_of tool words) p (taken_plan (fault_of tool words) (option_and_then (λ q. read_of q.0 q.1) (subcommand_of tool words)) p h) (λ q a g. read_range q.1 q.0 p g)
