-- The columns of the inputs of a table, one after another.
use Rattle.std.proofs.Common.{◌≡◌, ◌∙◌, ℕ, ◌+◌, ◌<◌, ◌≤◌, List, [], ◌∷◌, ◌++◌, length, get_or, drop, take, map, Option, Some, None, Result, Ok, Err, refl, sym, ap, arith, inr}
use Rattle.std.proofs.lemmas.List.{append_assoc, append-nil}
use Rattle.std.proofs.lemmas.List.{drop_more, take_more, length-map, get_or-map, map-append}
use Rattle.std.proofs.Math.ListN.{drop_of_length-le}
use Rattle.rr_trace.specs.declared.fault.TableFault.{TableFault}
use Rattle.rr_trace.specs.declared.fault.TableFault.TheVariants.{MissingInput}
use Rattle.rr_trace.specs.declared.ports.Port.{Port as Own}
use Rattle.rr_trace.specs.Columns.{Ports, Port, no_port, and_then, place, given, input_places}
use Rattle.rr_trace.specs.Names.{Text, numbered}
use Rattle.rr_trace.specs.View.{SameNumbers, Refuses, plain_port}

abbrev Places : Type 0
Places = List ℕ

-- of the columns with these names, and any others that have the same numbers
pub record Placed (p : Ports) (columns : List (Text × ℕ)) (ports : List Port) (at : ℕ) (places : Places) : Type 0 where
  pub rest : (names : List Text) → SameNumbers columns (numbered 0 names)
      → input_places p names ports ≡ and_then (input_places p names (drop at ports)) (λ ks. Ok (places ++ ks))

same_result : (r : Result Places TableFault) → r ≡ and_then r (λ ks. Ok ([] ++ ks))
same_result (Ok ks) = refl
same_result (Err e) = refl

pub placed_none : (p : Ports) (columns : List (Text × ℕ)) (ports : List Port) → Placed p columns ports 0 []
placed_none p columns ports = record { rest = λ names h. same_result (input_places p names ports) }

regroup : (r : Result Places TableFault) (k : ℕ) (places : Places)
    → and_then (and_then r (λ ks. Ok (k ∷ ks))) (λ ks. Ok (places ++ ks)) ≡ and_then r (λ ks. Ok ((places ++ k ∷ []) ++ ks))
regroup (Ok ks) k places = ap Ok (sym (append_assoc places (k ∷ []) ks))
regroup (Err e) k places = refl

step : (p : Ports) (names : List Text) (x : Port) (xs : List Port) → input_places p names (x ∷ xs)
    ≡ and_then (given x.id (place p names x)) (λ k. and_then (input_places p names xs) (λ ks. Ok (k ∷ ks)))
unfolding input_places
step p names x xs = refl

pub placed_more : (p : Ports) (columns : List (Text × ℕ)) (ports : List Port) (at : ℕ) (places : Places) (k : ℕ) (d : Port) → at < length ports → Placed p columns ports at places
    → ((names : List Text) → SameNumbers columns (numbered 0 names) → Some k ≡ place p names (get_or ports at d)) → Placed p columns ports (at + 1) (places ++ k ∷ [])
placed_more p columns ports at places k d l h e = record {
  rest = λ names same.
      let x = get_or ports at d in
      h.rest names same ∙ (ap (λ ts. and_then (input_places p names ts) (λ ks. Ok (places ++ ks))) (drop_more ports at d l)
      ∙ (ap (λ r. and_then r (λ ks. Ok (places ++ ks))) (step p names x (drop (at + 1) ports) ∙ ap (λ o. and_then (given x.id o) (λ k. and_then (input_places p names (drop (at + 1) ports)) (λ ks. Ok (k ∷ ks)))) (sym (e names same)))
      ∙ regroup (input_places p names (drop (at + 1) ports)) k places));
}

pub placed_err : (p : Ports) (columns : List (Text × ℕ)) (ports : List Port) (at : ℕ) (places : Places) (d : Port) → at < length ports → Placed p columns ports at places
    → ((names : List Text) → SameNumbers columns (numbered 0 names) → None ≡ place p names (get_or ports at d))
    → (names : List Text) → SameNumbers columns (numbered 0 names) → input_places p names ports ≡ Err (MissingInput (get_or ports at d).id)
placed_err p columns ports at places d l h e names same =
    let x = get_or ports at d in
    h.rest names same ∙ (ap (λ ts. and_then (input_places p names ts) (λ ks. Ok (places ++ ks))) (drop_more ports at d l)
    ∙ ap (λ r. and_then r (λ ks. Ok (places ++ ks))) (step p names x (drop (at + 1) ports) ∙ ap (λ o. and_then (given x.id o) (λ k. and_then (input_places p names (drop (at + 1) ports)) (λ ks. Ok (k ∷ ks)))) (sym (e names same))))

none_left : (p : Ports) (names : List Text) (xs : List Port) → xs ≡ [] → input_places p names xs ≡ Ok []
unfolding input_places
none_left p names xs e = rw e refl

pub placed_all : (p : Ports) (columns : List (Text × ℕ)) (ports : List Port) (at : ℕ) (places : Places) → length ports ≤ at → Placed p columns ports at places
    → (names : List Text) → SameNumbers columns (numbered 0 names) → input_places p names ports ≡ Ok places
placed_all p columns ports at places l h names same =
    h.rest names same ∙ (ap (λ r. and_then r (λ ks. Ok (places ++ ks))) (none_left p names (drop at ports) (drop_of_length-le ports l)) ∙ ap Ok (append-nil places))

-- the same of ports that stand for these
abbrev pub IsPlace : Ports → List (Text × ℕ) → Port → Option ℕ → Type 0
IsPlace p columns x o = (names : List Text) → SameNumbers columns (numbered 0 names) → o ≡ place p names x

abbrev pub no_own : Own
no_own = record { id = 0; name = record { ref_ptr = (0, 0); now = [] }; width = 0 }

here : (xs : List Own) (i : ℕ) (d x : Own) → i < length xs → x ≡ get_or xs i d → get_or (map plain_port xs) i no_port ≡ plain_port x
here xs i d x l e = get_or-map plain_port xs i d no_port l ∙ ap plain_port (sym e)

pub ports_err : (p : Ports) (columns : List (Text × ℕ)) (xs : List Own) (i : ℕ) (places : Places) (d x : Own) → i < length xs → x ≡ get_or xs i d → Placed p columns (map plain_port xs) i places
    → IsPlace p columns (plain_port x) None → (names : List Text) → SameNumbers columns (numbered 0 names) → Refuses (input_places p names (map plain_port xs)) (MissingInput x.id)
ports_err p columns xs i places d x l e h o names same =
    let at = here xs i d x l e in
    inr (placed_err p columns (map plain_port xs) i places no_port (rw (length-map xs plain_port) l) h (λ names same. rw at (o names same)) names same ∙ ap (λ y. Err (MissingInput y.id)) at)

pub ports_more : (p : Ports) (columns : List (Text × ℕ)) (xs : List Own) (i : ℕ) (places : Places) (k : ℕ) (d x : Own) → i < length xs → x ≡ get_or xs i d → Placed p columns (map plain_port xs) i places
    → IsPlace p columns (plain_port x) (Some k) → Placed p columns (map plain_port xs) (i + 1) (places ++ k ∷ [])
ports_more p columns xs i places k d x l e h o =
    let at = here xs i d x l e in
    placed_more p columns (map plain_port xs) i places k no_port (rw (length-map xs plain_port) l) h (λ names same. rw at (o names same))

pub outputs_more : (p : Ports) (columns : List (Text × ℕ)) (xs : List Own) (i : ℕ) (places : List (Option ℕ)) (o : Option ℕ) (d x : Own) → i < length xs → x ≡ get_or xs i d
    → ((names : List Text) → SameNumbers columns (numbered 0 names) → places ≡ map (place p names) (map plain_port (take i xs))) → IsPlace p columns (plain_port x) o
    → (names : List Text) → SameNumbers columns (numbered 0 names) → places ++ o ∷ [] ≡ map (place p names) (map plain_port (take (i + 1) xs))
outputs_more p columns xs i places o d x l e h is names same =
    let more : take (i + 1) xs ≡ take i xs ++ x ∷ [] = take_more xs i d l ∙ ap (λ y. take i xs ++ y ∷ []) (sym e) in
    rw more (rw (map-append plain_port (take i xs) (x ∷ []), map-append (place p names) (map plain_port (take i xs)) (map plain_port (x ∷ []))) (rw (h names same, is names same) refl))
