-- Nodes that name nodes: an order in which each stands after those that it names, or a cycle.
use Rattle.std.specs.Prelude.{ℕ, ◌<◌, ◌≡◌, List, [], ◌∷◌, length, get_or, Vec}
use Rattle.std.specs.declared.alloc.Global.{Global}
use Rattle.rr_sort.specs.declared.Sorted.{Sorted}
use Rattle.rr_sort.specs.declared.Sorted.TheVariants.{Order, Cycle}

abbrev pub names_of : Vec ℕ Global → List ℕ
names_of v = v.items

-- the nodes that each node names
abbrev pub Graph : Type 0
Graph = List (List ℕ)

abbrev pub named : Graph → ℕ → List ℕ
named g v = get_or g v []

-- v names w
abbrev pub Names : Graph → ℕ → ℕ → Type 0
Names g v w = (i : ℕ) × ((i < length (named g v)) × (get_or (named g v) i 0 ≡ w))

-- all nodes that are named are there
abbrev pub IsGraph : Graph → Type 0
IsGraph g = (v w : ℕ) → Names g v w → w < length g

-- each node once, after each that it names
pub record IsOrder (g : Graph) (order : List ℕ) : Type 0 where
  pub each : (v : ℕ) → v < length g → (i : ℕ) × ((i < length order) × (get_or order i 0 ≡ v))
  pub inside : (i : ℕ) → i < length order → get_or order i 0 < length g
  pub once : (i j : ℕ) → i < length order → j < length order → get_or order i 0 ≡ get_or order j 0 → i ≡ j
  pub after : (i j : ℕ) → i < length order → j < length order → Names g (get_or order j 0) (get_or order i 0) → i < j

-- each names the next, and the last names t
abbrev pub Chain : Graph → ℕ → List ℕ → ℕ → Type 0
Chain g u [] t = Names g u t
Chain g u (v ∷ vs) t = Names g u v × Chain g v vs t

-- each names the next, and the last the first
abbrev pub IsCycle : Graph → List ℕ → Type 0
IsCycle g [] = ⊥
IsCycle g (c ∷ cs) = Chain g c cs c

abbrev pub OnCycle : Graph → ℕ → Type 0
OnCycle g v = (vs : List ℕ) × Chain g v vs v

-- a cycle that begins at the lowest node that lies on one
abbrev pub IsLowestCycle : Graph → List ℕ → Type 0
IsLowestCycle g [] = ⊥
IsLowestCycle g (c ∷ cs) = Chain g c cs c × ((v : ℕ) → v < c → OnCycle g v → ⊥)

-- a number for each node, above those of the nodes that it names
abbrev pub IsRanked : Graph → (ℕ → ℕ) → Type 0
IsRanked g rank = (v w : ℕ) → Names g v w → rank w < rank v

abbrev pub Tells : Graph → Sorted → Type 0
Tells g (Order order) = IsOrder g order.items
Tells g (Cycle cycle) = IsLowestCycle g cycle.items

-- a cycle that begins at a node
abbrev pub CycleFrom : Graph → ℕ → List ℕ → Type 0
CycleFrom g v [] = ⊥
CycleFrom g v (c ∷ cs) = (c ≡ v) × Chain g c cs c
