-- The state of the sort and of the searches: what is placed or reached, and the way down.
use Rattle.std.specs.Prelude.{ℕ, ◌+◌, ◌<◌, ◌≤◌, ◌≡◌, List, length, get_or, Bool, true, false}
use Rattle.rr_sort.specs.Graphs.{Graph, Names, named, OnCycle}

-- what is placed: each after what it names
pub record IsPlaced (g : Graph) (order : List ℕ) (placed : List Bool) : Type 0 where
  pub count : length placed ≡ length g
  pub inside : (i : ℕ) → i < length order → get_or order i 0 < length g
  pub marked : (v : ℕ) → get_or placed v false ≡ true → (i : ℕ) × ((i < length order) × (get_or order i 0 ≡ v))
  pub marks : (i : ℕ) → i < length order → get_or placed (get_or order i 0) false ≡ true
  pub once : (i j : ℕ) → i < j → j < length order → get_or order i 0 ≡ get_or order j 0 → ⊥
  pub closed : (j w : ℕ) → j < length order → Names g (get_or order j 0) w → (i : ℕ) × ((i < j) × (get_or order i 0 ≡ w))

-- the nodes on the way down, each naming the next
pub record IsWalk (g : Graph) (placed : List Bool) (stack : List ℕ) : Type 0 where
  pub inside : (i : ℕ) → i < length stack → get_or stack i 0 < length g
  pub unplaced : (i : ℕ) → i < length stack → get_or placed (get_or stack i 0) false ≡ false
  pub apart : (i j : ℕ) → i < j → j < length stack → get_or stack i 0 ≡ get_or stack j 0 → ⊥
  pub walk : (i : ℕ) → i + 1 < length stack → Names g (get_or stack i 0) (get_or stack (i + 1) 0)

abbrev pub Grown : List Bool → List Bool → Type 0
Grown old new = (v : ℕ) → get_or old v false ≡ true → get_or new v false ≡ true

-- the names of each node that have been looked at are marked
pub record IsSeen (g : Graph) (marked : List Bool) (seen : List ℕ) : Type 0 where
  pub count : length seen ≡ length g
  pub low : (v : ℕ) → get_or seen v 0 ≤ length (named g v)
  pub done : (v i : ℕ) → i < get_or seen v 0 → get_or marked (get_or (named g v) i 0) false ≡ true

-- all names of a node have been looked at
abbrev pub Spent : Graph → List ℕ → ℕ → Type 0
Spent g seen v = length (named g v) ≤ get_or seen v 0

-- the marks of the nodes on the stack
pub record IsStacked (g : Graph) (stacked : List Bool) (stack : List ℕ) : Type 0 where
  pub count : length stacked ≡ length g
  pub marks : (i : ℕ) → i < length stack → get_or stacked (get_or stack i 0) false ≡ true
  pub marked : (v : ℕ) → get_or stacked v false ≡ true → (i : ℕ) × ((i < length stack) × (get_or stack i 0 ≡ v))

-- what holds on the way down from a start
pub record IsDown (g : Graph) (start : ℕ) (old : List Bool) (order : List ℕ) (placed : List Bool) (seen : List ℕ) (stacked : List Bool) (stack : List ℕ) : Type 0 where
  pub done : IsPlaced g order placed
  pub way : IsWalk g placed stack
  pub looked : IsSeen g placed seen
  pub on : IsStacked g stacked stack
  pub begins : 0 < length stack → get_or stack 0 0 ≡ start
  pub ends : length stack ≡ 0 → get_or placed start false ≡ true
  pub grown : Grown old placed

-- what holds between the ways down
pub record IsBetween (g : Graph) (order : List ℕ) (placed : List Bool) (seen : List ℕ) (stacked : List Bool) : Type 0 where
  pub done : IsPlaced g order placed
  pub looked : IsSeen g placed seen
  pub count : length stacked ≡ length g
  pub none : (v : ℕ) → get_or stacked v false ≡ false

-- what searches reached, closed under names, and the nodes in the order in which they were left
pub record IsReached (g : Graph) (reached : List Bool) (seen order : List ℕ) : Type 0 where
  pub count : length reached ≡ length g
  pub looked : IsSeen g reached seen
  pub closed : (v : ℕ) → get_or reached v false ≡ true → Spent g seen v
  pub inside : (i : ℕ) → i < length order → get_or order i 0 < length g

-- the marked nodes lie on no cycle
pub record IsOff (g : Graph) (off : List Bool) : Type 0 where
  pub count : length off ≡ length g
  pub none : (v : ℕ) → get_or off v false ≡ true → OnCycle g v → ⊥

-- the one fact or the other
abbrev pub Either : Bool → Type 0 → Type 0 → Type 0
Either true P Q = P
Either false P Q = Q
