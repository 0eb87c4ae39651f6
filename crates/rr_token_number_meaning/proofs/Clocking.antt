-- The clock of a flat design is that of each design that is equal to it without token numbers.
use Rattle.std.proofs.Common.{◌≡◌, ◌∙◌, sym, ap, ◌⊎◌, inl, inr, ℕ, zero, suc, Bool, true, false, cond, ◌||◌, List, [], ◌∷◌, length, map, get_or, Option, Some, None, refl}
use Rattle.std.specs.Str.{bytes_eq}
use Rattle.std.proofs.lemmas.List.{length-map}
use Rattle.rr_syntax.specs.Tree.{Tree, Name, Literal, Bit as BitSelect, Part, Indexed, Unary, Binary, Cond, Concat, Repeat, Cast, Paren, Identifier, Statement, EdgeEvent, bare, bare_identifier, bare_edge, bare_statement}
use Rattle.rr_expr.specs.Scopes.{Names, meant}
use Rattle.rr_flat.specs.Signals.{Text, signal_at}
use Rattle.rr_flat.specs.Clocks.{IsScalarInput, IsBareName, Connects, Leads, itself, through, NameLeads, EdgeLeads, is_among, no_edge, free_edge, or_first, deciding_edge, IsInputNamed, IsDecided, IsChosen, FirstEdge, IsDirection, RunsOn, AllRun, OneClock}
use Rattle.rr_flat.specs.Lawful.{NoClockIn, SideWithout, HandsOn, DriverWithout, NoClockRead}
use Rattle.rr_flat.specs.Plain.{Side, Written, Whole, Driver, Block, Flat}
use Rattle.rr_flat.specs.Reads.{names_in, names_of}
use Rattle.rr_flat.specs.Writers.{scope_at, driver_at, block_at}
use Rattle.rr_token_numbers.specs.Bare.{bare_signal, bare_side, bare_driver, bare_block, bare_flat, IsSameFlat}
use Rattle.rr_token_number_meaning.proofs.Designs.{moved, block_at-bare, driver_at-bare, drivers_many, signal_same}
use Rattle.rr_token_number_meaning.proofs.Naming.{names_in-bare, names_of-bare}
use Rattle.rr_token_number_meaning.proofs.Checks.{agree, IsScalarInput-bare, IsInputNamed-bare}

-- texts of names and edges

pub text_at : (xs : List Identifier) (k : ℕ) (d : Identifier) → (get_or (map bare_identifier xs) k d).text ≡ (get_or xs k d).text
unfolding bare_identifier
text_at [] k d = refl
text_at (x ∷ xs) zero d = refl
text_at (x ∷ xs) (suc k) d = text_at xs k d

edge_at : (es : List EdgeEvent) (k : ℕ) → get_or (map bare_edge es) k no_edge ≡ bare_edge (get_or es k no_edge)
unfolding bare_edge
edge_at [] k = refl
edge_at (e ∷ es) zero = refl
edge_at (e ∷ es) (suc k) = edge_at es k

among-mapped : (name : Text) (is : List Identifier) → is_among name (map bare_identifier is) ≡ is_among name is
unfolding is_among bare_identifier
among-mapped name [] = refl
among-mapped name (i ∷ is) = ap (λ (b : Bool). bytes_eq name i.text || b) (among-mapped name is)

bare_found : Option EdgeEvent → Option EdgeEvent
bare_found None = None
bare_found (Some e) = Some (bare_edge e)

found_if : (b : Bool) (x y : Option EdgeEvent) → cond b (bare_found x) (bare_found y) ≡ bare_found (cond b x y)
found_if true x y = refl
found_if false x y = refl

free_edge-bare : (t : Statement) (es : List EdgeEvent) → free_edge (bare_statement t) (map bare_edge es) ≡ bare_found (free_edge t es)
unfolding free_edge bare_edge bare_found
free_edge-bare t [] = refl
free_edge-bare t (e ∷ es) =
    (λ k. cond ((ap (is_among e.text) (names_of-bare t) ∙ among-mapped e.text (names_of t)) k) (free_edge-bare t es k) (Some (bare_edge e)))
    ∙ found_if (is_among e.text (names_of t)) (free_edge t es) (Some e)

or_first-bare : (o : Option EdgeEvent) (es : List EdgeEvent) → or_first (bare_found o) (map bare_edge es) ≡ bare_edge (or_first o es)
unfolding bare_found
or_first-bare None es = edge_at es 0
or_first-bare (Some e) es = refl

deciding-bare : (b : Block) → deciding_edge (bare_block b) ≡ bare_edge (deciding_edge b)
deciding-bare b = ap (λ (o : Option EdgeEvent). or_first o (map bare_edge b.edges)) (free_edge-bare b.body b.edges) ∙ or_first-bare (free_edge b.body b.edges) b.edges

edge_text : (e d : EdgeEvent) → bare_edge e ≡ bare_edge d → e.text ≡ d.text
unfolding bare_edge
edge_text e d h = ap (λ (x : EdgeEvent). x.text) h

edge_rising : (e d : EdgeEvent) → bare_edge e ≡ bare_edge d → e.rising ≡ d.rising
unfolding bare_edge
edge_rising e d h = ap (λ (x : EdgeEvent). x.rising) h

edges_at : (es ds : List EdgeEvent) (k : ℕ) → map bare_edge es ≡ map bare_edge ds → bare_edge (get_or es k no_edge) ≡ bare_edge (get_or ds k no_edge)
edges_at es ds k h = sym (edge_at es k) ∙ (ap (λ (l : List EdgeEvent). get_or l k no_edge) h ∙ edge_at ds k)

-- sides

whole_back : (s t : Side) (id : ℕ) → bare_side s ≡ bare_side t → s ≡ Whole id → t ≡ Whole id
whole_back (Whole a) (Whole b) id e h = sym e ∙ h
whole_back (Whole a) (Written t i) id e h = absurd (cc)
whole_back (Written s i) t id e h = absurd (cc)

IsBareName-bare : (f : Flat) (s : Side) (id : ℕ) → IsBareName (bare_flat f) (bare_side s) id ≡ IsBareName f s id
unfolding bare bare_flat
IsBareName-bare f (Whole x) id = refl
IsBareName-bare f (Written (Name token x) i) id = refl
IsBareName-bare f (Written (Literal token n) i) id = refl
IsBareName-bare f (Written (BitSelect token x t) i) id = refl
IsBareName-bare f (Written (Part token x l r) i) id = refl
IsBareName-bare f (Written (Indexed token x t n up) i) id = refl
IsBareName-bare f (Written (Unary op t) i) id = refl
IsBareName-bare f (Written (Binary op l r) i) id = refl
IsBareName-bare f (Written (Cond a b c) i) id = refl
IsBareName-bare f (Written (Concat ts) i) id = refl
IsBareName-bare f (Written (Repeat n ts) i) id = refl
IsBareName-bare f (Written (Cast signed t) i) id = refl
IsBareName-bare f (Written (Paren t) i) id = refl

-- two designs that are equal without token numbers

module _ (f g : Flat) (same : IsSameFlat f g) where
  scopes_same : f.scopes ≡ g.scopes
  unfolding bare_flat
  scopes_same = ap (λ (h : Flat). h.scopes) same

  pub scope_same : (i : ℕ) → scope_at f i ≡ scope_at g i
  scope_same i = ap (λ (l : List Names). get_or l i []) scopes_same

  pub driver_same : (k : ℕ) → bare_driver (driver_at f k) ≡ bare_driver (driver_at g k)
  driver_same k = sym (driver_at-bare f k) ∙ (ap (λ (h : Flat). driver_at h k) same ∙ driver_at-bare g k)

  pub drivers_same : length f.drivers ≡ length g.drivers
  drivers_same = agree (λ (h : Flat). length h.drivers) drivers_many f g same

  pub clocked_same : map bare_block f.clocked ≡ map bare_block g.clocked
  unfolding bare_flat
  clocked_same = ap (λ (h : Flat). h.clocked) same

  pub combinational_same : map bare_block f.combinational ≡ map bare_block g.combinational
  unfolding bare_flat
  combinational_same = ap (λ (h : Flat). h.combinational) same

  pub block_same : (bs cs : List Block) (k : ℕ) → map bare_block bs ≡ map bare_block cs → bare_block (block_at bs k) ≡ bare_block (block_at cs k)
  block_same bs cs k e = sym (block_at-bare bs k) ∙ (ap (λ (l : List Block). block_at l k) e ∙ block_at-bare cs k)

  pub many_same : (bs cs : List Block) → map bare_block bs ≡ map bare_block cs → length bs ≡ length cs
  many_same bs cs e = sym (length-map bs bare_block) ∙ (ap length e ∙ length-map cs bare_block)

  pub signals_same : (id : ℕ) → bare_signal (signal_at f.signals id) ≡ bare_signal (signal_at g.signals id)
  signals_same id = sym (signal_same f id) ∙ (ap (λ (h : Flat). signal_at h.signals id) same ∙ signal_same g id)

  pub bare_name : (s t : Side) (id : ℕ) → bare_side s ≡ bare_side t → IsBareName f s id → IsBareName g t id
  bare_name s t id e h = moved (sym (IsBareName-bare f s id) ∙ ((λ k. IsBareName (same k) (e k) id) ∙ IsBareName-bare g t id)) h

  scalar_input : (id : ℕ) → IsScalarInput f id → IsScalarInput g id
  scalar_input id h = moved (λ k. agree (λ (x : Flat). IsScalarInput x) IsScalarInput-bare f g same k id) h

  scalar_back : (id : ℕ) → IsScalarInput g id → IsScalarInput f id
  scalar_back id h = moved (sym (λ k. agree (λ (x : Flat). IsScalarInput x) IsScalarInput-bare f g same k id)) h

  target_same : (k : ℕ) → bare_side (driver_at f k).target ≡ bare_side (driver_at g k).target
  target_same k = ap (λ (d : Driver). d.target) (driver_same k)

  pub value_same : (k : ℕ) → bare_side (driver_at f k).value ≡ bare_side (driver_at g k).value
  value_same k = ap (λ (d : Driver). d.value) (driver_same k)

  connects : (k port id : ℕ) → Connects f k port id → Connects g k port id
  connects k port id h = record {
    inside = rw drivers_same at h.inside;
    target = whole_back (driver_at f k).target (driver_at g k).target port (target_same k) h.target;
    first = λ j l e. h.first j l (whole_back (driver_at g j).target (driver_at f j).target port (sym (target_same j)) e);
    input = sym (ap (λ s. s.port) (signals_same port)) ∙ h.input;
    scalar = sym (ap (λ s. s.range) (signals_same port)) ∙ h.scalar;
    bare = bare_name (driver_at f k).value (driver_at g k).value id (value_same k) h.bare;
  }

  pub leads : (clock : ℕ) {id : ℕ} → Leads f clock id → Leads g clock id
  leads clock itself = itself
  leads clock (through {port = port} {id = id} k n c l) = through k (λ s. n (scalar_back port s)) (connects k port id c) (leads clock l)

  pub name_leads : (clock i j : ℕ) (x y : Text) → i ≡ j → x ≡ y → NameLeads f clock i x → NameLeads g clock j y
  name_leads clock i j x y e t h =
      let here : meant (scope_at f i) x ≡ meant (scope_at g j) y = (λ k. meant (scope_at f (e k)) (t k)) ∙ ap (λ (s : Names). meant s y) (scope_same j) in
      (h.0, (h.1.0, (sym here ∙ h.1.1.0, leads clock h.1.1.1)))

  -- edges

  pub edge_leads : (clock : ℕ) (b c : Block) (e d : EdgeEvent) → bare_block b ≡ bare_block c → bare_edge e ≡ bare_edge d → EdgeLeads f clock b e → EdgeLeads g clock c d
  edge_leads clock b c e d h k l = name_leads clock b.scope c.scope e.text d.text (ap (λ (x : Block). x.scope) h) (edge_text e d k) l

  edges_same : (b c : Block) → bare_block b ≡ bare_block c → map bare_edge b.edges ≡ map bare_edge c.edges
  edges_same b c h = ap (λ (x : Block). x.edges) h

  edges_many : (b c : Block) → bare_block b ≡ bare_block c → length b.edges ≡ length c.edges
  edges_many b c h = sym (length-map b.edges bare_edge) ∙ (ap length (edges_same b c h) ∙ length-map c.edges bare_edge)

  decided : (bs cs : List Block) (clock : Option ℕ) → map bare_block bs ≡ map bare_block cs → IsDecided f bs clock → IsDecided g cs clock
  decided [] [] clock e h = h
  decided [] (c ∷ cs) clock e h = absurd (cc)
  decided (b ∷ bs) [] clock e h = absurd (cc)
  decided (b ∷ bs) (c ∷ cs) None e h = h
  decided (b ∷ bs) (c ∷ cs) (Some clock) e h =
      let one : bare_block b ≡ bare_block c = cc in
      (scalar_input clock h.0, edge_leads clock b c (deciding_edge b) (deciding_edge c) one (sym (deciding-bare b) ∙ (ap deciding_edge one ∙ deciding-bare c)) h.1)

  input_named : (name : Text) (id : ℕ) → IsInputNamed f name id → IsInputNamed g name id
  input_named name id h = moved (agree (λ (x : Flat). IsInputNamed x name id) (λ x. IsInputNamed-bare x name id) f g same) h

  chosen : (word : Option Text) (clock : Option ℕ) → IsChosen f word clock → IsChosen g word clock
  chosen None clock h = decided f.clocked g.clocked clock clocked_same h
  chosen (Some name) None h = h
  chosen (Some name) (Some clock) h = input_named name clock h

first_edge : (f g : Flat) → IsSameFlat f g → (clock : ℕ) (b c : Block) (rising : Bool) → bare_block b ≡ bare_block c → FirstEdge f clock b rising → FirstEdge g clock c rising
first_edge f g same clock b c rising e h = record {
  place = h.place;
  inside = rw (edges_many f g same b c e) at h.inside;
  leads = edge_leads f g same clock b c (get_or b.edges h.place no_edge) (get_or c.edges h.place no_edge) e (edges_at b.edges c.edges h.place (edges_same f g same b c e)) h.leads;
  direction = sym (edge_rising (get_or b.edges h.place no_edge) (get_or c.edges h.place no_edge) (edges_at b.edges c.edges h.place (edges_same f g same b c e))) ∙ h.direction;
  first = λ j l k. h.first j l (edge_leads g f (sym same) clock c b (get_or c.edges j no_edge) (get_or b.edges j no_edge) (sym e) (sym (edges_at b.edges c.edges j (edges_same f g same b c e))) k);
}

direction : (f g : Flat) → IsSameFlat f g → (bs cs : List Block) (clock : Option ℕ) (rising : Bool) → map bare_block bs ≡ map bare_block cs → IsDirection f bs clock rising → IsDirection g cs clock rising
direction f g same [] [] clock rising e h = h
direction f g same [] (c ∷ cs) clock rising e h = absurd (cc)
direction f g same (b ∷ bs) [] clock rising e h = absurd (cc)
direction f g same (b ∷ bs) (c ∷ cs) None rising e h = h
direction f g same (b ∷ bs) (c ∷ cs) (Some clock) rising e h = let one : bare_block b ≡ bare_block c = cc in first_edge f g same clock b c rising one h

runs_on : (f g : Flat) → IsSameFlat f g → (clock : ℕ) (rising : Bool) (b c : Block) → bare_block b ≡ bare_block c → RunsOn f clock rising b → RunsOn g clock rising c
runs_on f g same clock rising b c e h =
    let d : bare_edge (get_or b.edges h.0 no_edge) ≡ bare_edge (get_or c.edges h.0 no_edge) = edges_at b.edges c.edges h.0 (edges_same f g same b c e) in (
      h.0,
      (
        rw (edges_many f g same b c e) at h.1.0,
        sym (edge_rising (get_or b.edges h.0 no_edge) (get_or c.edges h.0 no_edge) d) ∙ h.1.1,
        edge_leads f g same clock b c (get_or b.edges h.0 no_edge) (get_or c.edges h.0 no_edge) e d h.1.2,
      ),
    )

all_run : (f g : Flat) → IsSameFlat f g → (clock : Option ℕ) (rising : Bool) → AllRun f clock rising → AllRun g clock rising
all_run f g same None rising h = h
all_run f g same (Some clock) rising h =
    λ k l. runs_on f g same clock rising (block_at f.clocked k) (block_at g.clocked k) (block_same f g same f.clocked g.clocked k (clocked_same f g same))
    (h k (rw (sym (many_same f g same f.clocked g.clocked (clocked_same f g same))) at l))

pub one_clock : (f g : Flat) → IsSameFlat f g → (word : Option Text) (clock : Option ℕ) (rising : Bool) → OneClock f word clock rising → OneClock g word clock rising
one_clock f g same word clock rising h = record {
  chosen = chosen f g same word clock h.chosen;
  direction = direction f g same f.clocked g.clocked clock rising (clocked_same f g same) h.direction;
  all = all_run f g same clock rising h.all;
}

-- names that lead to no clock

no_clock : (f g : Flat) → IsSameFlat f g → (clock i j : ℕ) (xs ys : List Identifier) → i ≡ j → map bare_identifier xs ≡ map bare_identifier ys → NoClockIn f clock i xs → NoClockIn g clock j ys
no_clock f g same clock i j xs ys e t h =
    λ k d l n.
    let many : length ys ≡ length xs = sym (length-map ys bare_identifier) ∙ (ap length (sym t) ∙ length-map xs bare_identifier) in
    let text : (get_or ys k d).text ≡ (get_or xs k d).text = sym (text_at ys k d) ∙ (ap (λ (z : List Identifier). (get_or z k d).text) (sym t) ∙ text_at xs k d) in
    h k d (rw many at l) (name_leads g f (sym same) clock j i (get_or ys k d).text (get_or xs k d).text (sym e) text n)

written_tree : (t u : Tree) (i j : ℕ) → Written (bare t) i ≡ Written (bare u) j → bare t ≡ bare u
written_tree t u i j e = cc

written_scope : (t u : Tree) (i j : ℕ) → Written (bare t) i ≡ Written (bare u) j → i ≡ j
written_scope t u i j e = cc

side_without : (f g : Flat) → IsSameFlat f g → (clock : ℕ) (s t : Side) → bare_side s ≡ bare_side t → SideWithout f clock s → SideWithout g clock t
side_without f g same clock (Whole x) (Whole y) e h = tt
side_without f g same clock (Whole x) (Written u j) e h = absurd (cc)
side_without f g same clock (Written t i) (Whole y) e h = absurd (cc)
side_without f g same clock (Written t i) (Written u j) e h =
    no_clock f g same clock i j (names_in t) (names_in u) (written_scope t u i j e) (sym (names_in-bare t) ∙ (ap names_in (written_tree t u i j e) ∙ names_in-bare u)) h

hands_on : (f g : Flat) → IsSameFlat f g → (d c : Driver) → bare_driver d ≡ bare_driver c → HandsOn f d → HandsOn g c
hands_on f g same d c e h = (
  h.0,
  h.1,
  (
    whole_back d.target c.target h.0 (ap (λ (x : Driver). x.target) e) h.2.0,
    sym (ap (λ s. s.port) (signals_same f g same h.0)) ∙ h.2.1,
    sym (ap (λ s. s.range) (signals_same f g same h.0)) ∙ h.2.2,
    bare_name f g same d.value c.value h.1 (ap (λ (x : Driver). x.value) e) h.2.3,
  ),
)

driver_without : (f g : Flat) → IsSameFlat f g → (clock : ℕ) (d c : Driver) → bare_driver d ≡ bare_driver c → DriverWithout f clock d → DriverWithout g clock c
driver_without f g same clock d c e h =
    (side_without f g same clock d.target c.target (ap (λ (x : Driver). x.target) e) h.0, by_case h.1)
  where
    by_case : (HandsOn f d ⊎ SideWithout f clock d.value) → HandsOn g c ⊎ SideWithout g clock c.value
    by_case (inl x) = inl (hands_on f g same d c e x)
    by_case (inr x) = inr (side_without f g same clock d.value c.value (ap (λ (y : Driver). y.value) e) x)

block_without : (f g : Flat) → IsSameFlat f g → (clock : ℕ) (b c : Block) → bare_block b ≡ bare_block c → NoClockIn f clock b.scope (names_of b.body) → NoClockIn g clock c.scope (names_of c.body)
block_without f g same clock b c e h =
    no_clock f g same clock b.scope c.scope (names_of b.body) (names_of c.body) (ap (λ (x : Block). x.scope) e)
    (sym (names_of-bare b.body) ∙ (ap (λ (x : Block). names_of x.body) e ∙ names_of-bare c.body)) h

pub no_clock_read : (f g : Flat) → IsSameFlat f g → (clock : Option ℕ) → NoClockRead f clock → NoClockRead g clock
no_clock_read f g same None h = h
no_clock_read f g same (Some clock) h = record {
  drivers = λ k l. driver_without f g same clock (driver_at f k) (driver_at g k) (driver_same f g same k) (h.drivers k (rw (sym (drivers_same f g same)) at l));
  clocked = λ k l. block_without f g same clock (block_at f.clocked k) (block_at g.clocked k) (block_same f g same f.clocked g.clocked k (clocked_same f g same))
      (h.clocked k (rw (sym (many_same f g same f.clocked g.clocked (clocked_same f g same))) at l));
  combinational = λ k l. block_without f g same clock (block_at f.combinational k) (block_at g.combinational k) (block_same f g same f.combinational g.combinational k (combinational_same f g same))
      (h.combinational k (rw (sym (many_same f g same f.combinational g.combinational (combinational_same f g same))) at l));
}
