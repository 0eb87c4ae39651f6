-- what the members took is the hand-over of the round
use Rattle.std.proofs.Common.{◌≡◌, ℕ, suc, zero, ◌+◌, ◌<◌, ◌==◌, Bool, true, false, not, cond, List, [], ◌∷◌, ◌++◌, length, get_or, map, take, filter, refl, sym, ◌∙◌, ap, subst, arith}
use Rattle.std.specs.Prelude.{All}
use Rattle.std.proofs.lemmas.Bool.{cond_both}
use Rattle.std.proofs.lemmas.List.{get_or-map, length-map, map-append}
use Rattle.std.proofs.lemmas.List.Elements.{All-filter, All-get_or, All-nil}
use Rattle.rr_cnf.specs.Clauses.{Clauses, IsWithin}
use Rattle.rr_derive.specs.Derive.{Step}
use Rattle.rr_solver.specs.Searches.{IsNewId}
use Rattle.rr_rounds.specs.declared.place.Place.{Place}
use Rattle.rr_member.specs.declared.sharing.Short.{Short}
use Rattle.rr_rounds.specs.States.{Learned, Member, Taken, handed, idle, learned, line_of, member, nothing, steps}
use Rattle.rr_rounds.specs.Joined.{flat, lines_in, of_member, of_round}
use Rattle.rr_rounds.specs.Rounds.{HandsOver, IsAboveEnd, Reached, is_short, shared, short_of}
use Rattle.rr_member.specs.Seats.{Seated, member_of}
use Rattle.rr_member.specs.Sharing.{AllTook, MayTake, all_shorts, nobody, not_own, origin_of, seat, short_at, shorts_of, state_of}
use Rattle.rr_rounds.proofs.Lawful.{no_step}
use Rattle.rr_rounds.proofs.Reaching.{All-flat, lawful}

map-flat : {X Y : Type 0} (g : X → Y) (f : ℕ → List X) (n : ℕ) → map g (flat n f) ≡ flat n (λ i. map g (f i))
map-flat g f zero = refl
map-flat g f (suc n) = map-append g (flat n f) (f n) ∙ ap (λ y. y ++ map g (f n)) (map-flat g f n)

flat_same : {X : Type 0} (f g : ℕ → List X) (n : ℕ) → ((i : ℕ) → i < n → f i ≡ g i) → flat n f ≡ flat n g
flat_same f g zero e = refl
flat_same f g (suc n) e = ap (λ y. y ++ f n) (flat_same f g n (λ i h. e i (omega arith))) ∙ ap (λ y. flat n g ++ y) (e n (omega arith))

filter-map : {X Y : Type 0} (p : Y → Bool) (g : X → Y) (xs : List X) → filter p (map g xs) ≡ map g (filter (λ x. p (g x)) xs)
filter-map p g [] = refl
filter-map p g (x ∷ xs) = by_cases (p (g x)) (filter-map p g xs)
  where
    by_cases : (b : Bool) → filter p (map g xs) ≡ map g (filter (λ x. p (g x)) xs) → cond b (g x ∷ filter p (map g xs)) (filter p (map g xs)) ≡ map g (cond b (x ∷ filter (λ x. p (g x)) xs) (filter (λ x. p (g x)) xs))
    by_cases true e = ap (λ y. g x ∷ y) e
    by_cases false e = e

map_one : {X Y : Type 0} (g : X → Y) (b : Bool) (x : X) → map g (cond b (x ∷ []) []) ≡ cond b (g x ∷ []) []
map_one g true x = refl
map_one g false x = refl

All-one : {X : Type 0} (P : X → Type 0) (x : X) → P x → All P (x ∷ [])
All-one P x h zero d l = h
All-one P x h (suc k) d l = absurd (omega arith)

pub seat_at : (seats : List Seated) (k : ℕ) → k < length seats → get_or (map member_of seats) k idle ≡ member_of (seat seats k)
seat_at seats k h = get_or-map member_of seats k nobody idle h

-- the lines of a round, as the members stand
pub round_is : (last round : ℕ) (seats : List Seated) → flat (length seats) (λ i. lines_in round i (member_of (seat seats i))) ≡ of_round (state_of last seats) round
round_is last round seats =
    flat_same (λ i. lines_in round i (member_of (seat seats i))) (of_member (state_of last seats) round) (length seats) (λ i h. ap (lines_in round i) (sym (seat_at seats i h)))
    ∙ ap (λ n. flat n (of_member (state_of last seats) round)) (sym (length-map seats member_of))

no_place : Place
no_place = record { member = 0; line = 0 }

no_short : Short
no_short = record { member = 0; line = 0; clause = [] }

module _ (round : ℕ) (seats : List Seated) where
  -- the shared lines, in order
  pub shared_is : map origin_of (all_shorts round seats) ≡ shared (state_of round seats)
  shared_is =
      map-flat origin_of (λ i. shorts_of round i (member_of (seat seats i))) (length seats)
      ∙ flat_same _ (short_of (state_of round seats)) (length seats) (λ i h.
      map-flat origin_of (short_at round i (member_of (seat seats i))) (length (member_of (seat seats i)).lines)
      ∙ flat_same _ (λ k. cond (is_short round (learned (member_of (seat seats i)) k)) (record { member = i; line = k } ∷ []) []) (length (member_of (seat seats i)).lines) (λ k l. map_one origin_of (is_short round (learned (member_of (seat seats i)) k)) (record { member = i; line = k; clause = (learned (member_of (seat seats i)) k).step.clause }))
      ∙ ap (λ (m : Member). flat (length m.lines) (λ k. cond (is_short round (learned m k)) (record { member = i; line = k } ∷ []) [])) (sym (seat_at seats i h)))
      ∙ ap (λ n. flat n (short_of (state_of round seats))) (sym (length-map seats member_of))

  -- a fact of the clause of each line
  pub All-shorts : (P : Short → Type 0) → ((i k : ℕ) → i < length seats → k < length (member_of (seat seats i)).lines → P (record { member = i; line = k; clause = (learned (member_of (seat seats i)) k).step.clause })) → All P (all_shorts round seats)
  All-shorts P each = All-flat P (λ i. shorts_of round i (member_of (seat seats i))) (length seats) (λ i h.
      All-flat P (short_at round i (member_of (seat seats i))) (length (member_of (seat seats i)).lines) (λ k l.
      cond_both (is_short round (learned (member_of (seat seats i)) k)) (record { member = i; line = k; clause = (learned (member_of (seat seats i)) k).step.clause } ∷ []) [] (All P)
      (λ e. All-one P (record { member = i; line = k; clause = (learned (member_of (seat seats i)) k).step.clause }) (each i k h l))
      (λ e. All-nil P)))

  pub own_clauses : All (λ x. x.clause ≡ (line_of (state_of round seats) (origin_of x)).step.clause) (all_shorts round seats)
  own_clauses = All-shorts (λ x. x.clause ≡ (line_of (state_of round seats) (origin_of x)).step.clause) (λ i k h l. ap (λ m. (learned m k).step.clause) (sym (seat_at seats i h)))

  shorts_within : (f : Clauses) (inputs count : ℕ) → Reached f inputs count (state_of round seats) → All (λ x. All (IsWithin f.vars) x.clause) (all_shorts round seats)
  shorts_within f inputs count r = All-shorts (λ x. All (IsWithin f.vars) x.clause) (λ i k h l.
      let m = member_of (seat seats i) in
      let w = subst (λ x. All (λ (s : Step). All (IsWithin f.vars) s.clause) (steps x)) (seat_at seats i h) (lawful f inputs count (state_of round seats) r i).log.within in
      let inside : k < length (steps m) = omega (arith, l, length-map m.lines (λ (y : Learned). y.step)) in
      subst (λ (s : Step). All (IsWithin f.vars) s.clause) (get_or-map (λ (y : Learned). y.step) m.lines k nothing no_step l) (All-get_or (λ (s : Step). All (IsWithin f.vars) s.clause) (steps m) k no_step inside w))

  -- where all are asked about one formula
  pub may_take : (f : Clauses) (inputs count : ℕ) → ((k : ℕ) → k < length seats → (seat seats k).search.formula ≡ f) → Reached f inputs count (state_of round seats) → MayTake (all_shorts round seats) seats
  may_take f inputs count asked r = λ k h. subst (λ (g : Clauses). All (λ (x : Short). All (IsWithin g.vars) x.clause) (all_shorts round seats)) (sym (asked k h)) (shorts_within f inputs count r)

  module _ (f : Clauses) (new : List Seated) (asked : (k : ℕ) → k < length seats → (seat seats k).search.formula ≡ f) (took : AllTook (all_shorts round seats) seats new) where
    pub hands_over : HandsOver f (state_of round seats) (state_of (round + 1) new)
    hands_over = record {
      round = refl;
      count = length-map new member_of ∙ took.count ∙ sym (length-map seats member_of);
      each = λ m l.
          let h : m < length seats = omega (arith, l, length-map seats member_of) in
          let t = took.each m h in
          let s = state_of round seats in
          let shorts = not_own m (all_shorts round seats) in
          let at = seat_at seats m h in (
            t.more,
            (
              record {
                origins = t.origins ∙ sym (filter-map (λ (p : Place). not (p.member == m)) origin_of (all_shorts round seats)) ∙ ap (filter (λ (p : Place). not (p.member == m))) shared_is;
                clauses = λ k d i.
                    let size : length t.more ≡ length shorts = sym (length-map t.more (λ (y : Taken). y.origin)) ∙ ap length t.origins ∙ length-map shorts origin_of in
                    let j : k < length shorts = omega (arith, size) in
                    let x = get_or shorts k no_short in
                    let c : (get_or t.more k d).handed.clause ≡ x.clause = sym (get_or-map (λ (y : Taken). y.handed.clause) t.more k d [] i) ∙ ap (λ cs. get_or cs k []) t.clauses ∙ get_or-map (λ (y : Short). y.clause) shorts k no_short [] j in
                    let o : (get_or t.more k d).origin ≡ origin_of x = sym (get_or-map (λ (y : Taken). y.origin) t.more k d no_place i) ∙ ap (λ ps. get_or ps k no_place) t.origins ∙ get_or-map origin_of shorts k no_short no_place j in
                    c ∙ All-get_or (λ (y : Short). y.clause ≡ (line_of s (origin_of y)).step.clause) shorts k no_short j (All-filter (λ (y : Short). not (y.member == m)) (λ (y : Short). y.clause ≡ (line_of s (origin_of y)).step.clause) (all_shorts round seats) own_clauses)
                    ∙ ap (λ p. (line_of s p).step.clause) (sym o);
                ids = λ k d i.
                    subst (λ g. IsNewId g (steps (member s m)) (handed (member s m) ++ map (λ (t : Taken). t.handed) (take k t.more)) (get_or t.more k d).handed.id) (asked m h)
                    (subst (λ y. IsNewId (seat seats m).search.formula (steps y) (handed y ++ map (λ (t : Taken). t.handed) (take k t.more)) (get_or t.more k d).handed.id) (sym at) (t.ids k d i));
                ended = λ k d i. subst (λ y. IsAboveEnd y (get_or t.more k d).handed.id) (sym at) (t.ended k d i);
              },
              seat_at new m (omega (arith, h, took.count)) ∙ t.is ∙ ap (λ (y : Member). record y { taken = y.taken ++ t.more }) (sym at),
            ),
          );
    }
