-- The ports of the top and the modules that have instances.
use Rattle.std.proofs.Common.{◌≡◌, ℕ, ◌+◌, ◌<◌, ◌≤◌, Bool, true, false, cond, List, [], ◌∷◌, ◌++◌, length, map, drop, get_or, nat_eq, refl, arith}
use Rattle.std.specs.List.{list_any}
use Rattle.std.specs.Prelude.{All}
use Rattle.std.proofs.lemmas.List.{drop_all, append-nil, append_assoc, length-map}
use Rattle.std.proofs.lemmas.List.Elements.{All-push, All-weaker}
use Rattle.rr_syntax.specs.View.{plain_module}
use Rattle.rr_syntax.specs.declared.tree.Module.{Module}
use Rattle.rr_flat.specs.View.{plain_signal}
use Rattle.rr_flat.specs.declared.signal.Signal.{Signal}
use Rattle.rr_flat.proofs.Lists.{rest}
use Rattle.rr_flatten.specs.Walk.{no_module, is_top_port, top_ports, reached_from}

chosen : (b : Bool) (found more : List ℕ) (k : ℕ) → cond b (found ++ k ∷ []) found ++ more ≡ found ++ cond b (k ∷ more) more
chosen true found more k = append_assoc found (k ∷ []) more
chosen false found more k = refl

pub ports_more : (input : Bool) (ys : List Signal) (i : ℕ) (d : Signal) (k : ℕ) (b : Bool) (found next : List ℕ) → i < length ys → b ≡ is_top_port input (plain_signal (get_or ys i d)) → next ≡ cond b (found ++ k ∷ []) found
    → next ++ top_ports input (k + 1) (map plain_signal (drop (i + 1) ys)) ≡ found ++ top_ports input k (map plain_signal (drop i ys))
unfolding top_ports
ports_more input ys i d k b found next lt is e = rw (rest ys i d lt, e, is) (chosen (is_top_port input (plain_signal (get_or ys i d))) found (top_ports input (k + 1) (map plain_signal (drop (i + 1) ys))) k)

pub ports_done : (input : Bool) (ys : List Signal) (i k : ℕ) (found : List ℕ) → length ys ≤ i → found ++ top_ports input k (map plain_signal (drop i ys)) ≡ found
unfolding top_ports
ports_done input ys i k found le = rw (drop_all i ys le) (append-nil found)

pub within_more : (b : Bool) (found next : List ℕ) (k : ℕ) → next ≡ cond b (found ++ k ∷ []) found → All (λ j. j < k) found → All (λ j. j < k + 1) next
within_more true found next k e h = rw e (All-push (λ j. j < k + 1) found k (All-weaker (λ j. j < k) (λ j. j < k + 1) (λ j lt. omega (arith, lt)) found h) (omega arith))
within_more false found next k e h = rw e (All-weaker (λ j. j < k) (λ j. j < k + 1) (λ j lt. omega (arith, lt)) found h)

pub reached_more : (owners : List ℕ) (ys : List Module) (k : ℕ) (b : Bool) (found next : List ℕ) → k < length ys → b ≡ list_any (nat_eq k) owners → next ≡ cond b (found ++ k ∷ []) found
    → next ++ reached_from owners (k + 1) (drop (k + 1) (map plain_module ys)) ≡ found ++ reached_from owners k (drop k (map plain_module ys))
unfolding reached_from
reached_more owners ys k b found next lt is e =
    let n : k < length (map plain_module ys) = simp length-map lt in
    rw (rest (map plain_module ys) k no_module n, e, is) (chosen (list_any (nat_eq k) owners) found (reached_from owners (k + 1) (drop (k + 1) (map plain_module ys))) k)

pub reached_done : (owners : List ℕ) (ys : List Module) (k : ℕ) (found : List ℕ) → length ys ≤ k → found ++ reached_from owners k (drop k (map plain_module ys)) ≡ found
unfolding reached_from
reached_done owners ys k found le =
    let n : length (map plain_module ys) ≤ k = simp length-map le in
    rw (drop_all k (map plain_module ys) n) (append-nil found)
