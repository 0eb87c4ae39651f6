-- In a source whose tokens are numbered the token of an `always` tells its module.
use Rattle.std.proofs.Common.{◌≡◌, ap, subst, inl, inr, ℕ, zero, suc, ◌+◌, ◌<◌, ◌≤◌, List, [], ◌∷◌, ◌++◌, length, length-append, refl, arith}
use Rattle.rr_syntax.specs.Words.{Word, Named, Reserved, Marked, keyword_endmodule, mark_semicolon}
use Rattle.rr_syntax.specs.Tree.{Statement, EventControl, ModuleItem, Always, ModuleDeclaration, SourceText}
use Rattle.rr_syntax.specs.Items.{spell_all, spell_item, spell_module, spell_parameters, spell_ports, NumberedAll, NumberedItem, NumberedModule, NumberedSource}
use Rattle.rr_flatten.specs.Walk.{module_at}
use Rattle.rr_body_laws.specs.Bodies.{IsAmong}

-- a token is one of so many behind others
abbrev Within : ℕ → ℕ → ℕ → Type 0
Within token at size = (at ≤ token) × (token < at + size)

always_token : (events : EventControl) (s : Statement) (token at : ℕ) → NumberedItem (Always events s token) at → token ≡ at
unfolding NumberedItem
always_token events s token at n = n.0

always_long : (events : EventControl) (s : Statement) (token : ℕ) → 0 < length (spell_item (Always events s token))
unfolding spell_item
always_long events s token = omega arith

within_items : (items : List ModuleItem) (at : ℕ) (events : EventControl) (s : Statement) (token : ℕ) → NumberedAll spell_item NumberedItem items at → IsAmong (Always events s token) items → Within token at (length (spell_all spell_item items))
unfolding NumberedAll IsAmong spell_all
within_items [] at events s token n h = absurd h
within_items (x ∷ xs) at events s token n (inl q) =
    let is : token ≡ at = always_token events s token at (subst (λ (y : ModuleItem). NumberedItem y at) q n.0) in
    let long : length (spell_item x) ≡ length (spell_item (Always events s token)) = ap (λ (y : ModuleItem). length (spell_item y)) q in
    let some = always_long events s token in
    let all = length-append (spell_item x) (spell_all spell_item xs) in
    (omega (arith, is), omega (arith, is, long, some, all))
within_items (x ∷ xs) at events s token n (inr h) =
    let r = within_items xs (at + length (spell_item x)) events s token n.1 h in
    let low = r.0 in
    let high = r.1 in
    let all = length-append (spell_item x) (spell_all spell_item xs) in
    (omega (arith, low), omega (arith, high, all))

module_long : (m : ModuleDeclaration) → length (spell_module m) ≡ 2 + length (spell_parameters m.params) + length (spell_ports m.header m.groups) + 1 + length (spell_all spell_item m.items) + 1
unfolding spell_module
module_long m =
    let items : List Word = spell_all spell_item m.items ++ (Reserved keyword_endmodule ∷ []) in
    let a = length-append (spell_parameters m.params) (spell_ports m.header m.groups ++ (Marked mark_semicolon ∷ items)) in
    let b = length-append (spell_ports m.header m.groups) (Marked mark_semicolon ∷ items) in
    let c = length-append (spell_all spell_item m.items) (Reserved keyword_endmodule ∷ []) in
    omega (arith, a, b, c)

within_module : (m : ModuleDeclaration) (at : ℕ) (events : EventControl) (s : Statement) (token : ℕ) → NumberedModule m at → IsAmong (Always events s token) m.items → Within token at (length (spell_module m))
unfolding NumberedModule
within_module m at events s token n h =
    let r = within_items m.items (at + 2 + length (spell_parameters m.params) + length (spell_ports m.header m.groups) + 1) events s token n.3 h in
    let low = r.0 in
    let high = r.1 in
    let long = module_long m in
    (omega (arith, low), omega (arith, high, long))

-- behind the tokens before its module
behind : (ms : List ModuleDeclaration) (at k : ℕ) (events : EventControl) (s : Statement) (token : ℕ) → NumberedAll spell_module NumberedModule ms at → IsAmong (Always events s token) (module_at ms k).items → at ≤ token
unfolding NumberedAll IsAmong
behind [] at k events s token n h = absurd h
behind (m ∷ ms) at zero events s token n h = (within_module m at events s token n.0 h).0
behind (m ∷ ms) at (suc k) events s token n h = let r = behind ms (at + length (spell_module m)) k events s token n.1 h in omega (arith, r)

same_place : (ms : List ModuleDeclaration) (at j k : ℕ) (events others : EventControl) (s t : Statement) (token : ℕ) → NumberedAll spell_module NumberedModule ms at → IsAmong (Always events s token) (module_at ms j).items
    → IsAmong (Always others t token) (module_at ms k).items → j ≡ k
unfolding NumberedAll IsAmong
same_place [] at j k events others s t token n h i = absurd h
same_place (m ∷ ms) at zero zero events others s t token n h i = refl
same_place (m ∷ ms) at zero (suc k) events others s t token n h i =
    let below = (within_module m at events s token n.0 h).1 in
    let above = behind ms (at + length (spell_module m)) k others t token n.1 i in
    absurd (omega (arith, below, above))
same_place (m ∷ ms) at (suc j) zero events others s t token n h i =
    let below = (within_module m at others t token n.0 i).1 in
    let above = behind ms (at + length (spell_module m)) j events s token n.1 h in
    absurd (omega (arith, below, above))
same_place (m ∷ ms) at (suc j) (suc k) events others s t token n h i = ap suc (same_place ms (at + length (spell_module m)) j k events others s t token n.1 h i)

pub same_module : (source : SourceText) (j k : ℕ) (events others : EventControl) (s t : Statement) (token : ℕ) → NumberedSource source → IsAmong (Always events s token) (module_at source.modules j).items
    → IsAmong (Always others t token) (module_at source.modules k).items → module_at source.modules j ≡ module_at source.modules k
unfolding NumberedSource
same_module source j k events others s t token n h i = ap (λ (x : ℕ). module_at source.modules x) (same_place source.modules 0 j k events others s t token n h i)
