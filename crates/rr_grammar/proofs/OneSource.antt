-- No words have two source texts.
use Rattle.std.proofs.Common.{◌≡◌, ℕ, suc, ◌+◌, ◌≤◌, max, List, [], ◌∷◌, ◌++◌, map, refl, ap, ◌∙◌, sym, arith, Option, Some, None, append-nil}
use Rattle.rr_syntax.specs.Words.{Word}
use Rattle.rr_syntax.specs.Tree.{ModuleDeclaration, SourceText, IsSameSource, bare_module, bare_source}
use Rattle.rr_syntax.specs.Items.{spell_module, spell_source, spell_all, WellFormedSource, depth_source, greatest, height_module}
use Rattle.rr_lex.specs.Tokens.{words_of}
use Rattle.rr_lex.proofs.Unique.{one_list}
use Rattle.rr_grammar.specs.Formats.{IsExact}
use Rattle.rr_grammar.specs.Trees.{IsTree}
use Rattle.rr_grammar.specs.ModuleForms.{modules}
use Rattle.rr_grammar.proofs.Goods.{modules_good}
use Rattle.rr_grammar.proofs.ModulesExact.{modules_exact, no_module}

-- reading the words of a source text finds its modules
pub reads_source : (n : ℕ) (s : SourceText) → WellFormedSource s → depth_source s ≤ n → (modules n n).read (spell_source s) ≡ Some (map bare_module s.modules, [])
unfolding WellFormedSource depth_source spell_source
reads_source n s w d =
    ap (modules n n).read (sym (append-nil (spell_all spell_module s.modules))) ∙
    (modules_exact n n).finds s.modules (modules_good n n s.modules w (omega (arith, d)) (omega (arith, d))) [] (tt, no_module n n)

pub unique_source : (a b : SourceText) → WellFormedSource a → WellFormedSource b → spell_source a ≡ spell_source b → IsSameSource a b
unfolding bare_source
unique_source a b v w e =
    let n : ℕ = max (depth_source a) (depth_source b) in
    let p = reads_source n a v (omega arith) in
    let q = reads_source n b w (omega arith) in
    let k : Some (map bare_module a.modules, []) ≡ Some (map bare_module b.modules, []) = sym p ∙ ap (modules n n).read e ∙ q in
    let f : (map bare_module a.modules, []) ≡ (map bare_module b.modules, []) = cc k in
    ap (λ (x : List ModuleDeclaration × List Word). record { modules = x.0 }) f

pub unique_tree : (bytes : List ℕ) (a b : SourceText) → IsTree bytes a → IsTree bytes b → IsSameSource a b
unique_tree bytes a b s t =
    let e : words_of s.tokens ≡ words_of t.tokens = ap words_of (one_list bytes s.tokens t.tokens s.are t.are) in
    unique_source a b s.spells.well t.spells.well (s.spells.spelled ∙ e ∙ sym t.spells.spelled)
