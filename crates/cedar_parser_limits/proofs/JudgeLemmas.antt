-- Side conditions of parts, and limits.
use Rattle.std.proofs.Common.{◌≡◌, sym, ap, subst, ◌<◌, ◌≤◌, List, [], ◌∷◌, length, map, Result, Ok, Err, arith}
use Rattle.std.specs.Prelude.{OnOk, IfErr}
use Rattle.cedar_parser_tokens.specs.declared.parse_fault.ParseFault.{ParseFault}
use Rattle.cedar_parser_tokens.specs.declared.parse_fault.ParseFault.TheVariants as f
use Rattle.cedar_ext.specs.declared.language.Language.{Language}
use Rattle.cedar_ast_expressions.specs.Keys.{AreDistinct}
use Rattle.cedar_parser_tree.specs.declared.written_statement.WrittenAnnotation.{WrittenAnnotation}
use Rattle.cedar_parser_limits.specs.Private.Judging.{BreaksSize, Judges, IsLeft, IsOfCondition, condition_of}
use Rattle.cedar_parser_limits.specs.declared.side_condition.SideCondition.{SideCondition}
use Rattle.cedar_parser_limits.specs.declared.breach.Breach.{Breach}
use Rattle.cedar_parser_limits.specs.declared.sought.Sought.{Sought}
use Rattle.cedar_parser_limits.specs.declared.size.Size.{Size}
use Rattle.cedar_parser_limits.specs.Private.Capped.{capped}
use Rattle.cedar_parser_tree.specs.StatementTree.{StatementTree}
use Rattle.cedar_parser_limits.specs.StatementLimits.{condition_size, Breaks}

-- Where a part breaks a side condition, so do the parts that are left, and all of them.
pub refused_left : (s : Sought) (here left whole : SideCondition → Type 0) (r : Result (Unit {0}) Breach) (b : Breach) → r ≡ Err b → ((c : SideCondition) → left c → here c) → IsLeft s left whole → (IsOfCondition b → here (condition_of b) → ⊥)
    → Judges s whole r
refused_left s here left whole r b e split kept broken = subst (Judges s whole) (sym e) ((λ c k. tt), λ k all. broken k (split (condition_of b) ((kept (condition_of b)).1 all)))

-- there are too few annotations for one to repeat the name of another
pub few_names : (notes : List WrittenAnnotation) → length notes < 2 → AreDistinct (map (λ a. a.name) notes)
few_names [] few = λ i j d lt within. absurd (omega arith)
few_names (a ∷ []) few = λ i j d lt within. absurd (omega arith)
few_names (a ∷ b ∷ notes) few = absurd (omega arith)

pub low_from : (r s : Size) → r ≡ capped s → r.height ≤ 2000 → s.height ≤ 2000
low_from r s e le = let h = ap (λ (z : Size). z.height) e in omega arith

pub small_from : (r s : Size) → r ≡ capped s → r.nodes ≤ 100000 → s.nodes ≤ 100000
small_from r s e le = let h = ap (λ (z : Size). z.nodes) e in omega arith

pub low_of : (r : Result (Unit {0}) ParseFault) (z s : Size) → z ≡ capped s → OnOk r (z.height ≤ 2000) → OnOk r (s.height ≤ 2000)
low_of (Ok u) z s e h = low_from z s e h
low_of (Err x) z s e h = tt

pub small_of : (r : Result (Unit {0}) ParseFault) (z s : Size) → z ≡ capped s → OnOk r (z.nodes ≤ 100000) → OnOk r (s.nodes ≤ 100000)
small_of (Ok u) z s e h = small_from z s e h
small_of (Err x) z s e h = tt

high_from : (r s : Size) → r ≡ capped s → 2000 < r.height → 2000 < s.height
high_from r s e lt = let h = ap (λ (z : Size). z.height) e in omega arith

large_from : (r s : Size) → r ≡ capped s → 100000 < r.nodes → 100000 < s.nodes
large_from r s e lt = let h = ap (λ (z : Size). z.nodes) e in omega arith

broken_by : (l : Language) (z : Size) (s : StatementTree) → z ≡ capped (condition_size s) → (x : ParseFault) → BreaksSize z x → Breaks l s x
broken_by l z s e (f.TooHigh at) h = high_from z (condition_size s) e h
broken_by l z s e (f.TooLarge at) h = large_from z (condition_size s) e h
broken_by l z s e f.OutOfMemory h = tt
broken_by l z s e _ h = absurd h

pub broken_of : (l : Language) (r : Result (Unit {0}) ParseFault) (z : Size) (s : StatementTree) → z ≡ capped (condition_size s) → IfErr r (BreaksSize z) → IfErr r (Breaks l s)
broken_of l (Ok u) z s e h = tt
broken_of l (Err x) z s e h = broken_by l z s e x h
