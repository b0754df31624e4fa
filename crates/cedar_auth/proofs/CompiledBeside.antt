-- What is made of policies, beside these.
use Rattle.std.proofs.Common.{◌≡◌, ℕ, zero, suc, ◌<◌, ◌≤◌, Bor, Option, List, [], ◌∷◌, ◌++◌, length, Some, None, arith, sym, subst}
use Rattle.std.specs.List.{slice_get}
use Rattle.std.specs.Prelude.{IfSome, option_copied}
use Rattle.std.proofs.lemmas.List.Elements.{Contains-append_left, Contains-push}
use Rattle.cedar_ast.specs.PolicyTree.{PolicyTree}
use Rattle.cedar_code.specs.Code.{most_instructions}
use Rattle.cedar_auth_spec.specs.Codes.{HasLongCode, policy_code}
use Rattle.cedar_auth.specs.declared.compiled.Compiled.{Compiled}
use Rattle.cedar_auth.specs.Private.Kept.{AreCompiled, IsCompiledFrom}

-- what is at the place of a policy is made of that policy
pub compiled_beside : (cs : List Compiled) (ps : List PolicyTree) (i : ℕ) (c : Compiled) (p : PolicyTree)
    → AreCompiled cs ps → slice_get cs i ≡ Some c → slice_get ps i ≡ Some p → IsCompiledFrom c p
compiled_beside [] ps i c p all e d = absurd (cc e)
compiled_beside (x ∷ xs) [] i c p all e d = absurd (cc d)
compiled_beside (x ∷ xs) (y ∷ ys) zero c p all e d =
    let s : x ≡ c = cc e in
    let t : y ≡ p = cc d in
    subst (λ (z : PolicyTree). IsCompiledFrom c z) t (subst (λ (z : Compiled). IsCompiledFrom z y) s all.0)
compiled_beside (x ∷ xs) (y ∷ ys) (suc i) c p all e d = compiled_beside xs ys i c p all.1 e d

-- past what is made there is no policy
pub none_beside : (cs : List Compiled) (ps : List PolicyTree) (i : ℕ) (p : PolicyTree)
    → AreCompiled cs ps → length cs ≤ i → slice_get ps i ≡ Some p → ⊥
none_beside [] [] i p all past d = cc d
none_beside [] (y ∷ ys) i p all past d = all
none_beside (x ∷ xs) [] i p all past d = cc d
none_beside (x ∷ xs) (y ∷ ys) zero p all past d = omega arith
none_beside (x ∷ xs) (y ∷ ys) (suc i) p all past d = none_beside xs ys i p all.1 (omega arith) d

-- what holds of a value holds of the one that is lent
pub lent_some : {E : Type 0} (P : E → Type 0) (o : Option (Bor E)) (p : Option E) → option_copied o ≡ p → IfSome p P → IfSome o (λ x. P x.now)
lent_some P None p e h = tt
lent_some P (Some x) None e h = absurd (cc e)
lent_some P (Some x) (Some y) e h = let s : x.now ≡ y = cc e in subst P (sym s) h

appended : (cs : List Compiled) (ps : List PolicyTree) (c : Compiled) (p : PolicyTree)
    → AreCompiled cs ps → IsCompiledFrom c p → AreCompiled (cs ++ c ∷ []) (ps ++ p ∷ [])
appended [] [] c p all more = (more, tt)
appended [] (y ∷ ys) c p all more = absurd all
appended (x ∷ xs) [] c p all more = absurd all
appended (x ∷ xs) (y ∷ ys) c p all more = (all.0, appended xs ys c p all.1 more)

-- one more is made after those of policies
pub compiled_more : (ps : List PolicyTree) (cs cs' : List Compiled) (p : PolicyTree) (c : Compiled)
    → AreCompiled cs ps → IsCompiledFrom c p → cs' ≡ cs ++ c ∷ [] → AreCompiled cs' (ps ++ p ∷ [])
compiled_more ps cs cs' p c all made is = subst (λ (xs : List Compiled). AreCompiled xs (ps ++ p ∷ [])) (sym is) (appended cs ps c p all made)

-- a policy with a long code stays, and one more may be one
pub long_before : (ps : List PolicyTree) (p : PolicyTree) → HasLongCode ps → HasLongCode (ps ++ p ∷ [])
long_before ps p h = (h.0, Contains-append_left ps (p ∷ []) h.0 h.1, h.2)

pub long_next : (ps : List PolicyTree) (p : PolicyTree) → most_instructions < length (policy_code p) → HasLongCode (ps ++ p ∷ [])
long_next ps p h = (p, Contains-push ps p, h)
