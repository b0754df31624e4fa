use Rattle.std.proofs.Common.{◌≡◌, ◌++◌, ◌∷◌, ℕ, List, Option, All, take, drop, refl, sym, subst, ◌∙◌}
use Rattle.std.specs.Prelude.{IfSome, IsSome}
use Rattle.std.proofs.lemmas.List.Elements.{All-append, All-cons, All-take, All-drop}
use Rattle.cedar_value.specs.Names.{IsName}
use Rattle.cedar_conform_values.proofs.names.Names.read_new.Goals as goal

-- one more name among names
inserted : (xs : List (List ℕ)) (i : ℕ) (x : List ℕ) → All IsName xs → IsName x → All IsName (take i xs ++ x ∷ drop i xs)
inserted xs i x h p = All-append IsName (take i xs) (x ∷ drop i xs) (All-take IsName i xs h) (All-cons IsName x (drop i xs) p (All-drop IsName i xs h))

pub invariant_of-self-2 : goal.invariant_of-self-2
invariant_of-self-2 c =
    let text = c.args.text.now in
    let same : c.in-Some.name ≡ text = subst (λ (o : Option (List ℕ)). IfSome o (λ n. n ≡ text)) c.in-Some.is c.in_ok-name.ensures.path in
    let named : IsName text = c.in_ok-name.ensures.given.0 (subst IsSome (sym c.in-Some.is) refl) in
    let shared : IsName c.in_ok-try_clone.field-0 = subst IsName (sym (c.in_ok-try_clone.ensures ∙ same)) named in
    subst (All IsName) (sym c.in_ok-insert.ensures.items) (inserted c.self.inside.names.items c.args.place c.in_ok-try_clone.field-0 c.self.invariant shared)
