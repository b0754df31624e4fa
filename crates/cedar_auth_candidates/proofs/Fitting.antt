-- What is looked up for a request that is one of an environment.
use Rattle.std.proofs.Common.{◌≡◌, ◌<◌, ℕ, zero, suc, List, [], ◌∷◌, length, slice_get, Contains, Option, Some, None, Result, Ok, Err, OnOk, inl, inr, arith, sym, ap, subst, ◌∙◌, add-one}
use Rattle.std.specs.List.{slice_index}
use Rattle.std.specs.List.Sorted.{IsStrictlyIncreasing}
use Rattle.cedar_value.specs.World.{World}
use Rattle.cedar_value.specs.declared.request.Request.{Request}
use Rattle.cedar_value.specs.declared.uid.Uid.{Uid}
use Rattle.cedar_ast.specs.PolicyTree.{PolicyTree}
use Rattle.cedar_schema_spec.specs.SchemaTree.{SchemaTree}
use Rattle.cedar_schema_spec.specs.declared.environment.Environment.{Environment}
use Rattle.cedar_check_spec.specs.Candidates.{IsCandidate, MayMeet, Meets}
use Rattle.cedar_auth_spec.specs.Candidates.{AreCandidates, Ascend}
use Rattle.cedar_auth_candidates.specs.Candidates.{CandidatesTree, HasPositions, HasSelected, HasSelectedInOrder, HasSelectedInOrderAt, IsKeptFor, IsSelected, listing_at}
use Rattle.cedar_auth_candidates.specs.Index.{HasReached, IsIndexOf, IsListingBy, ListingTree}
use Rattle.cedar_auth_candidates.specs.Private.Chosen.{IsChosen}

-- the positions of a listing, and none where there is no listing
abbrev pub positions_in : Option ListingTree → List ℕ
positions_in None = []
positions_in (Some listing) = listing.positions

-- what follows from two promises holds where both do
pub both_ok : {E A B C : Type 0} (r : Result (Unit {0}) E) → (A → B → C) → OnOk r A → OnOk r B → OnOk r C
both_ok (Ok u) f a b = f a b
both_ok (Err e) f a b = tt

-- positions that ascend are each below the next
increases : (low high : ℕ) (ks : List ℕ) → Ascend low high ks → IsStrictlyIncreasing ks
increases low high [] up k l = absurd (omega arith)
increases low high (x ∷ []) up k l = absurd (omega arith)
increases low high (x ∷ y ∷ ys) up zero l = omega (arith, up.2.0)
increases low high (x ∷ y ∷ ys) up (suc k) l =
    subst (λ (n : ℕ). slice_index (y ∷ ys) k < slice_index (x ∷ y ∷ ys) n) (sym (add-one (suc k)))
    (subst (λ (n : ℕ). slice_index (y ∷ ys) k < slice_index (y ∷ ys) n) (add-one k) (increases (suc x) high (y ∷ ys) up.2 k (omega (arith, l))))

-- whether a policy is a candidate depends on the action and the types of an environment alone
same_candidate : (s : SchemaTree) (p : PolicyTree) (a b : Environment) → a.action ≡ b.action → a.principal ≡ b.principal → a.resource ≡ b.resource → IsCandidate s a p → IsCandidate s b p
same_candidate s p a b x y z is = record {
  principal = subst (λ (n : List ℕ). MayMeet s n p.scope.principal) y is.principal;
  action = subst (λ (u : Uid). Meets s u p.scope.action) x is.action;
  resource = subst (λ (n : List ℕ). MayMeet s n p.scope.resource) z is.resource;
}

moved : (s : SchemaTree) (ps : List PolicyTree) (a b : Environment) (ks : List ℕ) → a.action ≡ b.action → a.principal ≡ b.principal → a.resource ≡ b.resource → AreCandidates s ps a ks → AreCandidates s ps b ks
moved s ps a b ks x y z are = record {
  ascend = are.ascend;
  exact = λ k. (
    λ m. let (p, at, is) = (are.exact k).0 m in (p, at, same_candidate s p a b x y z is),
    λ found. let (p, at, is) = found in (are.exact k).1 (p, at, same_candidate s p b a (sym x) (sym y) (sym z) is),
  );
}

module _ (candidates : CandidatesTree) (q : Request) where
  -- the listing of the request is that of its environment
  listing_for : (found : Option ListingTree) → found ≡ listing_at candidates q.action q.principal.ty q.resource.ty → (u : Uid) (n m : List ℕ) → q.action ≡ u → q.principal.ty ≡ n → q.resource.ty ≡ m
      → listing_at candidates u n m ≡ found
  listing_for found is u n m a b c =
      ap (λ (v : Uid). listing_at candidates v n m) (sym a)
      ∙ ap (λ (x : List ℕ). listing_at candidates q.action x m) (sym b)
      ∙ ap (λ (x : List ℕ). listing_at candidates q.action q.principal.ty x) (sym c)
      ∙ sym is

  pub has_positions : (found : Option ListingTree) → found ≡ listing_at candidates q.action q.principal.ty q.resource.ty → HasPositions candidates q (positions_in found)
  has_positions found is s ps env are fits =
      let same = listing_for found is env.action env.principal env.resource fits.action fits.principal fits.resource in
      let kept = subst (λ (o : Option ListingTree). IsKeptFor s ps candidates.index env o) same (are.kept env fits.listed) in
      subst (λ (o : Option ListingTree). AreCandidates s ps env (positions_in o)) (sym kept.is) kept.candidates

  -- what is selected from the listing of an environment
  selected_from : (s : SchemaTree) (ps : List PolicyTree) (env : Environment) (w : World) (listing : ListingTree) (ks : List ℕ) → IsIndexOf ps candidates.index → AreCandidates s ps env listing.positions
      → IsListingBy candidates.index listing → HasReached candidates.index listing q w ks → ((k : ℕ) → Contains ks k → Contains listing.positions k) → IsSelected s ps env q w ks
  selected_from s ps env w listing ks indexed exact listed reached among = record {
    reached = λ k p at candidate reaches. reached ps indexed listed k p ((exact.exact k).1 (p, at, candidate)) at reaches;
    among = λ k m. (exact.exact k).0 (among k m);
  }

  pub has_selected : (w : World) (listing : ListingTree) (ks : List ℕ) → Some listing ≡ listing_at candidates q.action q.principal.ty q.resource.ty → HasReached candidates.index listing q w ks
      → ((k : ℕ) → Contains ks k → Contains listing.positions k) → HasSelected candidates q w ks
  has_selected w listing ks is reached among s ps env are fits =
      let same = listing_for (Some listing) is env.action env.principal env.resource fits.action fits.principal fits.resource in
      let kept = subst (λ (o : Option ListingTree). IsKeptFor s ps candidates.index env o) same (are.kept env fits.listed) in
      let one : kept.listing ≡ listing = cc kept.is in
      selected_from s ps env w listing ks are.indexed (subst (λ (l : ListingTree). AreCandidates s ps env l.positions) one kept.candidates)
      (subst (λ (l : ListingTree). IsListingBy candidates.index l) one kept.listed) reached among

  -- there is a listing for each request that is one of an environment
  pub none_selected : (w : World) (ks : List ℕ) → None ≡ listing_at candidates q.action q.principal.ty q.resource.ty → HasSelected candidates q w ks
  none_selected w ks is s ps env are fits =
      let same = listing_for None is env.action env.principal env.resource fits.action fits.principal fits.resource in
      let kept = subst (λ (o : Option ListingTree). IsKeptFor s ps candidates.index env o) same (are.kept env fits.listed) in
      absurd (cc kept.is)

  pub none_in_order : (w : World) → None ≡ listing_at candidates q.action q.principal.ty q.resource.ty → HasSelectedInOrder candidates q w []
  none_in_order w is s ps env are fits = ((λ k l. absurd (omega arith)), none_selected w [] is s ps env are fits)

  -- all candidates
  all_selected : (s : SchemaTree) (ps : List PolicyTree) (env : Environment) (w : World) (listing : ListingTree) → AreCandidates s ps env listing.positions
      → IsStrictlyIncreasing listing.positions × IsSelected s ps env q w listing.positions
  all_selected s ps env w listing exact = (
    increases 0 (length ps) listing.positions exact.ascend,
    record {
      reached = λ k p at candidate reaches. (exact.exact k).1 (p, at, candidate);
      among = λ k m. (exact.exact k).0 m;
    },
  )

  -- what is chosen of the listing of an environment
  chosen_from : (s : SchemaTree) (ps : List PolicyTree) (env : Environment) (w : World) (listing : ListingTree) (ks : List ℕ) → IsIndexOf ps candidates.index → AreCandidates s ps env listing.positions
      → IsListingBy candidates.index listing → IsChosen candidates.index listing q w ks → IsStrictlyIncreasing ks × IsSelected s ps env q w ks
  chosen_from s ps env w listing ks indexed exact listed (inl all) =
      subst (λ (js : List ℕ). IsStrictlyIncreasing js × IsSelected s ps env q w js) (sym all) (all_selected s ps env w listing exact)
  chosen_from s ps env w listing ks indexed exact listed (inr some) =
      (some.ascend, selected_from s ps env w listing ks indexed exact listed some.reached some.within)

  pub chosen_in_order : (w : World) (listing : ListingTree) (ks : List ℕ) → Some listing ≡ listing_at candidates q.action q.principal.ty q.resource.ty → IsChosen candidates.index listing q w ks
      → HasSelectedInOrder candidates q w ks
  chosen_in_order w listing ks is chosen s ps env are fits =
      let same = listing_for (Some listing) is env.action env.principal env.resource fits.action fits.principal fits.resource in
      let kept = subst (λ (o : Option ListingTree). IsKeptFor s ps candidates.index env o) same (are.kept env fits.listed) in
      let one : kept.listing ≡ listing = cc kept.is in
      chosen_from s ps env w listing ks are.indexed (subst (λ (l : ListingTree). AreCandidates s ps env l.positions) one kept.candidates)
      (subst (λ (l : ListingTree). IsListingBy candidates.index l) one kept.listed) chosen

  -- the listing at the position of an environment is that of its candidates
  pub chosen_in_order_at : (w : World) (listing : ListingTree) (ks : List ℕ) (position : ℕ) → Some listing ≡ slice_get candidates.listings position → IsChosen candidates.index listing q w ks
      → HasSelectedInOrderAt candidates position q w ks
  chosen_in_order_at w listing ks position is chosen s ps env are fits (placed, at, of) =
      let kept = subst (λ (o : Option ListingTree). IsKeptFor s ps candidates.index placed o) (sym is) (are.placed position placed at) in
      let one : kept.listing ≡ listing = cc kept.is in
      chosen_from s ps env w listing ks are.indexed
      (moved s ps placed env listing.positions (of.action ∙ fits.action) (of.principal ∙ fits.principal) (of.resource ∙ fits.resource)
      (subst (λ (l : ListingTree). AreCandidates s ps placed l.positions) one kept.candidates))
      (subst (λ (l : ListingTree). IsListingBy candidates.index l) one kept.listed) chosen

  pub none_in_order_at : (w : World) (position : ℕ) → None ≡ slice_get candidates.listings position → HasSelectedInOrderAt candidates position q w []
  none_in_order_at w position is s ps env are fits (placed, at, of) =
      let kept = subst (λ (o : Option ListingTree). IsKeptFor s ps candidates.index placed o) (sym is) (are.placed position placed at) in
      absurd (cc kept.is)
