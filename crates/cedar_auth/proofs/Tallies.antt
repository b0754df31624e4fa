-- Lemmas on what the policies gather.
use Rattle.std.proofs.Common.{◌≡◌, ℕ, ◌+◌, ◌<◌, get_or, true, false, not, ◌&&◌, if◌then◌else◌, List, [], ◌∷◌, ◌++◌, length, take, Option, Some, Ok, Err, refl, sym, ap, ◌∙◌, append-nil}
use Rattle.std.specs.List.{slice_get, cons_option}
use Rattle.std.proofs.lemmas.List.Elements.{filter_map-append}
use Rattle.cedar_value.specs.Datum.{Datum, boolean}
use Rattle.cedar_value.specs.World.{World}
use Rattle.cedar_value.specs.declared.request.Request.{Request}
use Rattle.cedar_ast.specs.declared.effect.Effect.{Effect}
use Rattle.cedar_ast.specs.declared.effect.Effect.TheVariants.{Permit, Forbid}
use Rattle.cedar_ast_expressions.specs.Answer.{Answer}
use Rattle.cedar_ast.specs.PolicyTree.{PolicyTree}
use Rattle.cedar_ast.specs.Response.{ErringTree, meaning, is_true, is_permit, permits, forbids, erring_by, erring_of}
use Rattle.cedar_machine.specs.Verdict.{Verdict, verdict_of}
use Rattle.cedar_auth_spec.proofs.Ids.{ids_where-append}
use Rattle.cedar_auth.proofs.PoliciesAt.{policies_at-more}
use Rattle.cedar_auth.specs.Private.Selected.{policies_at}
use Rattle.cedar_auth.specs.Private.Tally.{TallyTree, tally_of, entered}

tally : List (List ℕ) → List (List ℕ) → List ErringTree → TallyTree
tally permits forbids erring = record { permits = permits; forbids = forbids; erring = erring }

same_tally : (a b c d : List (List ℕ)) (e f : List ErringTree) → a ≡ b → c ≡ d → e ≡ f → tally a c e ≡ tally b d f
same_tally a b c d e f p q r = cc

-- the tally with one more policy, part by part
entered_by : (t : TallyTree) (id : List ℕ) (effect : Effect) (a : Answer Datum)
    → tally (t.permits ++ (if is_permit effect && is_true a then id ∷ [] else []))
    (t.forbids ++ (if not (is_permit effect) && is_true a then id ∷ [] else [])) (t.erring ++ cons_option (erring_by a id) [])
    ≡ entered t id effect (verdict_of a)
unfolding tally
entered_by t id Permit (Err e) = simp append-nil
entered_by t id Permit (Ok (boolean true)) = simp append-nil
entered_by t id Permit (Ok (boolean false)) = simp append-nil
entered_by t id Permit (Ok _) = simp append-nil
entered_by t id Forbid (Err e) = simp append-nil
entered_by t id Forbid (Ok (boolean true)) = simp append-nil
entered_by t id Forbid (Ok (boolean false)) = simp append-nil
entered_by t id Forbid (Ok _) = simp append-nil

-- one more policy is run
tally_of-append : (q : Request) (w : World) (ps : List PolicyTree) (p : PolicyTree)
    → tally_of q w (ps ++ p ∷ []) ≡ entered (tally_of q w ps) p.id p.effect (verdict_of (meaning q w p))
unfolding tally
tally_of-append q w ps p =
    same_tally _ _ _ _ _ _ (ids_where-append (permits q w) ps p) (ids_where-append (forbids q w) ps p) (filter_map-append (erring_of q w) ps (p ∷ []))
    ∙ entered_by (tally_of q w ps) p.id p.effect (meaning q w p)

pub tally_of-next : (q : Request) (w : World) (ps : List PolicyTree) (ks : List ℕ) (i : ℕ) (p : PolicyTree) (t t' : TallyTree) (id : List ℕ) (effect : Effect) (v : Verdict)
    → i < length ks → Some p ≡ slice_get ps (get_or ks i 0) → t ≡ tally_of q w (policies_at ps (take i ks)) → t' ≡ entered t id effect v → id ≡ p.id → effect ≡ p.effect → v ≡ verdict_of (meaning q w p)
    → t' ≡ tally_of q w (policies_at ps (take (i + 1) ks))
tally_of-next q w ps ks i p t t' id effect v low at was is same_id same_effect same_verdict =
    is
    ∙ rw (was, same_id, same_effect, same_verdict) refl
    ∙ sym (tally_of-append q w (policies_at ps (take i ks)) p)
    ∙ ap (λ (o : Option PolicyTree). tally_of q w (policies_at ps (take i ks) ++ cons_option o [])) at
    ∙ ap (tally_of q w) (sym (policies_at-more ps ks i low))
