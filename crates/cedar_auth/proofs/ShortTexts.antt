-- The texts of short answers.
use Rattle.std.proofs.Common.{◌≡◌, ℕ, List, [], ◌∷◌, ◌++◌, length, codes, refl, sym, ap, ◌∙◌, append_assoc}
use Rattle.std.specs.Prelude.{true}
use Rattle.json.specs.Print.{escape, escape_byte}
use Rattle.json.specs.Written.{PlainBetween}
use Rattle.json.proofs.Printed.Plain.{escape_on_plain}
use Rattle.serde_json.specs.Written.{compact_text}
use Rattle.cedar_ast.specs.declared.decision.Decision.{Decision}
use Rattle.cedar_ast.specs.declared.decision.Decision.TheVariants.{Allow, Deny}
use Rattle.cedar_auth_spec.specs.AnswerJson.{response_data}
use Rattle.cedar_auth.specs.Private.ShortAnswers.{beginning_of, end_of_one}

-- the answer that names no policy
text_of_none : Decision → List ℕ
text_of_none d = compact_text (response_data (record { decision = d; determining = []; erring = [] }))

allowed : codes "{\"decision\":\"allow\",\"determining\":[],\"erring\":[]}" ≡ text_of_none Allow
unfolding escape_byte text_of_none
allowed = refl

denied : codes "{\"decision\":\"deny\",\"determining\":[],\"erring\":[]}" ≡ text_of_none Deny
unfolding escape_byte text_of_none
denied = refl

pub none_allowed : (d : Decision) → d ≡ Allow
    → codes "{\"decision\":\"allow\",\"determining\":[],\"erring\":[]}" ≡ compact_text (response_data (record { decision = d; determining = []; erring = [] }))
unfolding text_of_none
none_allowed d is = allowed ∙ ap text_of_none (sym is)

pub none_denied : (d : Decision) → d ≡ Deny
    → codes "{\"decision\":\"deny\",\"determining\":[],\"erring\":[]}" ≡ compact_text (response_data (record { decision = d; determining = []; erring = [] }))
unfolding text_of_none
none_denied d is = denied ∙ ap text_of_none (sym is)

-- two texts after an escaped id
joined : (id : List ℕ) (rest : List ℕ) → escape id ++ (34 ∷ 93 ∷ rest) ≡ ((escape id ++ 34 ∷ []) ++ 93 ∷ []) ++ rest
joined id rest =
    sym (append_assoc (escape id ++ 34 ∷ []) (93 ∷ []) rest ∙ append_assoc (escape id) (34 ∷ []) (93 ∷ rest))

escaped : (d : Decision) (id : List ℕ) → beginning_of d ++ (escape id ++ end_of_one) ≡ compact_text (response_data (record { decision = d; determining = id ∷ []; erring = [] }))
unfolding escape_byte
escaped Allow id = ap (λ (t : List ℕ). beginning_of Allow ++ t) (joined id (codes ",\"erring\":[]}"))
escaped Deny id = ap (λ (t : List ℕ). beginning_of Deny ++ t) (joined id (codes ",\"erring\":[]}"))

-- the answer that names one policy, whose id has no escape
pub one_named : (d : Decision) (id : List ℕ) → PlainBetween id 0 (length id) → beginning_of d ++ (id ++ end_of_one) ≡ compact_text (response_data (record { decision = d; determining = id ∷ []; erring = [] }))
one_named d id plain =
    let same : escape id ≡ id = escape_on_plain true id plain in
    ap (λ (t : List ℕ). beginning_of d ++ (t ++ end_of_one)) (sym same) ∙ escaped d id
