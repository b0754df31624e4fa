-- Lists that grow at their end, as contracts see them.
use Rattle.std.proofs.Common.{◌≡◌, List, [], ◌∷◌, ◌++◌, map, ap, ◌∙◌}
use Rattle.std.specs.Borrow.{Bor}
use Rattle.std.proofs.lemmas.List.{map-append}
use Rattle.serde_json.specs.View.{view}
use Rattle.serde_json.specs.declared.value.Value.{Value}
use Rattle.cedar_schema_text.specs.Marks.{mark, lent_marks}
use Rattle.cedar_schema_text.specs.declared.token.Token.{Token}

pub one_more_view : (vs ws : List Value) (v : Value) → ws ≡ vs ++ v ∷ [] → map view ws ≡ map view vs ++ view v ∷ []
one_more_view vs ws v e = ap (map view) e ∙ map-append view vs (v ∷ [])

pub one_more_mark : (vs ws : List (Bor Token)) (v : Bor Token) → ws ≡ vs ++ v ∷ [] → lent_marks ws ≡ lent_marks vs ++ mark v.now ∷ []
one_more_mark vs ws v e = ap lent_marks e ∙ map-append (λ t. mark t.now) vs (v ∷ [])
