-- What is so of all members of a list, or of one, and of the set of them.
use Rattle.std.proofs.Common.{◌≡◌, Bool, ◌||◌, List, [], ◌∷◌, refl, sym, ap, ◌∙◌}
use Rattle.std.specs.List.{AllByRecursion, list_any}
use Rattle.std.specs.declared.cmp.Ordering.{Ordering}
use Rattle.std.specs.declared.cmp.Ordering.TheVariants.{Less, Equal, Greater}
use Rattle.std.specs.Ordering.{match_ordering}
use Rattle.cedar_value.specs.Datum.{Datum}
use Rattle.cedar_value.specs.Ascending.{insert_in}
use Rattle.cedar_value.specs.Order.{datum_cmp}
use Rattle.cedar_value.specs.Private.Same.{datum_same}
use Rattle.cedar_value.specs.Sets.{set_from}
use Rattle.cedar_value.proofs.AscendingLists.{or_swap, or_twice}

all_step : (P : Datum → Type 0) (o : Ordering) (v d : Datum) (ds new : List Datum) → P v → P d → AllByRecursion P ds → AllByRecursion P new → AllByRecursion P (match_ordering o (v ∷ d ∷ ds) (d ∷ ds) (d ∷ new))
all_step P Less v d ds new h m ms rest = (h, (m, ms))
all_step P Equal v d ds new h m ms rest = (m, ms)
all_step P Greater v d ds new h m ms rest = (m, rest)

insert_all : (P : Datum → Type 0) (v : Datum) (ds : List Datum) → P v → AllByRecursion P ds → AllByRecursion P (insert_in datum_cmp v ds)
insert_all P v [] h m = (h, tt)
insert_all P v (d ∷ ds) h m = all_step P (datum_cmp v d) v d ds (insert_in datum_cmp v ds) h m.0 m.1 (insert_all P v ds h m.1)

pub set_all : (P : Datum → Type 0) (vs : List Datum) → AllByRecursion P vs → AllByRecursion P (set_from vs)
set_all P [] h = tt
set_all P (v ∷ vs) h = insert_all P v (set_from vs) h.0 (set_all P vs h.1)

any_step : (f : Datum → Bool) (o : Ordering) (v d : Datum) (ds new : List Datum) → datum_cmp v d ≡ o → list_any f new ≡ (f v || list_any f ds) → list_any f (match_ordering o (v ∷ d ∷ ds) (d ∷ ds) (d ∷ new)) ≡ (f v || (f d || list_any f ds))
any_step f Less v d ds new e rest = refl
any_step f Equal v d ds new e rest = or_twice (f d) (list_any f ds) ∙ ap (λ (x : Datum). f x || (f d || list_any f ds)) (sym (datum_same v d e))
any_step f Greater v d ds new e rest = ap (λ b. f d || b) rest ∙ or_swap (f d) (f v) (list_any f ds)

insert_any : (f : Datum → Bool) (v : Datum) (ds : List Datum) → list_any f (insert_in datum_cmp v ds) ≡ (f v || list_any f ds)
insert_any f v [] = refl
insert_any f v (d ∷ ds) = any_step f (datum_cmp v d) v d ds (insert_in datum_cmp v ds) refl (insert_any f v ds)

pub any-set_from : (f : Datum → Bool) (vs : List Datum) → list_any f (set_from vs) ≡ list_any f vs
any-set_from f [] = refl
any-set_from f (v ∷ vs) = insert_any f v (set_from vs) ∙ ap (λ b. f v || b) (any-set_from f vs)
