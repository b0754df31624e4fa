-- A value that is put at each of some names, name by name.
use Rattle.std.proofs.Common.{◌≡◌, ℕ, ◌+◌, ◌<◌, ◌≤◌, List, length, get_or, drop, Result, Ok, sym, ap, ◌∙◌}
use Rattle.std.specs.Borrow.{Bor}
use Rattle.std.proofs.lemmas.List.{at_drop_more, at_drop_all}
use Rattle.serde_json.specs.Data.{Data, Members}
use Rattle.cedar_schema_text.specs.declared.fault.SchemaTextFault.{SchemaTextFault}
use Rattle.cedar_schema_text.specs.declared.fault.SchemaTextFault.TheVariants as f
use Rattle.cedar_schema_text.specs.declared.token.Token.{Token}
use Rattle.cedar_schema_text.specs.Marks.{mark, lent_marks}
use Rattle.cedar_schema_text.specs.Objects.{put_once, put_each, and_then}
use Rattle.cedar_schema_text.specs.Private.Contract.{Refuses}

abbrev Outcome : Type 0
Outcome = Result Members SchemaTextFault

abbrev Names : Type 0
Names = List (Bor Token)

each_turn : (names : Names) (i : ℕ) (x : Bor Token) (d : Data) (ms : Members) → i < length names → x ≡ get_or names i x
    → put_each (lent_marks (drop i names)) d ms ≡ and_then (put_once (mark x.now).text (mark x.now).start d ms) (λ more. put_each (lent_marks (drop (i + 1) names)) d more)
unfolding put_each
each_turn names i x d ms lt e =
    at_drop_more (λ xs. put_each (lent_marks xs) d ms) names i x lt
    ∙ ap (λ (y : Bor Token). and_then (put_once (mark y.now).text (mark y.now).start d ms) (λ more. put_each (lent_marks (drop (i + 1) names)) d more)) (sym e)

refused_first : (total first : Outcome) (go : Members → Outcome) (fault : SchemaTextFault) → total ≡ and_then first go → Refuses first fault → Refuses total fault
refused_first total first go f.OutOfMemory e r = tt
refused_first total first go (f.Syntax at) e r = e ∙ ap (λ o. and_then o go) r
refused_first total first go (f.Twice at) e r = e ∙ ap (λ o. and_then o go) r

pub each_refused : (names : Names) (i : ℕ) (x : Bor Token) (d : Data) (ms : Members) (total : Outcome) (fault : SchemaTextFault) → i < length names → x ≡ get_or names i x
    → total ≡ put_each (lent_marks (drop i names)) d ms → Refuses (put_once (mark x.now).text (mark x.now).start d ms) fault → Refuses total fault
each_refused names i x d ms total fault lt e h r = refused_first total _ _ fault (h ∙ each_turn names i x d ms lt e) r

pub each_goes_on : (names : Names) (i : ℕ) (x : Bor Token) (d : Data) (ms more : Members) (total : Outcome) → i < length names → x ≡ get_or names i x
    → total ≡ put_each (lent_marks (drop i names)) d ms → put_once (mark x.now).text (mark x.now).start d ms ≡ Ok more → total ≡ put_each (lent_marks (drop (i + 1) names)) d more
each_goes_on names i x d ms more total lt e h r = h ∙ each_turn names i x d ms lt e ∙ ap (λ o. and_then o (λ ns. put_each (lent_marks (drop (i + 1) names)) d ns)) r

pub each_done : (names : Names) (i : ℕ) (d : Data) (ms : Members) (total : Outcome) → length names ≤ i → total ≡ put_each (lent_marks (drop i names)) d ms → total ≡ Ok ms
unfolding put_each
each_done names i d ms total le h = h ∙ at_drop_all (λ xs. put_each (lent_marks xs) d ms) names i le
