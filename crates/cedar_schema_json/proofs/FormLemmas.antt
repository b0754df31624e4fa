-- What reading finds at a key is what the definition reads there, and what is inside nests less deep.
use Rattle.std.proofs.Common.{◌≡◌, codes, unwrap_or, ℕ, suc, ◌<◌, ◌≤◌, max, Bool, true, false, List, [], ◌∷◌, ◌++◌, Option, Some, None, option_map, refl, sym, ap, ◌∙◌, subst, arith, rules, Vec, Global, lit<, Ordering, Less, Equal, Greater, nat_cmp, Result}
use Rattle.std.specs.Ordering.{match_ordering}
use Rattle.std.specs.Cmp.Lexicographic.{slice_cmp}
use Rattle.std.proofs.lemmas.List.Elements.{Contains-append_left, Contains-append_right}
use Rattle.serde_json.specs.Data.{Data, null, boolean, number, string, array, object, Members, no_members, member, depth, members_depth}
use Rattle.serde_json.specs.Find.{get, get_member, as_object}
use Rattle.serde_json.specs.View.{view, members_view}
use Rattle.serde_json.proofs.Views.{Entry}
use Rattle.cedar_schema_json.specs.declared.schema_fault.SchemaFault.{SchemaFault}
use Rattle.cedar_schema_json.specs.declared.schema_fault.SchemaFault.TheVariants.{Shape}
use Rattle.cedar_schema_json.specs.declared.form.Form.{Form, the_lemmas}
use Rattle.cedar_schema_json.specs.declared.form.Form.TheVariants.{Record}
use Rattle.cedar_schema_json.specs.declared.form.FormField.{FormField}
use Rattle.cedar_schema_json.specs.declared.form.position.Position.{Position}
use Rattle.cedar_schema_json.specs.declared.form.position.Position.TheVariants.{Inner, Attribute}
use Rattle.cedar_schema_json.specs.Faults.{Told}
use Rattle.cedar_schema_json.specs.Forms.{record_form, no_form_rows, form_row}
use Rattle.cedar_schema_json.specs.FormView.{FieldTree, form_of}
use Rattle.cedar_schema_json.specs.Private.FieldView.{field_of, fields_view}
use Rattle.cedar_schema_json.specs.Reads.{Reads}
use Rattle.cedar_schema_json.specs.Reading.{Scope, Read, RowsRead, bad, type_read, read_at, rows_at, rows_read, all_rows, of_type, text_at, key_faults, unknown_keys, may_have, kind_in, of_kind, with_faults, no_rows_read, required_faults, is_required}

picked : {A B : Type 0} (f : A → B) (o : Ordering) (a b : Option A) (c d : Option B) → c ≡ option_map f a → d ≡ option_map f b → match_ordering o c d c ≡ option_map f (match_ordering o a b a)
picked f Less a b c d p q = p
picked f Equal a b c d p q = q
picked f Greater a b c d p q = p

pub read_at-get : (sc : Scope) (k : List ℕ) (ms : Members) → read_at sc k ms ≡ option_map (type_read sc Inner) (get_member k ms)
unfolding read_at
read_at-get sc k no_members = refl
read_at-get sc k (member l d ms) = picked (type_read sc Inner) (slice_cmp nat_cmp k l) (get_member k ms) (Some d) _ _ (read_at-get sc k ms) refl

pub rows_at-get : (sc : Scope) (k : List ℕ) (ms : Members) → rows_at sc k ms ≡ option_map (rows_read sc) (get_member k ms)
unfolding rows_at
rows_at-get sc k no_members = refl
rows_at-get sc k (member l d ms) = picked (rows_read sc) (slice_cmp nat_cmp k l) (get_member k ms) (Some d) _ _ (rows_at-get sc k ms) refl

pub object_of : (d : Data) (ms : Members) → as_object d ≡ Some ms → d ≡ object ms
object_of null ms e = cc
object_of (boolean b) ms e = cc
object_of (number n) ms e = cc
object_of (string s) ms e = cc
object_of (array ds) ms e = cc
object_of (object ns) ms e = cc

-- an object is read by its parts
pub type_read-object : (sc : Scope) (a : Position) (ms : Members) → type_read sc a (object ms)
    ≡ of_type sc a (object ms) (option_map (type_read sc Inner) (get_member (codes "element") ms)) (option_map (rows_read sc) (get_member (codes "attributes") ms)) (text_at (codes "type") (object ms))
unfolding type_read
type_read-object sc a ms = λ i. of_type sc a (object ms) (read_at-get sc (codes "element") ms i) (rows_at-get sc (codes "attributes") ms i) (text_at (codes "type") (object ms))

-- what the parts of d say, where d is an object
abbrev pub parts : Scope → Position → Data → Option (List ℕ) → Read
parts sc a d o = of_type sc a d (option_map (type_read sc Inner) (get (codes "element") d)) (option_map (rows_read sc) (get (codes "attributes") d)) o

pub type_read-parts : (sc : Scope) (a : Position) (d : Data) (ms : Members) (o : Option (List ℕ)) → Some ms ≡ as_object d → o ≡ text_at (codes "type") d → type_read sc a d ≡ parts sc a d o
type_read-parts sc a d ms o e h =
    let here : d ≡ object ms = object_of d ms (sym e) in
    let all : type_read sc a d ≡ parts sc a d (text_at (codes "type") d) =
    subst (λ x. type_read sc a x ≡ parts sc a x (text_at (codes "type") x)) (sym here) (type_read-object sc a ms) in
    all ∙ ap (parts sc a d) (sym h)

pub unknown_keys-object : (may : List ℕ → Data → Bool) (d : Data) (ms : Members) → Some ms ≡ as_object d → unknown_keys may d ≡ key_faults may ms
unknown_keys-object may d ms e = ap (λ o. unwrap_or (option_map (key_faults may) o) []) (sym e)

pub reads_after : (kf : List SchemaFault) (r : Read) (result : Result Form SchemaFault) → kf ≡ [] → Reads result r → Reads result (with_faults kf r)
reads_after kf r result e h = subst (λ fs. Reads result (with_faults fs r)) (sym e) h

pub told_first : (kf fs : List SchemaFault) (e : SchemaFault) → Told kf e → Told (kf ++ fs) e
told_first kf fs e h n = Contains-append_left kf fs e (h n)

pub told_then : (kf fs : List SchemaFault) (e : SchemaFault) → Told fs e → Told (kf ++ fs) e
told_then kf fs e h n = Contains-append_right kf fs e (h n)

pub type_read-other : (sc : Scope) (a : Position) (d : Data) → as_object d ≡ None → type_read sc a d ≡ bad Shape
unfolding type_read
type_read-other sc a null e = refl
type_read-other sc a (boolean b) e = refl
type_read-other sc a (number n) e = refl
type_read-other sc a (string s) e = refl
type_read-other sc a (array ds) e = refl
type_read-other sc a (object ms) e = cc

pub rows_read-other : (sc : Scope) (d : Data) → as_object d ≡ None → rows_read sc d ≡ record { rows = no_form_rows; faults = Shape ∷ [] }
unfolding rows_read
rows_read-other sc null e = refl
rows_read-other sc (boolean b) e = refl
rows_read-other sc (number n) e = refl
rows_read-other sc (string s) e = refl
rows_read-other sc (array ds) e = refl
rows_read-other sc (object ms) e = cc

pub rows_read-object : (sc : Scope) (ms : Members) → rows_read sc (object ms) ≡ all_rows sc ms
unfolding rows_read
rows_read-object sc ms = refl

-- what is at a key nests less deep
member_less : (o : Ordering) (e d : Data) (rest : Option Data) (n : ℕ) → (rest ≡ Some d → depth d ≤ n) → match_ordering o rest (Some e) rest ≡ Some d → depth d ≤ max (depth e) n
member_less Less e d rest n h q = let p = h q in omega arith
member_less Equal e d rest n h q = let same : e ≡ d = cc in subst (λ x. depth d ≤ max (depth x) n) (sym same) (omega arith)
member_less Greater e d rest n h q = let p = h q in omega arith

pub depth_at : (k : List ℕ) (ms : Members) (d : Data) → get_member k ms ≡ Some d → depth d ≤ members_depth ms
depth_at k no_members d e = cc
depth_at k (member l x ms) d e = member_less (slice_cmp nat_cmp k l) x d (get_member k ms) (members_depth ms) (depth_at k ms d) e

pub depth_get : (k : List ℕ) (d e : Data) → get k d ≡ Some e → depth e < depth d
depth_get k null e q = cc
depth_get k (boolean b) e q = cc
depth_get k (number n) e q = cc
depth_get k (string s) e q = cc
depth_get k (array ds) e q = cc
depth_get k (object ms) e q = let p = depth_at k ms e q in omega arith

pub depth_object : (d : Data) (ms : Members) → as_object d ≡ Some ms → depth d ≡ suc (members_depth ms)
depth_object d ms e = ap depth (object_of d ms e)

-- an entry of a list nests no deeper
pub depth_among : (done : List Entry) (e : Entry) (more : List Entry) → depth (view e.1) ≤ members_depth (members_view (done ++ e ∷ more))
depth_among [] e more = omega arith
depth_among (x ∷ done) e more = let p = depth_among done e more in omega arith

-- fields that were read, before rows that are left to read
abbrev pub after : List FormField → RowsRead → RowsRead
after [] r = r
after (f ∷ fs) r = record { rows = form_row (field_of f).name (field_of f).required (field_of f).form (after fs r).rows; faults = (after fs r).faults }

pub after-faults : (fs : List FormField) (r : RowsRead) → (after fs r).faults ≡ r.faults
after-faults [] r = refl
after-faults (f ∷ fs) r = after-faults fs r

pub after-end : (fs : List FormField) → (after fs no_rows_read).rows ≡ fields_view fs
after-end [] = refl
after-end (f ∷ fs) = ap (form_row (field_of f).name (field_of f).required (field_of f).form) (after-end fs)

pub after-more : (fs : List FormField) (f : FormField) (r : RowsRead) → after (fs ++ f ∷ []) r ≡ after fs (after (f ∷ []) r)
after-more [] f r = refl
after-more (g ∷ fs) f r = ap (λ (x : RowsRead). record { rows = form_row (field_of g).name (field_of g).required (field_of g).form x.rows; faults = x.faults }) (after-more fs f r)

one_more : (sc : Scope) (k : List ℕ) (d : Data) (ms : Members) (f : FormField) → (required_faults (get (codes "required") d) ++ (type_read sc Attribute d).faults ≡ [])
    → field_of f ≡ record { name = k; required = is_required (get (codes "required") d); form = (type_read sc Attribute d).form }
    → after (f ∷ []) (all_rows sc ms) ≡ all_rows sc (member k d ms)
unfolding all_rows
one_more sc k d ms f none is =
    let rest = all_rows sc ms in
    ap (λ (x : FieldTree). record { rows = form_row x.name x.required x.form rest.rows; faults = rest.faults }) is
    ∙ ap (λ (fs : List SchemaFault). record { rows = form_row k (is_required (get (codes "required") d)) (type_read sc Attribute d).form rest.rows; faults = fs ++ rest.faults }) (sym none)

pub field_read : (sc : Scope) (k : List ℕ) (d : Data) (ms : Members) (fs : List FormField) (f : FormField) (W : RowsRead) → (required_faults (get (codes "required") d) ++ (type_read sc Attribute d).faults ≡ [])
    → field_of f ≡ record { name = k; required = is_required (get (codes "required") d); form = (type_read sc Attribute d).form }
    → after fs (all_rows sc (member k d ms)) ≡ W → after (fs ++ f ∷ []) (all_rows sc ms) ≡ W
field_read sc k d ms fs f W none is all = after-more fs f (all_rows sc ms) ∙ ap (after fs) (one_more sc k d ms f none is) ∙ all

pub field_refused : (sc : Scope) (k : List ℕ) (d : Data) (ms : Members) (fs : List FormField) (W : RowsRead) (e : SchemaFault) → after fs (all_rows sc (member k d ms)) ≡ W
    → Told (required_faults (get (codes "required") d) ++ (type_read sc Attribute d).faults) e → Told W.faults e
unfolding all_rows
field_refused sc k d ms fs W e all h =
    let same : (all_rows sc (member k d ms)).faults ≡ W.faults = sym (after-faults fs (all_rows sc (member k d ms))) ∙ ap (λ (r : RowsRead). r.faults) all in
    subst (λ xs. Told xs e) same (told_first _ (all_rows sc ms).faults e h)

pub fields_end : (sc : Scope) (fs : List FormField) (W : RowsRead) → after fs (all_rows sc no_members) ≡ W → (W.faults ≡ []) × (fields_view fs ≡ W.rows)
unfolding all_rows
fields_end sc fs W all =
    (sym (ap (λ (r : RowsRead). r.faults) all) ∙ after-faults fs no_rows_read, sym (after-end fs) ∙ ap (λ (r : RowsRead). r.rows) all)

-- a type's own faults, beside those of its parts
pub type_refused : (sc : Scope) (a : Position) (d : Data) (ms : Members) (s : List ℕ) (e : SchemaFault) → Some ms ≡ as_object d → Some s ≡ text_at (codes "type") d
    → Told (key_faults (may_have sc.language (kind_in sc.language s) a) ms) e → Told (type_read sc a d).faults e
type_refused sc a d ms s e is text h =
    let k : Told (unknown_keys (may_have sc.language (kind_in sc.language s) a) d) e = subst (λ fs. Told fs e) (sym (unknown_keys-object (may_have sc.language (kind_in sc.language s) a) d ms is)) h in
    subst (λ (r : Read). Told r.faults e) (sym (type_read-parts sc a d ms (Some s) is text)) (told_first _ _ e k)

pub type_reads : (sc : Scope) (a : Position) (d : Data) (ms : Members) (s : List ℕ) (result : Result Form SchemaFault) → Some ms ≡ as_object d → Some s ≡ text_at (codes "type") d
    → key_faults (may_have sc.language (kind_in sc.language s) a) ms ≡ []
    → Reads result (of_kind sc d s (kind_in sc.language s) (option_map (type_read sc Inner) (get (codes "element") d)) (option_map (rows_read sc) (get (codes "attributes") d)))
    → Reads result (type_read sc a d)
type_reads sc a d ms s result is text none h =
    subst (λ (r : Read). Reads result r) (sym (type_read-parts sc a d ms (Some s) is text))
    (reads_after (unknown_keys (may_have sc.language (kind_in sc.language s) a) d) _ result (unknown_keys-object (may_have sc.language (kind_in sc.language s) a) d ms is ∙ none) h)

shape_there : Told (Shape ∷ []) Shape
shape_there n = (0, lit< tt, refl)

pub type_no_object : (sc : Scope) (a : Position) (d : Data) → None ≡ as_object d → Told (type_read sc a d).faults Shape
type_no_object sc a d e = subst (λ (r : Read). Told r.faults Shape) (sym (type_read-other sc a d (sym e))) shape_there

pub type_no_text : (sc : Scope) (a : Position) (d : Data) (ms : Members) → Some ms ≡ as_object d → None ≡ text_at (codes "type") d → Told (type_read sc a d).faults Shape
type_no_text sc a d ms is text = subst (λ (r : Read). Told r.faults Shape) (sym (type_read-parts sc a d ms None is text)) shape_there

pub rows_no_object : (sc : Scope) (d : Data) → None ≡ as_object d → Told (rows_read sc d).faults Shape
rows_no_object sc d e = subst (λ (r : RowsRead). Told r.faults Shape) (sym (rows_read-other sc d (sym e))) shape_there

pub rows_are : (sc : Scope) (d : Data) (ms : Members) → Some ms ≡ as_object d → rows_read sc d ≡ all_rows sc ms
rows_are sc d ms e = ap (rows_read sc) (object_of d ms (sym e)) ∙ rows_read-object sc ms

pub form_of-Record : (v : Vec FormField Global) → form_of (Record v) ≡ record_form (fields_view v.items)
form_of-Record v = search (rules, the_lemmas)

pub told_here : (e : SchemaFault) → Told (e ∷ []) e
told_here e n = (0, lit< tt, refl)
