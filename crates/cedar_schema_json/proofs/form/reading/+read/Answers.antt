use Rattle.std.proofs.Common.{◌≡◌, ◌≤◌, rules, ◌++◌, ◌∷◌, [], List, string_bytes, arith, codes, sym, ap, ◌∙◌, subst, append_assoc, option_map}
use Rattle.std.proofs.lemmas.Result.{err_from_is_err_and}
use Rattle.serde_json.specs.Data.{depth, members_depth}
use Rattle.serde_json.specs.View.{view, members_view}
use Rattle.serde_json.proofs.Views.{Entry}
use Rattle.cedar_schema_json.specs.declared.form.FormField.{FormField}
use Rattle.cedar_schema_json.specs.Reading.{all_rows, key_faults, may_have, of_kind, type_read, rows_read}
use Rattle.cedar_schema_json.specs.declared.form.kind.Kind.{Kind}
use Rattle.cedar_schema_json.specs.declared.form.position.Position.TheVariants.{Inner}
use Rattle.serde_json.specs.Find.{get}
use Rattle.cedar_schema_json.specs.Reads.{Reads, scope_of}
use Rattle.cedar_schema_json.specs.Faults.{Told}
use Rattle.cedar_schema_json.proofs.FormLemmas.{after, depth_get, depth_among, type_refused, type_reads, type_no_object, type_no_text, rows_no_object, rows_are, field_read, field_refused, fields_end, form_of-Record}
use Rattle.cedar_schema_json.proofs.form.reading.+read.Goals as goal

pub read_set-read_type-requires : goal.read_set-read_type-requires
read_set-read_type-requires t c =
    let p = depth_get (codes "element") (view c.args.json.now) (view c.in-Some.element.now) (sym c.in-Some.ensures) in let q = c.decreases in omega arith

pub read_record-read_attributes-requires : goal.read_record-read_attributes-requires
read_record-read_attributes-requires t c =
    let p = depth_get (codes "attributes") (view c.args.json.now) (view c.in-Some.attributes.now) (sym c.in-Some.ensures) in search (rules, p)

pub read_type-returns-in-None : goal.read_type-returns-in-None
read_type-returns-in-None t c = type_no_object (scope_of c.args.scope.now) c.args.position (view c.args.json.now) c.in-None.ensures

pub read_type-returns-in-None-text_at : goal.read_type-returns-in-None-text_at
read_type-returns-in-None-text_at t c =
    type_no_text (scope_of c.args.scope.now) c.args.position (view c.args.json.now) (members_view c.in-Some.members.now.entries) c.in-Some.ensures c.in-None-text_at.ensures

pub read_type-returns-in_ok-check_keys-in-Some-text_at : goal.read_type-returns-in_ok-check_keys-in-Some-text_at
read_type-returns-in_ok-check_keys-in-Some-text_at t c =
    let sc = scope_of c.args.scope.now in
    let d = view c.args.json.now in
    let s = c.in-Some-text_at.text.now in
    let ms = members_view c.in-Some.members.now.entries in
    type_reads sc c.args.position d ms s c.read_kind.result c.in-Some.ensures c.in-Some-text_at.ensures
    (subst (λ (k : Kind). key_faults (may_have c.args.scope.now.language k c.args.position) ms ≡ []) c.kind_in-kind.ensures c.in_ok-check_keys-in-Some-text_at.ensures)
    (subst (λ (k : Kind). Reads c.read_kind.result (of_kind sc d s k (option_map (type_read sc Inner) (get (codes "element") d)) (option_map (rows_read sc) (get (codes "attributes") d)))) c.kind_in-kind.ensures c.read_kind.ensures)

pub read_type-returns-in_err-check_keys-in-Some-text_at : goal.read_type-returns-in_err-check_keys-in-Some-text_at
read_type-returns-in_err-check_keys-in-Some-text_at t c =
    let p = err_from_is_err_and c.from_residual.result c.from_residual.ensures.1 in
    rw (p.1, p.2) (type_refused (scope_of c.args.scope.now) c.args.position (view c.args.json.now) (members_view c.in-Some.members.now.entries) c.in-Some-text_at.text.now _
    c.in-Some.ensures c.in-Some-text_at.ensures
    (subst (λ (k : Kind). Told (key_faults (may_have c.args.scope.now.language k c.args.position) (members_view c.in-Some.members.now.entries)) c.in_err-check_keys-in-Some-text_at.field-0.0) c.kind_in-kind.ensures c.in_err-check_keys-in-Some-text_at.ensures))

pub read_fields-read_field-requires : goal.read_fields-read_field-requires
read_fields-read_field-requires t c =
    let l = c.loop-key in
    let done = l.invariant.seen.0 in
    let e : Entry = (c.in-Some.key.now, c.in-Some.attribute.now) in
    let left = c.next.new.self in
    let all : c.args.members.now.entries ≡ done ++ e ∷ left = l.invariant.seen.1 ∙ ap (λ es. done ++ es) c.in-Some.ensures.steps in
    let p = depth_among done e left in
    let q = subst (λ es. depth (view e.1) ≤ members_depth (members_view es)) (sym all) p in omega (arith, q)

pub read_fields-loop-key-preserved : goal.read_fields-loop-key-preserved
read_fields-loop-key-preserved t c =
    let l = c.loop-key in
    let done = l.invariant.seen.0 in
    let e : Entry = (c.in-Some.key.now, c.in-Some.attribute.now) in
    let left = c.next.new.self in
    let sc = scope_of c.args.scope.now in
    let W = all_rows sc (members_view c.args.members.now.entries) in
    let here : after l.fields.items (all_rows sc (members_view (e ∷ left))) ≡ W =
    subst (λ es. after l.fields.items (all_rows sc (members_view es)) ≡ W) c.in-Some.ensures.steps l.invariant.rows in
    let read = field_read sc (string_bytes c.in-Some.key.now) (view c.in-Some.attribute.now) (members_view left) l.fields.items c.in_ok-field.field W c.in_ok-field.ensures.0 c.in_ok-field.ensures.1 here in
    record {
      rows = subst (λ (fs : List FormField). after fs (all_rows sc (members_view left)) ≡ W) (sym c.in_ok-push.ensures.items) read;
      seen = (done ++ e ∷ [], (l.invariant.seen.1 ∙ ap (λ es. done ++ es) c.in-Some.ensures.steps) ∙ sym (append_assoc done (e ∷ []) left));
    }

pub read_fields-returns : goal.read_fields-returns
read_fields-returns t c =
    let l = c.loop-key in
    let sc = scope_of c.args.scope.now in
    let W = all_rows sc (members_view c.args.members.now.entries) in
    fields_end sc l.fields.items W (subst (λ es. after l.fields.items (all_rows sc (members_view es)) ≡ W) c.in-None.ensures.steps.0 l.invariant.rows)

pub read_fields-returns-in_err-field : goal.read_fields-returns-in_err-field
read_fields-returns-in_err-field t c =
    let l = c.loop-key in
    let e : Entry = (c.in-Some.key.now, c.in-Some.attribute.now) in
    let left = c.next.new.self in
    let sc = scope_of c.args.scope.now in
    let W = all_rows sc (members_view c.args.members.now.entries) in
    let here : after l.fields.items (all_rows sc (members_view (e ∷ left))) ≡ W =
    subst (λ es. after l.fields.items (all_rows sc (members_view es)) ≡ W) c.in-Some.ensures.steps l.invariant.rows in
    let p = err_from_is_err_and c.from_residual.result c.from_residual.ensures.1 in
    rw (p.1, p.2) (field_refused sc (string_bytes c.in-Some.key.now) (view c.in-Some.attribute.now) (members_view left) l.fields.items W _ here c.in_err-field.ensures)

pub read_attributes-returns-in-None : goal.read_attributes-returns-in-None
read_attributes-returns-in-None t c = rows_no_object (scope_of c.args.scope.now) (view c.args.json.now) c.in-None.ensures

pub read_attributes-returns-in_ok-read_fields-in-Some : goal.read_attributes-returns-in_ok-read_fields-in-Some
read_attributes-returns-in_ok-read_fields-in-Some t c = rw (rows_are (scope_of c.args.scope.now) (view c.args.json.now) _ c.in-Some.ensures, ← c.in_ok-read_fields-in-Some.ensures.1) (c.in_ok-read_fields-in-Some.ensures.0, form_of-Record c.in_ok-read_fields-in-Some.field-0)

pub read_attributes-returns-in_err-read_fields-in-Some : goal.read_attributes-returns-in_err-read_fields-in-Some
read_attributes-returns-in_err-read_fields-in-Some t c =
    let p = err_from_is_err_and c.from_residual.result c.from_residual.ensures.1 in
    rw (p.1, p.2, rows_are (scope_of c.args.scope.now) (view c.args.json.now) _ c.in-Some.ensures) c.in_err-read_fields-in-Some.ensures
