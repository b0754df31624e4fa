use Rattle.std.proofs.Common.{◌≡◌, ◌∷◌, ◌++◌, List, sym, ap, subst, ◌∙◌, append_assoc, append-nil}
use Rattle.serde_json.specs.View.{members_view}
use Rattle.serde_json.proofs.Views.{Entry}
use Rattle.cedar_schema_json.specs.Entries.{EntryTree, entries}
use Rattle.cedar_schema_json.specs.EntryView.{entries_view}
use Rattle.cedar_schema_json.proofs.json.entry.entries_of.Goals as goal

pub loop-namespace-preserved : goal.loop-namespace-preserved
unfolding entries
loop-namespace-preserved c =
    let e : Entry = (c.in-Some.namespace.now, c.in-Some.space.now) in
    let left = c.next.new.self in
    let key = c.args.section.now in
    let all = entries key (members_view c.args.root.now.entries) in
    let done = entries_view c.loop-namespace.found.items in
    let here : done ++ entries key (members_view (e ∷ left)) ≡ all = subst (λ es. done ++ entries key (members_view es) ≡ all) c.in-Some.ensures.steps c.loop-namespace.invariant in
    ap (λ (v : List EntryTree). v ++ entries key (members_view left)) c.in_ok-push_section.ensures ∙ append_assoc done _ (entries key (members_view left)) ∙ here

pub returns : goal.returns
unfolding entries
returns c =
    let key = c.args.section.now in
    let done = entries_view c.loop-namespace.found.items in
    sym (append-nil done) ∙ ap (λ es. done ++ entries key (members_view es)) (sym c.in-None.ensures.steps.0) ∙ c.loop-namespace.invariant
