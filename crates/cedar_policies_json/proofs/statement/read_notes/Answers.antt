use Rattle.std.proofs.Common.{sym, ◌∙◌}
use Rattle.cedar_policies_json.specs.Statements.{annotation_read}
use Rattle.cedar_policies_json.proofs.Lists.{none_read, entries_more, entries_stop, entries_end}
use Rattle.cedar_policies_json.proofs.statement.read_notes.Goals as goal

pub loop-key-preserved : goal.loop-key-preserved
loop-key-preserved c =
    entries_more annotation_read _ _ _ (c.in-Some.key.now, c.in-Some.json.now) _ c.in-Some-2.note _
    c.in-Some.ensures.steps (sym c.in-Some-2.is ∙ c.in_ok-note.ensures) c.in_ok-push.ensures.items c.loop-key.invariant

pub returns-in_default : goal.returns-in_default
returns-in_default c =
    entries_stop annotation_read _ _ (c.in-Some.key.now, c.in-Some.json.now) _ _ c.in-Some.ensures.steps (sym c.in_default.is ∙ c.in_ok-note.ensures) c.loop-key.invariant

pub returns : goal.returns
returns c = entries_end annotation_read _ _ _ c.in-None.ensures.steps.0 c.loop-key.invariant
