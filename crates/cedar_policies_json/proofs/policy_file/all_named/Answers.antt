use Rattle.std.proofs.Common.{sym, ◌∙◌}
use Rattle.cedar_policies_json.specs.PolicyFiles.{named_read}
use Rattle.cedar_policies_json.proofs.Lists.{none_read, entries_more, entries_stop, entries_end}
use Rattle.cedar_policies_json.proofs.policy_file.all_named.Goals as goal

pub loop-id-preserved : goal.loop-id-preserved
loop-id-preserved c =
    entries_more (named_read c.args.is_template) _ _ _ (c.in-Some.id.now, c.in-Some.json.now) _ c.in-Some-2.statement _
    c.in-Some.ensures.steps (sym c.in-Some-2.is ∙ c.in_ok-statement.ensures) c.in_ok-push.ensures.items c.loop-id.invariant

pub returns-in_default : goal.returns-in_default
returns-in_default c =
    entries_stop (named_read c.args.is_template) _ _ (c.in-Some.id.now, c.in-Some.json.now) _ _ c.in-Some.ensures.steps (sym c.in_default.is ∙ c.in_ok-statement.ensures) c.loop-id.invariant

pub returns : goal.returns
returns c = entries_end (named_read c.args.is_template) _ _ _ c.in-None.ensures.steps.0 c.loop-id.invariant
