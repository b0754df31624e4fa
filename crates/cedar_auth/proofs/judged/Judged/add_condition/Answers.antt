use Rattle.std.proofs.Common.{Err, ap, ◌∙◌}
use Rattle.cedar_code.specs.Code.{code_of}
use Rattle.cedar_auth.proofs.CompiledBeside.{compiled_more, long_next}
use Rattle.cedar_auth.proofs.judged.Judged.add_condition.Goals as goal

pub returns-in_ok-push-in-Ok : goal.returns-in_ok-push-in-Ok
returns-in_ok-push-in-Ok c = λ ps h. record {
  faults = c.in_ok-check.ensures.faults ps h.faults;
  warnings = c.in_ok-check.ensures.warnings ps h.warnings;
  compiled =
      λ short. compiled_more ps _ _ c.args.policy.now c.in-Ok.compiled (h.compiled short)
      (record { code = c.in-Ok.ensures.code ∙ ap code_of c.requires; conjunction = c.in-Ok.ensures.conjunction c.args.policy.now c.requires })
      c.in_ok-push-in-Ok.ensures.items;
  long = λ e. let f = c.if-self.false in cc (e, f);
}

pub returns-in-Err-TooLong : goal.returns-in-Err-TooLong
returns-in-Err-TooLong c = λ ps h. record {
  faults = c.in_ok-check.ensures.faults ps h.faults;
  warnings = c.in_ok-check.ensures.warnings ps h.warnings;
  compiled = λ e. cc e;
  long = λ e. long_next ps c.args.policy.now (rw c.requires at (c.in-Err-TooLong.ensures.too_long (ap Err c.in-Err-TooLong.field-0-is)));
}
