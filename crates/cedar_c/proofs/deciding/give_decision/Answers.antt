use Rattle.std.proofs.Common.{ℕ, refl, sym, ap, ◌∙◌, subst, inl, inr}
use Rattle.serde_json.specs.Written.{compact_text}
use Rattle.cedar_auth.specs.AnswerParts.{response_text}
use Rattle.cedar_auth_spec.specs.AnswerJson.{refused_data}
use Rattle.cedar_conform_values.specs.Numbers.{number_of}
use Rattle.cedar_c.specs.Deciding.{ArePartsRefused, by_refusal, by_response}
use Rattle.cedar_c.specs.Pieces.{parts_in}
use Rattle.cedar_c.proofs.deciding.give_decision.Goals as goal

pub returns-in-Ok-clause-ok : goal.returns-in-Ok-clause-ok
returns-in-Ok-clause-ok c = λ done. (
  response_text c.args.ready.now c.in-Ok.found.request,
  record { request = c.in-Ok.found.request; denoted = c.in-Ok.ensures.denotes; decided = c.give_response-status.ensures.ok done; is_text = refl },
  c.give_response-status.ensures.told done,
)

pub returns-in-Ok-clause-room : goal.returns-in-Ok-clause-room
returns-in-Ok-clause-room c = λ full. (
  response_text c.args.ready.now c.in-Ok.found.request,
  by_response (record {
    request = c.in-Ok.found.request;
    denoted = c.in-Ok.ensures.denotes;
    decided = refl;
    is_text = refl;
  }),
  c.give_response-status.ensures.room full,
)

pub returns-in-Err-clause-refused : goal.returns-in-Err-clause-refused
returns-in-Err-clause-refused c = λ done.
    let number = c.give_fault.ensures.refused done in
    let refused = c.in-Err.ensures.refused (c.give_fault.ensures.fault (inr done)) in (
      subst (λ (n : ℕ). ArePartsRefused c.args.ready.now (parts_in c.args.bytes.now) n) (sym number) refused,
      λ some. c.give_fault.ensures.told done some ∙ ap (λ (n : ℕ). compact_text (refused_data n)) (sym number),
    )

pub returns-in-Err-clause-room : goal.returns-in-Err-clause-room
returns-in-Err-clause-room c = λ full. (
  compact_text (refused_data (number_of c.in-Err.fault)),
  by_refusal (c.in-Err.ensures.refused (c.give_fault.ensures.fault (inl full))),
  c.give_fault.ensures.room full,
)
