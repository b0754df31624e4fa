-- A line that is refused.
use Rattle.std.proofs.Common.{◌≡◌, ◌≢◌, ◌⊎◌, ℕ, List, refl, ap, ◌∙◌}
use mathlib.Core.Logic.{inl, inr}
use Rattle.cedar_value.specs.declared.request.Request.{Request}
use Rattle.cedar_conform_values.specs.declared.conform_fault.ConformFault.{ConformFault}
use Rattle.cedar_conform_values.specs.declared.conform_fault.ConformFault.TheVariants.{OutOfMemory, DuplicateEntity, Cycle, Json, Shape, UnknownType, WrongType, MissingAttribute, ExtraAttribute, BadAncestor, ActionDiffers, NumberRange, NoSuchAction, ActionDoesNotApply}
use Rattle.cedar_conform_values.specs.Numbers.{number_of}
use Rattle.cedar_conform.specs.Requests.{LineDenotes, LineHasFault}
use Rattle.cedar_service_law.specs.Service.{ServiceState, RefusesOpen}

apart : (fault : ConformFault) → (fault ≡ OutOfMemory) ⊎ (fault ≢ OutOfMemory)
apart OutOfMemory = inl refl
apart (DuplicateEntity u) = inr (λ e. cc e)
apart (Cycle u) = inr (λ e. cc e)
apart Json = inr (λ e. cc e)
apart Shape = inr (λ e. cc e)
apart UnknownType = inr (λ e. cc e)
apart WrongType = inr (λ e. cc e)
apart MissingAttribute = inr (λ e. cc e)
apart ExtraAttribute = inr (λ e. cc e)
apart BadAncestor = inr (λ e. cc e)
apart ActionDiffers = inr (λ e. cc e)
apart NumberRange = inr (λ e. cc e)
apart NoSuchAction = inr (λ e. cc e)
apart ActionDoesNotApply = inr (λ e. cc e)

-- the refusal of a line that is read by the current version's schema
pub refuses_line : (s : ServiceState) (line : List ℕ) (fault : ConformFault) (n : ℕ) → n ≡ number_of fault
    → (fault ≢ OutOfMemory → LineHasFault s.current.schema line fault) → ((q : Request) → LineDenotes s.current.schema line q → fault ≡ OutOfMemory) → RefusesOpen s line n
refuses_line s line fault n e told only = by (apart fault)
  where
    by : (fault ≡ OutOfMemory) ⊎ (fault ≢ OutOfMemory) → RefusesOpen s line n
    by (inl memory) = inl (e ∙ ap number_of memory)
    by (inr other) = inr (inr (fault, other, told other, λ q h. other (only q h), e))
