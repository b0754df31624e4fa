-- Histories: the events of a service and its replies, from its first state on.
use Rattle.std.specs.Prelude.{◌≡◌, ℕ, ◌==◌, Bool, true, false, ◌&&◌, if◌then◌else◌, List, [], ◌∷◌, ◌++◌, Option, Some, None, count_by}
use Rattle.std.specs.List.{list_any}
use Rattle.std.specs.Option.{option_or}
use Rattle.cedar_auth_spec.specs.Ready.{ReadyTree}
use Rattle.cedar_service_law.specs.Service.{ServiceState, Event, Reply, publish, open_job, step, take_answer, published, opened, stepped, taken, Happens}

-- An event and its reply (own).
abbrev pub Moment : Type 0
Moment = Event × Reply

-- Events and their replies, one after another (own).
abbrev pub History : Type 0
History = List Moment

-- One event after another, the history leads from the old state to the new (own).
abbrev pub Leads : ServiceState → History → ServiceState → Type 0
Leads old [] new = new ≡ old
Leads old (m ∷ h) new = (mid : ServiceState) × Happens old m.0 m.1 mid × Leads mid h new

-- In the history this event was answered so, after what was before it (own).
abbrev pub Stands : History → History → Event → Reply → Type 0
Stands h before event reply = (after : History) × (h ≡ before ++ (event, reply) ∷ after)

-- ---- versions

-- Whether a moment is an open that was answered with a number (own).
abbrev pub is_open : Moment → Bool
is_open (open_job line, opened j) = true
is_open _ = false

-- Whether a moment is a publication that was answered with a number (own).
abbrev pub is_publication : Moment → Bool
is_publication (publish v, published number) = true
is_publication _ = false

-- How many jobs were opened (own).
abbrev pub opens : History → ℕ
opens h = count_by is_open h

-- How many versions were published (own).
abbrev pub publications : History → ℕ
publications h = count_by is_publication h

-- The version that is current after a moment that this one was current before (own).
abbrev pub version_after : ReadyTree → Moment → ReadyTree
version_after v (publish w, published number) = w
version_after v _ = v

-- The version that is current after a history that begins with this one: that of the last publication, or the first (own).
abbrev pub current_after : ReadyTree → History → ReadyTree
current_after v [] = v
current_after v (m ∷ h) = current_after (version_after v m) h

-- ---- jobs

-- How a job was opened: the version that was current there, and the request line (own).
pub record Opening : Type 0 where
  pub version : ReadyTree
  pub line : List ℕ

-- The opening that gave a number, if this moment did, with the version that is current there (own).
abbrev pub opening_by : ReadyTree → Moment → ℕ → Option Opening
opening_by v (open_job line, opened i) j = if i == j then Some (record { version = v; line = line }) else None
opening_by v _ j = None

-- The opening that gave a number, if one did (own).
abbrev pub opening_of : ReadyTree → History → ℕ → Option Opening
opening_of v [] j = None
opening_of v (m ∷ h) j = option_or (opening_by v m j) (opening_of (version_after v m) h j)

-- Whether a moment is a take that gave the answer of a job (own).
abbrev pub takes : ℕ → Moment → Bool
takes j (take_answer i, taken response) = i == j
takes j _ = false

-- Whether the answer of a job was taken (own).
abbrev pub was_taken : History → ℕ → Bool
was_taken h j = list_any (takes j) h

-- Whether a moment is a step of a job that was not refused (own).
abbrev pub steps_job : ℕ → Moment → Bool
steps_job j (step i, stepped finished) = i == j
steps_job j _ = false

-- How many steps of a job were not refused (own).
abbrev pub steps_of : History → ℕ → ℕ
steps_of h j = count_by (steps_job j) h

-- Whether a moment is a step of a job that reported that it is finished (own).
abbrev pub ends_job : ℕ → Moment → Bool
ends_job j (step i, stepped finished) = finished && i == j
ends_job j _ = false

-- Whether a step of a job reported that it is finished (own).
abbrev pub was_finished : History → ℕ → Bool
was_finished h j = list_any (ends_job j) h
