-- What a call leaves in a buffer.
use Rattle.std.specs.Prelude.{◌≡◌, ◌≤◌, ◌<◌, ℕ, List, drop, length, take}

-- The text was given to the buffer: where it fits, it is at the front and the rest of the buffer is as before. Otherwise the whole
-- buffer is as before. Either way the number is the text's length (own).
pub record IsGiven (text before after : List ℕ) (written : ℕ) : Type 0 where
  pub is_length : written ≡ length text
  pub front : length text ≤ length before → take written after ≡ text
  pub rest : length text ≤ length before → drop written after ≡ drop written before
  pub untouched : length before < length text → after ≡ before

-- The text is too long for the buffer, and the number is its length (own).
pub record IsTooLong (text before : List ℕ) (written : ℕ) : Type 0 where
  pub is_length : written ≡ length text
  pub longer : length before < length text
