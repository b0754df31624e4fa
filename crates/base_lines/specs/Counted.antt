-- What contracts see of sources and sinks.
use Rattle.std.specs.Prelude.{ℕ, List, Option, take}
use Rattle.std.specs.Option.{option_map}

-- A source or a sink over memory: the bytes that it has left, or that it took, and how often a call failed (own).
pub record Counted : Type 0 where
  pub bytes : List ℕ
  pub failures : ℕ

-- A source over a reader: the reader, how many bytes it can still give at most, and how often a read failed (own).
pub record Given (R : Type 0) : Type 0 where
  pub reader : R
  pub can_give : ℕ
  pub failures : ℕ

-- A sink over a writer, and how often a write failed (own).
pub record WrittenTo (W : Type 0) : Type 0 where
  pub writer : W
  pub failures : ℕ

-- The first so many of some bytes, where they are known (own).
abbrev pub first_of : ℕ → Option (List ℕ) → Option (List ℕ)
first_of n known = option_map (λ bytes. take n bytes) known
