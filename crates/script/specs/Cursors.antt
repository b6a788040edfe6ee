-- What the code reads with: a text and the place in it that is read next.
use Rattle.std.specs.Prelude.{◌≡◌, ℕ, Option, option_map}
use Rattle.script.specs.declared.Section.{Section}
use Rattle.script.specs.declared.reading.Cursor.{Cursor}
use Rattle.script.specs.Numbers.{Found, found}

-- what was read, with the place where the cursor stands then, is what is found
pub record Reads (old new : Cursor) (r : Option ℕ) (x : Option Found) : Type 0 where
  pub text : new.text.now ≡ old.text.now
  pub read : option_map (λ (v : ℕ). found v new.at) r ≡ x

-- the cursor stands behind a section
pub record StandsBehind (old new : Cursor) (k : Section) : Type 0 where
  pub text : new.text.now ≡ old.text.now
  pub place : new.at ≡ k.end
