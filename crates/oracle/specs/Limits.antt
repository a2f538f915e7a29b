-- The limits of a set-up, from both sides.
use Rattle.std.specs.Prelude.{ℕ, ◌≤◌, replicate, None}
use Rattle.std.specs.Str.{bytes_eq}
use Rattle.oracle.specs.Setup.{Code, Setup, vacant}

-- A code of this many bytes, each of them the greatest.
abbrev pub full : ℕ → Code
full size = replicate size 255

-- A set-up of one object, whose slots are all vacant.
abbrev pub single : ℕ → ℕ → ℕ → Setup
single width size height =
    record {
      width = width;
      size = size;
      height = height;
      root = full size;
      object = λ v. bytes_eq v (full size);
      slot = λ _ _. vacant;
      home = λ _. None;
      rank = λ _. 0;
    }

-- The one at every upper limit.
abbrev pub widest : Setup
widest = single 4096 480 1000000

-- A width, a code size and a height that a set-up may have.
pub record Within (width size height : ℕ) : Type 0 where
  pub width_upto : width ≤ 4096
  pub size_from : 1 ≤ size
  pub size_upto : size ≤ 480
  pub height_upto : height ≤ 1000000
