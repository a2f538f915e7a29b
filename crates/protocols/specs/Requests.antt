-- What a line of a protocol asks for, and how it is written.
use Rattle.std.specs.Prelude.{ℕ, ◌<◌, ◌≤◌, List, [], ◌∷◌, ◌++◌, replicate, codes, decimal}
use Rattle.std.specs.List.{flat_map, AllByRecursion}
use Rattle.engine.specs.Runs.{Order}
use Rattle.engine.specs.declared.act.Act.TheVariants as act
use Rattle.lines.specs.Texts.{hexed}

pub data Request : Type 0 where
  next : Request
  restart : Request
  tally : Request
  read : ℕ → Request
  save : ℕ → ℕ → Request
  resume : ℕ → List ℕ → Request

-- the largest buffer, and the largest job number
abbrev pub most_size : ℕ
most_size = 65536

abbrev pub most_job : ℕ
most_job = 4294967295

abbrev pub Good : Request → Type 0
Good next = Unit {0}
Good restart = Unit {0}
Good tally = Unit {0}
Good (read size) = size ≤ most_size
Good (save job size) = (job ≤ most_job) × (size ≤ most_size)
Good (resume job bytes) = (job ≤ most_job) × AllByRecursion (λ b. b < 256) bytes

-- bytes on a line: their digits, or a hyphen where there are none
abbrev pub block_text : List ℕ → List ℕ
block_text [] = codes "-"
block_text (b ∷ bs) = hexed (b ∷ bs)

-- the line without its byte 10
abbrev pub text_of : Request → List ℕ
text_of next = codes "next"
text_of restart = codes "restart"
text_of tally = codes "tally"
text_of (read size) = codes "read " ++ decimal size
text_of (save job size) = codes "save " ++ (decimal job ++ (32 ∷ decimal size))
text_of (resume job bytes) = codes "resume " ++ (decimal job ++ (32 ∷ block_text bytes))

-- a whole protocol: each line with its byte 10
unfoldable pub protocol_of : List Request → List ℕ
protocol_of qs = flat_map (λ q. text_of q ++ (10 ∷ [])) qs

-- the act, and what its buffer holds before it
abbrev pub order_for : Request → Order
order_for next = record { act = act.Next; bytes = [] }
order_for restart = record { act = act.Restart; bytes = [] }
order_for tally = record { act = act.Tally; bytes = [] }
order_for (read size) = record { act = act.Read; bytes = replicate size 238 }
order_for (save job size) = record { act = act.Save job; bytes = replicate size 238 }
order_for (resume job bytes) = record { act = act.Resume job; bytes = bytes }
