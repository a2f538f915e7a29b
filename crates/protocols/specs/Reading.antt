-- How a line of a protocol is read, and a whole protocol.
use Rattle.std.specs.Prelude.{ℕ, ◌+◌, Bool, true, false, cond, not, List, [], ◌∷◌, map, length, is_some, Some, None, Ok, Err, codes, Option, Result, ◌==◌, nat_lt}
use Rattle.std.specs.Option.{option_map}
use Rattle.std.specs.List.{prefix_len}
use Rattle.std.specs.Str.{bytes_eq}
use Rattle.engine.specs.Runs.{Order}
use Rattle.sheets.specs.Cut.{cut}
use Rattle.protocols.specs.Requests.{Request, next, restart, tally, read, save, resume, most_size, most_job, order_for}
use Rattle.protocols.specs.Values.{number_at, bytes_at}

abbrev pub behind : ℕ → Option (List ℕ × List ℕ) → Option (List ℕ × List ℕ)
behind b None = None
behind b (Some p) = Some (b ∷ p.0, p.1)

-- what stands before the first byte d, and what stands behind it
unfoldable pub parted : ℕ → List ℕ → Option (List ℕ × List ℕ)
parted d [] = None
parted d (b ∷ bs) = elim (b == d) [ true ↦ Some ([], bs) | false ↦ behind b (parted d bs) ]

-- where the first byte d stands
abbrev pub place_of : ℕ → List ℕ → Option ℕ
place_of d bs =
    let n = prefix_len (λ b. not (b == d)) bs in
    cond (nat_lt n (length bs)) (Some n) None

-- a line of one word
abbrev pub alone : List ℕ → Option Request
alone l =
    cond (bytes_eq l (codes "next")) (Some next)
    (cond (bytes_eq l (codes "restart")) (Some restart)
    (cond (bytes_eq l (codes "tally")) (Some tally) None))

-- what stands behind `read `, `save ` and `resume `
abbrev pub reading : List ℕ → Option Request
reading r = option_map read (number_at most_size r)

-- the job number and what stands behind its space
abbrev pub job_of : Option (List ℕ × List ℕ) → Option (ℕ × List ℕ)
job_of None = None
job_of (Some p) = option_map (λ job. (job, p.1)) (number_at most_job p.0)

abbrev pub behind_job : List ℕ → Option (ℕ × List ℕ)
behind_job r = job_of (parted 32 r)

abbrev pub saving : List ℕ → Option Request
saving r =
    elim (parted 32 r) [
      | None ↦ None
      | Some p ↦ elim (number_at most_job p.0) [ None ↦ None | Some job ↦ option_map (save job) (number_at most_size p.1) ]
    ]

abbrev pub resuming : List ℕ → Option Request
resuming r =
    elim (parted 32 r) [
      | None ↦ None
      | Some p ↦ elim (number_at most_job p.0) [ None ↦ None | Some job ↦ option_map (resume job) (bytes_at p.1) ]
    ]

-- a line of a word and what stands behind its space
abbrev pub asking : List ℕ → List ℕ → Option Request
asking w r =
    cond (bytes_eq w (codes "read")) (reading r)
    (cond (bytes_eq w (codes "save")) (saving r)
    (cond (bytes_eq w (codes "resume")) (resuming r) None))

-- one line, without its byte 10
unfoldable pub request_at : List ℕ → Option Request
request_at l = elim (parted 32 l) [ None ↦ alone l | Some p ↦ asking p.0 p.1 ]

abbrev pub readable : List ℕ → Bool
readable l = is_some (request_at l)

abbrev pub in_front : {X : Type 0} → X → Result (List X) ℕ → Result (List X) ℕ
in_front x (Ok xs) = Ok (x ∷ xs)
in_front x (Err n) = Err n

-- finished lines, of which the first has the number n, and what follows the last of them
unfoldable pub requests_from : ℕ → List (List ℕ) → List ℕ → Result (List Request) ℕ
requests_from n [] [] = Ok []
requests_from n [] (b ∷ r) = Err n
requests_from n (l ∷ ls) r =
    elim (request_at l) [ None ↦ Err n | Some q ↦ in_front q (requests_from (n + 1) ls r) ]

-- the requests of a protocol, or the number of its first line that is unreadable
unfoldable pub requests_in : List ℕ → Result (List Request) ℕ
requests_in bytes = requests_from 1 (cut bytes).lines (cut bytes).rest

-- the orders in place of the requests
abbrev pub ordered : Result (List Request) ℕ → Result (List Order) ℕ
ordered (Ok qs) = Ok (map order_for qs)
ordered (Err n) = Err n

-- the number of the unreadable line, if there is one
abbrev pub unreadable_of : Result (List Request) ℕ → Option ℕ
unreadable_of (Ok qs) = None
unreadable_of (Err n) = Some n
