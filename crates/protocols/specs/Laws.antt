-- What reading promises, in words of what was written.
use Rattle.std.specs.Prelude.{◌≡◌, ℕ, ◌+◌, ◌-◌, ◌<◌, ◌≤◌, ◌⊎◌, ◌↔◌, List, [], ◌∷◌, ◌++◌, map, length, Some, None, Ok, Err, Option, Result, slice_index_or}
use Rattle.std.specs.List.{prefix_len, AllByRecursion}
use Rattle.engine.specs.Runs.{Order}
use Rattle.sheets.specs.Cut.{cut}
use Rattle.protocols.specs.Reading.{request_at, readable, requests_in}
use Rattle.protocols.specs.Requests.{Request, Good, text_of, protocol_of, order_for}

-- a line is read as a request exactly if it is that request written out, and the request is good
abbrev pub Spells : List ℕ → Option Request → Type 0
Spells l o = (q : Request) → (o ≡ Some q) ↔ (Good q × (l ≡ text_of q))

-- these bytes are the protocol of these requests
abbrev pub Written : List ℕ → List Request → Type 0
Written bytes qs = AllByRecursion Good qs × (bytes ≡ protocol_of qs)

-- some requests are what these bytes are the protocol of
abbrev pub Readable : List ℕ → Type 0
Readable bytes = (qs : List Request) × Written bytes qs

-- the first line is read as a request exactly if it is that request written out, and the request is good; all
-- other bytes stand behind the line
abbrev pub Begins : List ℕ → Option (Request × List ℕ) → Type 0
Begins bytes o = (q : Request) (r : List ℕ) → (o ≡ Some (q, r)) ↔ (Good q × (bytes ≡ text_of q ++ (10 ∷ r)))

-- bytes are read as requests exactly if they are the protocol of those
abbrev pub Asks : List ℕ → Result (List Request) ℕ → Type 0
Asks bytes r = (qs : List Request) → (r ≡ Ok qs) ↔ Written bytes qs

-- a protocol that is written is taken as the orders of its requests, and nothing else is taken
pub record Accepting (bytes : List ℕ) (r : Result (List Order) ℕ) : Type 0 where
  pub asks : Asks bytes (requests_in bytes)
  pub reads : (qs : List Request) → Written bytes qs → r ≡ Ok (map order_for qs)
  pub only : (os : List Order) → r ≡ Ok os → (qs : List Request) × (Written bytes qs × (os ≡ map order_for qs))

-- a line that is refused comes behind readable ones alone. It is finished and not readable, or it is
-- what follows the last finished line
pub record FirstUnreadable (bytes : List ℕ) (n : ℕ) : Type 0 where
  pub behind : n ≡ 1 + prefix_len readable (cut bytes).lines
  pub here : ((n ≤ length (cut bytes).lines) × (request_at (slice_index_or (cut bytes).lines (n - 1) []) ≡ None))
      ⊎ ((n ≡ 1 + length (cut bytes).lines) × (0 < length (cut bytes).rest))

abbrev pub Refusing : List ℕ → Result (List Order) ℕ → Type 0
Refusing bytes r = (n : ℕ) → r ≡ Err n → FirstUnreadable bytes n

-- the first line is read: memory is asked for behind it alone
abbrev pub FirstRead : Result (List Order) ℕ → Type 0
FirstRead (Ok os) = 1 ≤ length os
FirstRead (Err n) = 2 ≤ n
