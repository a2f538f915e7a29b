-- What the values of the code stand for.
use Rattle.std.specs.Prelude.{◌≡◌, ℕ, Bool, true, List, map, Some, None, Ok, Err, vec_items, Option, Result, Vec}
use Rattle.std.specs.Borrow.{Bor}
use Rattle.engine.specs.Runs.{Order, order_of}
use Rattle.engine.specs.Tallies.{cleared}
use Rattle.engine.specs.declared.act.Answer.TheVariants.{Done}
use Rattle.engine.specs.declared.call.Call.{Call}
use Rattle.protocols.specs.Requests as plain
use Rattle.protocols.specs.Values.{bytes_of}
use Rattle.protocols.specs.declared.request.Request.{Request}
use Rattle.protocols.specs.declared.request.Request.TheVariants.{Next, Restart, Tally, Read, Save, Resume}
use Rattle.protocols.specs.declared.error.ProtocolError.{ProtocolError}
use Rattle.protocols.specs.declared.error.ProtocolError.TheVariants.{Unreadable, NoMemory}

abbrev pub request_of : Request → plain.Request
request_of Next = plain.next
request_of Restart = plain.restart
request_of Tally = plain.tally
request_of (Read size) = plain.read size
request_of (Save job size) = plain.save job size
request_of (Resume job digits) = plain.resume job (bytes_of digits.now)

-- the bytes that a slice of digits stands for
abbrev pub bytes_in : Bor (List ℕ) → List ℕ
bytes_in digits = bytes_of digits.now

-- two slices
abbrev pub both : Bor (List ℕ) × Bor (List ℕ) → List ℕ × List ℕ
both p = (p.0.now, p.1.now)

-- a number and a slice
abbrev pub with_slice : ℕ × Bor (List ℕ) → ℕ × List ℕ
with_slice p = (p.0, p.1.now)

-- a request, and the bytes behind it
abbrev pub asked_before : Request × Bor (List ℕ) → plain.Request × List ℕ
asked_before p = (request_of p.0, p.1.now)

-- a call of this order, of which nothing is carried out yet
abbrev pub Fresh : Order → Call → Type 0
Fresh o call = (order_of call ≡ o) × (call.answer ≡ Ok Done) × (call.tally ≡ cleared)

-- the orders that were read, or the number of the unreadable line; none where memory ran out
abbrev pub orders_of : {Z : Type 0} → Result (Vec Call Z) ProtocolError → Option (Result (List Order) ℕ)
orders_of (Ok calls) = Some (Ok (map order_of (vec_items calls)))
orders_of (Err (Unreadable line)) = Some (Err line)
orders_of (Err NoMemory) = None

-- what holds where memory ran out
abbrev pub OnNoMemory : {Z : Type 0} → Result (Vec Call Z) ProtocolError → Type 0 → Type 0
OnNoMemory (Ok calls) P = Unit {0}
OnNoMemory (Err (Unreadable line)) P = Unit {0}
OnNoMemory (Err NoMemory) P = P

-- a request whose call needs no buffer is always granted
abbrev pub Spared : plain.Request → Bool → Type 0
Spared plain.next granted = granted ≡ true
Spared plain.restart granted = granted ≡ true
Spared plain.tally granted = granted ≡ true
Spared (plain.read size) granted = Unit {0}
Spared (plain.save job size) granted = Unit {0}
Spared (plain.resume job bytes) granted = Unit {0}
