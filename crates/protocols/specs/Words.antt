-- What is said of a protocol that gives no calls.
use Rattle.std.specs.Prelude.{ℕ, List, ◌++◌, codes, decimal}
use Rattle.protocols.specs.declared.error.ProtocolError.{ProtocolError}
use Rattle.protocols.specs.declared.error.ProtocolError.TheVariants.{Unreadable, NoMemory}

abbrev pub error_text : ProtocolError → List ℕ
error_text (Unreadable line) = codes "unreadable line " ++ decimal line
error_text NoMemory = codes "out of memory"
