-- An act that a census carries out, and its line.
use Rattle.std.specs.Prelude.{◌≡◌, ℕ, Result, Vec}
use Rattle.std.specs.declared.alloc.AllocError.{AllocError}
use Rattle.std.specs.declared.alloc.Global.{Global}
use Rattle.engine.specs.Acts.{plain_act}
use Rattle.engine.specs.Runs.{Order, noted}
use Rattle.engine.specs.Seen.{Seen}
use Rattle.lines.specs.Appended.{Line}
use Rattle.oracle.specs.Setup.{Setup}
use Rattle.printouts.specs.Answers.{entry_room, entry_text}

-- The census then is the plain one behind the act, and the line of its answer is appended.
pub record Carried {O : Type 0} (setup : O → Setup) (before : Seen O) (order : Order) (old : Vec ℕ Global) (result : Result (Unit {0}) AllocError) (after : Seen O) (new : Vec ℕ Global) : Type 0 where
  pub same : setup after.oracle ≡ setup before.oracle
  pub stands : after.view ≡ (plain_act (setup before.oracle) before.view order.act order.bytes).2
  pub line : Line old result new (entry_text (noted order.act (plain_act (setup before.oracle) before.view order.act order.bytes))) (entry_room (noted order.act (plain_act (setup before.oracle) before.view order.act order.bytes)))
