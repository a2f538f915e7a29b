-- What is left of a listing that is under way.
use Rattle.std.specs.Prelude.{◌≡◌, ℕ, ◌+◌, ◌≤◌, true, List, is_ok, vec_items, vec_len, vec_capacity, Result, Vec}
use Rattle.std.specs.declared.alloc.AllocError.{AllocError}
use Rattle.std.specs.declared.alloc.Global.{Global}
use Rattle.oracle.specs.Setup.{Setup}
use Rattle.pages.specs.Lines.{line_room, left_at}
use Rattle.pages.specs.Turns.{after_line}
use Rattle.pages.specs.declared.pager.Pager.{Pager}

abbrev pub left : {O : Type 0} → (O → Setup) → Pager O → List (List ℕ)
left setup pager =
    left_at (setup pager.census.oracle) pager.census.view pager.most pager.printed pager.done

-- One line more of a listing, or none if there is no memory for it; with room for a line there is.
pub record Lined {O : Type 0} (setup : O → Setup) (before : Pager O) (out : Vec ℕ Global) (result : Result (Unit {0}) AllocError) (after : Pager O) (written : Vec ℕ Global) : Type 0 where
  pub same : setup after.census.oracle ≡ setup before.census.oracle
  pub lined : (vec_items written, left setup after) ≡ after_line result (vec_items out) (left setup before)
  pub capacity : vec_capacity out ≤ vec_capacity written
  pub succeeds : vec_len out + line_room (setup before.census.oracle) ≤ vec_capacity out → is_ok result ≡ true
